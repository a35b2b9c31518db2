mod AllDone
pub mod Counts
pub mod Decisions
pub mod Entries
mod FanGets
mod FanRounds
mod FanWrites
pub mod Fans
pub mod Images
mod KeyOrder
pub mod Keys
mod NoEntries
mod OneSeat
pub mod Rounds
mod SeatLaws
pub mod SomeRows
mod SortLaws
pub mod Served
pub mod Time
