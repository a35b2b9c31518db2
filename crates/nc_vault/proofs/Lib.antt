pub mod BearingLaws
mod ChunksStay
pub mod DrawingLaws
mod GetCounts
pub mod GetLaws
pub mod ListingLaws
pub mod Members
mod NameLaws
pub mod NameParts
pub mod OneName
pub mod PutLaws
mod ReadLaws
mod RecoverLaws
pub mod RecoverPart
pub mod RemoveLaws
mod RepairLaws
pub mod RepairPart
mod RestoreLaws
pub mod RestorePart
pub mod RowLaws
mod SameAct
mod SameFile
mod SameName
pub mod ScrubLaws
mod SeenLaws
pub mod StatLaws
mod SweepActs
mod SweepLaws
mod SweepStates
mod TidyLaws
