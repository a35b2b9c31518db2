mod Counting
mod Cuts
mod Fates
mod Listing
mod LossLaws
mod Numbered
pub mod PastLaws
mod RecordLaws
mod Serves
mod ShelfLaws
mod SortLaws
mod Stopping
mod StoreLaws
mod Wholes
mod WriteLaws
