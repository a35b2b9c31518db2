pub mod AllNames
mod Lists
mod SortedNames
