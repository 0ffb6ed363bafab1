mod Listed
mod Between
mod Telling
mod Grouped
