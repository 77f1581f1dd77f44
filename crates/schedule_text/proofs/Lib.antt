pub mod Numbers
pub mod OneLine
pub mod Pairs
pub mod Reached
pub mod Taken
pub mod TaskLemmas
