pub mod Feeds
pub mod Merged
pub mod Partitions
pub mod Reaching
