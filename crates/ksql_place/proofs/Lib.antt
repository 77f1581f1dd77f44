pub mod Ascending
pub mod Feeds
pub mod Merging
pub mod Orders
pub mod Queues
pub mod Stamps
pub mod TwoLists
