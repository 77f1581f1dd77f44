pub mod Contents
pub mod Tokens
pub mod Strings
pub mod FileRecords
pub mod Lists
pub mod FedRecords
pub mod Sources
