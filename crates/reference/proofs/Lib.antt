pub mod ChangeByChange
pub mod EachWindowless
pub mod Keyed
pub mod Latest
pub mod Lists
pub mod Sections
pub mod Shapes
pub mod Views
