pub mod Together
pub mod ShownRecords
pub mod ShownChanges
pub mod Reporting
