pub mod Opened
pub mod Histories
