pub mod Drawing
pub mod Stations
pub mod Bridge
pub mod Known
