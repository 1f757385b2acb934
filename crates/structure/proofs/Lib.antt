pub mod Walking
pub mod Drawings
pub mod Tables
