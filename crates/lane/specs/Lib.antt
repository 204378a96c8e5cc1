pub mod Changes
pub mod Table
pub mod Traces
