pub mod Results
pub mod Standings
