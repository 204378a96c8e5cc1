pub mod Calls
pub mod Enough
pub mod OnTheWay
