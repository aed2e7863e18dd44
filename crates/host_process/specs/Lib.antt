pub mod Words
pub mod Process
pub mod OnHost
