pub mod Opened
pub mod InMemory
pub mod Files
pub mod Asked
pub mod DepotCalls
pub mod SteadyDepot
pub mod MemDepot
