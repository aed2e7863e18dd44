mod Behind
mod Ceilings
mod Finds
mod SideChecks
mod Words
