mod PrintedLine
mod LeastCosts
mod FewestBits
mod Auditing
mod PartCosts
mod AskedLines
