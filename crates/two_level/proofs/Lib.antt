mod Steps
mod LongSteps
mod ValuesGiven
mod Fields
mod PartPlaces
