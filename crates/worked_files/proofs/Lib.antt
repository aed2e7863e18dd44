mod EveryDocument
mod SomePart
