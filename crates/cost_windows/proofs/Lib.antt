mod Table
mod Filled
mod Counts
mod Moving
