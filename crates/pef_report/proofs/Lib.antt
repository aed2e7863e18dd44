mod Rows
mod Drawn
mod Drawing
mod Collections
