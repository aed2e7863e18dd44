mod CursorLists
mod Parsed
mod SideCursors
