mod Marks
mod Left
