mod LongLists
mod Taken
