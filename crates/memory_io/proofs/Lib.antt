mod Moved
mod Ops
mod FileLists
mod FailedCalls
