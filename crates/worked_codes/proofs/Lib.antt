mod EfRows
mod MapRows
mod PartRows
