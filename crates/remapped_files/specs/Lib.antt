pub mod NamedFiles
pub mod MakeImage
pub mod WriteImage
