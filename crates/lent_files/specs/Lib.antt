pub mod LentFiles
