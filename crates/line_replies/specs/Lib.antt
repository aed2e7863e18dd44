pub mod CursorRoom
