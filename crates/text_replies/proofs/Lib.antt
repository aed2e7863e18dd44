mod LinesOfText
mod Newline
mod Held
mod Answered
mod Taken
mod TextEnds
mod WholeText
