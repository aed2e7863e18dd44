-- What contracts of private functions cite, and `parse_words` does not.
pub mod CommandLine
