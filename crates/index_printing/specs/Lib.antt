pub mod PrintLine
pub mod PrintText
pub mod PrintAudit
