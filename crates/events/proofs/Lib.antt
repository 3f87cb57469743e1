pub mod Lines
pub mod AuditTables
pub mod ObjectLines
