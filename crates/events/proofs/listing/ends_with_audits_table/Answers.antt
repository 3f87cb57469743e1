use Rattle.events.proofs.AuditTables.{table_of_audit}
use Rattle.events.proofs.listing.ends_with_audits_table.Goals as goal

pub returns : goal.returns
returns c = table_of_audit
