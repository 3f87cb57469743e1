use Rattle.std.proofs.Common.{sym, subst}
use Rattle.records.specs.Records.{RecordsView}
use Rattle.protocol.specs.Cores.{AreRecordsOf}
use Rattle.world.specs.Cores.{journal_of, node_of, scheme_of}
use Rattle.world.specs.declared.any_core.Core.{Core}
use Rattle.world.proofs.any_core.CoreNodeCore.recorded.Goals as goal

-- the records are those of the core's journal
abbrev AreOf : Core → RecordsView → Type 0
AreOf k records = AreRecordsOf (scheme_of k) (node_of k) (journal_of k) records

pub returns-in-Registry : goal.returns-in-Registry
returns-in-Registry c = subst (λ k. AreOf k c.recorded.result.now) (sym c.in-Registry.is) c.recorded.ensures

pub returns-in-Log : goal.returns-in-Log
returns-in-Log c = subst (λ k. AreOf k c.recorded-in-Log.result.now) (sym c.in-Log.is) c.recorded-in-Log.ensures
