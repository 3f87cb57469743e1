use Rattle.std.proofs.Common.{subst, sym}
use Rattle.stores.specs.Records.{AreRecords, written}
use Rattle.stores.proofs.Fronts.{written-append}
use Rattle.stores.proofs.memory_store.MemoryStore.keep.Goals as goal

pub invariant_of-self : goal.invariant_of-self
invariant_of-self c =
    let s = c.self.inside in
    subst (λ inputs. AreRecords (written inputs) inputs) (sym c.in-Ok.ensures.ok) (written-append s.records.items c.args.batch.now c.self.invariant c.in-Ok.ensures.records)
