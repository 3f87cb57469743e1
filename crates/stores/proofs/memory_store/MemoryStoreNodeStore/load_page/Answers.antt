use Rattle.std.proofs.Common.{◌≡◌, take, drop, subst, sym, arith}
use Rattle.std.proofs.lemmas.Grind.{common_steps}
use Rattle.stores.specs.Memories.{MemoryStoreView}
use Rattle.stores.specs.Records.{AreRecords, written}
use Rattle.stores.proofs.Fronts.{records-take, records-drop}
use Rattle.stores.proofs.memory_store.MemoryStoreNodeStore.load_page.Goals as goal

pub returns-clause-records : goal.returns-clause-records
returns-clause-records c =
    let m = c.args.self.now in
    let P : MemoryStoreView → Type 0 = λ v. AreRecords (written v.inputs) v.inputs in
    let are : P m = subst P c.self.view_is c.self.invariant in
    let is : c.in_ok-copies.field-0.items ≡ take c.args.max (drop c.args.from m.inputs) = grind (arith, common_steps) in
    subst (AreRecords (take c.args.max (drop c.args.from (written m.inputs)))) (sym is) (records-take _ c.args.max _ _ (records-drop _ c.args.from _ _ are))
