use Rattle.std.proofs.Common.{◌≡◌, ◌+◌, map, take}
use Rattle.sqlite.specs.State.{HasCleanDisk, Survives, KeepsCommit}
use Rattle.sqlite.specs.Held.{state}
use Rattle.stores.specs.Bodies.{items}
use Rattle.store_tables.specs.Held.{IsInside, HasMore}
use Rattle.store_tables.proofs.batch.put_all.Given as goal

abbrev pub invariant-loop-body : goal.invariant-loop-body
invariant-loop-body g l =
    let old = state g.S.Store l.fn.tx.conn.now in
    let now = state g.S.Store l.tx.conn.now in record {
      at_is : l.at ≡ l.fn.place + l.body-index;
      same : l.tx.conn.ghost_name ≡ l.fn.tx.conn.ghost_name;
      survives : Survives old now (λ _. ⊥);
      kept : HasCleanDisk now → KeepsCommit old now;
      more : HasCleanDisk now → IsInside now × HasMore old.now.trees (map items (take l.body-index l.batch)) now.now.trees;
    }
