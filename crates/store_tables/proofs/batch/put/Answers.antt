use Rattle.std.proofs.Common.{◌≡◌, ◌⊎◌, Ok, Err, IfErr, pos, sym, subst, ap, ◌∙◌, [], ◌∷◌, rules, arith}
use Rattle.std.proofs.lemmas.Int.{ints}
use Rattle.sqlite.specs.State.{HasCleanDisk, State}
use Rattle.sqlite.specs.Held.{state}
use Rattle.sqlite.specs.declared.types.Value.TheVariants.{Int, Text}
use Rattle.store_tables.specs.Held.{IsInside, HasMore}
use Rattle.store_tables.proofs.Steps.{put_ok, was_clean, inside_keeps}
use Rattle.sqlite_disk.specs.Disk.{MoreFaults}
use Rattle.store_tables.specs.SqlFaults.{store_fault_of}
use Rattle.store_tables.specs.Rooms.{IsRefused}
use Rattle.stores.specs.declared.fault.StoreFault.TheVariants.{Full}
use Rattle.store_tables.proofs.NoRoom.{put-full}
use Rattle.store_tables.proofs.batch.put.Goals as goal

abbrev old : (g : _) → goal.In_ok-execute g → State
old g c = state g.S.Store c.args.tx.now.conn.now

abbrev new : (g : _) → goal.In_ok-execute g → State
new g c = state g.S.Store c.execute.new.self.conn.now

both : (g : _) (c : goal.In_ok-execute g) → HasCleanDisk (new g c) → IsInside (new g c) × HasMore (old g c).now.trees (c.args.body.now ∷ []) (new g c).now.trees
both g c clean =
    let early = was_clean (old g c) (new g c) _ c.execute.ensures.survives clean in
    let inside = c.requires.inside early in
    put_ok (old g c) (new g c) _ c.args.body.now c.in_ok-execute.field-0
    (ap (λ z. Int z ∷ Text c.args.body.now ∷ []) (grind (arith, ints, c.requires.small) ∙ ap pos (c.requires.place early)))
    inside (c.in_ok-execute.ensures.runs clean inside.inside)

pub returns-clause-inside : goal.returns-clause-inside
returns-clause-inside g c clean = (both g c clean).0

pub returns-clause-more : goal.returns-clause-more
returns-clause-more g c clean = (both g c clean).1

pub returns-clause-kept : goal.returns-clause-kept
returns-clause-kept g c clean =
    let early = was_clean (old g c) (new g c) _ c.execute.ensures.survives clean in
    let inside = c.requires.inside early in
    inside_keeps _ _ (old g c) (new g c) (Ok c.in_ok-execute.field-0) (c.in_ok-execute.ensures.runs clean inside.inside)

pub returns-in_err-execute-clause-full : goal.returns-in_err-execute-clause-full
returns-in_err-execute-clause-full g c clean =
    let was = state g.S.Store c.args.tx.now.conn.now in
    let is = state g.S.Store c.execute.new.self.conn.now in
    let early = was_clean was is _ c.execute.ensures.survives clean in
    let ready = c.requires.inside early in
    let same : c.from_residual.result ≡ Err c.in_err-execute.field-0.0 = search rules in
    subst (λ r. IfErr r (λ e. store_fault_of e ≡ Full → MoreFaults was.faults is.faults ⊎ IsRefused c.args.body.now)) (sym same)
    (put-full was is _ c.args.body.now c.in_err-execute.field-0.0
    (ap (λ z. Int z ∷ Text c.args.body.now ∷ []) (grind (arith, ints, c.requires.small) ∙ ap pos (c.requires.place early)))
    ready (c.in_err-execute.ensures.runs clean ready.inside))
