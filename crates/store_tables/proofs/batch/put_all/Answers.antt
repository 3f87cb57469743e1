use Rattle.std.proofs.Common.{◌≡◌, inl, inr, ◌∷◌, [], ◌++◌, ◌∙◌, Err, IfErr, map, take, subst, sym, ap, rules, arith}
use Rattle.std.proofs.lemmas.Grind.{elements}
use Rattle.std.proofs.lemmas.List.{map_more}
use Rattle.sqlite.specs.Held.{state}
use Rattle.sqlite.proofs.StateLemmas.{survives_then}
use Rattle.sqlite.proofs.InsideLemmas.{keeps_then}
use Rattle.stores.specs.Bodies.{items}
use Rattle.store_tables.specs.Held.{HasMore}
use Rattle.store_tables.proofs.Steps.{was_clean, more_then}
use Rattle.store_tables.specs.SqlFaults.{store_fault_of}
use Rattle.store_tables.specs.Rooms.{HasNoRoom, IsRefused}
use Rattle.stores.specs.declared.fault.StoreFault.TheVariants.{Full}
use Rattle.store_tables.proofs.NoRoom.{bodies_of, refused-at}
use Rattle.store_tables.proofs.batch.put_all.Goals as goal

pub loop-body-preserved : goal.loop-body-preserved
loop-body-preserved g c =
    let old = state g.S.Store c.args.tx.now.conn.now in
    let mid = state g.S.Store c.loop-body.tx.conn.now in
    let new = state g.S.Store c.put.new.tx.conn.now in
    let e = c.in_ok-put.ensures in
    let v = c.deref.ensures in
    let i = c.body-item.is in record {
      at_is = omega (arith, c.loop-body.invariant.at_is);
      same = e.same_reference ∙ c.loop-body.invariant.same;
      survives = survives_then old mid new _ _ (λ _. ⊥) (λ _ db none. none) (λ _ db none. none) c.loop-body.invariant.survives e.survives;
      kept = λ clean. keeps_then old mid new (c.loop-body.invariant.kept (was_clean mid new _ e.survives clean)) (e.kept clean);
      more = λ clean.
          let before = (c.loop-body.invariant.more (was_clean mid new _ e.survives clean)).1 in
          let bodies = map items (take c.loop-body.body-index c.args.batch.now) in
          let same = ap (λ x. bodies ++ x ∷ []) (v.value ∙ ap items i) ∙ sym (map_more items c.args.batch.now c.loop-body.body-index c.body-item.result (omega arith)) in
          (e.inside clean, subst (λ xs. HasMore old.now.trees xs new.now.trees) same (more_then old.now.trees mid.now.trees new.now.trees bodies (c.deref.result.now ∷ []) before (e.more clean)));
    }

pub returns-in_err-put-clause-full : goal.returns-in_err-put-clause-full
returns-in_err-put-clause-full g c clean =
    let old = state g.S.Store c.args.tx.now.conn.now in
    let mid = state g.S.Store c.loop-body.tx.conn.now in
    let new = state g.S.Store c.put.new.tx.conn.now in
    let up = c.loop-body.invariant.survives.counts in
    let same : c.from_residual.result ≡ Err c.in_err-put.field-0.0 = search rules in
    subst (λ r. IfErr r (λ e. store_fault_of e ≡ Full → HasNoRoom old.faults new.faults (bodies_of c.args.batch.now))) (sym same) (λ full. elim (c.in_err-put.ensures.full clean full) [
      | inl more ↦ inl (omega (arith, up, more))
      | inr refused ↦ inr (refused-at c.args.batch.now c.loop-body.body-index c.body-item.result (omega arith) (subst IsRefused (c.deref.ensures.value ∙ ap items c.body-item.is) refused))
    ])

pub put-requires-clause-place : goal.put-requires-clause-place
put-requires-clause-place g c = grind (arith, elements)

pub returns-clause-more : goal.returns-clause-more
returns-clause-more g c = grind (arith, elements)
