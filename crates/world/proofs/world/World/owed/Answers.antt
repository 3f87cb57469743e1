use Rattle.std.proofs.Common.{arith, ◌++◌, ◌∷◌, [], List, filter, map, take, sym, ap, ◌∙◌}
use Rattle.std.proofs.lemmas.Grind.{common_steps}
use Rattle.std.proofs.lemmas.List.{map-append}
use Rattle.status.specs.declared.id.TransactionId.{TransactionId}
use Rattle.units.specs.Unit.{have_unit}
use Rattle.protocol.specs.Table.{ProposedTransfer}
use Rattle.world.specs.Transfers.{transfer_of}
use Rattle.world.proofs.GrowingViews.{filter_next, filter_past}
use Rattle.world.proofs.world.World.owed.Goals.{then-has_unit+in_ok-push, else-has_unit}
use Rattle.world.proofs.world.World.owed.Goals as goal

pub loop-transfer-preserved : goal.loop-transfer-preserved
loop-transfer-preserved c =
    let has = λ (p : ProposedTransfer). have_unit p.content.units c.args.unit.now in
    let all = c.as_slice-transfer-items.result.now in
    let i = c.loop-transfer.transfer-index in
    let p = c.transfer-item.result in
    elim c.if-has_unit.branch [
      | then-has_unit+in_ok-push w ↦
          ap (λ v. v.items) w.owed-is
          ∙ w.in_ok-push.ensures.items
          ∙ ap (λ (l : List TransactionId). l ++ p.id ∷ []) c.loop-transfer.invariant
          ∙ sym (map-append (λ (p : ProposedTransfer). p.id) (filter has (map transfer_of (take i all))) (transfer_of p ∷ []))
          ∙ sym (ap (map (λ (p : ProposedTransfer). p.id)) (filter_next has transfer_of all i p c.loop-transfer-test.true c.transfer-item.is (sym c.has_unit.ensures ∙ w.if-has_unit.true)))
      | else-has_unit w ↦
          ap (λ v. v.items) w.owed-is
          ∙ c.loop-transfer.invariant
          ∙ sym (ap (map (λ (p : ProposedTransfer). p.id)) (filter_past has transfer_of all i p c.loop-transfer-test.true c.transfer-item.is (sym c.has_unit.ensures ∙ w.if-has_unit.false)))
    ]

pub returns-in_err-push : goal.returns-in_err-push
returns-in_err-push c = grind arith

pub returns : goal.returns
returns c = grind (arith, common_steps)
