use Rattle.std.proofs.Common.{arith, ◌++◌, ◌∷◌, [], List, map, sym, ap, ◌∙◌}
use Rattle.std.proofs.lemmas.Grind.{common_steps}
use Rattle.std.proofs.lemmas.List.{map-append}
use Rattle.protocol.specs.Claims.{live_of}
use Rattle.protocol.specs.Table.{ProposedTransfer, is_due}
use Rattle.world.specs.Transfers.{transfer_of}
use Rattle.world.proofs.GrowingViews.{filter_next, filter_past}
use Rattle.world.proofs.world.World.due.Goals.{then-is_due+in_ok-push, else-is_due}
use Rattle.world.proofs.world.World.due.Goals as goal

pub loop-transfer-preserved : goal.loop-transfer-preserved
loop-transfer-preserved c =
    let is = is_due (live_of c.args.self.now) in
    let all = c.as_slice-transfer-items.result.now in
    let i = c.loop-transfer.transfer-index in
    let p = c.transfer-item.result in
    elim c.if-is_due.branch [
      | then-is_due+in_ok-push w ↦
          ap (λ v. map transfer_of v.items) w.due-is
          ∙ ap (map transfer_of) w.in_ok-push.ensures.items
          ∙ map-append transfer_of c.loop-transfer.due.items (p ∷ [])
          ∙ ap (λ (l : List ProposedTransfer). l ++ transfer_of p ∷ []) c.loop-transfer.invariant
          ∙ sym (filter_next is transfer_of all i p c.loop-transfer-test.true c.transfer-item.is (sym c.is_due.ensures ∙ w.if-is_due.true))
      | else-is_due w ↦
          ap (λ v. map transfer_of v.items) w.due-is
          ∙ c.loop-transfer.invariant
          ∙ sym (filter_past is transfer_of all i p c.loop-transfer-test.true c.transfer-item.is (sym c.is_due.ensures ∙ w.if-is_due.false))
    ]

pub returns-in_err-push : goal.returns-in_err-push
returns-in_err-push c = grind (arith, common_steps)

pub returns : goal.returns
returns c = grind (arith, common_steps)
