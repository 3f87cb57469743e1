use Rattle.std.proofs.Common.{◌≡◌, MatchResult, subst}
use Rattle.node_state.specs.declared.notes.Note.{Note}
use Rattle.node_state.specs.Expected.{stopped}
use Rattle.desk.specs.Keeping.{AreStored}
use Rattle.desk.proofs.desk.DeskRoomBellSharedNode.receipt.Goals as goal

pub returns-in-Awaited : goal.returns-in-Awaited
returns-in-Awaited g c =
    subst (λ (n : Note). MatchResult c.wait_for_commit.result (λ receipt. (receipt ≡ n) × AreStored g.S.NodeStore g.O.Opening.opened n.length) (λ refusal. refusal ≡ stopped)) c.in-Awaited.ensures.same c.wait_for_commit.ensures
