use Rattle.std.proofs.Common.{◌∙◌, subst}
use Rattle.node_state.specs.declared.notes.Note.{Note}
use Rattle.desk.specs.Keeping.{AreStored}
use Rattle.desk.proofs.desk.Desk.wait_for_commit.Goals as goal

pub returns-in-Committed : goal.returns-in-Committed
returns-in-Committed g c =
    let kept = c.in-Committed.ensures.confirmation in
    let same = c.loop.invariant in (
      c.in-Committed.ensures.same ∙ same,
      subst (λ (n : Note). AreStored g.S.NodeStore g.O.Opening.opened n.length) same (kept.0, kept.1, kept.2),
    )
