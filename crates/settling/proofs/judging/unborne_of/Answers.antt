use Rattle.std.proofs.Common.{refl, sym, subst, ◌∙◌}
use Rattle.std.proofs.lemmas.Bool.{true≢false}
use Rattle.units.specs.declared.code.Node.{Node}
use Rattle.scheme.specs.declared.registries.Scheme.{Scheme}
use Rattle.settling.specs.Settling.{Bears}
use Rattle.settling.proofs.judging.unborne_of.Goals as goal

pub returns-then-not-branch-clause-found : goal.returns-then-not-branch-clause-found
returns-then-not-branch-clause-found g c =
    let note = c.note-item.result.now in
    let journal = c.args.journal.now in
    let now = c.loop-note.core in (
      c.loop-note.note-index,
      c.note-item.result,
      c.loop-note-test.true,
      sym c.note-item.is,
      (
        refl,
        λ bears.
            let first = subst (λ (s : Scheme). Bears s (g.C.NodeCore.node_of c.args.core.now) journal note) (sym c.loop-note.invariant.scheme) bears in
            let both = subst (λ (n : Node). Bears (g.C.NodeCore.scheme_of now) n journal note) (sym c.loop-note.invariant.node) first in
            true≢false (sym (c.in_ok-is_borne.ensures.borne.1 both) ∙ c.if-not-branch.true),
      ),
    )
