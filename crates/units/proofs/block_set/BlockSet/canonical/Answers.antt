use Rattle.std.proofs.Common.{sym, subst, ◌∙◌}
use Rattle.units.specs.Canonical.{AreCanonical}
use Rattle.units.specs.declared.block.Kind.{Kind}
use Rattle.units.proofs.CanonicalBlocks.{canonical_fixed}
use Rattle.units.proofs.block_set.BlockSet.canonical.Goals as goal

pub returns-clause-form : goal.returns-clause-form
returns-clause-form c =
    canonical_fixed c.in_ok-blocks_of.field-0.items (subst (AreCanonical (λ (k : Kind). 0)) (sym (c.in_ok-blocks_of.ensures ∙ c.deref.ensures.value)) c.in_ok-intervals.ensures.ordered)
