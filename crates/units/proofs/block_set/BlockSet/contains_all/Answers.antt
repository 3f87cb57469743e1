use Rattle.std.proofs.Common.{Bool, true, IsSome, sym, ap, subst, ◌∙◌, rules, inl, inr}
use Rattle.std.specs.FinMap.{get}
use Rattle.units.specs.declared.block.Kind.{Kind}
use Rattle.units.proofs.BlockLists.{is_there, not_there, covers_at, covers_more}
use Rattle.units.proofs.block_set.BlockSet.contains_all.Goals as goal

abbrev any_kind : Kind → Bool
any_kind kind = true

pub returns-then-not-has_all_of-clause-some : goal.returns-then-not-has_all_of-clause-some
returns-then-not-has_all_of-clause-some c =
    let one = c.if-not-has_all_of.ensures.some any_kind (λ m r h. search rules) in
    (one.0, covers_at c.args.blocks.now c.loop-block.block-index c.block-item.result one.0 c.loop-block-test.true c.block-item.is one.1, ap (λ m. get m one.0) (sym c.self.view_is) ∙ not_there (get c.self.inside.kinds one.0) one.2)

pub loop-block-preserved : goal.loop-block-preserved
loop-block-preserved c u h = elim (covers_more c.args.blocks.now c.loop-block.block-index c.block-item.result u c.loop-block-test.true c.block-item.is h) [
  | inl before ↦ c.loop-block.invariant u before
  | inr here ↦ subst (λ m. IsSome (get m u)) c.self.view_is (is_there (get c.self.inside.kinds u) (c.if-not-has_all_of.ensures.all any_kind (λ m r k. search rules) u here))
]
