-- Blocks that meet share a unit.
use Rattle.std.proofs.Common.{◌≡◌, List, [], ◌∷◌, true, false, true≢false, sym, inl, inr}
use Rattle.std.specs.List.{list_any, AllByRecursion}
use Rattle.std.proofs.lemmas.Bool.{cases_Bool, or_parts, both_ways}
use Rattle.units.specs.Apart.{AreApart}
use Rattle.units.specs.Cutting.{blocks_meet, labelled}
use Rattle.units.specs.declared.block.Block.{Block}
use Rattle.units.specs.declared.block.RawBlock.{RawBlock}
use Rattle.units.proofs.Cutting.{has_meets, meeting_unit}

-- blocks that don't meet share no unit
pub apart_from : (a b : RawBlock) → blocks_meet a b ≡ false → AreApart a b
apart_from a b none s x y = both_ways _ none (has_meets b (labelled a (tt {0})) s x y)

-- blocks that meet share one
pub not_apart : (a b : Block) → blocks_meet a.raw b.raw ≡ true → AreApart a.raw b.raw → ⊥
not_apart a b met apart = let u = meeting_unit b.raw (labelled a.raw (tt {0})) b.in_range.1 a.in_range.1 met in apart u.0 u.1 u.2

abbrev pub ApartFrom : Block → List Block → Type 0
ApartFrom b others = AllByRecursion (λ (o : Block). AreApart b.raw o.raw) others

pub none_met : (b : Block) (others : List Block) → list_any (λ (o : Block). blocks_meet b.raw o.raw) others ≡ false → ApartFrom b others
none_met b [] none = tt
none_met b (o ∷ others) none =
    let two = or_parts (blocks_meet b.raw o.raw) (list_any (λ (o : Block). blocks_meet b.raw o.raw) others) none in
    (apart_from b.raw o.raw two.0, none_met b others two.1)

pub one_met : (b : Block) (others : List Block) → list_any (λ (o : Block). blocks_meet b.raw o.raw) others ≡ true → ApartFrom b others → ⊥
one_met b [] some apart = true≢false (sym some)
one_met b (o ∷ others) some apart = elim (cases_Bool (blocks_meet b.raw o.raw)) [
  | inl yes' ↦ not_apart b o yes' apart.0
  | inr no' ↦ one_met b others (rw no' at some) apart.1
]
