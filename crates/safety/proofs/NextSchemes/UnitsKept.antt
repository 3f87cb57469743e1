-- The opening world of a next scheme has each unit where the old world has it.
use Rattle.std.proofs.Common.{◌≡◌, ◌⊎◌, ℕ, ◌+◌, List, ◌++◌, true, cond, Option, Some, None, is_some, inl, inr, refl, sym, ap, ◌∙◌, arith}
use Rattle.std.specs.List.{count_by, sum_by}
use Rattle.std.proofs.lemmas.Bool.{cases_Bool, cond-true, cond-false}
use Rattle.std.proofs.lemmas.List.Sums.{sum_by-append}
use Rattle.units.proofs.Lists.OneValue.{clash}
use Rattle.units.specs.Unit.{covers, has_unit}
use Rattle.units.specs.declared.block.Block.{Block}
use Rattle.units.specs.declared.block.RawBlock.{RawBlock}
use Rattle.units.specs.declared.block.Unit.{Unit as Serial}
use Rattle.units.specs.declared.code.Code.{Code}
use Rattle.units.specs.declared.code.Node.{Node}
use Rattle.status.specs.Content.{raws}
use Rattle.scheme.specs.Order.{all_blocks}
use Rattle.scheme.specs.declared.members.Holder.{Holder}
use Rattle.scheme.specs.declared.registries.Scheme.{Scheme}
use Rattle.protocol.specs.Claims.{live_of}
use Rattle.protocol.specs.History.{Entry, Position}
use Rattle.protocol.specs.Owner.{Owner, OneOwner, Owns, At, Due}
use Rattle.protocol.specs.Registries.{allotted}
use Rattle.protocol.specs.World.{opening}
use Rattle.safety.proofs.ListLemmas.SumsOfLists.{sum_map}
use Rattle.safety.proofs.ListLemmas.UnitsOneByOne.{same_units}
use Rattle.safety.proofs.NextSchemes.OpeningHistories.{placed_at, starts_at}
use Rattle.safety.proofs.OwnersOfUnits.AllottedBlocks.{allotted_once, apart_once}
use Rattle.safety.specs.NextScheme.{IsFreeAt, IsNext, KeepsUnits, Succeeds}
use Rattle.safety.specs.NumberOfUnits.{allotted_units, units_of}

module _ (scheme next : Scheme) (f : Node → List Entry) (added : List Block) (old : OneOwner scheme f) (opened : OneOwner next (live_of (opening next))) (is_next : IsNext scheme f added next) where
  kept : (s : Serial) (a : Owner) → Owns scheme f s a → (c : Code) × (p : Option Position) × Succeeds scheme f s a c p × IsFreeAt next (live_of (opening next)) s c p
  kept s (At c) owns = (c, _, (refl, refl), placed_at next s c _ (is_next.held s c owns.0 owns.1))
  kept s (Due t) owing = let paid = is_next.owed s t owing in (paid.known.acquirer, _, (owing, paid.known, paid.is, refl, refl), placed_at next s paid.known.acquirer _ paid.placed)

  -- an old unit is allotted again
  again : (s : Serial) → is_some (allotted scheme s) ≡ true → is_some (allotted next s) ≡ true
  again s was = let a = old.some s was in go a.0 a.1
    where
      some : (h : Holder) → allotted next s ≡ Some h → is_some (allotted next s) ≡ true
      some h e = ap (λ (o : Option Holder). is_some o) e

      go : (a : Owner) → Owns scheme f s a → is_some (allotted next s) ≡ true
      go (At c) owns = let p = is_next.held s c owns.0 owns.1 in some p.holder p.is
      go (Due t) owing = let p = is_next.owed s t owing in some p.placed.holder p.placed.is

  made : (s : Serial) → covers added s ≡ true → (c : Code) × Owns next (live_of (opening next)) s (At c)
  made s among = go (allotted next s) refl (is_next.new s (is_next.fresh s among) ∙ among)
    where
      go : (o : Option Holder) → allotted next s ≡ o → is_some o ≡ true → (c : Code) × Owns next (live_of (opening next)) s (At c)
      go None e y = absurd (cc (y))
      go (Some h) e y = (h.registry, starts_at next s h e)

  only : (s : Serial) (b : Owner) → Owns next (live_of (opening next)) s b → (is_some (allotted scheme s) ≡ true) ⊎ (covers added s ≡ true)
  only s b owns =
      elim (cases_Bool (is_some (allotted scheme s))) [
        | inl y ↦ inl y
        | inr n ↦
            elim (cases_Bool (is_some (allotted next s))) [
              | inl y ↦ inr (sym (is_next.new s n) ∙ y)
              | inr none ↦ absurd (opened.none s b none owns)
            ]
      ]

  -- each unit is in the next scheme's blocks as often as in those of the old one and the added ones together
  same_count : (s : Serial) → count_by (λ (b : RawBlock). has_unit b s) (raws (all_blocks next.members)) ≡ count_by (λ (b : RawBlock). has_unit b s) (raws (all_blocks scheme.members) ++ raws added)
  same_count s =
      let one : RawBlock → ℕ = λ (b : RawBlock). cond {A = ℕ} (has_unit b s) 1 0 in
      let a = sum_map one (λ (z : Block). z.raw) (all_blocks next.members) in
      let b = sum_map one (λ (z : Block). z.raw) (all_blocks scheme.members) in
      let c = sum_map one (λ (z : Block). z.raw) added in
      let d = sum_by-append one (raws (all_blocks scheme.members)) (raws added) in
      let e = allotted_once next s in
      let g = allotted_once scheme s in
      let h = apart_once s added is_next.apart in
      elim (cases_Bool (is_some (allotted scheme s))) [
        | inl y ↦
            elim (cases_Bool (covers added s)) [
              | inl new ↦ absurd (clash (is_some (allotted scheme s)) y (is_next.fresh s new))
              | inr none ↦
                  let u = cond-true {A = ℕ} (is_some (allotted scheme s)) 1 0 y in
                  let v = cond-true {A = ℕ} (is_some (allotted next s)) 1 0 (again s y) in
                  let w = cond-false {A = ℕ} (covers added s) 1 0 none in
                  omega arith
            ]
        | inr n ↦
            let u = cond-false {A = ℕ} (is_some (allotted scheme s)) 1 0 n in
            let v = ap (λ t. cond {A = ℕ} t 1 0) (is_next.new s n) in
            omega arith
      ]

  total : allotted_units next ≡ allotted_units scheme + sum_by (λ (b : Block). units_of b.raw) added
  total =
      let a = sum_map units_of (λ (z : Block). z.raw) (all_blocks next.members) in
      let b = sum_map units_of (λ (z : Block). z.raw) (all_blocks scheme.members) in
      let c = sum_map units_of (λ (z : Block). z.raw) added in
      let d = sum_by-append units_of (raws (all_blocks scheme.members)) (raws added) in
      let e = same_units (raws (all_blocks next.members)) (raws (all_blocks scheme.members) ++ raws added) same_count in
      omega arith

  pub keeps_units : KeepsUnits scheme f added next (live_of (opening next))
  keeps_units = record { kept = kept; some = old.some; made = made; only = only; one = opened.one; total = total }
