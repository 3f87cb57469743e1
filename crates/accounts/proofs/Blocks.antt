-- Blocks of a list, and the units that they have.
use Rattle.std.proofs.Common.{◌≡◌, zero, suc, List, [], ◌∷◌, length, true, true≢false, refl, sym, subst, arith, inl, inr}
use Rattle.std.specs.List.{AllWithin, IsAmong}
use Rattle.std.proofs.lemmas.Bool.{cases_Bool}
use Rattle.units.specs.Unit.{has_unit, covers}
use Rattle.units.specs.declared.block.Block.{Block}
use Rattle.units.specs.declared.block.Unit.{Unit as Serial}
use Rattle.units.proofs.BlockLists.{covers_at}
use Rattle.accounts.specs.Refusals.{IsUnitOf}

module _ {X : Type 0} where
  -- a property of each element is one of any of them
  pub all_at : (P : X → Type 0) (xs : List X) → AllWithin P xs 0 (length xs) → (x : X) → IsAmong xs x → P x
  all_at P xs all x m = subst P (sym m.1.1) (all m.0 x (omega arith) m.1.0)

  pub later : (y : X) (xs : List X) (x : X) → IsAmong xs x → IsAmong (y ∷ xs) x
  later y xs x m = (suc m.0, (omega (arith, m.1.0), m.1.1))

  pub first : (x : X) (xs : List X) → IsAmong (x ∷ xs) x
  first x xs = (zero, (omega arith, refl))

-- a unit of one of the blocks
pub covers_from : (blocks : List Block) (b : Block) (s : Serial) → IsAmong blocks b → has_unit b.raw s ≡ true → covers blocks s ≡ true
covers_from blocks b s m h = covers_at blocks m.0 b s m.1.0 m.1.1 h

-- the block that has it
pub covered : (blocks : List Block) (s : Serial) → covers blocks s ≡ true → (b : Block) × IsUnitOf blocks b s
covered [] s h = absurd (true≢false (sym h))
covered (b ∷ bs) s h = elim (cases_Bool (has_unit b.raw s)) [
  | inl yes' ↦ (b, record { among = first b bs; has = yes' })
  | inr no' ↦
      let rest = covered bs s (rw no' at h) in
      (rest.0, record { among = later b bs rest.0 rest.1.among; has = rest.1.has })
]
