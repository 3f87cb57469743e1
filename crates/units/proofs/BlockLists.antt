-- Kinds that are one, and lists of blocks with a unit.
use Rattle.std.proofs.Common.{◌≡◌, ◌≢◌, ℕ, ◌<◌, ◌+◌, ◌⊎◌, List, [], ◌∷◌, ◌++◌, length, get_or, take, Bool, true, false, ◌||◌, Option, Some, None, IsSome, refl, sym, ap, ◌∙◌, rules, inl, inr, arith}
use Rattle.std.specs.Prelude.{find, if◌then◌else◌}
use Rattle.std.specs.List.{HoldsAt, IsAmong}
use Rattle.std.specs.Option.{option_map, option_map_or}
use Rattle.std.proofs.lemmas.Bool.{or_cases, cases_Bool}
use Rattle.std.proofs.lemmas.List.{take_more, get_or_default}
use Rattle.std.proofs.lemmas.List.Folds.{list_any_at, list_any-append}
use Rattle.units.specs.Unit.{has_unit, covers}
use Rattle.units.specs.contracts.block.KindPartialEq.TheImpl.{ghosts}
use Rattle.units.specs.contracts.block.Kind.{the_type}
use denote.Enum.Bare.{same_true, true_same}
use Rattle.units.specs.declared.block.Block.{Block}
use Rattle.units.specs.declared.block.Kind.{Kind}
use Rattle.units.specs.declared.block.Unit.{Unit as Serial}

-- the test of the derived comparison
abbrev pub is_kind : Kind → Kind → Bool
is_kind wanted kind = ghosts.eq kind wanted

pub kind_from : (a b : Kind) → ghosts.eq a b ≡ true → a ≡ b
kind_from a b e = same_true the_type (search rules) a b e

pub kind_eq : (a b : Kind) → a ≡ b → ghosts.eq a b ≡ true
kind_eq a b e = true_same the_type a b e

-- a label that passes is there
pub passed : {M : Type 0} (passes : M → Bool) (o : Option M) → option_map passes o ≡ Some true → (m : M) × (o ≡ Some m) × (passes m ≡ true)
passed passes None e = absurd cc
passed passes (Some m) e = (m, refl, cc (e))

pub is_there : {M : Type 0} (o : Option M) → option_map (λ (m : M). true) o ≡ Some true → IsSome o
is_there None e = absurd cc
is_there (Some m) e = refl

pub not_there : {M : Type 0} (o : Option M) → (option_map (λ (m : M). true) o ≢ Some true) → o ≡ None
not_there None e = refl
not_there (Some m) e = absurd (e refl)

-- a unit of one of the blocks
pub covers_at : (blocks : List Block) (i : ℕ) (b : Block) (u : Serial) → i < length blocks → b ≡ get_or blocks i b → has_unit b.raw u ≡ true → covers blocks u ≡ true
covers_at blocks i b u lt is h = list_any_at (λ (c : Block). has_unit c.raw u) blocks i b lt (ap (λ (c : Block). has_unit c.raw u) (sym is) ∙ h)

-- a unit of the blocks up to one is in that one or in those before
pub covers_more : (blocks : List Block) (i : ℕ) (b : Block) (u : Serial) → i < length blocks → b ≡ get_or blocks i b → covers (take (i + 1) blocks) u ≡ true → (covers (take i blocks) u ≡ true) ⊎ (has_unit b.raw u ≡ true)
covers_more blocks i b u lt is h =
    let more = take_more blocks i b lt in
    let split : (covers (take i blocks) u || covers (b ∷ []) u) ≡ true = sym (list_any-append (λ (c : Block). has_unit c.raw u) (take i blocks) (b ∷ [])) ∙ ap (λ bs. covers bs u) (ap (λ (c : Block). take i blocks ++ c ∷ []) is ∙ sym more) ∙ h in
    elim (or_cases (covers (take i blocks) u) (covers (b ∷ []) u) split) [
      | inl before ↦ inl before
      | inr here ↦ inr (one b u here)
    ]
  where
    alone : (t : Bool) → (t || false) ≡ true → t ≡ true
    alone true e = refl
    alone false e = e

    one : (c : Block) (v : Serial) → covers (c ∷ []) v ≡ true → has_unit c.raw v ≡ true
    one c v e = alone (has_unit c.raw v) e

-- an element with the property
pub among : {X : Type 0} (P : X → Type 0) (xs : List X) → (k : ℕ) × (k < length xs) × HoldsAt P xs k → (x : X) × IsAmong xs x × P x
among P [] h = absurd (omega (arith, h.1))
among P (x ∷ xs) h = (get_or (x ∷ xs) h.0 x, (h.0, (h.1, get_or_default (x ∷ xs) h.0 x (get_or (x ∷ xs) h.0 x) h.1)), h.2 x)

-- the result for the block of a unit, where the function gives no label
pub none_of : {M : Type 0} (blocks : List Block) (u : Serial) (label : Option M) → option_map_or (λ (b : Block). None) (find (λ b. has_unit b.raw u) blocks) label ≡ (if covers blocks u then None else label)
none_of [] u label = refl
none_of (b ∷ bs) u label = elim (cases_Bool (has_unit b.raw u)) [
  | inl yes' ↦ rw yes' refl
  | inr no' ↦ rw no' (none_of bs u label)
]
