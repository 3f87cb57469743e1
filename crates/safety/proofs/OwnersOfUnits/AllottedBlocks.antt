-- The blocks that a scheme allots: which units they have, each once, and how many at most.
use Rattle.std.proofs.Common.{◌≡◌, ℕ, ◌*◌, ◌≤◌, ◌<◌, List, [], ◌∷◌, ◌++◌, Bool, true, false, cond, option_map, is_some, inl, inr, refl, sym, ap, subst, ◌∙◌, arith, length}
use Rattle.std.specs.Prelude.{◌||◌}
use Rattle.std.specs.List.{AllByRecursion, count_by, list_any, sum_by, find}
use Rattle.std.proofs.lemmas.Bool.{cases_Bool}
use Rattle.std.proofs.lemmas.List.Sums.{sum_by-cons}
use Rattle.units.specs.Apart.{AllApart, AreApart}
use Rattle.units.specs.Limits.{last_unit}
use Rattle.units.specs.Unit.{has_unit}
use Rattle.units.specs.declared.block.Block.{Block}
use Rattle.units.specs.declared.block.Unit.{Unit as Serial}
use Rattle.units.specs.declared.code.Code.{Code}
use Rattle.scheme.specs.Allotted as start
use Rattle.scheme.specs.Order.{all_blocks, blocks_of}
use Rattle.scheme.specs.declared.members.Allotment.{Allotment}
use Rattle.scheme.specs.declared.members.SchemeRegistry.{SchemeRegistry}
use Rattle.scheme.specs.declared.registries.Scheme.{Scheme}
use Rattle.protocol.specs.Registries.{allotted}
use Rattle.protocol.proofs.CountsInLists.{count_yes, count_no, number_none}
use Rattle.units.proofs.Lists.Membership.{In}
use Rattle.units.proofs.Lists.SomePass.{list_any_not}
use Rattle.safety.proofs.ListLemmas.FirstFound.{any_found}
use Rattle.safety.proofs.OneRegistry.UsedAccounts.{or_some}
use Rattle.safety.specs.NumberOfUnits.{units_of, allotted_units}

-- ---- which units they have

any_append : {X : Type 0} (p : X → Bool) (xs ys : List X) → list_any p (xs ++ ys) ≡ (list_any p xs || list_any p ys)
any_append p [] ys = refl
any_append p (x ∷ xs) ys = go (p x) (any_append p xs ys)
  where
    go : (b : Bool) → list_any p (xs ++ ys) ≡ (list_any p xs || list_any p ys) → (b || list_any p (xs ++ ys)) ≡ ((b || list_any p xs) || list_any p ys)
    go true e = refl
    go false e = e

or_same : (a b c d : Bool) → a ≡ b → c ≡ d → (a || c) ≡ (b || d)
or_same a b c d e f = ap (λ x. x || c) e ∙ ap (λ x. b || x) f

module _ (s : Serial) where
  abbrev has : Block → Bool
  has b = has_unit b.raw s

  some_in : (c : Code) (shares : List Allotment) → is_some (start.allotted_in c shares s) ≡ list_any has (blocks_of shares)
  some_in c [] = refl
  some_in c (a ∷ rest) =
      or_some (option_map (λ (b : Block). start.holder c a.account b.raw.kind) (find has a.units)) (start.allotted_in c rest s)
      ∙ or_same _ _ _ _ (sym (any_found has (λ (b : Block). start.holder c a.account b.raw.kind) a.units)) (some_in c rest)
      ∙ sym (any_append has a.units (blocks_of rest))

  some_among : (ms : List SchemeRegistry) → is_some (start.allotted ms s) ≡ list_any has (all_blocks ms)
  some_among [] = refl
  some_among (m ∷ ms) =
      or_some (start.allotted_in m.code m.allotted s) (start.allotted ms s)
      ∙ or_same _ _ _ _ (some_in m.code m.allotted) (some_among ms)
      ∙ sym (any_append has (blocks_of m.allotted) (all_blocks ms))

  -- ---- each once

  apart_at : (b : Block) (bs : List Block) → AllByRecursion (λ (c : Block). AreApart b.raw c.raw) bs → (c : Block) → In c bs → has b ≡ true → has c ≡ true → ⊥
  apart_at b [] h c i x y = i
  apart_at b (d ∷ ds) h c (inl e) x y = h.0 s x (subst (λ (z : Block). has z ≡ true) (sym e) y)
  apart_at b (d ∷ ds) h c (inr i) x y = apart_at b ds h.1 c i x y

  pub apart_once : (bs : List Block) → AllApart bs → count_by has bs ≡ cond (list_any has bs) 1 0
  apart_once [] h = refl
  apart_once (b ∷ bs) h =
      elim (cases_Bool (has b)) [
        | inl y ↦
            let rest = number_none has bs (list_any_not has bs (λ c i t. apart_at b bs h.0 c i y t)) in
            let u = count_yes has b bs y in
            let e : cond {A = ℕ} (has b || list_any has bs) 1 0 ≡ 1 = ap (λ t. cond {A = ℕ} (t || list_any has bs) 1 0) y in
            omega arith
        | inr n ↦ count_no has b bs n ∙ apart_once bs h.1 ∙ sym (ap (λ t. cond {A = ℕ} (t || list_any has bs) 1 0) n)
      ]

-- a unit is in one block where it is allotted, and in none where it isn't
pub allotted_once : (scheme : Scheme) (s : Serial) → count_by (λ (b : Block). has_unit b.raw s) (all_blocks scheme.members) ≡ cond (is_some (allotted scheme s)) 1 0
allotted_once scheme s = apart_once s (all_blocks scheme.members) scheme.sound.free.1.1.1.1.1.0 ∙ sym (ap (λ t. cond {A = ℕ} t 1 0) (some_among s scheme.members))

-- ---- how many at most

most_units : (bs : List Block) → sum_by (λ (b : Block). units_of b.raw) bs ≤ length bs * last_unit
most_units [] = omega arith
most_units (b ∷ bs) = let r = most_units bs in let g = b.in_range in let e = sum_by-cons (λ (z : Block). units_of z.raw) b bs in omega arith

pub allotted_fits : (scheme : Scheme) → allotted_units scheme < 18_446_744_073_709_551_616
allotted_fits scheme = let few = scheme.sound.free.0.blocks in let most = most_units (all_blocks scheme.members) in omega arith
