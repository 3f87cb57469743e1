-- A unit that a registry holds is in exactly one of the lines of its holdings, and another unit is in none. Two lines
-- with the same unit would both say how it is held, and would be of one account. But of two lines of one account, one
-- ends before the other begins.
use Rattle.std.proofs.Common.{◌≡◌, ℕ, ◌≤◌, ◌<◌, List, [], ◌∷◌, Bool, true, cond, inl, inr, refl, sym, ap, subst, ◌∙◌, arith, map}
use Rattle.std.specs.Prelude.{nat_le}
use Rattle.std.specs.List.{count_by}
use Rattle.std.proofs.lemmas.Bool.{and_parts, cases_Bool, cond-true, cond-false, leb-true}
use Rattle.units.proofs.Same.{code_of_same, period_of_same}
use Rattle.units.proofs.UnitOrder.{code_rank, index, index_rises}
use Rattle.units.specs.Canonical.{AreCanonical, IsBefore}
use Rattle.units.specs.Code.{same_code}
use Rattle.units.specs.Intervals.{numbered}
use Rattle.units.specs.Unit.{has_unit, period_index, same_period}
use Rattle.units.specs.declared.block.Unit.{Unit as Serial}
use Rattle.registry_core.specs.Lines.{unit_holding_interval}
use Rattle.registry_core.specs.HeldBlock.{HeldBlock}
use Rattle.registry_core.specs.UnitHolding.{UnitHolding}
use Rattle.protocol.specs.History.{Position, holds, reserver}
use Rattle.protocol.proofs.CountsInLists.{count_yes, count_no, number_none, number_one}
use Rattle.units.proofs.Lists.Membership.{In}
use Rattle.units.proofs.Lists.OneValue.{clash, one_some}
use Rattle.units.proofs.Lists.Positions.{In_contains, contains_in}
use Rattle.units.proofs.Lists.SomePass.{list_any_not}
use Rattle.safety.proofs.OneRegistry.UnitHoldingsOfUnits.{held_position}
use Rattle.registry_core.specs.Registry.{RegistryCoreView, moves}
use Rattle.registry_core.specs.Reported.{AreHoldings, IsHeldSo}

-- ---- lines in order

abbrev first_of : HeldBlock → ℕ
first_of l = index (numbered (unit_holding_interval l) l.block.raw.first)

abbrev last_of : HeldBlock → ℕ
last_of l = index (numbered (unit_holding_interval l) l.block.raw.last)

-- by account, and within one account by their units
record Precedes (l k : HeldBlock) : Type 0 where
  pub account : l.account ≤ k.account
  pub unit : k.account ≤ l.account → last_of l < first_of k

precedes : (l k : HeldBlock) → IsBefore (λ (unit_holding : UnitHolding). unit_holding.account) (unit_holding_interval l) (unit_holding_interval k) → Precedes l k
precedes l k (inl h) = record { account = omega arith; unit = λ e. absurd (omega arith) }
precedes l k (inr h) =
    let a = l.block.in_range in
    let b = k.block.in_range in
    let same = h.0 in
    let rises = index_rises (numbered (unit_holding_interval l) l.block.raw.last) (numbered (unit_holding_interval k) k.block.raw.first) (omega arith) (omega arith) h.1 in
    record { account = omega arith; unit = λ e. rises }

first_last : (l : HeldBlock) → first_of l ≤ last_of l
first_last l = let a = l.block.in_range in omega arith

through : (l k m : HeldBlock) → Precedes l k → Precedes k m → Precedes l m
through l k m a b =
    let x = a.account in
    let y = b.account in
    record { account = omega arith; unit = λ e. let u = a.unit (omega arith) in let v = b.unit (omega arith) in let w = first_last k in omega arith }

abbrev InOrder : List HeldBlock → Type 0
InOrder ls = AreCanonical (λ (unit_holding : UnitHolding). unit_holding.account) (map unit_holding_interval ls)

later : (l : HeldBlock) (ls : List HeldBlock) → InOrder (l ∷ ls) → (k : HeldBlock) → In k ls → Precedes l k
later l [] h k i = absurd i
later l (m ∷ ls) h k (inl e) = subst (Precedes l) e (precedes l m h.0)
later l (m ∷ ls) h k (inr i) = through l m k (precedes l m h.0) (later m ls h.2 k i)

tail_order : (l : HeldBlock) (ls : List HeldBlock) → InOrder (l ∷ ls) → InOrder ls
tail_order l [] h = tt
tail_order l (m ∷ ls) h = h.2

-- ---- lines with one unit

module _ (s : Serial) where
  abbrev has : HeldBlock → Bool
  has l = has_unit l.block.raw s

  between : (l : HeldBlock) → has l ≡ true → (first_of l ≤ index s) × (index s ≤ last_of l)
  between l h =
      let x = and_parts (same_code l.block.raw.origin s.origin) _ h in
      let y = and_parts (same_period l.block.raw.period s.period) _ x.1 in
      let z = and_parts (nat_le l.block.raw.first s.number) (nat_le s.number l.block.raw.last) y.1 in
      let o = ap code_rank (code_of_same l.block.raw.origin s.origin x.0) in
      let p = ap period_index (period_of_same l.block.raw.period s.period y.0) in
      let low = leb-true l.block.raw.first s.number z.0 in
      let high = leb-true s.number l.block.raw.last z.1 in
      (omega arith, omega arith)

  never_both : (l k : HeldBlock) → Precedes l k → has l ≡ true → has k ≡ true → l.account ≡ k.account → ⊥
  never_both l k before x y same =
      let u = before.unit (omega arith) in
      let a = (between l x).1 in
      let b = (between k y).0 in
      omega arith

  -- lines that have the unit are of one account
  abbrev OneAccount : List HeldBlock → Type 0
  OneAccount ls = (l k : HeldBlock) → In l ls → In k ls → has l ≡ true → has k ≡ true → l.account ≡ k.account

  at_most_one : (ls : List HeldBlock) → InOrder ls → OneAccount ls → count_by has ls ≤ 1
  at_most_one [] h one = omega arith
  at_most_one (l ∷ ls) h one =
      elim (cases_Bool (has l)) [
        | inl y ↦
            let none = number_none has ls (list_any_not has ls (λ k i t. never_both l k (later l ls h k i) y t (one l k (inl refl) (inr i) y t))) in
            let u = count_yes has l ls y in
            omega arith
        | inr n ↦
            let rest = at_most_one ls (tail_order l ls h) (λ k m i j. one k m (inr i) (inr j)) in
            let u = count_no has l ls n in
            omega arith
      ]

-- ---- the lines of a registry

abbrev unit_holding_of : HeldBlock → UnitHolding
unit_holding_of l = record { account = l.account; kind = l.block.raw.kind; reserving = l.reserving }

module _ (r : RegistryCoreView) (lines : List HeldBlock) (are : AreHoldings r lines) (s : Serial) where
  held_so : (l : HeldBlock) → In l lines → has s l ≡ true → IsHeldSo r s (unit_holding_of l)
  held_so l i h = (are.exact s (unit_holding_of l)).1 (record { line = l; among = contains_in lines l i; has = h; so = refl })

  one_account : OneAccount s lines
  one_account l k i j x y =
      let a = (held_so l i x).placed in
      let b = (held_so k j y).placed in
      let same = one_some _ _ (sym a ∙ b) in
      ap (λ (p : Position). p.account) same

  in_some_line : holds r.scheme r.code (moves r) s ≡ true → 1 ≤ count_by (has s) lines
  in_some_line h =
      let p = held_position r.scheme r.code s (moves r) h in
      let unit_holding : UnitHolding = record { account = p.0.account; kind = p.0.kind; reserving = reserver r.code (moves r) s } in
      let held : IsHeldSo r s unit_holding = record { held = h; placed = p.1; reserved = refl } in
      let so = (are.exact s unit_holding).0 held in
      number_one (has s) lines so.line (In_contains lines so.line so.among) so.has

  pub lines_hold : count_by (λ (l : HeldBlock). has_unit l.block.raw s) lines ≡ cond (holds r.scheme r.code (moves r) s) 1 0
  lines_hold =
      elim (cases_Bool (holds r.scheme r.code (moves r) s)) [
        | inl y ↦
            let least = in_some_line y in
            let most = at_most_one s lines are.in_order one_account in
            let e = cond-true {A = ℕ} (holds r.scheme r.code (moves r) s) 1 0 y in
            omega arith
        | inr n ↦
            number_none (has s) lines (list_any_not (has s) lines (λ l i t. clash (holds r.scheme r.code (moves r) s) (held_so l i t).held n))
            ∙ sym (cond-false {A = ℕ} (holds r.scheme r.code (moves r) s) 1 0 n)
      ]
