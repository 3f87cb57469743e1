-- A row that is inserted after rows of entries.
use Rattle.std.proofs.Common.{◌≡◌, ℕ, ◌+◌, ◌-◌, ◌≤◌, ◌<◌, pos, List, [], ◌∷◌, ◌++◌, length, Some, refl, sym, ap, subst, ◌∙◌, arith, append_assoc}
use Rattle.std.specs.Prelude.{Option, zero, suc}
use Rattle.std.specs.declared.cmp.Ordering.TheVariants.{Less, Equal, Greater}
use Rattle.std.specs.Cmp.{int_cmp_is}
use Rattle.std.proofs.lemmas.Int.{ints}
use Rattle.std.proofs.lemmas.List.{length-append}
use Rattle.sqlite_value.proofs.OrderLemmas.{value_cmp-Int}
use Rattle.sqlite.specs.declared.types.Value.TheVariants.{Int}
use Rattle.sqlite.specs.Order.{Row, value_cmp}
use Rattle.sqlite.specs.Tree.{put_row}
use Rattle.store_tables.specs.Tables.{entry}
use Rattle.store_tables.specs.Slots.{place_of, body_of, missing, slots_from, AreEntries}

-- a smaller place is also less as a value
pub before : (m n : ℕ) → m < n → value_cmp (Int (pos m)) (Int (pos n)) ≡ Less
before m n lt = value_cmp-Int (pos m) (pos n) ∙ sym (int_cmp_is (pos m) (pos n) Less (omega (arith, ints)))

pub cmp-equal : (m n : ℕ) → m ≡ n → value_cmp (Int (pos m)) (Int (pos n)) ≡ Equal
cmp-equal m n e = value_cmp-Int (pos m) (pos n) ∙ sym (int_cmp_is (pos m) (pos n) Equal (ap pos e))

pub cmp-greater : (m n : ℕ) → n < m → value_cmp (Int (pos m)) (Int (pos n)) ≡ Greater
cmp-greater m n low = value_cmp-Int (pos m) (pos n) ∙ sym (int_cmp_is (pos m) (pos n) Greater (omega (arith, ints, low)))

pub length-missing : (n : ℕ) → length (missing n) ≡ n
length-missing zero = refl
length-missing (suc n) = ap suc (length-missing n)

none-missing : (m n : ℕ) → m ≤ n → n ≤ m → missing (m - n) ≡ []
none-missing m n up down = let same : m - n ≡ 0 = omega arith in ap missing same

-- the number of places up to that of the last row
pub length-slots : (from : ℕ) (row : Row) (rows : List Row) → length (slots_from from (row ∷ rows)) ≡ (place_of row - from) + (1 + length (slots_from (place_of row + 1) rows))
length-slots from row rows =
    let a = length-append (missing (place_of row - from)) (Some (body_of row) ∷ slots_from (place_of row + 1) rows) in
    let b = length-missing (place_of row - from) in
    omega arith

-- a row at the first place behind them is stored after them, and the others stay
pub record IsLast (from place : ℕ) (body : List ℕ) (rows : List Row) : Type 0 where
  pub put : put_row (entry place body) rows ≡ rows ++ entry place body ∷ []
  pub entries : AreEntries from (rows ++ entry place body ∷ [])
  pub slots : slots_from from (rows ++ entry place body ∷ []) ≡ slots_from from rows ++ Some body ∷ []

pub put-last : (from place : ℕ) (body : List ℕ) (rows : List Row) → AreEntries from rows → from + length (slots_from from rows) ≡ place → IsLast from place body rows
put-last from place body [] entries e = record {
  put = refl;
  entries = (omega arith, refl, tt);
  slots = ap (λ (m : List (Option (List ℕ))). m ++ Some body ∷ []) (none-missing place from (omega arith) (omega arith));
}
put-last from place body (row ∷ rows) entries e =
    let q = place_of row in
    let counted = length-slots from row rows in
    let next : IsLast (q + 1) place body rows = put-last (q + 1) place body rows entries.2 (omega (arith, e, counted, entries.0)) in
    let low : q < place = omega (arith, e, counted, entries.0) in record {
      put =
          subst (λ (r : Row). put_row (entry place body) (r ∷ rows) ≡ r ∷ (rows ++ entry place body ∷ [])) (sym entries.1)
          (rw (before q place low) (ap (λ (all : List Row). entry q (body_of row) ∷ all) next.put));
      entries = (entries.0, entries.1, next.entries);
      slots =
          ap (λ (all : List (Option (List ℕ))). missing (q - from) ++ Some (body_of row) ∷ all) next.slots
          ∙ sym (append_assoc (missing (q - from)) (Some (body_of row) ∷ slots_from (q + 1) rows) (Some body ∷ []));
    }
