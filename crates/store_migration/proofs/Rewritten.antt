-- Rows of entries, one of which has another body.
use Rattle.std.proofs.Common.{◌≡◌, ◌⊎◌, inl, inr, ℕ, ◌+◌, ◌-◌, ◌≤◌, ◌<◌, pos, List, [], ◌∷◌, ◌++◌, filter, Bool, true, false, cond, None, Some, Option, refl, sym, ap, subst, ◌∙◌, arith}
use Rattle.std.specs.Prelude.{◌==◌, zero, suc}
use Rattle.std.specs.Ordering.{is_eq}
use Rattle.std.proofs.lemmas.Bool.{cases_Bool, cases_lt, eq-eqb, eqb-true, ne_eqb}
use Rattle.sqlite.specs.declared.types.Value.{Value}
use Rattle.sqlite.specs.declared.types.Value.TheVariants.{Int}
use Rattle.sqlite.specs.Order.{Row, column, value_cmp}
use Rattle.sqlite.specs.Tree.{put_row}
use Rattle.sqlite.specs.Tree.{without_rowid, has_rowid}
use Rattle.store_tables.specs.Tables.{entry}
use Rattle.store_tables.specs.Slots.{place_of, body_of, missing, slots_from, AreEntries}
use Rattle.store_migration.specs.Migrating.{with_body}
use Rattle.store_tables.proofs.Places.{before, cmp-equal, cmp-greater}

-- the row at that place has the other body, and the others stay
abbrev pub rewritten : ℕ → List ℕ → List Row → List Row
rewritten place body [] = []
rewritten place body (row ∷ rows) = cond (place_of row == place) (entry place body) row ∷ rewritten place body rows

-- places compare as values in the same way as they do as numbers
pub cmp_is : (m n : ℕ) → is_eq (value_cmp (Int (pos m)) (Int (pos n))) ≡ (m == n)
cmp_is m n = elim (cases_lt m n) [
  | inl low ↦ ap is_eq (before m n low) ∙ sym (ne_eqb m n (λ e. omega (arith, low, e)))
  | inr up ↦ elim (cases_lt n m) [
    | inl high ↦ ap is_eq (cmp-greater m n high) ∙ sym (ne_eqb m n (λ e. omega (arith, high, e)))
    | inr down ↦ ap is_eq (cmp-equal m n (omega (arith, up, down))) ∙ sym (eq-eqb m n (omega (arith, up, down)))
  ]
]

abbrev pub is_at : ℕ → Row → Bool
is_at place row = place_of row == place

pub row_id : (row : Row) → row ≡ entry (place_of row) (body_of row) → column row 0 ≡ Int (pos (place_of row))
row_id row e = ap (λ (r : Row). column r 0) e

-- rows after the place stay, and none of them is found
record AreBehind (place : ℕ) (body : List ℕ) (rows : List Row) : Type 0 where
  none : filter (is_at place) rows ≡ []
  rewritten_is : rewritten place body rows ≡ rows
  kept : without_rowid (pos place) rows ≡ rows

behind : (place from : ℕ) (body : List ℕ) (rows : List Row) → AreEntries from rows → place < from → AreBehind place body rows
behind place from body [] h low = record { none = refl; rewritten_is = refl; kept = refl }
behind place from body (row ∷ rows) h low =
    let up : place < place_of row = omega (arith, low, h.0) in
    let rest = behind place (place_of row + 1) body rows h.2 (omega (arith, up)) in
    let no : (place_of row == place) ≡ false = ne_eqb (place_of row) place (λ e. omega (arith, up, e)) in
    let out : has_rowid (pos place) row ≡ false = ap (λ (v : Value). is_eq (value_cmp v (Int (pos place)))) (row_id row h.1) ∙ cmp_is (place_of row) place ∙ no in
    record {
      none = rw no rest.none;
      rewritten_is = rw no (ap (λ all. row ∷ all) rest.rewritten_is);
      kept = rw out (ap (λ all. row ∷ all) rest.kept);
    }

put_before : (place from : ℕ) (body : List ℕ) (rows : List Row) → AreEntries from rows → place < from → put_row (entry place body) rows ≡ entry place body ∷ rows
put_before place from body [] h low = refl
put_before place from body (row ∷ rows) h low =
    subst (λ (r : Row). put_row (entry place body) (r ∷ rows) ≡ entry place body ∷ r ∷ rows) (sym h.1)
    (rw (cmp-greater (place_of row) place (omega (arith, low, h.0))) refl)

-- exactly one row is at the place; with the other body it is inserted at the same position
pub record IsOne (place from : ℕ) (body : List ℕ) (rows : List Row) : Type 0 where
  pub row : Row
  pub bound : from ≤ place
  pub one : filter (is_at place) rows ≡ row ∷ []
  pub at : place_of row ≡ place
  pub is_entry : row ≡ entry (place_of row) (body_of row)
  pub put : put_row (entry place body) (without_rowid (pos place) rows) ≡ rewritten place body rows

pub found_in : (place from : ℕ) (body : List ℕ) (rows : List Row) → AreEntries from rows
    → ((filter (is_at place) rows ≡ []) × (rewritten place body rows ≡ rows)) ⊎ IsOne place from body rows
found_in place from body [] h = inl (refl, refl)
found_in place from body (row ∷ rows) h =
    elim (cases_Bool (place_of row == place)) [
      | inl eq_ ↦
          let same : place_of row ≡ place = eqb-true (place_of row) place eq_ in
          let rest = behind place (place_of row + 1) body rows h.2 (omega (arith, same)) in
          let hit : has_rowid (pos place) row ≡ true = ap (λ (v : Value). is_eq (value_cmp v (Int (pos place)))) (row_id row h.1) ∙ cmp_is (place_of row) place ∙ eq_ in
          inr (record {
            row = row;
            bound = omega (arith, same, h.0);
            one = rw eq_ (ap (λ all. row ∷ all) rest.none);
            at = same;
            is_entry = h.1;
            put = rw (hit, eq_) (ap (put_row (entry place body)) rest.kept ∙ put_before place (place_of row + 1) body rows h.2 (omega (arith, same)) ∙ sym (ap (λ all. entry place body ∷ all) rest.rewritten_is));
          })
      | inr un ↦
          let out : has_rowid (pos place) row ≡ false = ap (λ (v : Value). is_eq (value_cmp v (Int (pos place)))) (row_id row h.1) ∙ cmp_is (place_of row) place ∙ un in
          elim (found_in place (place_of row + 1) body rows h.2) [
            | inl none ↦ inl (rw un none.0, rw un (ap (λ all. row ∷ all) none.1))
            | inr it ↦ inr (record {
              row = it.row;
              bound = (let a = it.bound in omega (arith, a, h.0));
              one = rw un it.one;
              at = it.at;
              is_entry = it.is_entry;
              put = rw (out, un) (step it.bound ∙ ap (λ all. row ∷ all) it.put);
            })
          ]
    ]
  where
    step : place_of row + 1 ≤ place → put_row (entry place body) (row ∷ without_rowid (pos place) rows) ≡ row ∷ put_row (entry place body) (without_rowid (pos place) rows)
    step low = rw (ap (λ (v : Value). value_cmp v (Int (pos place))) (row_id row h.1) ∙ before (place_of row) place (omega (arith, low))) refl

-- ---- the places of such rows

past : (n k : ℕ) (body : List ℕ) (places : List (Option (List ℕ))) → with_body (n + k) body (missing n ++ places) ≡ missing n ++ with_body k body places
past zero k body places = let on : 0 + k ≡ k = omega arith in ap (λ n. with_body n body places) on
past (suc n) k body places = let on : suc n + k ≡ suc (n + k) = omega arith in ap (λ m. with_body m body (missing (suc n) ++ places)) on ∙ ap (λ all. None ∷ all) (past n k body places)

short : (n k : ℕ) (body : List ℕ) (places : List (Option (List ℕ))) → k < n → with_body k body (missing n ++ places) ≡ missing n ++ places
short zero k body places low = absurd (omega (arith, low))
short (suc n) zero body places low = refl
short (suc n) (suc k) body places low = ap (λ all. None ∷ all) (short n k body places (omega (arith, low)))

pub rewritten_entries : (place from : ℕ) (body : List ℕ) (rows : List Row) → AreEntries from rows → AreEntries from (rewritten place body rows)
rewritten_entries place from body [] h = tt
rewritten_entries place from body (row ∷ rows) h =
    let rest = rewritten_entries place (place_of row + 1) body rows h.2 in
    elim (cases_Bool (place_of row == place)) [
      | inl eq_ ↦
          let same : place_of row ≡ place = eqb-true (place_of row) place eq_ in
          rw eq_ (subst (λ n. from ≤ n) same h.0, refl, subst (λ n. AreEntries (n + 1) (rewritten place body rows)) same rest)
      | inr un ↦ rw un (h.0, h.1, rest)
    ]

pub rewritten_slots : (from k place : ℕ) (body : List ℕ) (rows : List Row) → AreEntries from rows → place ≡ from + k
    → slots_from from (rewritten place body rows) ≡ with_body k body (slots_from from rows)
rewritten_slots from k place body [] h is = refl
rewritten_slots from k place body (row ∷ rows) h is =
    let q = place_of row in
    let gap = missing (q - from) in
    let tail = slots_from (q + 1) rows in
    elim (cases_Bool (q == place)) [
      | inl eq_ ↦
          let same : q ≡ place = eqb-true q place eq_ in
          let rest = behind place (q + 1) body rows h.2 (omega (arith, same)) in
          let at : k ≡ (q - from) + 0 = omega (arith, same, is, h.0) in
          rw (eq_, rest.rewritten_is) (ap (λ n. missing (n - from) ++ Some body ∷ slots_from (n + 1) rows) (sym same))
          ∙ sym (past (q - from) 0 body (Some (body_of row) ∷ tail)) ∙ ap (λ n. with_body n body (gap ++ Some (body_of row) ∷ tail)) (sym at)
      | inr un ↦ elim (cases_lt place q) [
        | inl low ↦
            let rest = behind place (q + 1) body rows h.2 (omega (arith, low)) in
            rw (un, rest.rewritten_is) (sym (short (q - from) k body (Some (body_of row) ∷ tail) (omega (arith, low, is, h.0))))
        | inr up ↦
            let off : q ≡ place → ⊥ = λ e. absurd (let never = sym un ∙ eq-eqb q place e in cc) in
            let high : q < place = elim (cases_lt q place) [
              | inl more ↦ more
              | inr less ↦ absurd (off (omega (arith, up, less)))
            ] in
            let next = place - (q + 1) in
            let rest = rewritten_slots (q + 1) next place body rows h.2 (omega (arith, high)) in
            let at : k ≡ (q - from) + suc next = omega (arith, high, is, h.0) in
            rw un (ap (λ all. gap ++ Some (body_of row) ∷ all) rest)
            ∙ sym (past (q - from) (suc next) body (Some (body_of row) ∷ tail)) ∙ ap (λ n. with_body n body (gap ++ Some (body_of row) ∷ tail)) (sym at)
      ]
    ]
