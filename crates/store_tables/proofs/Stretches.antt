-- The bodies of a stretch of places, from the rows that are there and from the slots.
use Rattle.std.proofs.Common.{◌≡◌, ℕ, zero, suc, ◌+◌, ◌-◌, ◌≤◌, ◌<◌, inl, inr, true, false, List, [], ◌∷◌, ◌++◌, Option, Some, map, filter, take, drop, refl, sym, ap, subst, ◌∙◌, arith}
use Rattle.std.specs.Prelude.{nat_le, ◌==◌}
use Rattle.std.proofs.lemmas.Bool.{cond-true, cond-false, cases_Bool, cases_lt, le-leb, leb-true, and_from, and_left, and_right, eq-eqb, eqb-true}
use Rattle.sqlite.specs.Order.{Row}
use Rattle.stores.specs.Records.{unbroken}
use Rattle.store_tables.specs.Slots.{place_of, body_of, missing, slots_from, AreEntries}
use Rattle.store_tables.specs.Pages.{is_within, shown, rows_within, bodies_from}

pub not-le : (m n : ℕ) → n < m → nat_le m n ≡ false
not-le m n low = elim (cases_Bool (nat_le m n)) [
  | inl y ↦ absurd (let e = leb-true m n y in omega (arith, low, e))
  | inr n ↦ n
]

within : (first last : ℕ) (row : Row) → first ≤ place_of row → place_of row ≤ last → is_within first last row ≡ true
within first last row low high = and_from (nat_le first (place_of row)) (nat_le (place_of row) last) (le-leb first (place_of row) low) (le-leb (place_of row) last high)

too-low : (first last : ℕ) (row : Row) → place_of row < first → is_within first last row ≡ false
too-low first last row low = and_left (nat_le first (place_of row)) (nat_le (place_of row) last) (not-le first (place_of row) low)

too-high : (first last : ℕ) (row : Row) → last < place_of row → is_within first last row ≡ false
too-high first last row high = and_right (nat_le first (place_of row)) (nat_le (place_of row) last) (not-le (place_of row) last high)

take-row : (first last : ℕ) (row : Row) (rows : List Row) → is_within first last row ≡ true → rows_within first last (row ∷ rows) ≡ shown row ∷ rows_within first last rows
take-row first last row rows y = ap (map shown) (cond-true (is_within first last row) (row ∷ filter (is_within first last) rows) (filter (is_within first last) rows) y)

pass-row : (first last : ℕ) (row : Row) (rows : List Row) → is_within first last row ≡ false → rows_within first last (row ∷ rows) ≡ rows_within first last rows
pass-row first last row rows n = ap (map shown) (cond-false (is_within first last row) (row ∷ filter (is_within first last) rows) (filter (is_within first last) rows) n)

-- rows after the last place are not in the stretch
none-behind : (first last at : ℕ) (rows : List Row) → AreEntries at rows → last < at → rows_within first last rows ≡ []
none-behind first last at [] h low = refl
none-behind first last at (row ∷ rows) h low =
    let high : last < place_of row = omega (arith, low, h.0) in
    pass-row first last row rows (too-high first last row high) ∙ none-behind first last (place_of row + 1) rows h.2 (omega (arith, high))

-- where the next place is missing, no body is unbroken
broken : (n gap : ℕ) (slots : List (Option (List ℕ))) → unbroken (take n (missing (suc gap) ++ slots)) ≡ []
broken zero gap slots = refl
broken (suc n) gap slots = refl

gap-is : (at q : ℕ) → at < q → (g : ℕ) × (q - at ≡ suc g)
gap-is at q low = go (q - at) refl
  where
    go : (d : ℕ) → q - at ≡ d → (g : ℕ) × (q - at ≡ suc g)
    go zero e = absurd (omega (arith, e, low))
    go (suc g) e = (g, e)

-- from the next place on
pub tail-bodies : (first last at : ℕ) (rows : List Row) → first ≤ at → AreEntries at rows
    → bodies_from at (rows_within first last rows) ≡ unbroken (take (last + 1 - at) (slots_from at rows))
tail-bodies first last at [] low h = go (last + 1 - at)
  where
    go : (n : ℕ) → [] ≡ unbroken (take n [])
    go zero = refl
    go (suc n) = refl
tail-bodies first last at (row ∷ rows) low h =
    elim (cases_lt last (place_of row)) [
      | inl high ↦ ap (bodies_from at) (pass-row first last row rows (too-high first last row high) ∙ none-behind first last (place_of row + 1) rows h.2 (omega (arith, high))) ∙ sym (past high)
      | inr here ↦
          ap (bodies_from at) (take-row first last row rows (within first last row (omega (arith, low, h.0)) here))
          ∙ elim (cases_lt at (place_of row)) [
            | inl gap ↦ cond-false (place_of row == at) (body_of row ∷ bodies_from (at + 1) (rows_within first last rows)) [] (other gap) ∙ sym (hole gap)
            | inr down ↦ cond-true (place_of row == at) (body_of row ∷ bodies_from (at + 1) (rows_within first last rows)) [] (eq-eqb (place_of row) at (same down)) ∙ one (λ k e. tail-bodies first last k rows e) (same down) here
          ]
    ]
  where
    same : place_of row ≤ at → place_of row ≡ at
    same down = let up = h.0 in omega (arith, up, down)

    other : at < place_of row → (place_of row == at) ≡ false
    other gap = elim (cases_Bool (place_of row == at)) [
      | inl y ↦ absurd (let e = eqb-true (place_of row) at y in omega (arith, e, gap))
      | inr n ↦ n
    ]

    hole : at < place_of row → unbroken (take (last + 1 - at) (slots_from at (row ∷ rows))) ≡ []
    hole gap =
        let g = gap-is at (place_of row) gap in
        subst (λ d. unbroken (take (last + 1 - at) (missing d ++ Some (body_of row) ∷ slots_from (place_of row + 1) rows)) ≡ []) (sym g.1) (broken (last + 1 - at) g.0 (Some (body_of row) ∷ slots_from (place_of row + 1) rows))

    all-missing : (n d : ℕ) (slots : List (Option (List ℕ))) → n ≤ d → unbroken (take n (missing d ++ slots)) ≡ []
    all-missing zero d slots low = refl
    all-missing (suc n) zero slots low = absurd (omega (arith, low))
    all-missing (suc n) (suc d) slots low = refl

    past : last < place_of row → unbroken (take (last + 1 - at) (slots_from at (row ∷ rows))) ≡ []
    past high = all-missing (last + 1 - at) (place_of row - at) (Some (body_of row) ∷ slots_from (place_of row + 1) rows) (omega (arith, high, h.0))

    one : ((k : ℕ) → first ≤ k → AreEntries k rows → bodies_from k (rows_within first last rows) ≡ unbroken (take (last + 1 - k) (slots_from k rows))) → place_of row ≡ at → place_of row ≤ last → body_of row ∷ bodies_from (at + 1) (rows_within first last rows) ≡ unbroken (take (last + 1 - at) (slots_from at (row ∷ rows)))
    one call e here =
        let more : last + 1 - at ≡ suc (last + 1 - (at + 1)) = omega (arith, e, here) in
        let none : place_of row - at ≡ 0 = omega (arith, e) in
        let next : place_of row + 1 ≡ at + 1 = ap (λ n. n + 1) e in
        let rest = call (at + 1) (omega (arith, low)) (subst (λ n. AreEntries n rows) next h.2) in
        subst (λ n. body_of row ∷ bodies_from (at + 1) (rows_within first last rows) ≡ unbroken (take n (slots_from at (row ∷ rows)))) (sym more)
        (subst (λ d. body_of row ∷ bodies_from (at + 1) (rows_within first last rows) ≡ unbroken (take (suc (last + 1 - (at + 1))) (missing d ++ Some (body_of row) ∷ slots_from (place_of row + 1) rows))) (sym none)
        (ap (λ all. body_of row ∷ all) (rest ∙ ap (λ n. unbroken (take (last + 1 - (at + 1)) (slots_from n rows))) (sym next))))

drop-missing : (n d : ℕ) (slots : List (Option (List ℕ))) → n ≤ d → drop n (missing d ++ slots) ≡ missing (d - n) ++ slots
drop-missing zero d slots low = let e : d ≡ d - 0 = omega arith in ap (λ k. missing k ++ slots) e
drop-missing (suc n) zero slots low = absurd (omega (arith, low))
drop-missing (suc n) (suc d) slots low = drop-missing n d slots (omega (arith, low)) ∙ (let e : d - n ≡ suc d - suc n = omega arith in ap (λ k. missing k ++ slots) e)

drop-past : (n d : ℕ) (slots : List (Option (List ℕ))) (body : List ℕ) → d < n → drop n (missing d ++ Some body ∷ slots) ≡ drop (n - (d + 1)) slots
drop-past zero d slots body low = absurd (omega (arith, low))
drop-past (suc n) zero slots body low = let e : n ≡ suc n - (0 + 1) = omega arith in ap (λ k. drop k slots) e
drop-past (suc n) (suc d) slots body low = drop-past n d slots body (omega (arith, low)) ∙ (let e : n - (d + 1) ≡ suc n - (suc d + 1) = omega arith in ap (λ k. drop k slots) e)

no-rows : (first last n : ℕ) → bodies_from first (rows_within first last []) ≡ unbroken (take (last + 1 - first) (drop n []))
no-rows first last n = go (last + 1 - first) n
  where
    go : (k n : ℕ) → [] ≡ unbroken (take k (drop n []))
    go zero zero = refl
    go zero (suc n) = refl
    go (suc k) zero = refl
    go (suc k) (suc n) = refl

-- from a first place on, regardless of the places before it
pub stretch : (first last from : ℕ) (rows : List Row) → from ≤ first → AreEntries from rows
    → bodies_from first (rows_within first last rows) ≡ unbroken (take (last + 1 - first) (drop (first - from) (slots_from from rows)))
stretch first last from [] low h = no-rows first last (first - from)
stretch first last from (row ∷ rows) low h =
    elim (cases_lt (place_of row) first) [
      | inl before ↦
          ap (bodies_from first) (pass-row first last row rows (too-low first last row before))
          ∙ stretch first last (place_of row + 1) rows (omega (arith, before)) h.2
          ∙ ap (λ slots. unbroken (take (last + 1 - first) slots)) (sym (jump before))
      | inr here ↦
          tail-bodies first last first (row ∷ rows) (omega arith) (here, h.1, h.2)
          ∙ ap (λ slots. unbroken (take (last + 1 - first) slots)) (sym (cut here))
    ]
  where
    jump : place_of row < first → drop (first - from) (slots_from from (row ∷ rows)) ≡ drop (first - (place_of row + 1)) (slots_from (place_of row + 1) rows)
    jump before =
        drop-past (first - from) (place_of row - from) (slots_from (place_of row + 1) rows) (body_of row) (omega (arith, before, h.0))
        ∙ (let e : first - from - (place_of row - from + 1) ≡ first - (place_of row + 1) = omega (arith, before, h.0, low) in ap (λ k. drop k (slots_from (place_of row + 1) rows)) e)

    cut : first ≤ place_of row → drop (first - from) (slots_from from (row ∷ rows)) ≡ slots_from first (row ∷ rows)
    cut here =
        drop-missing (first - from) (place_of row - from) (Some (body_of row) ∷ slots_from (place_of row + 1) rows) (omega (arith, here, low))
        ∙ (let e : place_of row - from - (first - from) ≡ place_of row - first = omega (arith, here, low) in ap (λ k. missing k ++ Some (body_of row) ∷ slots_from (place_of row + 1) rows) e)
