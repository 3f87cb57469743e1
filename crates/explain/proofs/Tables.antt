-- A table of topics, and the names and texts in it.
use Rattle.std.proofs.Common.{◌≡◌, ◌<◌, ◌+◌, ◌++◌, ◌∙◌, ℕ, Bor, List, [], ◌∷◌, IfNone, None, Option, Some, ap, arith, get_or, inl, inr, length, subst, sym}
use Rattle.std.proofs.lemmas.List.{get_or-map, get_or_default, length-map}
use Rattle.std.proofs.lemmas.List.Elements.{AllWithin-more, Contains-append_cases}
use Rattle.std.specs.List.{AllWithin}
use Rattle.explain.specs.Topics.{Has, HasNone, entries}

abbrev Table : Type 0
Table = List (Bor (List ℕ) × Bor (List ℕ))

entry_at : (table : Table) (k : ℕ) (d : Bor (List ℕ) × Bor (List ℕ)) (e : List ℕ × List ℕ) → k < length table
    → get_or (entries table) k e ≡ ((get_or table k d).0.now, (get_or table k d).1.now)
entry_at table k d e lt = get_or-map (λ t. (t.0.now, t.1.now)) table k d e lt

-- the topic at a place has the name
pub has_at : (table : Table) (k : ℕ) (d : Bor (List ℕ) × Bor (List ℕ)) (word : List ℕ) → k < length table
    → (get_or table k d).0.now ≡ word → Has (entries table) word (get_or table k d).1.now
has_at table k d word lt e =
    let text : List ℕ = (get_or table k d).1.now in
    (k, subst (λ n. k < n) (sym (length-map table (λ t. (t.0.now, t.1.now)))) lt, entry_at table k d (word, text) lt ∙ ap (λ name. (name, text)) e)

-- one more topic doesn't have the name
pub none_more : (table : Table) (k : ℕ) (d : Bor (List ℕ) × Bor (List ℕ)) (word : List ℕ) → k < length table
    → AllWithin (λ t. t.0.now ≡ word → ⊥) table 0 k → ((get_or table k d).0.now ≡ word → ⊥) → AllWithin (λ t. t.0.now ≡ word → ⊥) table 0 (k + 1)
none_more table k d word lt before other =
    AllWithin-more (λ t. t.0.now ≡ word → ⊥) table 0 k before (λ e. subst (λ t. t.0.now ≡ word → ⊥) (get_or_default table k d e lt) other)

-- no topic of the table has the name
pub has_none : (table : Table) (word : List ℕ) → AllWithin (λ t. t.0.now ≡ word → ⊥) table 0 (length table) → HasNone (entries table) word
has_none [] word none text has = absurd (omega (arith, has.1))
has_none (t ∷ table) word none text has =
    let lt : has.0 < length (t ∷ table) = subst (λ n. has.0 < n) (length-map (t ∷ table) (λ t. (t.0.now, t.1.now))) has.1 in
    let e : (get_or (t ∷ table) has.0 t).0.now ≡ word = ap (λ entry. entry.0) (sym (entry_at (t ∷ table) has.0 t (word, text) lt) ∙ has.2) in
    none has.0 t (omega arith) lt e

-- no topic of two tables has the name
pub none_either : (first second : List (List ℕ × List ℕ)) (word : List ℕ) (o : Option (Bor (List ℕ))) → HasNone first word
    → IfNone o (HasNone second word) → IfNone o (HasNone (first ++ second) word)
none_either first second word (Some text) a b = tt
none_either first second word None a b = λ text has.
    elim (Contains-append_cases first second (word, text) has) [ inl h ↦ a text h | inr h ↦ b text h ]
