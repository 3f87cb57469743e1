-- The bodies that were read are those of the requested places.
use Rattle.std.proofs.Common.{◌≡◌, ◌≤◌, ◌<◌, ◌+◌, ◌-◌, ℕ, zero, suc, Bor, List, [], ◌∷◌, Some, None, map, take, drop, get_or, length, refl, sym, ap, ap₂, ◌∙◌, arith}
use Rattle.std.proofs.lemmas.List.{length-take-le, length-drop}
use Rattle.sqlite.specs.Order.{Row}
use Rattle.sqlite.specs.Tree.{Trees}
use Rattle.wire.specs.declared.record_format.RecordFormat.{RecordFormat}
use Rattle.store_tables.specs.Held.{IsStoreIn, slots_in}
use Rattle.store_tables.specs.Pages.{rows_within, bodies_from}
use Rattle.stores.specs.Records.{Places}
use Rattle.stores.specs.Records.{unbroken}
use Rattle.store_tables.specs.Tables.{entry_rows}
use Rattle.store_tables.proofs.Stretches.{stretch}

pub front : {format : RecordFormat} (first until : ℕ) (db : Trees) (rows : List Row) (bodies : List (Bor (List ℕ))) → first < until → IsStoreIn format db → rows ≡ rows_within first (until - 1) (entry_rows db) → map (λ (b : Bor (List ℕ)). b.now) bodies ≡ bodies_from first rows
    → unbroken (take (until - first) (drop first (slots_in db))) ≡ map (λ (b : Bor (List ℕ)). b.now) bodies
front first until db rows bodies low store is these =
    let n : until - 1 + 1 - first ≡ until - first = omega (arith, low) in
    let d : first - 0 ≡ first = omega arith in
    sym (these ∙ ap (bodies_from first) is ∙ stretch first (until - 1) 0 (entry_rows db) (omega arith) store.entries ∙ ap₂ (λ k m. unbroken (take k (drop m (slots_in db)))) n d)

pub as-many : (first until : ℕ) (places : Places) → until ≤ length places → length (take (until - first) (drop first places)) ≡ until - first
as-many first until places low = let e = length-drop first places in length-take-le (until - first) (drop first places) (omega (arith, e, low))

-- a body that was read stands at its place
pub body-at : (n k : ℕ) (places : Places) (bodies : List (List ℕ)) (d : List ℕ) → unbroken (take n places) ≡ bodies → k < length bodies → (rest : Places) × (drop k places ≡ Some (get_or bodies k d) ∷ rest)
body-at n k places [] d e low = absurd (omega (arith, low))
body-at zero k places (body ∷ bodies) d e low = absurd cc
body-at (suc n) k [] (body ∷ bodies) d e low = absurd cc
body-at (suc n) k (None ∷ places) (body ∷ bodies) d e low = absurd cc
body-at (suc n) zero (Some text ∷ places) (body ∷ bodies) d e low = let same : text ≡ body = cc (e) in (places, ap (λ t. Some t ∷ places) same)
body-at (suc n) (suc k) (Some text ∷ places) (body ∷ bodies) d e low = let more : unbroken (take n places) ≡ bodies = cc (e) in body-at n k places bodies d more (omega (arith, low))

-- where fewer bodies were read, the next place has none
pub gap-at : (n : ℕ) (places : Places) (bodies : List (List ℕ)) → unbroken (take n places) ≡ bodies → length bodies < n → n ≤ length places → (rest : Places) × (drop (length bodies) places ≡ None ∷ rest)
gap-at zero places bodies e low fits = absurd (omega (arith, low))
gap-at (suc n) [] bodies e low fits = absurd (omega (arith, fits))
gap-at (suc n) (None ∷ places) [] e low fits = (places, refl)
gap-at (suc n) (None ∷ places) (body ∷ bodies) e low fits = absurd cc
gap-at (suc n) (Some text ∷ places) [] e low fits = absurd cc
gap-at (suc n) (Some text ∷ places) (body ∷ bodies) e low fits = let more : unbroken (take n places) ≡ bodies = cc (e) in gap-at n places bodies more (omega (arith, low)) (omega (arith, fits))
