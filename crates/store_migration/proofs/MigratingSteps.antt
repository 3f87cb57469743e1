-- The state of a connection to a store after a statement of a migration.
use Rattle.std.proofs.Common.{◌≡◌, ℕ, zero, suc, ◌+◌, ◌-◌, ◌<◌, ◌≤◌, pos, List, [], ◌∷◌, ◌++◌, Bor, length, map, take, drop, get_or, Option, Some, None, Ok, IsTrue, refl, sym, ap, subst, ◌∙◌, arith, append_assoc}
use Rattle.std.proofs.lemmas.List.{drop-drop, length-drop, length-take-le, length-map, get_or-map}
use Rattle.std.proofs.lemmas.Slice.{drop-append-drop}
use Rattle.sqlite.specs.Tree.{Trees}
use Rattle.sqlite.specs.Order.{Row}
use Rattle.sqlite.specs.declared.types.Value.TheVariants.{Int}
use Rattle.sqlite.specs.Listing.{understood}
use Rattle.sqlite.specs.State.{State, Executes, ExecutesInside, HasCleanDisk, KeepsCommit, Survives}
use Rattle.sqlite.proofs.Callers.{statement_of, runs_as}
use Rattle.wire.specs.declared.input.Input.{Input}
use Rattle.wire.specs.declared.record_format.RecordFormat.{RecordFormat}
use Rattle.wire.specs.declared.record_format.RecordFormat.TheVariants.{One, Two}
use Rattle.wire.specs.Records.{number_of, IsRecordText}
use Rattle.stores.specs.Records.{Places, AreRecordsIn, HasNoRecordIn, IsDamagedIn, unbroken}
use Rattle.stores.proofs.Fronts.{records-length, records-snoc, damaged-place}
use Rattle.store_tables.specs.Tables.{store_schema, order_in, about_tree, entries_tree}
use Rattle.store_tables.specs.Held.{slots_in}
use Rattle.store_tables.specs.Within.{IsWithin, HasStore}
use Rattle.store_migration.specs.Migrating.{with_body, HasPlaces, IsMigrating}
use Rattle.store_tables.proofs.Inserting.{given}
use Rattle.store_migration.proofs.MigratingTexts.{body_text, body_command, body_is, body_plain, format_text, format_command, format_is, format_plain}
use Rattle.store_tables.proofs.PlacesRead.{body-at, gap-at}
use Rattle.store_migration.proofs.Rewriting.{body_put, format_put}
use Rattle.store_tables.proofs.Steps.{was_clean, inside_keeps}

-- the transaction sees a store of that format and of the same node, with such places, in the same tables
abbrev pub Rewrites : RecordFormat → Places → State → State → Type 0
Rewrites format places old new = IsWithin new (HasStore format) × HasPlaces format old.now.trees places new.now.trees × (new.now.schema ≡ old.now.schema)

-- a statement that rewrites what the transaction sees leaves the last commit
pub rewritten_inside : (before after : RecordFormat) (places : Places) (text : List ℕ) (params : Row) (old new : State) (count : ℕ) (Commits : Trees → Type 0) → Survives old new Commits
    → (HasCleanDisk old → IsWithin old (HasStore before)) → (HasCleanDisk new → IsTrue old.in_transaction → ExecutesInside 0 text params old new (Ok count))
    → (IsWithin old (HasStore before) → ExecutesInside 0 text params old new (Ok count) → Rewrites after places old new) → HasCleanDisk new
    → Rewrites after places old new × KeepsCommit old new
rewritten_inside before after places text params old new count Commits survives ready runs rewrites clean =
    let inside = ready (was_clean old new Commits survives clean) in
    let ran = runs clean inside.inside in
    (rewrites inside ran, inside_keeps text params old new (Ok count) ran)

pub body_ok : (format : RecordFormat) (old new : State) (params : Row) (place : ℕ) (body : List ℕ) (count : ℕ) → params ≡ given place body → IsWithin old (HasStore format)
    → ExecutesInside 0 body_text params old new (Ok count)
    → Rewrites format (with_body place body (slots_in old.now.trees)) old new
body_ok format old new params place body count is within h =
    let order = order_in old.now.trees in
    let ran : Executes body_text (given place body) old new (Ok count) = subst (λ p. Executes body_text p old new (Ok count)) is h.0 in
    let w = runs_as body_text (given place body) old new (store_schema order) within.holds.0 (body_command (entries_tree order)) (body_is order) (body_plain order) count ran in
    let made = body_put format old.step_limit (statement_of body_text (understood (store_schema order) body_text)) place body old.now new.now w.tally within.holds w.changed in
    (record { is_open = h.1.is_open; inside = h.1.mode; holds = made.0 }, made.1, made.2)

pub format_ok : (before after : RecordFormat) (old new : State) (params : Row) (count : ℕ) → params ≡ Int (pos (number_of after)) ∷ [] → IsWithin old (HasStore before)
    → ExecutesInside 0 format_text params old new (Ok count)
    → Rewrites after (slots_in old.now.trees) old new
format_ok before after old new params count is within h =
    let order = order_in old.now.trees in
    let ran : Executes format_text (Int (pos (number_of after)) ∷ []) old new (Ok count) = subst (λ p. Executes format_text p old new (Ok count)) is h.0 in
    let w = runs_as format_text (Int (pos (number_of after)) ∷ []) old new (store_schema order) within.holds.0 (format_command (about_tree order)) (format_is order) (format_plain order) count ran in
    let made = format_put before after old.step_limit (statement_of format_text (understood (store_schema order) format_text)) old.now new.now w.tally within.holds w.changed in
    (record { is_open = h.1.is_open; inside = h.1.mode; holds = made.0 }, made.1, made.2)

-- ---- lists, cut where an element stands

take-next : {X : Type 0} (n : ℕ) (xs : List X) (x : X) (rest : List X) → drop n xs ≡ x ∷ rest → take (suc n) xs ≡ take n xs ++ x ∷ []
take-next zero [] x rest e = absurd cc
take-next (suc n) [] x rest e = absurd cc
take-next zero (y ∷ xs) x rest e = let same : y ≡ x = cc (e) in ap (λ z. z ∷ []) same
take-next (suc n) (y ∷ xs) x rest e = ap (λ l. y ∷ l) (take-next n xs x rest e)

drop-next : {X : Type 0} (n : ℕ) (xs : List X) (x : X) (rest : List X) → drop n xs ≡ x ∷ rest → drop (suc n) xs ≡ rest
drop-next zero [] x rest e = absurd cc
drop-next (suc n) [] x rest e = absurd cc
drop-next zero (y ∷ xs) x rest e = cc (e)
drop-next (suc n) (y ∷ xs) x rest e = drop-next n xs x rest e

within : {X : Type 0} (n : ℕ) (xs : List X) (x : X) (rest : List X) → drop n xs ≡ x ∷ rest → n ≤ length xs
within n xs x rest e =
    let long : length (drop n xs) ≡ length (x ∷ rest) = ap length e in
    let left = length-drop n xs in
    omega (arith, long, left)

with-body-at : (front : Places) (old new : List ℕ) (rest : Places) → with_body (length front) new (front ++ Some old ∷ rest) ≡ front ++ Some new ∷ rest
with-body-at [] old new rest = refl
with-body-at (slot ∷ front) old new rest = ap (λ all. slot ∷ all) (with-body-at front old new rest)

-- ---- one record after another

front-length : (place : ℕ) (before now : Trees) (m : IsMigrating place before now) → place ≤ length (slots_in before) → length m.front ≡ place
front-length place before now m low =
    let inputs = m.migrated.0 in
    let olds = records-length One (take place (slots_in before)) inputs m.migrated.1 in
    let news = records-length Two m.front inputs m.migrated.2 in
    let long = length-take-le place (slots_in before) low in
    omega (arith, olds, news, long)

-- the places that are not migrated yet
pub rest_is : (place : ℕ) (before now : Trees) → IsMigrating place before now → place ≤ length (slots_in before) → drop place (slots_in now) ≡ drop place (slots_in before)
rest_is place before now m low = ap (drop place) m.has.slots ∙ drop-append-drop place (slots_in before) m.front place (omega arith) (front-length place before now m low)

-- one more record has its new body
pub migrating_next : (place : ℕ) (before now new : Trees) (rest : Places) (body text : List ℕ) (input : Input) → IsRecordText One body input → IsRecordText Two text input
    → HasPlaces One now (with_body place text (slots_in now)) new → IsMigrating place before now → drop place (slots_in before) ≡ Some body ∷ rest → IsMigrating (place + 1) before new
migrating_next place before now new rest body text input one two put m here =
    let olds = slots_in before in
    let inputs = m.migrated.0 in
    let on : suc place ≡ place + 1 = omega arith in
    let long = front-length place before now m (within place olds (Some body) rest here) in
    let put_at : with_body place text (m.front ++ Some body ∷ rest) ≡ m.front ++ Some text ∷ rest = ap (λ n. with_body n text (m.front ++ Some body ∷ rest)) (sym long) ∙ with-body-at m.front body text rest in
    let all : m.front ++ Some text ∷ rest ≡ (m.front ++ Some text ∷ []) ++ drop (suc place) olds =
    sym (append_assoc m.front (Some text ∷ []) rest) ∙ ap (λ l. (m.front ++ Some text ∷ []) ++ l) (sym (drop-next place olds (Some body) rest here)) in
    let it : IsMigrating (suc place) before new = record {
      front = m.front ++ Some text ∷ [];
      migrated = (
        inputs ++ input ∷ [],
        subst (λ places. AreRecordsIn One places (inputs ++ input ∷ [])) (sym (take-next place olds (Some body) rest here)) (records-snoc (take place olds) inputs body input m.migrated.1 one),
        records-snoc m.front inputs text input m.migrated.2 two,
      );
      has = record {
        store = put.store;
        node = put.node ∙ m.has.node;
        slots = put.slots ∙ ap (with_body place text) (m.has.slots ∙ ap (λ l. m.front ++ l) here) ∙ put_at ∙ all;
      };
    } in subst (λ n. IsMigrating n before new) on it

-- the next place has no record
pub damaged_next : (place : ℕ) (before now : Trees) (slot : Option (List ℕ)) (rest : Places) → IsMigrating place before now → drop place (slots_in before) ≡ slot ∷ rest → HasNoRecordIn One slot
    → IsDamagedIn One place (slots_in before)
damaged_next place before now slot rest m here not = damaged-place One place (slots_in before) m.migrated.0 slot rest m.migrated.1 here not

-- ---- the bodies of a page; those before it are migrated

abbrev pub nows : List (Bor (List ℕ)) → List (List ℕ)
nows bodies = map (λ (b : Bor (List ℕ)). b.now) bodies

module _ (first until : ℕ) (before now : Trees) (bodies : List (Bor (List ℕ))) (low : first < until) (fits : until ≤ length (slots_in before)) (m : IsMigrating first before now)
    (read : unbroken (take (until - first) (drop first (slots_in now))) ≡ nows bodies) where
  rest-read : unbroken (take (until - first) (drop first (slots_in before))) ≡ nows bodies
  rest-read = ap (λ places. unbroken (take (until - first) places)) (sym (rest_is first before now m (omega (arith, low, fits)))) ∙ read

  -- a body stands at its place
  pub page_body : (k : ℕ) (d : Bor (List ℕ)) → k < length bodies → (rest : Places) × (drop (first + k) (slots_in before) ≡ Some (get_or bodies k d).now ∷ rest)
  page_body k d less =
      let counted = length-map bodies (λ (b : Bor (List ℕ)). b.now) in
      let it = body-at (until - first) k (drop first (slots_in before)) (nows bodies) d.now rest-read (omega (arith, counted, less)) in
      let same = get_or-map (λ (b : Bor (List ℕ)). b.now) bodies k d d.now less in
      (it.0, sym (drop-drop k first (slots_in before)) ∙ it.1 ∙ ap (λ text. Some text ∷ it.0) same)

  -- after the last body there is none
  pub page_gap : length bodies < until - first → (rest : Places) × (drop (first + length bodies) (slots_in before) ≡ None ∷ rest)
  page_gap less =
      let counted = length-map bodies (λ (b : Bor (List ℕ)). b.now) in
      let left = length-drop first (slots_in before) in
      let it = gap-at (until - first) (drop first (slots_in before)) (nows bodies) rest-read (omega (arith, counted, less)) (omega (arith, left, fits)) in
      let at : first + length bodies ≡ first + length (nows bodies) = omega (arith, counted) in
      (it.0, ap (λ n. drop n (slots_in before)) at ∙ sym (drop-drop (length (nows bodies)) first (slots_in before)) ∙ it.1)
