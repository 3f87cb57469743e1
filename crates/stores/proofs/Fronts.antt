-- The records of the unbroken front of a list of places.
use Rattle.std.proofs.Common.{◌≡◌, ℕ, zero, suc, ◌<◌, List, [], ◌∷◌, ◌++◌, Some, None, map, length, take, drop, Option, refl, sym, ap, subst, arith}
use Rattle.stores.specs.Records.{Places, AreRecords, AreRecordsIn, HasNoRecordIn, IsDamagedAt, IsDamagedIn, unbroken, written}
use Rattle.std.proofs.lemmas.List.{map-append}
use Rattle.wire.specs.Records.{IsRecordText, record_text}
use Rattle.wire.specs.declared.input.Input.{Input}
use Rattle.wire.specs.declared.record_format.RecordFormat.{RecordFormat}
use Rattle.wire.specs.declared.record_format.RecordFormat.TheVariants.{Two}

-- records after records
pub records-append : (format : RecordFormat) (places : Places) (inputs : List Input) (more : Places) (others : List Input) → AreRecordsIn format places inputs → AreRecordsIn format more others
    → AreRecordsIn format (places ++ more) (inputs ++ others)
records-append format [] [] more others are behind = behind
records-append format [] (i ∷ inputs) more others are behind = absurd are
records-append format (None ∷ places) inputs more others are behind = absurd are
records-append format (Some t ∷ places) [] more others are behind = absurd are
records-append format (Some t ∷ places) (i ∷ inputs) more others are behind = (are.0, records-append format places inputs more others are.1 behind)

-- one place and its record more
pub records-snoc : {format : RecordFormat} (places : Places) (inputs : List Input) (text : List ℕ) (input : Input) → AreRecordsIn format places inputs → IsRecordText format text input
    → AreRecordsIn format (places ++ Some text ∷ []) (inputs ++ input ∷ [])
records-snoc {format} places inputs text input are is = records-append format places inputs (Some text ∷ []) (input ∷ []) are (is, tt)

-- inputs that have texts, and more of them
pub written-append : (inputs others : List Input) → AreRecords (written inputs) inputs → AreRecords (written others) others → AreRecords (written (inputs ++ others)) (inputs ++ others)
written-append inputs others are behind =
    subst (λ places. AreRecords places (inputs ++ others)) (sym (map-append (λ input. Some (record_text input)) inputs others)) (records-append Two (written inputs) inputs (written others) others are behind)

-- there are as many places as records
pub records-length : (format : RecordFormat) (places : Places) (inputs : List Input) → AreRecordsIn format places inputs → length places ≡ length inputs
records-length format [] [] are = refl
records-length format [] (i ∷ inputs) are = absurd are
records-length format (None ∷ places) inputs are = absurd are
records-length format (Some t ∷ places) [] are = absurd are
records-length format (Some t ∷ places) (i ∷ inputs) are = ap suc (records-length format places inputs are.1)

-- that number of records, and then a place that has none
pub damaged-place : (format : RecordFormat) (p : ℕ) (places : Places) (inputs : List Input) (place : Option (List ℕ)) (rest : Places) → AreRecordsIn format (take p places) inputs → drop p places ≡ place ∷ rest
    → HasNoRecordIn format place → IsDamagedIn format p places
damaged-place format zero [] inputs place rest are e not = absurd cc
damaged-place format zero (first ∷ places) inputs place rest are e not = let same : place ≡ first = cc (e) in subst (HasNoRecordIn format) same not
damaged-place format (suc p) [] inputs place rest are e not = absurd cc
damaged-place format (suc p) (None ∷ places) inputs place rest are e not = absurd are
damaged-place format (suc p) (Some t ∷ places) [] place rest are e not = absurd are
damaged-place format (suc p) (Some t ∷ places) (i ∷ inputs) place rest are e not = ((i, are.0), damaged-place format p places inputs place rest are.1 e not)

-- there is no damaged place where there are no places
pub none-damaged : (p : ℕ) → IsDamagedAt p [] → ⊥
none-damaged zero h = h
none-damaged (suc p) h = h

-- the records of a stretch of places
pub records-take : (format : RecordFormat) (n : ℕ) (places : Places) (inputs : List Input) → AreRecordsIn format places inputs → AreRecordsIn format (take n places) (take n inputs)
records-take format zero places inputs are = tt
records-take format (suc n) [] [] are = tt
records-take format (suc n) [] (i ∷ inputs) are = absurd are
records-take format (suc n) (None ∷ places) inputs are = absurd are
records-take format (suc n) (Some t ∷ places) [] are = absurd are
records-take format (suc n) (Some t ∷ places) (i ∷ inputs) are = (are.0, records-take format n places inputs are.1)

pub records-drop : (format : RecordFormat) (n : ℕ) (places : Places) (inputs : List Input) → AreRecordsIn format places inputs → AreRecordsIn format (drop n places) (drop n inputs)
records-drop format zero places inputs are = are
records-drop format (suc n) [] [] are = tt
records-drop format (suc n) [] (i ∷ inputs) are = absurd are
records-drop format (suc n) (None ∷ places) inputs are = absurd are
records-drop format (suc n) (Some t ∷ places) [] are = absurd are
records-drop format (suc n) (Some t ∷ places) (i ∷ inputs) are = records-drop format n places inputs are.1

-- there are as many bodies as places: no place is missing
pub whole-front : (places : Places) (bodies : List (List ℕ)) → unbroken places ≡ bodies → length bodies ≡ length places → places ≡ map (λ b. Some b) bodies
whole-front [] bodies e n = ap (map (λ b. Some b)) e
whole-front (None ∷ places) bodies e n = let none : 0 ≡ length bodies = ap length e in absurd (omega (arith, none, n))
whole-front (Some text ∷ places) [] e n = absurd cc
whole-front (Some text ∷ places) (body ∷ bodies) e n =
    let same : text ≡ body = cc (e) in
    let rest : unbroken places ≡ bodies = cc (e) in
    let more = whole-front places bodies rest (omega (arith, n)) in
    cc (same, more)

-- that number of records, and then a body that is no record's
pub damaged-body : {format : RecordFormat} (places : Places) (front : List (List ℕ)) (inputs : List Input) (body : List ℕ) (rest : List (List ℕ)) → AreRecordsIn format (map (λ b. Some b) front) inputs
    → HasNoRecordIn format (Some body) → unbroken places ≡ front ++ body ∷ rest → IsDamagedIn format (length front) places
damaged-body [] [] inputs body rest are not e = absurd cc
damaged-body [] (b ∷ front) inputs body rest are not e = absurd cc
damaged-body (None ∷ places) [] inputs body rest are not e = absurd cc
damaged-body (None ∷ places) (b ∷ front) inputs body rest are not e = absurd cc
damaged-body {format} (Some text ∷ places) [] inputs body rest are not e = let same : body ≡ text = cc (e) in subst (λ t. HasNoRecordIn format (Some t)) same not
damaged-body (Some text ∷ places) (b ∷ front) [] body rest are not e = absurd are
damaged-body {format} (Some text ∷ places) (b ∷ front) (i ∷ inputs) body rest are not e =
    let same : b ≡ text = cc (e) in
    let more : unbroken places ≡ front ++ body ∷ rest = cc (e) in
    ((i, subst (λ t. IsRecordText format t i) same are.0), damaged-body places front inputs body rest are.1 not more)

-- that number of records, and then a place that is missing
pub damaged-gap : (format : RecordFormat) (places : Places) (front : List (List ℕ)) (inputs : List Input) → AreRecordsIn format (map (λ b. Some b) front) inputs → unbroken places ≡ front → length front < length places
    → IsDamagedIn format (length front) places
damaged-gap format [] front inputs are e n = absurd (omega (arith, n))
damaged-gap format (None ∷ places) [] inputs are e n = tt
damaged-gap format (None ∷ places) (b ∷ front) inputs are e n = absurd cc
damaged-gap format (Some text ∷ places) [] inputs are e n = absurd cc
damaged-gap format (Some text ∷ places) (b ∷ front) [] are e n = absurd are
damaged-gap format (Some text ∷ places) (b ∷ front) (i ∷ inputs) are e n =
    let same : b ≡ text = cc (e) in
    let more : unbroken places ≡ front = cc (e) in
    ((i, subst (λ t. IsRecordText format t i) same are.0), damaged-gap format places front inputs are.1 more (omega (arith, n)))
