-- The records that a store's places have.
use Rattle.std.specs.Prelude.{◌≡◌, ◌⊎◌, ◌++◌, ℕ, zero, suc, List, [], ◌∷◌, map, Option, Some, None}
use Rattle.wire.specs.Records.{IsRecordText, record_text}
use Rattle.wire.specs.declared.input.Input.{Input}
use Rattle.wire.specs.declared.record_format.RecordFormat.{RecordFormat}
use Rattle.wire.specs.declared.record_format.RecordFormat.TheVariants.{Two}

-- the greatest number of records that are read at once: a page
abbrev pub page_size : ℕ
page_size = 256

-- a list of places: the text at each, or None where it is missing
abbrev pub Places : Type 0
Places = List (Option (List ℕ))

-- each place has the text of its record in that format, and no place is left over
abbrev pub AreRecordsIn : RecordFormat → Places → List Input → Type 0
AreRecordsIn format [] [] = Unit {0}
AreRecordsIn format (Some text ∷ places) (input ∷ inputs) = IsRecordText format text input × AreRecordsIn format places inputs
AreRecordsIn format _ _ = ⊥

-- the text, if there is one, is no record's
abbrev pub HasNoRecordIn : RecordFormat → Option (List ℕ) → Type 0
HasNoRecordIn format None = Unit {0}
HasNoRecordIn format (Some text) = (input : Input) → IsRecordText format text input → ⊥

-- that number of places have records, and the next one has none
abbrev pub IsDamagedIn : RecordFormat → ℕ → Places → Type 0
IsDamagedIn format zero (place ∷ places) = HasNoRecordIn format place
IsDamagedIn format (suc p) (Some text ∷ places) = ((input : Input) × IsRecordText format text input) × IsDamagedIn format p places
IsDamagedIn format _ _ = ⊥

-- the same for a running store, whose records are of format Two
abbrev pub AreRecords : Places → List Input → Type 0
AreRecords places inputs = AreRecordsIn Two places inputs

abbrev pub IsDamagedAt : ℕ → Places → Type 0
IsDamagedAt p places = IsDamagedIn Two p places

-- the places of the texts of records
abbrev pub written : List Input → Places
written inputs = map (λ input. Some (record_text input)) inputs

-- the places as they were, or with the whole batch after them
abbrev pub IsAllOrNone : Places → List Input → Places → Type 0
IsAllOrNone old batch new = (new ≡ old) ⊎ (new ≡ old ++ written batch)

-- the bodies up to the first place that is missing
abbrev pub unbroken : List (Option (List ℕ)) → List (List ℕ)
unbroken [] = []
unbroken (None ∷ slots) = []
unbroken (Some body ∷ slots) = body ∷ unbroken slots

-- ---- what the code follows; no public contract cites what stands below

abbrev pub HasNoRecord : Option (List ℕ) → Type 0
HasNoRecord place = HasNoRecordIn Two place
