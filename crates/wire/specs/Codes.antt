-- Lists of the codes of findings.
use Rattle.std.specs.Prelude.{ℕ, ◌+◌, ◌≤◌, List, [], ◌∷◌, length}
use Rattle.units.specs.RefusalCodes.{wrong_acquirer, acquirer_not_eligible, receiver_unknown, kind_not_taken}

-- strictly ascending numbers from the first to the last of a range
abbrev pub Ascends : ℕ → ℕ → List ℕ → Type 0
Ascends first last [] = Unit {0}
Ascends first last (c ∷ cs) = ((first ≤ c) × (c ≤ last)) × Ascends (c + 1) last cs

-- the log's findings: one or more codes, from `wrong_acquirer` to `acquirer_not_eligible`
abbrev pub AreLogCodes : List ℕ → Type 0
AreLogCodes codes = (1 ≤ length codes) × Ascends wrong_acquirer acquirer_not_eligible codes

-- the acquirer's findings: one or more codes, from `receiver_unknown` to `kind_not_taken`
abbrev pub AreAcquirerCodes : List ℕ → Type 0
AreAcquirerCodes codes = (1 ≤ length codes) × Ascends receiver_unknown kind_not_taken codes
