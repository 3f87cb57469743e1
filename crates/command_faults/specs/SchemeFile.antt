-- A file with a scheme, and why a text is no scheme.
use Rattle.std.specs.Prelude.{◌≡◌, ◌⊎◌, ◌<◌, ◌≤◌, ◌++◌, ℕ, List, [], ◌∷◌, length, Option, Some, None}
use Rattle.std.specs.Option.{IsSomeAnd}
use Rattle.scheme.specs.Faults.{IsFault}
use Rattle.scheme.specs.Text.{IsSchemeText}
use Rattle.scheme.specs.declared.members.SchemeFault.{SchemeFault}
use Rattle.scheme.specs.declared.members.SchemeFault.TheVariants as scheme_fault
use Rattle.scheme.specs.declared.registries.Scheme.{Scheme}
use Rattle.command_faults.specs.declared.fault.Cause.{Cause}
use Rattle.command_faults.specs.declared.fault.Cause.TheVariants.{NotJson, Shape, TooMany, TooFew, CodeTwice, AccountTwice, UnknownAccount, AllotmentOverlap, TooLong}
use Rattle.command_faults.specs.declared.fault.OpFault.{OpFault}
use Rattle.command_faults.specs.declared.fault.OpFault.TheVariants.{Input, Read, NoMemory}
use Rattle.streams.specs.Inputs.{longest_input_line, Takes}

-- the fault of a scheme that a cause names
abbrev pub fault_of : Cause → Option SchemeFault
fault_of NotJson = Some scheme_fault.NotJson
fault_of Shape = Some scheme_fault.Shape
fault_of TooMany = Some scheme_fault.TooMany
fault_of TooFew = Some scheme_fault.TooFew
fault_of CodeTwice = Some scheme_fault.CodeTwice
fault_of AccountTwice = Some scheme_fault.AccountTwice
fault_of UnknownAccount = Some scheme_fault.UnknownAccount
fault_of AllotmentOverlap = Some scheme_fault.AllotmentOverlap
fault_of _ = None

-- the text is no scheme, with that cause
abbrev pub IsSchemeFault : List ℕ → Cause → Type 0
IsSchemeFault text cause = IsSomeAnd (fault_of cause) (IsFault text)

-- the text, which is line 1, is no scheme
abbrev pub IsSchemeLineFault : List ℕ → OpFault → Type 0
IsSchemeLineFault first (Input line cause) = (line ≡ 1) × IsSchemeFault first cause
IsSchemeLineFault first NoMemory = Unit {0}
IsSchemeLineFault first _ = ⊥

-- ---- a file

-- the bytes are the text, and then a newline if they end in one
abbrev pub IsTextIn : List ℕ → List ℕ → Type 0
IsTextIn bytes text = (bytes ≡ text ++ 10 ∷ []) ⊎ ((bytes ≡ text) × ((front : List ℕ) → bytes ≡ front ++ 10 ∷ [] → ⊥))

-- a file was read whole, and its text writes the scheme
pub record ReadsScheme (old new : Option (List ℕ)) (scheme : Scheme) : Type 0 where
  pub bytes : List ℕ
  pub taken : Takes old new bytes
  pub text : List ℕ
  pub is_text : IsTextIn bytes text
  pub short : length text ≤ longest_input_line
  pub scheme_is : IsSchemeText text scheme

-- the text is over the limit of a line, or within it and no scheme
abbrev pub IsTextFault : List ℕ → Cause → Type 0
IsTextFault text cause = ((cause ≡ TooLong) × (longest_input_line < length text)) ⊎ ((length text ≤ longest_input_line) × IsSchemeFault text cause)

-- the text of the file that was read has the fault
pub record HasFileFault (old new : Option (List ℕ)) (line : ℕ) (cause : Cause) : Type 0 where
  pub bytes : List ℕ
  pub taken : Takes old new bytes
  pub text : List ℕ
  pub is_text : IsTextIn bytes text
  pub number : line ≡ 1
  pub fault : IsTextFault text cause

-- why no scheme was read
abbrev pub FailsToRead : OpFault → (old new : Option (List ℕ)) → Type 0
FailsToRead (Input line cause) r s = HasFileFault r s line cause
FailsToRead Read r s = Unit {0}
FailsToRead NoMemory r s = Unit {0}
FailsToRead _ r s = ⊥
