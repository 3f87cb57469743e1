-- Why a text is no scheme: the first of the faults.
use Rattle.std.specs.Prelude.{◌≡◌, ◌⊎◌, ℕ, List, [], ◌∷◌, Some, IsUtf8}
use Rattle.serde_json.specs.Data.{Data}
use Rattle.serde_json.specs.Read.{read}
use Rattle.scheme.specs.Grammar.{IsWritten}
use Rattle.scheme.specs.Order.{IsFreeOf, faults_in_order}
use Rattle.scheme.specs.declared.members.SchemeRegistry.{SchemeRegistry}
use Rattle.scheme.specs.declared.members.SchemeFault.{SchemeFault}
use Rattle.scheme.specs.declared.members.SchemeFault.TheVariants.{NotJson, Shape, NoMemory}

-- the fault is one of these, and the first that the registries aren't free of
abbrev pub IsFirst : List SchemeFault → List SchemeRegistry → SchemeFault → Type 0
IsFirst [] members fault = ⊥
IsFirst (f ∷ fs) members fault = ((fault ≡ f) × (IsFreeOf f members → ⊥)) ⊎ (IsFreeOf f members × IsFirst fs members fault)

-- the text is in UTF-8, and its JSON value writes these registries
pub record Writes (bytes : List ℕ) (records : ℕ) (members : List SchemeRegistry) : Type 0 where
  pub utf8 : IsUtf8 bytes
  pub value : Data
  pub reads : read bytes ≡ Some value
  pub written : IsWritten value records members

-- the text is no JSON in UTF-8
abbrev pub IsNoJson : List ℕ → Type 0
IsNoJson bytes = (value : Data) → IsUtf8 bytes → read bytes ≡ Some value → ⊥

-- the text is JSON outside the grammar
abbrev pub IsOutside : List ℕ → Type 0
IsOutside bytes = IsUtf8 bytes × (value : Data) × (read bytes ≡ Some value) × ((records : ℕ) (members : List SchemeRegistry) → IsWritten value records members → ⊥)

-- the text writes registries, and this is the first of their faults
abbrev pub HasFault : List ℕ → SchemeFault → Type 0
HasFault bytes fault = (records : ℕ) × (members : List SchemeRegistry) × Writes bytes records members × IsFirst faults_in_order members fault

-- why the text is no scheme; running out of memory says nothing about the text
abbrev pub IsFault : List ℕ → SchemeFault → Type 0
IsFault bytes NotJson = IsNoJson bytes
IsFault bytes Shape = IsOutside bytes
IsFault bytes NoMemory = Unit {0}
IsFault bytes fault = HasFault bytes fault
