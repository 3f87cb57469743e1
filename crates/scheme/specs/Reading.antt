-- The conditions that the code that reads schemes checks; no public contract cites them.
use Rattle.std.specs.Prelude.{ℕ, ◌≤◌, ◌==◌, List, IsTrue, IsPermutation, codes}
use Rattle.std.specs.List.{list_any}
use Rattle.std.specs.List.Sorted.{IsSortedByKey}
use Rattle.serde_json.specs.Data.{Data, number, unsigned}
use Rattle.scheme.specs.Grammar.{HasNoTwins, IsKind, IsWritten}
use Rattle.json_fields.specs.Fields.{HasAt, HasList}
use Rattle.units.specs.Keys.{code_cmp}
use Rattle.units.specs.declared.block.Kind.{Kind}
use Rattle.scheme.specs.Order.{faults_in_order}
use Rattle.scheme.specs.Faults.{IsFirst}
use Rattle.scheme.specs.declared.members.SchemeRegistry.{SchemeRegistry}
use Rattle.scheme.specs.declared.registries.Scheme.{Scheme}
use Rattle.scheme.specs.declared.members.SchemeFault.{SchemeFault}
use Rattle.scheme.specs.declared.members.SchemeFault.TheVariants.{NotJson, Shape, NoMemory}

-- the number at a key, from 1 to a greatest one
abbrev pub IsCount : List ℕ → ℕ → Data → ℕ → Type 0
IsCount key most d n = HasAt d key (number (unsigned n)) × (1 ≤ n) × (n ≤ most)

-- different kinds
abbrev pub AreKinds : Data → List Kind → Type 0
AreKinds d kinds = HasList IsKind d (codes "kinds") kinds × HasNoTwins kinds

-- in byte order of their codes, as a sort leaves them
abbrev pub AreSorted : List SchemeRegistry → Type 0
AreSorted members = IsSortedByKey (λ m. m.code) code_cmp members

-- one of the numbers is that one
abbrev pub IsKnown : List ℕ → ℕ → Type 0
IsKnown numbers known = IsTrue (list_any (λ n. n == known) numbers)

-- the value writes the scheme's registries, in any order
abbrev pub IsSchemeOf : Data → Scheme → Type 0
IsSchemeOf d s = (listed : List SchemeRegistry) × IsWritten d s.records listed × IsPermutation listed s.members

-- why the value is no scheme
abbrev pub HasFaultOf : Data → SchemeFault → Type 0
HasFaultOf d fault = (records : ℕ) × (listed : List SchemeRegistry) × IsWritten d records listed × IsFirst faults_in_order listed fault

abbrev pub IsFaultOf : Data → SchemeFault → Type 0
IsFaultOf d NotJson = ⊥
IsFaultOf d Shape = (records : ℕ) (listed : List SchemeRegistry) → IsWritten d records listed → ⊥
IsFaultOf d NoMemory = Unit {0}
IsFaultOf d fault = HasFaultOf d fault
