-- The conditions that the registries of every scheme meet.
use Rattle.std.specs.Prelude.{◌≡◌, ℕ, ◌≤◌, List, [], ◌∷◌, ◌++◌, length, map, Bool, IsTrue, ◌==◌, Option}
use Rattle.std.specs.declared.cmp.Ordering.TheVariants.{Less}
use Rattle.std.specs.List.{AllByRecursion, list_any, find}
use Rattle.units.specs.Apart.{Pairwise, AllApart}
use Rattle.units.specs.Code.{same_code}
use Rattle.units.specs.Facts.{IsAccountNumber}
use Rattle.units.specs.Keys.{code_cmp}
use Rattle.units.specs.Limits.{least_registries, most_registries, most_accounts, most_allotted}
use Rattle.units.specs.declared.block.Block.{Block}
use Rattle.units.specs.declared.code.Code.{Code}
use Rattle.scheme.specs.Grammar.{HasNoTwins}
use Rattle.scheme.specs.declared.members.Allotment.{Allotment}
use Rattle.scheme.specs.declared.members.SchemeRegistry.{SchemeRegistry}
use Rattle.scheme.specs.declared.members.SchemeFault.{SchemeFault}
use Rattle.scheme.specs.declared.members.SchemeFault.TheVariants.{TooMany, TooFew, CodeTwice, AccountTwice, UnknownAccount, AllotmentOverlap}

-- the blocks of some allotments, in their order
abbrev pub blocks_of : List Allotment → List Block
blocks_of [] = []
blocks_of (a ∷ allotted) = a.units ++ blocks_of allotted

-- all blocks that the registries allot
abbrev pub all_blocks : List SchemeRegistry → List Block
all_blocks [] = []
all_blocks (m ∷ members) = blocks_of m.allotted ++ all_blocks members

-- one of the registry's accounts has that number
abbrev pub has_account : SchemeRegistry → ℕ → Bool
has_account m number = list_any (λ n. n == number) m.accounts

abbrev pub HasAccount : SchemeRegistry → ℕ → Type 0
HasAccount m number = IsTrue (has_account m number)

-- the registries, the accounts of each, and the allotted blocks are no more than a scheme may have
pub record AreFew (members : List SchemeRegistry) : Type 0 where
  pub registries : length members ≤ most_registries
  pub accounts : AllByRecursion (λ m. length m.accounts ≤ most_accounts) members
  pub blocks : length (all_blocks members) ≤ most_allotted

-- the registries are free of the fault
abbrev pub IsFreeOf : SchemeFault → List SchemeRegistry → Type 0
IsFreeOf TooMany members = AreFew members
IsFreeOf TooFew members = least_registries ≤ length members
IsFreeOf CodeTwice members = HasNoTwins (map (λ m. m.code) members)
IsFreeOf AccountTwice members = AllByRecursion (λ m. HasNoTwins m.accounts) members
IsFreeOf UnknownAccount members = AllByRecursion (λ m. AllByRecursion (λ a. HasAccount m a.account) m.allotted) members
IsFreeOf AllotmentOverlap members = AllApart (all_blocks members)
IsFreeOf _ members = Unit {0}

-- the faults of registries, in the order in which they are looked for
abbrev pub faults_in_order : List SchemeFault
faults_in_order = TooMany ∷ TooFew ∷ CodeTwice ∷ AccountTwice ∷ UnknownAccount ∷ AllotmentOverlap ∷ []

-- the registries are free of all these faults
abbrev pub AreFree : List SchemeRegistry → Type 0
AreFree members = AllByRecursion (λ fault. IsFreeOf fault members) faults_in_order

-- every account has a number that an account can have
abbrev pub AreNumbered : List SchemeRegistry → Type 0
AreNumbered members = AllByRecursion (λ m. AllByRecursion IsAccountNumber m.accounts) members

-- no registry has a kind twice
abbrev pub HaveDifferentKinds : List SchemeRegistry → Type 0
HaveDifferentKinds members = AllByRecursion (λ m. HasNoTwins m.kinds) members

-- free of faults, with accounts in range and different kinds, and in byte order of their codes
pub record AreMembers (members : List SchemeRegistry) : Type 0 where
  pub free : AreFree members
  pub numbered : AreNumbered members
  pub kinds : HaveDifferentKinds members
  pub ordered : Pairwise (λ a b. code_cmp a.code b.code ≡ Less) members

-- the registry of that code
abbrev pub member : List SchemeRegistry → Code → Option SchemeRegistry
member members code = find (λ m. same_code m.code code) members
