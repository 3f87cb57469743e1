-- The conditions on the registries of a scheme have one proof, which a field of the scheme must have.
use Rattle.std.specs.Prelude.{◌≡◌, ◌≢◌, ◌≤◌, ℕ, List, [], ◌∷◌, length}
use Rattle.std.specs.declared.cmp.Ordering.TheVariants.{Less}
use Rattle.std.specs.Coded.{×_prop, Unit-prop, le_prop}
use Rattle.std.specs.List.{AllByRecursion, AllByRecursion-prop}
use Rattle.std.specs.Ordering.{Ordering-set}
use Rattle.std.proofs.Props.{props}
use Rattle.units.specs.Apart.{Pairwise, AreApart}
use Rattle.units.specs.Facts.{IsAccountNumber}
use Rattle.units.specs.Keys.{code_cmp}
use Rattle.units.specs.Limits.{most_accounts}
use Rattle.units.specs.declared.block.Block.{Block}
use Rattle.scheme.specs.Grammar.{HasNoTwins}
use Rattle.scheme.specs.Order.{AreFew, IsFreeOf, AreMembers, all_blocks, HasAccount, faults_in_order}
use Rattle.scheme.specs.declared.members.Allotment.{Allotment}
use Rattle.scheme.specs.declared.members.SchemeRegistry.{SchemeRegistry}
use Rattle.scheme.specs.declared.members.SchemeFault.{SchemeFault}
use Rattle.scheme.specs.declared.members.SchemeFault.TheVariants.{NotJson, Shape, TooMany, TooFew, CodeTwice, AccountTwice, UnknownAccount, AllotmentOverlap, NoMemory}

Pairwise-prop : {X : Type 0} (R : X → X → Type 0) → ((x y : X) → IsProp (R x y)) → (xs : List X) → IsProp (Pairwise R xs)
Pairwise-prop R p [] = Unit-prop
Pairwise-prop R p (x ∷ xs) = ×_prop (AllByRecursion-prop (R x) (p x) xs) (Pairwise-prop R p xs)

AreApart-prop : (a b : Block) → IsProp (AreApart a.raw b.raw)
AreApart-prop a b = hlevel props

differ-prop : {X : Type 0} (x y : X) → IsProp (x ≢ y)
differ-prop x y = hlevel props

no_twins-prop : {X : Type 0} (xs : List X) → IsProp (HasNoTwins xs)
no_twins-prop xs = Pairwise-prop (λ x y. x ≢ y) differ-prop xs

account-prop : (m : SchemeRegistry) (a : Allotment) → IsProp (HasAccount m a.account)
account-prop m a = hlevel props

few-prop : (members : List SchemeRegistry) → IsProp (AreFew members)
few-prop members x y = λ i. record {
  registries = le_prop x.registries y.registries i;
  accounts = AllByRecursion-prop (λ m. length m.accounts ≤ most_accounts) (λ m. le_prop) members x.accounts y.accounts i;
  blocks = le_prop x.blocks y.blocks i;
}

free-prop : (members : List SchemeRegistry) (fault : SchemeFault) → IsProp (IsFreeOf fault members)
free-prop members NotJson = Unit-prop
free-prop members Shape = Unit-prop
free-prop members TooMany = few-prop members
free-prop members TooFew = le_prop
free-prop members CodeTwice = no_twins-prop _
free-prop members AccountTwice = AllByRecursion-prop (λ m. HasNoTwins m.accounts) (λ m. no_twins-prop m.accounts) members
free-prop members UnknownAccount = AllByRecursion-prop (λ m. AllByRecursion (λ a. HasAccount m a.account) m.allotted) (λ m. AllByRecursion-prop (λ a. HasAccount m a.account) (account-prop m) m.allotted) members
free-prop members AllotmentOverlap = Pairwise-prop (λ a b. AreApart a.raw b.raw) AreApart-prop (all_blocks members)
free-prop members NoMemory = Unit-prop

number-prop : (n : ℕ) → IsProp (IsAccountNumber n)
number-prop n = ×_prop le_prop le_prop

pub AreMembers-prop : (members : List SchemeRegistry) → IsProp (AreMembers members)
AreMembers-prop members x y = λ i. record {
  free = AllByRecursion-prop (λ fault. IsFreeOf fault members) (free-prop members) faults_in_order x.free y.free i;
  numbered = AllByRecursion-prop (λ m. AllByRecursion IsAccountNumber m.accounts) (λ m. AllByRecursion-prop IsAccountNumber number-prop m.accounts) members x.numbered y.numbered i;
  kinds = AllByRecursion-prop (λ m. HasNoTwins m.kinds) (λ m. no_twins-prop m.kinds) members x.kinds y.kinds i;
  ordered = Pairwise-prop (λ a b. code_cmp a.code b.code ≡ Less) (λ a b. Ordering-set (code_cmp a.code b.code) Less) members x.ordered y.ordered i;
}
