-- The text that a scheme is written as is read back as that scheme.
use Rattle.std.proofs.Common.{◌≡◌, ℕ, ◌<◌, ◌≤◌, List, [], ◌∷◌, Some, codes, Bool, true, refl, sym, subst, arith, ◌==◌}
use Rattle.std.specs.Prelude.{IsUtf8, IsTrue}
use Rattle.std.specs.List.{AllByRecursion, list_any}
use Rattle.std.proofs.lemmas.List.Sorted.{IsPermutation-refl}
use Rattle.serde_json.specs.Data.{Data}
use Rattle.serde_json.specs.Read.{of_json}
use Rattle.serde_json.specs.Written.{outline}
use Rattle.serde_json.proofs.Numbers.{number_of-decimal}
use Rattle.json_fields.specs.Fields.{EachIs}
use Rattle.json_fields.specs.Objects.{items_with, whole}
use Rattle.json_fields.specs.Writing.{Token, data_tokens, depth, print, tokens}
use Rattle.json_fields.proofs.ReadBack.{each_written, items_back, items_shallow}
use Rattle.json_fields.proofs.OneLine.{HasWholes, items_have_wholes, one_line}
use Rattle.json_fields.proofs.Written.{printed_reads}
use Rattle.units.specs.Block.{IsRawText, raw_text}
use Rattle.units.specs.Facts.{IsAccountNumber}
use Rattle.units.specs.Text.{IsFreeOf}
use Rattle.units.specs.declared.block.Block.{Block}
use Rattle.units.specs.declared.block.Kind.{Kind}
use Rattle.scheme.specs.Grammar.{HasNoTwins, IsAccount, IsAllotment, IsBlock, IsKind, IsMember, IsWritten}
use Rattle.scheme.specs.Order.{AreMembers, AreNumbered, HasAccount, HaveDifferentKinds}
use Rattle.scheme.proofs.Lists.{in_list}
use Rattle.scheme.proofs.Pairs.{each_at}
use Rattle.scheme.specs.Text.{IsSchemeText}
use Rattle.scheme.specs.Written.{allotment_data, block_data, kind_data, member_data, scheme_data, scheme_text}
use Rattle.scheme.specs.declared.members.Allotment.{Allotment}
use Rattle.scheme.specs.declared.members.SchemeRegistry.{SchemeRegistry}
use Rattle.scheme.specs.declared.registries.Scheme.{Scheme}

-- ---- what holds of each registry of a scheme

abbrev IsSoundAllotment : Allotment → Type 0
IsSoundAllotment a = IsAccountNumber a.account

record IsSoundMember (m : SchemeRegistry) : Type 0 where
  accounts : AllByRecursion IsAccountNumber m.accounts
  allotted : AllByRecursion IsSoundAllotment m.allotted
  kinds : HasNoTwins m.kinds

abbrev Any : {X : Type 0} → X → Type 0
Any x = Unit {0}

any_of : {X : Type 0} (xs : List X) → AllByRecursion Any xs
any_of [] = tt
any_of (x ∷ xs) = (tt, any_of xs)

-- ---- read back

account_back : (n : ℕ) → IsAccountNumber n → of_json (outline (whole n)) ≡ Some (whole n)
account_back n is = let low = is.0 in let high = is.1 in rw (number_of-decimal n (omega arith)) refl

allotment_back : (a : Allotment) → IsSoundAllotment a → of_json (outline (allotment_data a)) ≡ Some (allotment_data a)
allotment_back a is = let low = is.0 in let high = is.1 in rw (number_of-decimal a.account (omega arith), items_back block_data Any (λ b u. refl) a.units (any_of a.units)) refl

member_back : (m : SchemeRegistry) → IsSoundMember m → of_json (outline (member_data m)) ≡ Some (member_data m)
member_back m is =
    rw (
      items_back whole IsAccountNumber account_back m.accounts is.accounts,
      items_back allotment_data IsSoundAllotment allotment_back m.allotted is.allotted,
      items_back kind_data Any (λ k u. refl) m.kinds (any_of m.kinds),
    ) refl

scheme_back : (s : Scheme) → AllByRecursion IsSoundMember s.members → of_json (outline (scheme_data s)) ≡ Some (scheme_data s)
scheme_back s are = let some = s.in_range.1 in rw (number_of-decimal s.records (omega arith), items_back member_data IsSoundMember member_back s.members are) refl

-- ---- nested little

allotment_shallow : (a : Allotment) → depth (outline (allotment_data a)) ≤ 2
allotment_shallow a = omega (arith, items_shallow block_data 0 (λ b. omega arith) a.units)

member_shallow : (m : SchemeRegistry) → depth (outline (member_data m)) ≤ 4
member_shallow m = omega (arith, items_shallow whole 0 (λ n. omega arith) m.accounts, items_shallow allotment_data 2 allotment_shallow m.allotted, items_shallow kind_data 0 (λ k. omega arith) m.kinds)

scheme_shallow : (s : Scheme) → depth (outline (scheme_data s)) ≤ 6
scheme_shallow s = omega (arith, items_shallow member_data 4 member_shallow s.members)

-- ---- one line

account_whole : (n : ℕ) → IsAccountNumber n → HasWholes (whole n)
account_whole n is = let high = is.1 in omega arith

allotment_whole : (a : Allotment) → IsSoundAllotment a → HasWholes (allotment_data a)
allotment_whole a is = let high = is.1 in (omega arith, (items_have_wholes block_data Any (λ b u. tt) a.units (any_of a.units), tt))

member_whole : (m : SchemeRegistry) → IsSoundMember m → HasWholes (member_data m)
member_whole m is = (
  items_have_wholes whole IsAccountNumber account_whole m.accounts is.accounts,
  (items_have_wholes allotment_data IsSoundAllotment allotment_whole m.allotted is.allotted, (tt, (tt, (items_have_wholes kind_data Any (λ k u. tt) m.kinds (any_of m.kinds), tt)))),
)

scheme_whole : (s : Scheme) → AllByRecursion IsSoundMember s.members → HasWholes (scheme_data s)
scheme_whole s are = let few = s.in_range.1 in (omega arith, (items_have_wholes member_data IsSoundMember member_whole s.members are, tt))

-- ---- what was wanted

block_is : (b : Block) → Any b → IsBlock (block_data b) b
block_is b u = let in_range = b.in_range in (raw_text b.raw, refl, record { spelled = refl; first = omega (arith, in_range.1, in_range.2); last = omega (arith, in_range.2) })

allotment_is : (a : Allotment) → IsSoundAllotment a → IsAllotment (allotment_data a) a
allotment_is a is = record {
  keys = refl;
  account = refl;
  from_one = is.0;
  to_last = is.1;
  units = (items_with block_data a.units, refl, each_written block_data IsBlock Any block_is a.units (any_of a.units));
}

member_is : (m : SchemeRegistry) → IsSoundMember m → IsMember (member_data m) m
member_is m is = record {
  keys = refl;
  code = refl;
  eligible = refl;
  accounts = (items_with whole m.accounts, refl, each_written whole IsAccount IsAccountNumber (λ n one. (refl, one)) m.accounts is.accounts);
  allotted = (items_with allotment_data m.allotted, refl, each_written allotment_data IsAllotment IsSoundAllotment allotment_is m.allotted is.allotted);
  kinds = (items_with kind_data m.kinds, refl, each_written kind_data IsKind Any (λ k u. refl) m.kinds (any_of m.kinds));
  no_twins = is.kinds;
}

scheme_is : (s : Scheme) → AllByRecursion IsSoundMember s.members → IsWritten (scheme_data s) s.records s.members
scheme_is s are = record {
  keys = refl;
  records_at = refl;
  some_records = s.in_range.0;
  few_records = s.in_range.1;
  registries = (items_with member_data s.members, refl, each_written member_data IsMember IsSoundMember member_is s.members are);
}

-- ---- the registries of a scheme

numbered : (accounts : List ℕ) (n : ℕ) → AllByRecursion IsAccountNumber accounts → IsTrue (list_any (λ k. k == n) accounts) → IsAccountNumber n
numbered accounts n all has =
    let found = in_list (λ j k. j == k) (λ j k e. grind arith) accounts n has in
    subst IsAccountNumber found.2 (each_at IsAccountNumber accounts found.0 n found.1 all)

allotted_numbered : (m : SchemeRegistry) (allotted : List Allotment) → AllByRecursion IsAccountNumber m.accounts → AllByRecursion (λ a. HasAccount m a.account) allotted → AllByRecursion IsSoundAllotment allotted
allotted_numbered m [] all known = tt
allotted_numbered m (a ∷ allotted) all known = (numbered m.accounts a.account all known.0, allotted_numbered m allotted all known.1)

sound_each : (members : List SchemeRegistry) → AreNumbered members → AllByRecursion (λ m. AllByRecursion (λ a. HasAccount m a.account) m.allotted) members → HaveDifferentKinds members
    → AllByRecursion IsSoundMember members
sound_each [] numbers known kinds = tt
sound_each (m ∷ members) numbers known kinds =
    (record { accounts = numbers.0; allotted = allotted_numbered m m.allotted numbers.0 known.0; kinds = kinds.0 }, sound_each members numbers.1 known.1 kinds.1)

sound_members : (members : List SchemeRegistry) → AreMembers members → AllByRecursion IsSoundMember members
sound_members members are = sound_each members are.numbered are.free.1.1.1.1.0 are.kinds

pub text_of : (s : Scheme) (ts : List Token) (bytes : List ℕ) → ts ≡ data_tokens (scheme_data s) → bytes ≡ print ts → tokens (print ts) ≡ ts → IsUtf8 (print ts) → IsSchemeText bytes s
text_of s ts bytes are text reads utf8 =
    let sound = sound_members s.members s.sound in
    record {
      listed = s.members;
      writes = record {
        utf8 = subst IsUtf8 (sym text) utf8;
        value = scheme_data s;
        reads = printed_reads (scheme_data s) ts bytes are text reads (omega (arith, scheme_shallow s)) (scheme_back s sound);
        written = scheme_is s sound;
      };
      sorted = IsPermutation-refl s.members;
    }

pub text_is_a_line : (s : Scheme) → IsFreeOf 10 (scheme_text s)
text_is_a_line s = one_line (scheme_data s) (scheme_whole s (sound_members s.members s.sound))
