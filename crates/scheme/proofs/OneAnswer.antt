-- A text has one result: a scheme, or a fault.
use Rattle.std.proofs.Common.{◌≡◌, ◌⊎◌, inl, inr, ℕ, ◌≤◌, List, [], ◌∷◌, Some, refl, sym, subst, ◌∙◌, Result, Ok, Err}
use Rattle.std.specs.Prelude.{IsPermutation, IfErr}
use Rattle.std.specs.List.{AllByRecursion, Contains}
use Rattle.std.specs.Result.{IsErrAnd}
use Rattle.std.proofs.Math.Bridge.{le_prop}
use mathlib.Core.HLevel.{is_prop→PathP}
use Rattle.std.proofs.lemmas.List.Sorted.{IsPermutation-sym, Contains-permutation}
use Rattle.serde_json.specs.Data.{Data}
use Rattle.serde_json.specs.Read.{read}
use Rattle.json_fields.specs.Found.{Finds}
use Rattle.json_fields.specs.declared.fault.TextFault.{TextFault}
use Rattle.json_fields.specs.declared.fault.TextFault.TheVariants as read_fault
use Rattle.scheme.specs.Unread.{fault_from}
use Rattle.scheme.specs.Grammar.{IsWritten}
use Rattle.scheme.specs.Order.{IsFreeOf, AreMembers, faults_in_order}
use Rattle.scheme.specs.Props.{AreMembers-prop}
use Rattle.scheme.specs.Faults.{IsFirst, Writes, IsNoJson, IsOutside, HasFault, IsFault}
use Rattle.scheme.specs.Text.{IsSchemeText}
use Rattle.scheme.specs.Reading.{IsSchemeOf, HasFaultOf, IsFaultOf}
use Rattle.scheme.specs.declared.members.SchemeRegistry.{SchemeRegistry}
use Rattle.scheme.specs.declared.members.SchemeFault.{SchemeFault}
use Rattle.scheme.specs.declared.members.SchemeFault.TheVariants.{NotJson, Shape, TooMany, TooFew, CodeTwice, AccountTwice, UnknownAccount, AllotmentOverlap, NoMemory}
use Rattle.scheme.specs.declared.registries.Scheme.{Scheme}
use Rattle.scheme.proofs.Pairs.{each_weaker}
use Rattle.scheme.proofs.Told.{same_order}
use Rattle.scheme.proofs.Unique.{records_one, members_one}
use Rattle.units.specs.Limits.{most_records}
use Rattle.scheme.proofs.Free.{free_moved, first_moved, not_first, one_first}

-- ---- one scheme

pub scheme_same : (s t : Scheme) → s.records ≡ t.records → s.members ≡ t.members → s ≡ t
scheme_same s t e f = λ i. record {
  records = e i;
  members = f i;
  in_range = is_prop→PathP (λ j. (1 ≤ e j) × (e j ≤ most_records)) (λ j. hlevel le_prop) s.in_range t.in_range i;
  sound = is_prop→PathP (λ j. AreMembers (f j)) (λ j. AreMembers-prop (f j)) s.sound t.sound i;
}

-- two lists in byte order that have the elements of one list
pub same_members : (listed ms ns : List SchemeRegistry) → IsPermutation listed ms → IsPermutation listed ns → AreMembers ms → AreMembers ns → ms ≡ ns
same_members listed ms ns p q a b = same_order ms ns a.ordered b.ordered (there ms ns p q) (there ns ms q p)
  where
    there : (xs ys : List SchemeRegistry) → IsPermutation listed xs → IsPermutation listed ys → (z : SchemeRegistry) → Contains xs z → Contains ys z
    there xs ys r s z has = Contains-permutation listed ys z s (Contains-permutation xs listed z (IsPermutation-sym listed xs r) has)

pub one_scheme : (d : Data) (s t : Scheme) → IsSchemeOf d s → IsSchemeOf d t → s ≡ t
one_scheme d s t p q =
    let records = records_one d s.records t.records p.0 q.0 p.1 q.1 in
    let listed : q.0 ≡ p.0 = members_one d t.records s.records q.0 p.0 q.1 p.1 in
    scheme_same s t records (same_members p.0 s.members t.members p.2 (subst (λ l. IsPermutation l t.members) listed q.2) s.sound t.sound)

same_value : (bytes : List ℕ) (d e : Data) → read bytes ≡ Some d → read bytes ≡ Some e → d ≡ e
same_value bytes d e p q = let told : Some d ≡ Some e = sym p ∙ q in cc (told)

pub only_scheme : (bytes : List ℕ) (d : Data) (s t : Scheme) → read bytes ≡ Some d → IsSchemeOf d s → IsSchemeText bytes t → t ≡ s
only_scheme bytes d s t reads is text =
    one_scheme d t s (text.listed, subst (λ e. IsWritten e t.records text.listed) (same_value bytes text.writes.value d text.writes.reads reads) text.writes.written, text.sorted) is

-- ---- one fault of a value

pub not_among : (fs : List SchemeFault) (ms : List SchemeRegistry) (f : SchemeFault) → AllByRecursion (λ g. f ≡ g → ⊥) fs → IsFirst fs ms f → ⊥
not_among [] ms f other p = p
not_among (g ∷ fs) ms f other (inl p) = other.0 p.0
not_among (g ∷ fs) ms f other (inr p) = not_among fs ms f other.1 p.1

pub fault_of_first : (d : Data) (f : SchemeFault) → HasFaultOf d f → IsFaultOf d f
fault_of_first d NotJson p = absurd (not_among faults_in_order p.1 NotJson ((λ e. cc), ((λ e. cc), ((λ e. cc), ((λ e. cc), ((λ e. cc), ((λ e. cc), tt)))))) p.3)
fault_of_first d Shape p = absurd (not_among faults_in_order p.1 Shape ((λ e. cc), ((λ e. cc), ((λ e. cc), ((λ e. cc), ((λ e. cc), ((λ e. cc), tt)))))) p.3)
fault_of_first d TooMany p = p
fault_of_first d TooFew p = p
fault_of_first d CodeTwice p = p
fault_of_first d AccountTwice p = p
fault_of_first d UnknownAccount p = p
fault_of_first d AllotmentOverlap p = p
fault_of_first d NoMemory p = tt

-- the fault of registries in order is that of the registries as listed
pub fault_of_sorted : (d : Data) (records : ℕ) (listed ms : List SchemeRegistry) (f : SchemeFault) → IsWritten d records listed → IsPermutation listed ms → IsFirst faults_in_order ms f → IsFaultOf d f
fault_of_sorted d records listed ms f written s first =
    fault_of_first d f (records, listed, written, first_moved faults_in_order ms listed f (IsPermutation-sym listed ms s) first)

fault_of_written : (d : Data) (e : TextFault) → Finds {X = ℕ × List SchemeRegistry} (λ p. IsWritten d p.0 p.1) (Err e) → IsFaultOf d (fault_from e)
fault_of_written d read_fault.Shape p = λ records ms is. p (records, ms) is
fault_of_written d read_fault.NoMemory p = tt

pub fault_told : {X : Type 0} (d : Data) (e : TextFault) (r : Result X SchemeFault) → IsErrAnd r (λ f. f ≡ fault_from e) → Finds {X = ℕ × List SchemeRegistry} (λ p. IsWritten d p.0 p.1) (Err e) → IfErr r (IsFaultOf d)
fault_told d e (Ok x) same p = tt
fault_told d e (Err f) same p = subst (IsFaultOf d) (sym same) (fault_of_written d e p)

-- ---- one result for a text

members_same : (bytes : List ℕ) (m n : ℕ) (ms ns : List SchemeRegistry) → Writes bytes m ms → Writes bytes n ns → ms ≡ ns
members_same bytes m n ms ns p q = members_one p.value m n ms ns p.written (subst (λ d. IsWritten d n ns) (same_value bytes q.value p.value q.reads p.reads) q.written)

writes_json : (bytes : List ℕ) (m : ℕ) (ms : List SchemeRegistry) → IsNoJson bytes → Writes bytes m ms → ⊥
writes_json bytes m ms none w = none w.value w.utf8 w.reads

outside_json : (bytes : List ℕ) → IsNoJson bytes → IsOutside bytes → ⊥
outside_json bytes none out = none out.1 out.0 out.2

writes_inside : (bytes : List ℕ) (m : ℕ) (ms : List SchemeRegistry) → IsOutside bytes → Writes bytes m ms → ⊥
writes_inside bytes m ms out w = out.3 m ms (subst (λ d. IsWritten d m ms) (same_value bytes w.value out.1 w.reads out.2) w.written)

-- the three causes of a fault
abbrev Cause : List ℕ → SchemeFault → Type 0
Cause bytes f = ((f ≡ NotJson) × IsNoJson bytes) ⊎ (((f ≡ Shape) × IsOutside bytes) ⊎ HasFault bytes f)

cause : (bytes : List ℕ) (f : SchemeFault) → IsFault bytes f → (f ≡ NoMemory → ⊥) → Cause bytes f
cause bytes NotJson p some = inl (refl, p)
cause bytes Shape p some = inr (inl (refl, p))
cause bytes TooMany p some = inr (inr p)
cause bytes TooFew p some = inr (inr p)
cause bytes CodeTwice p some = inr (inr p)
cause bytes AccountTwice p some = inr (inr p)
cause bytes UnknownAccount p some = inr (inr p)
cause bytes AllotmentOverlap p some = inr (inr p)
cause bytes NoMemory p some = absurd (some refl)

has_one : (bytes : List ℕ) (f g : SchemeFault) → HasFault bytes f → HasFault bytes g → f ≡ g
has_one bytes f g p q =
    one_first faults_in_order p.1 f g p.3 (subst (λ ms. IsFirst faults_in_order ms g) (members_same bytes q.0 p.0 q.1 p.1 q.2 p.2) q.3)

cause_one : (bytes : List ℕ) (f g : SchemeFault) → Cause bytes f → Cause bytes g → f ≡ g
cause_one bytes f g (inl p) (inl q) = p.0 ∙ sym q.0
cause_one bytes f g (inl p) (inr (inl q)) = absurd (outside_json bytes p.1 q.1)
cause_one bytes f g (inl p) (inr (inr q)) = absurd (writes_json bytes q.0 q.1 p.1 q.2)
cause_one bytes f g (inr (inl p)) (inl q) = absurd (outside_json bytes q.1 p.1)
cause_one bytes f g (inr (inl p)) (inr (inl q)) = p.0 ∙ sym q.0
cause_one bytes f g (inr (inl p)) (inr (inr q)) = absurd (writes_inside bytes q.0 q.1 p.1 q.2)
cause_one bytes f g (inr (inr p)) (inl q) = absurd (writes_json bytes p.0 p.1 q.1 p.2)
cause_one bytes f g (inr (inr p)) (inr (inl q)) = absurd (writes_inside bytes p.0 p.1 q.1 p.2)
cause_one bytes f g (inr (inr p)) (inr (inr q)) = has_one bytes f g p q

pub one_fault : (bytes : List ℕ) (f g : SchemeFault) → IsFault bytes f → IsFault bytes g → (f ≡ NoMemory → ⊥) → (g ≡ NoMemory → ⊥) → f ≡ g
one_fault bytes f g p q some other = cause_one bytes f g (cause bytes f p some) (cause bytes g q other)

sound_first : (bytes : List ℕ) (s : Scheme) (f : SchemeFault) → IsSchemeText bytes s → HasFault bytes f → ⊥
sound_first bytes s f text p =
    let free : AllByRecursion (λ g. IsFreeOf g text.listed) faults_in_order
    = each_weaker (λ g. IsFreeOf g s.members) (λ g. IsFreeOf g text.listed) (λ g h. free_moved g s.members text.listed (IsPermutation-sym text.listed s.members text.sorted) h) faults_in_order s.sound.free in
    not_first faults_in_order text.listed f free (subst (λ ms. IsFirst faults_in_order ms f) (members_same bytes p.0 s.records p.1 text.listed p.2 text.writes) p.3)

pub no_fault : (bytes : List ℕ) (s : Scheme) (f : SchemeFault) → IsSchemeText bytes s → IsFault bytes f → f ≡ NoMemory
no_fault bytes s NotJson text p = absurd (writes_json bytes s.records text.listed p text.writes)
no_fault bytes s Shape text p = absurd (writes_inside bytes s.records text.listed p text.writes)
no_fault bytes s TooMany text p = absurd (sound_first bytes s TooMany text p)
no_fault bytes s TooFew text p = absurd (sound_first bytes s TooFew text p)
no_fault bytes s CodeTwice text p = absurd (sound_first bytes s CodeTwice text p)
no_fault bytes s AccountTwice text p = absurd (sound_first bytes s AccountTwice text p)
no_fault bytes s UnknownAccount text p = absurd (sound_first bytes s UnknownAccount text p)
no_fault bytes s AllotmentOverlap text p = absurd (sound_first bytes s AllotmentOverlap text p)
no_fault bytes s NoMemory text p = refl
