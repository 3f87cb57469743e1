-- Conditions that a text that is no identifier doesn't meet.
use Rattle.std.proofs.Common.{◌≡◌, ℕ, List, take, drop, sym, ap, ◌∙◌, arith, subst, Option, Some, None, IfNone, Bool, true, false, true≢false, refl}
use Rattle.std.specs.Fmt.{decimal}
use Rattle.std.specs.Str.{IsCharBoundary}
use Rattle.std.proofs.lemmas.Str.{IsCharBoundary-from_drop, IsUtf8-from_ascii}
use Rattle.std.proofs.lemmas.Fmt.{IsAscii-decimal, decimal_injective}
use Rattle.units.proofs.OneText.{code_text_same}
use Rattle.units.proofs.Same.{code_of_same, same_code-refl}
use Rattle.units.specs.Code.{same_code}
use Rattle.units.specs.Limits.{last_transaction}
use Rattle.units.specs.Text.{IsNumberText}
use Rattle.status.specs.Facts.{IsTransactionNumber}
use Rattle.units.specs.declared.code.Code.{Code}
use Rattle.std.specs.Coded.{×_prop, le_prop}
use Rattle.std.specs.Prelude.{◌==◌}
use Rattle.std.proofs.lemmas.Bool.{le-leb, and_parts, and_from, eq-eqb, eqb-true}
use Rattle.status.specs.Id.{id_text, is_number, number_from, id_if, id_at, same_id}
use Rattle.status.specs.declared.id.TransactionId.{TransactionId}

-- after the code of an identifier a text can be cut
boundary : (t : TransactionId) → IsCharBoundary (id_text t) 2
boundary t = let range = t.in_range in IsCharBoundary-from_drop (id_text t) 2 (omega arith) (IsUtf8-from_ascii (decimal t.number) (IsAscii-decimal t.number (omega arith)))

pub no_boundary : (text : List ℕ) → (IsCharBoundary text 2 → ⊥) → (t : TransactionId) → text ≡ id_text t → ⊥
no_boundary text never t e = never (subst (λ s. IsCharBoundary s 2) (sym e) (boundary t))

-- the number that stands after the code
pub number_behind : (text rest : List ℕ) (n : ℕ) → rest ≡ drop 2 text → IsNumberText rest n → (t : TransactionId) → text ≡ id_text t → n ≡ t.number
number_behind text rest n behind is t e =
    let range = t.in_range in
    let same : decimal n ≡ decimal t.number = sym is.0 ∙ behind ∙ ap (drop 2) e in
    let small = is.1 in
    decimal_injective n t.number (omega arith) (omega arith) same

pub no_such : (o : Option TransactionId) (text : List ℕ) (n : ℕ) → ((t : TransactionId) → text ≡ id_text t → n ≡ t.number) → IfNone o (IsTransactionNumber n → ⊥)
    → IfNone o ((t : TransactionId) → text ≡ id_text t → ⊥)
no_such (Some t) text n same h = tt
no_such None text n same h = λ t e. h (subst IsTransactionNumber (sym (same t e)) t.in_range)

-- an identifier has one proof of its range
one_range : (n : ℕ) → IsProp (IsTransactionNumber n)
one_range n = ×_prop le_prop le_prop

abbrev id : (c : Code) (n : ℕ) → IsTransactionNumber n → TransactionId
id c n h = record { code = c; number = n; in_range = h }

in_test : (t : TransactionId) → is_number t.number ≡ true
in_test t = let range = t.in_range in rw (le-leb 1 t.number range.0, le-leb t.number last_transaction range.1) refl

id_if-some : (t : TransactionId) (b : Bool) (e : is_number t.number ≡ b) → id_if t.code t.number b e ≡ Some t
id_if-some t true e = ap (λ h. Some (id t.code t.number h)) (one_range t.number (number_from t.number e) t.in_range)
id_if-some t false e = absurd (true≢false (sym (in_test t) ∙ e))

-- `id_at` gives every identifier back
pub id_at-some : (t : TransactionId) → id_at t.code t.number ≡ Some t
id_at-some t = id_if-some t (is_number t.number) refl

-- a text writes one identifier at most
pub id_text_same : (t u : TransactionId) → id_text t ≡ id_text u → t ≡ u
id_text_same t u e =
    let range = t.in_range in
    let others = u.in_range in
    let origins : t.code ≡ u.code = code_text_same t.code u.code (ap (take 2) e) in
    let texts : decimal t.number ≡ decimal u.number = ap (drop 2) e in
    let numbers : t.number ≡ u.number = decimal_injective t.number u.number (omega (arith, range)) (omega (arith, others)) texts in
    let one : Some t ≡ Some u = sym (id_at-some t) ∙ ap (λ c. id_at c t.number) origins ∙ ap (id_at u.code) numbers ∙ id_at-some u in
    cc (one)

-- the identifier of a code has that code
id_if-code : (c : Code) (n : ℕ) (b : Bool) (e : is_number n ≡ b) (t : TransactionId) → id_if c n b e ≡ Some t → t.code ≡ c
id_if-code c n true e t h = let same : Some (id c n (number_from n e)) ≡ Some t = h in let one : id c n (number_from n e) ≡ t = cc (same) in sym (ap (λ (u : TransactionId). u.code) one)
id_if-code c n false e t h = absurd (cc (h))

pub id_at-code : (c : Code) (n : ℕ) (t : TransactionId) → id_at c n ≡ Some t → t.code ≡ c
id_at-code c n t h = id_if-code c n (is_number n) refl t h

-- and has that number
id_if-number : (c : Code) (n : ℕ) (b : Bool) (e : is_number n ≡ b) (t : TransactionId) → id_if c n b e ≡ Some t → t.number ≡ n
id_if-number c n true e t h = let same : Some (id c n (number_from n e)) ≡ Some t = h in let one : id c n (number_from n e) ≡ t = cc (same) in sym (ap (λ (u : TransactionId). u.number) one)
id_if-number c n false e t h = absurd (cc (h))

pub id_at-number : (c : Code) (n : ℕ) (t : TransactionId) → id_at c n ≡ Some t → t.number ≡ n
id_at-number c n t h = id_if-number c n (is_number n) refl t h

-- ---- the test of sameness

pub id_of_same : (a b : TransactionId) → same_id a b ≡ true → a ≡ b
id_of_same a b e =
    let h = and_parts (same_code a.code b.code) (a.number == b.number) e in
    let codes = code_of_same a.code b.code h.0 in
    let numbers = eqb-true a.number b.number h.1 in
    let one : Some a ≡ Some b = sym (id_at-some a) ∙ ap (λ c. id_at c a.number) codes ∙ ap (id_at b.code) numbers ∙ id_at-some b in
    cc (one)

pub same_id-refl : (a : TransactionId) → same_id a a ≡ true
same_id-refl a = and_from (same_code a.code a.code) (a.number == a.number) (same_code-refl a.code) (eq-eqb a.number a.number refl)
