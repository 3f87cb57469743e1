-- Replies and the objects that write them: the two parts of an object, one reply for each value, and the texts read
-- back.
use Rattle.std.proofs.Common.{◌≡◌, ℕ, ◌+◌, ◌/◌, ◌%◌, ◌≤◌, zero, suc, List, [], ◌∷◌, ◌++◌, length, decimal, Bool, true, false, not, codes, Option, Some, refl, sym, ap, subst, ◌∙◌, arith}
use Rattle.std.specs.Coded.{×_prop, le_prop}
use Rattle.std.proofs.lemmas.Slice.Eq.{bytes_eq-Decides}
use Rattle.std.proofs.lemmas.Fmt.{decimal_step, decimal_digit}
use Rattle.std.proofs.lemmas.Str.{IsUtf8-from_ascii}
use Rattle.std.specs.Prelude.{bytes_eq, nat_le, nat_lt}
use Rattle.std.specs.Str.{IsAscii}
use Rattle.std.specs.List.{list_all}
use Rattle.std.specs.Fmt.{digits}
use Rattle.std.proofs.lemmas.Bool.{and_parts, leb-true, ltb-true}
use Rattle.std.proofs.lemmas.Bool.Decides.{nat_tests}
use Rattle.serde_json.specs.Data.{Data, string}
use Rattle.serde_json.specs.Read.{read}
use Rattle.serde_json.proofs.OnLiterals.{serde_json_on_literals}
use Rattle.json_fields.specs.Fields.{HasKeys, HasAt, text_at, number_at}
use Rattle.json_fields.proofs.OneAtKey.{whole_once, string_at, whole_at}
use Rattle.wire.specs.Objects.{HasExactly, object_of, whole}
use Rattle.wire.specs.Replies.{reply_fields, reply_text, IsReply}
use Rattle.wire.specs.declared.reply.Reply.{Reply}
use Rattle.wire.specs.declared.reply.Reply.TheVariants.{Received, Refused}
use Rattle.wire.specs.declared.reply_code.ReplyCode.{ReplyCode}

-- ---- the parts of an object

pub is_received : (d : Data) (s : List ℕ) (n : ℕ) → HasKeys d 2 → number_at (codes "code") d ≡ Some n → text_at (codes "result") d ≡ Some s → n ≡ 0 → bytes_eq s (codes "received") ≡ true
    → HasExactly d (reply_fields Received)
is_received d s n keys code result none same = (
  keys,
  (
    subst (λ k. HasAt d (codes "code") (whole k)) none (whole_at d (codes "code") n (sym code)),
    (subst (λ t. HasAt d (codes "result") (string t)) ((bytes_eq-Decides s (codes "received")).0 same) (string_at d (codes "result") s (sym result)), tt),
  ),
)

not_other : (b : Bool) → not b ≡ false → b ≡ true
not_other true e = refl
not_other false e = cc

pub is_refused : (d : Data) (s : List ℕ) (n : ℕ) (c : ReplyCode) → HasKeys d 2 → number_at (codes "code") d ≡ Some n → text_at (codes "result") d ≡ Some s → c.number ≡ n
    → not (bytes_eq s (codes "refused")) ≡ false → HasExactly d (reply_fields (Refused c))
is_refused d s n c keys code result told same = (
  keys,
  (
    subst (λ k. HasAt d (codes "code") (whole k)) (sym told) (whole_at d (codes "code") n (sym code)),
    (subst (λ t. HasAt d (codes "result") (string t)) ((bytes_eq-Decides s (codes "refused")).0 (not_other (bytes_eq s (codes "refused")) same)) (string_at d (codes "result") s (sym result)), tt),
  ),
)

-- ---- one reply for each value

one_range : (n : ℕ) → IsProp ((41 ≤ n) × (n ≤ 50))
one_range n = ×_prop le_prop le_prop

abbrev code_of : (n : ℕ) → (41 ≤ n) × (n ≤ 50) → ReplyCode
code_of n h = record { number = n; in_range = h }

same_code : (m n : ℕ) → m ≡ n → (g : (41 ≤ m) × (m ≤ 50)) (h : (41 ≤ n) × (n ≤ 50)) → code_of m g ≡ code_of n h
same_code m n e = subst (λ k. (g : (41 ≤ m) × (m ≤ 50)) (h : (41 ≤ k) × (k ≤ 50)) → code_of m g ≡ code_of k h) e (λ g h. ap (code_of m) (one_range m g h))

-- a code is its number
pub codes_alike : (a b : ReplyCode) → a.number ≡ b.number → a ≡ b
codes_alike a b e = same_code a.number b.number e a.in_range b.in_range

one_written : (d : Data) (r s : Reply) → HasExactly d (reply_fields r) → HasExactly d (reply_fields s) → r ≡ s
one_written d Received Received p q = refl
one_written d Received (Refused c) p q =
    let e = whole_once d (codes "code") 0 c.number p.1.0 q.1.0 in let range = c.in_range in absurd (omega arith)
one_written d (Refused c) Received p q =
    let e = whole_once d (codes "code") c.number 0 p.1.0 q.1.0 in let range = c.in_range in absurd (omega arith)
one_written d (Refused a) (Refused b) p q = ap (λ (c : ReplyCode). Refused c) (codes_alike a b (whole_once d (codes "code") a.number b.number p.1.0 q.1.0))

same_value : (o : Option Data) (d e : Data) → o ≡ Some d → o ≡ Some e → d ≡ e
same_value o d e p q = cc

-- a line writes one reply at most
pub one : (line : List ℕ) (r s : Reply) → IsReply line r → IsReply line s → r ≡ s
one line r s p q = one_written q.value r s (subst (λ d. HasExactly d (reply_fields r)) (same_value (read line) p.value q.value p.reads q.reads) p.writes) q.writes

-- ---- the texts

two_digits : (n : ℕ) → 41 ≤ n → n ≤ 50 → decimal n ≡ (48 + n / 10) ∷ (48 + n % 10) ∷ []
two_digits n low high = decimal_step n (omega arith) (omega arith) ∙ ap (λ (t : List ℕ). t ++ (48 + n % 10) ∷ []) (decimal_digit (n / 10) (omega arith))

-- the text around the digits of a number
abbrev around : List ℕ → List ℕ
around ds = codes "{\"code\":" ++ ds ++ codes ",\"result\":\"refused\"}"

pub text_received : codes "{\"code\":0,\"result\":\"received\"}" ≡ reply_text Received
unfolding digits serde_json_on_literals
text_received = refl

text_around : (c : ReplyCode) → around (decimal c.number) ≡ reply_text (Refused c)
unfolding serde_json_on_literals
text_around c = refl

pub text_refused : (c : ReplyCode) → around ((48 + c.number / 10) ∷ (48 + c.number % 10) ∷ []) ≡ reply_text (Refused c)
text_refused c = ap around (sym (two_digits c.number c.in_range.0 c.in_range.1)) ∙ text_around c

-- ---- the texts read back

ascii : (text : List ℕ) → list_all (λ b. nat_lt b 128) text ≡ true → IsAscii text
ascii [] e i = omega arith
ascii (b ∷ bs) e zero = ltb-true b 128 (and_parts (nat_lt b 128) (list_all (λ c. nat_lt c 128) bs) e).0
ascii (b ∷ bs) e (suc i) = ascii bs (and_parts (nat_lt b 128) (list_all (λ c. nat_lt c 128) bs) e).1 i

-- a text of ASCII that is read as this object
abbrev Reads : List ℕ → Data → Type 0
Reads text d = (length text ≡ 30) × (list_all (λ b. nat_lt b 128) text ≡ true) × (read text ≡ Some d)

abbrev refused_data : ℕ → Data
refused_data n = object_of ((codes "code", whole n) ∷ (codes "result", string (codes "refused")) ∷ [])

abbrev ReadsNumber : ℕ → Type 0
ReadsNumber n = Reads (around ((48 + n / 10) ∷ (48 + n % 10) ∷ [])) (refused_data n)

received : Reads (codes "{\"code\":0,\"result\":\"received\"}") (object_of (reply_fields Received))
unfolding serde_json_on_literals
received = (refl, refl, refl)

n41 : ReadsNumber 41
unfolding serde_json_on_literals
n41 = (refl, refl, refl)

n42 : ReadsNumber 42
unfolding serde_json_on_literals
n42 = (refl, refl, refl)

n43 : ReadsNumber 43
unfolding serde_json_on_literals
n43 = (refl, refl, refl)

n44 : ReadsNumber 44
unfolding serde_json_on_literals
n44 = (refl, refl, refl)

n45 : ReadsNumber 45
unfolding serde_json_on_literals
n45 = (refl, refl, refl)

n46 : ReadsNumber 46
unfolding serde_json_on_literals
n46 = (refl, refl, refl)

n47 : ReadsNumber 47
unfolding serde_json_on_literals
n47 = (refl, refl, refl)

n48 : ReadsNumber 48
unfolding serde_json_on_literals
n48 = (refl, refl, refl)

n49 : ReadsNumber 49
unfolding serde_json_on_literals
n49 = (refl, refl, refl)

n50 : ReadsNumber 50
unfolding serde_json_on_literals
n50 = (refl, refl, refl)

test_from : (P : ℕ → Type 0) (low n : ℕ) (b : Bool) → nat_le (low + 1) n ≡ b → low ≤ n → P low → (low + 1 ≤ n → P n) → P n
test_from P low n true e le here above = above (leb-true (low + 1) n e)
test_from P low n false e le here above = let same : low ≡ n = grind (arith, nat_tests) in subst P same here

-- at a number, or above it
from : (P : ℕ → Type 0) (low n : ℕ) → P low → (low + 1 ≤ n → P n) → low ≤ n → P n
from P low n here above le = test_from P low n (nat_le (low + 1) n) refl le here above

each_number : (P : ℕ → Type 0) (n : ℕ) → n ≤ 50 → P 41 → P 42 → P 43 → P 44 → P 45 → P 46 → P 47 → P 48 → P 49 → P 50 → 41 ≤ n → P n
each_number P n most a b c d e f g h i j =
    from P 41 n a (from P 42 n b (from P 43 n c (from P 44 n d (from P 45 n e (from P 46 n f (from P 47 n g (from P 48 n h (from P 49 n i (from P 50 n j (λ over. absurd (omega arith)))))))))))

number_read : (c : ReplyCode) → ReadsNumber c.number
number_read c = each_number ReadsNumber c.number c.in_range.1 n41 n42 n43 n44 n45 n46 n47 n48 n49 n50 c.in_range.0

all_read : (r : Reply) → Reads (reply_text r) (object_of (reply_fields r))
all_read Received = subst (λ text. Reads text (object_of (reply_fields Received))) text_received received
all_read (Refused c) = subst (λ text. Reads text (refused_data c.number)) (text_refused c) (number_read c)

has_fields : (r : Reply) → HasExactly (object_of (reply_fields r)) (reply_fields r)
has_fields Received = (refl, (refl, (refl, tt)))
has_fields (Refused c) = (refl, (refl, (refl, tt)))

-- the text of a reply is read as that reply
pub written : (r : Reply) → IsReply (reply_text r) r
written r =
    let h = all_read r in
    record { short = subst (λ n. n ≤ 8192) (sym h.0) (omega arith); utf8 = IsUtf8-from_ascii (reply_text r) (ascii (reply_text r) h.1); value = object_of (reply_fields r); reads = h.2; writes = has_fields r }
