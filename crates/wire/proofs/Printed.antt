-- The text that is printed for a message: it has the expected fields, and few bytes.
use Rattle.std.proofs.Common.{◌≡◌, ℕ, ◌+◌, ◌*◌, ◌^◌, ◌<◌, ◌≤◌, List, [], ◌∷◌, ◌++◌, length, Bool, true, false, cond, decimal, codes, refl, sym, subst, arith, length-append, lit≤, ltb, ◌/◌, ◌%◌}
use Rattle.std.proofs.lemmas.Fmt.{length-decimal-le}
use Rattle.std.specs.Char.{digit_char}
use Rattle.std.specs.List.{AllByRecursion}
use Rattle.std.specs.Prelude.{IsUtf8}
use Rattle.json.specs.Print.{escape_letter, escape_byte, escape, print, quoted}
use Rattle.json.specs.Lex.{tokens}
use Rattle.json.specs.Token.{Token}
use Rattle.serde_json.specs.Written.{compact_text, items_text, members_text, comma_if}
use Rattle.units.specs.Block.{kind_text, period_text, raw_text}
use Rattle.units.specs.Code.{code_text, node_text}
use Rattle.units.specs.Facts.{IsRange}
use Rattle.units.specs.declared.block.RawBlock.{RawBlock}
use Rattle.units.specs.declared.block.Kind.{Kind}
use Rattle.units.specs.declared.block.Kind.TheVariants.{Aau, Rmu, Eru, Cer, Tcer, Lcer}
use Rattle.units.specs.declared.block.Period.{Period}
use Rattle.units.specs.declared.block.Period.TheVariants.{First, Second}
use Rattle.units.specs.declared.code.Node.{Node}
use Rattle.units.specs.declared.code.Node.TheVariants.{Itl, Registry}
use Rattle.status.specs.Id.{id_text}
use Rattle.status.specs.Status.{status_text}
use Rattle.status.specs.declared.id.TransactionId.{TransactionId}
use Rattle.status.specs.declared.status.Status.{Status}
use Rattle.status.specs.declared.status.Status.TheVariants as status
use Rattle.wire.specs.Codes.{Ascends}
use Rattle.wire.specs.Messages.{fields_with, message_fields, message_data, message_text, IsSound, IsLine}
use Rattle.wire.specs.NotifiedStatuses.{notified_status, notified_codes, IsNotified, proposal_status}
use Rattle.wire.specs.Objects.{Field, HasExactly, object_of, members_of, whole_items, block_items}
use Rattle.json_fields.specs.Writing.{data_tokens}
use Rattle.wire.specs.declared.message.Body.{Body}
use Rattle.wire.specs.declared.message.Body.TheVariants.{Proposal, Notification, Request}
use Rattle.wire.specs.declared.message.Message.{Message}
use Rattle.wire.specs.declared.notified.NotifiedStatus.{NotifiedStatus}
use Rattle.wire.specs.declared.notified.NotifiedStatus.TheVariants.{Accepted, Rejected, Terminated, Cancelled, Completed}
use Rattle.wire.proofs.ReadBack.{message_back, message_shallow}
use Rattle.json_fields.proofs.Written.{printed, printed_reads}

-- ---- the expected fields

exact : (m : Message) (b : Body) → HasExactly (object_of (fields_with m b)) (fields_with m b)
exact m (Proposal p) = (refl, (refl, (refl, (refl, (refl, (refl, (refl, (refl, (refl, (refl, tt))))))))))
exact m (Notification n) = (refl, (refl, (refl, (refl, (refl, (refl, (refl, tt)))))))
exact m Request = (refl, (refl, (refl, (refl, (refl, tt)))))

pub message_exact : (m : Message) → HasExactly (message_data m) (message_fields m)
message_exact m = exact m m.body

-- ---- few bytes

either_short : (b : Bool) (x y : List ℕ) → length x ≤ 6 → length y ≤ 6 → length (cond b x y) ≤ 6
either_short true x y p q = p
either_short false x y p q = q

escape_byte_short : (x : ℕ) → length (escape_byte x) ≤ 6
unfolding escape_byte
escape_byte_short x =
    either_short (ltb 0 (escape_letter x)) (92 ∷ escape_letter x ∷ []) (cond (ltb x 32) (92 ∷ 117 ∷ 48 ∷ 48 ∷ digit_char (x / 16) ∷ digit_char (x % 16) ∷ []) (x ∷ [])) (omega arith)
    (either_short (ltb x 32) (92 ∷ 117 ∷ 48 ∷ 48 ∷ digit_char (x / 16) ∷ digit_char (x % 16) ∷ []) (x ∷ []) (omega arith) (omega arith))

escape_short : (s : List ℕ) → length (escape s) ≤ 6 * length s
escape_short [] = omega arith
escape_short (x ∷ s) = omega (arith, length-append (escape_byte x) (escape s), escape_byte_short x, escape_short s)

quoted_short : (s : List ℕ) → length (quoted s) ≤ 6 * length s + 2
quoted_short s = omega (arith, length-append (escape s) (34 ∷ []), escape_short s)

comma_short : (later : Bool) → length (comma_if later) ≤ 1
comma_short true = lit≤ tt
comma_short false = lit≤ tt

number_short : (n : ℕ) → n < 10 ^ 18 → length (decimal n) ≤ 18
number_short n lt = length-decimal-le 18 n (omega arith) lt (omega arith)

period_short : (p : Period) → length (period_text p) ≤ 1
period_short First = lit≤ tt
period_short Second = lit≤ tt

kind_short : (k : Kind) → length (kind_text k) ≤ 4
kind_short Aau = lit≤ tt
kind_short Rmu = lit≤ tt
kind_short Eru = lit≤ tt
kind_short Cer = lit≤ tt
kind_short Tcer = lit≤ tt
kind_short Lcer = lit≤ tt

block_short : (b : RawBlock) → IsRange b.first b.last → length (raw_text b) ≤ 47
block_short b is =
    let p = period_short b.period in
    let k = kind_short b.kind in
    let f = number_short b.first (omega arith) in
    let l = number_short b.last (omega arith) in
    simp length-append (omega arith)

blocks_short : (later : Bool) (bs : List RawBlock) → AllByRecursion (λ b. IsRange b.first b.last) bs → length (items_text later (block_items bs)) ≤ 285 * length bs + 1
blocks_short later [] are = omega arith
blocks_short later (b ∷ bs) are =
    let q = quoted_short (raw_text b) in
    let s = block_short b are.0 in
    let m = blocks_short true bs are.1 in
    let c = comma_short later in
    omega (arith, length-append (comma_if later) (quoted (raw_text b) ++ items_text true (block_items bs)), length-append (quoted (raw_text b)) (items_text true (block_items bs)))

-- the codes of a range are no more than its numbers
ascends_few : (first last : ℕ) (cs : List ℕ) → Ascends first last cs → first ≤ last + 1 → length cs + first ≤ last + 1
ascends_few first last [] are le = omega arith
ascends_few first last (c ∷ cs) are le = let here = are.0 in let rest = ascends_few (c + 1) last cs are.1 (omega arith) in omega arith

ascends_short : (later : Bool) (first last : ℕ) (cs : List ℕ) → Ascends first last cs → last < 1000 → length (items_text later (whole_items cs)) ≤ 19 * length cs + 1
ascends_short later first last [] are lt = omega arith
ascends_short later first last (c ∷ cs) are lt =
    let here = are.0 in
    let n = number_short c (omega arith) in
    let m = ascends_short true (c + 1) last cs are.1 lt in
    let k = comma_short later in
    omega (arith, length-append (comma_if later) (decimal c ++ items_text true (whole_items cs)), length-append (decimal c) (items_text true (whole_items cs)))

notified_short : (n : NotifiedStatus) → IsNotified n → length (items_text false (whole_items (notified_codes n))) ≤ 153
notified_short Accepted is = lit≤ tt
notified_short (Rejected cs) is = let f = ascends_few 301 304 cs is.1 (omega arith) in let s = ascends_short false 301 304 cs is.1 (omega arith) in omega arith
notified_short (Terminated cs) is = let f = ascends_few 201 208 cs is.1 (omega arith) in let s = ascends_short false 201 208 cs is.1 (omega arith) in omega arith
notified_short Cancelled is = lit≤ tt
notified_short Completed is = lit≤ tt

node_short : (n : Node) → length (node_text n) ≤ 3
node_short Itl = lit≤ tt
node_short (Registry c) = lit≤ tt

status_short : (s : Status) → length (status_text s) ≤ 10
status_short status.Proposed = lit≤ tt
status_short status.Checked = lit≤ tt
status_short status.Accepted = lit≤ tt
status_short status.Rejected = lit≤ tt
status_short status.Terminated = lit≤ tt
status_short status.Cancelled = lit≤ tt
status_short status.Completed = lit≤ tt

id_short : (t : TransactionId) → length (id_text t) ≤ 20
id_short t = let r = t.in_range in omega (arith, length-append (code_text t.code) (decimal t.number), number_short t.number (omega arith))

-- the most bytes that fields take: each key quoted, a colon, a comma, and the value
abbrev most : List Field → ℕ
most [] = 1
most (f ∷ fs) = (4 + 6 * length f.0 + length (compact_text f.1)) + most fs

members_short : (later : Bool) (fs : List Field) → length (members_text later (members_of fs)) ≤ most fs
members_short later [] = omega arith
members_short later (f ∷ fs) =
    let rest = members_text true (members_of fs) in
    let c = comma_short later in
    let q = quoted_short f.0 in
    let m = members_short true fs in
    omega (arith, length-append (comma_if later) (quoted f.0 ++ 58 ∷ (compact_text f.1 ++ rest)), length-append (quoted f.0) (58 ∷ (compact_text f.1 ++ rest)), length-append (compact_text f.1) rest)

object_short : (fs : List Field) (n : ℕ) → most fs ≤ n → length (compact_text (object_of fs)) ≤ n + 1
object_short fs n le = omega (arith, members_short false fs)

fields_short : (m : Message) (b : Body) → IsSound b → most (fields_with m b) ≤ 8191
fields_short m (Proposal p) is =
    let account = is.account in
    let to_account = is.to_account in
    let few = is.few_units in
    omega (
      arith,
      number_short p.content.account (omega arith),
      quoted_short (codes "AcceptProposal"),
      quoted_short (node_text m.from),
      node_short m.from,
      quoted_short (status_text (proposal_status p.status)),
      status_short (proposal_status p.status),
      quoted_short (node_text m.to),
      node_short m.to,
      number_short p.content.to_account (omega arith),
      quoted_short (code_text p.content.acquirer),
      quoted_short (id_text m.id),
      id_short m.id,
      blocks_short false p.content.units is.in_range,
    )
fields_short m (Notification n) is =
    omega (
      arith,
      quoted_short (codes "AcceptNotification"),
      notified_short n is,
      quoted_short (node_text m.from),
      node_short m.from,
      quoted_short (status_text (notified_status n)),
      status_short (notified_status n),
      quoted_short (node_text m.to),
      node_short m.to,
      quoted_short (id_text m.id),
      id_short m.id,
    )
fields_short m Request is =
    omega (
      arith,
      quoted_short (codes "RequestCancellation"),
      quoted_short (node_text m.from),
      node_short m.from,
      quoted_short (node_text m.to),
      node_short m.to,
      quoted_short (id_text m.id),
      id_short m.id,
    )

pub message_short : (m : Message) → IsSound m.body → length (message_text m) ≤ 8192
message_short m is = object_short (message_fields m) 8191 (fields_short m m.body is)

-- ---- the text, whole

pub line_of : (m : Message) (ts : List Token) (bytes : List ℕ) → ts ≡ data_tokens (message_data m) → IsSound m.body → bytes ≡ print ts → tokens (print ts) ≡ ts → IsUtf8 (print ts) → IsLine bytes m
line_of m ts bytes are sound text reads utf8 =
    record {
      short = subst (λ b. length b ≤ 8192) (sym (printed (message_data m) ts bytes are text)) (message_short m sound);
      utf8 = subst IsUtf8 (sym text) utf8;
      value = message_data m;
      reads = printed_reads (message_data m) ts bytes are text reads (omega (arith, message_shallow m)) (message_back m sound);
      writes = (message_exact m, sound);
    }
