-- A value writes at most one input, in one format alone, and its word says of which kind the input is.
use Rattle.std.proofs.Common.{◌≡◌, ℕ, ◌+◌, ◌<◌, ◌≤◌, ◌^◌, List, Bool, true, false, true≢false, bytes_eq, codes, Option, Some, refl, sym, ap, subst, ◌∙◌, arith}
use Rattle.std.proofs.Math.Bridge.{le_prop}
use mathlib.Core.HLevel.{is_prop→PathP}
use Rattle.serde_json.specs.Data.{Data, string, boolean}
use Rattle.json_fields.specs.Fields.{HasAt}
use Rattle.units.specs.Code.{code_text}
use Rattle.units.specs.declared.code.Code.{Code}
use Rattle.units.proofs.OneText.{code_text_same}
use Rattle.units.specs.Limits.{last_moment}
use Rattle.status.specs.Order.{Order}
use Rattle.status.specs.declared.id.TransactionId.{TransactionId}
use Rattle.status.specs.declared.moment.Moment.{Moment}
use Rattle.wire.specs.Messages.{IsMessage}
use Rattle.wire.specs.Objects.{whole}
use Rattle.wire.specs.Reading.{HasMessage, IsAccountOrder}
use Rattle.wire.specs.Records.{AreUnitsWithin, IsRecord, IsRecordText}
use Rattle.wire.specs.declared.input.Input.{Input}
use Rattle.wire.specs.declared.input.Input.TheVariants.{Propose, Request, OpenAccount, CloseAccount, Ack, CleanUp, Eligible, Received}
use Rattle.wire.specs.declared.input.Number.{Number}
use Rattle.wire.specs.declared.message.Message.{Message}
use Rattle.wire.specs.declared.record_format.RecordFormat.{RecordFormat}
use Rattle.wire.specs.declared.record_format.RecordFormat.TheVariants.{One, Two}
use Rattle.wire.proofs.OneMessage.{message_once, id_once}
use Rattle.json_fields.proofs.OneAtKey.{at_once, whole_once, text_once}
use Rattle.wire.proofs.Told.{blocks_once}

-- ---- the word of an input

input_word : Input → List ℕ
input_word (Propose o) = codes "propose"
input_word (Request t) = codes "request"
input_word (OpenAccount n) = codes "open"
input_word (CloseAccount n) = codes "close"
input_word (Ack n) = codes "ack"
input_word (CleanUp t) = codes "clean_up"
input_word (Eligible c may) = codes "eligible"
input_word (Received m t) = codes "received"

word_at : (f : RecordFormat) (d : Data) (i : Input) → IsRecord f d i → HasAt d (codes "input") (string (input_word i))
unfolding input_word
word_at f d (Propose o) is = is.0.1.1.0
word_at f d (Request t) is = is.1.0
word_at f d (OpenAccount n) is = is.1.1.0
word_at f d (CloseAccount n) is = is.1.1.0
word_at f d (Ack n) is = is.1.0
word_at f d (CleanUp t) is = is.1.0
word_at f d (Eligible c may) is = is.1.0
word_at f d (Received m t) is = is.1.1.0

word_is : (f : RecordFormat) (d : Data) (word : List ℕ) (i : Input) → HasAt d (codes "input") (string word) → IsRecord f d i → word ≡ input_word i
word_is f d word i at is = text_once d (codes "input") word (input_word i) at (word_at f d i is)

-- two words
clash : {X : Type 0} {s t : List ℕ} → s ≡ t → bytes_eq s s ≡ true → bytes_eq s t ≡ false → X
clash {s = s} e same other = absurd (true≢false (sym (subst (λ x. bytes_eq s x ≡ true) e same) ∙ other))

-- an input with that word is an eligibility order
pub eligible_word : (f : RecordFormat) (d : Data) → HasAt d (codes "input") (string (codes "eligible")) → (i : Input) → IsRecord f d i → (p : Code × Bool) × IsRecord f d (Eligible p.0 p.1)
unfolding input_word
eligible_word f d at (Eligible c may) is = ((c, may), is)
eligible_word f d at i is = clash (word_is f d (codes "eligible") i at is) refl refl

-- an input with that word is a message received
pub received_word : (f : RecordFormat) (d : Data) → HasAt d (codes "input") (string (codes "received")) → (i : Input) → IsRecord f d i → (p : Message × Moment) × IsRecord f d (Received p.0 p.1)
unfolding input_word
received_word f d at (Received m t) is = ((m, t), is)
received_word f d at i is = clash (word_is f d (codes "received") i at is) refl refl

-- an input with the word of an order to open an account is such an order
pub open_word : (f : RecordFormat) (d : Data) → HasAt d (codes "input") (string (codes "open")) → (i : Input) → IsRecord f d i → (n : Number) × IsAccountOrder f d (codes "open") n
unfolding input_word
open_word f d at (OpenAccount n) is = (n, is)
open_word f d at i is = clash (word_is f d (codes "open") i at is) refl refl

-- and so are the inputs with the other words
pub close_word : (f : RecordFormat) (d : Data) → HasAt d (codes "input") (string (codes "close")) → (i : Input) → IsRecord f d i → (n : Number) × IsAccountOrder f d (codes "close") n
unfolding input_word
close_word f d at (CloseAccount n) is = (n, is)
close_word f d at i is = clash (word_is f d (codes "close") i at is) refl refl

pub ack_word : (f : RecordFormat) (d : Data) → HasAt d (codes "input") (string (codes "ack")) → (i : Input) → IsRecord f d i → (n : Number) × IsRecord f d (Ack n)
unfolding input_word
ack_word f d at (Ack n) is = (n, is)
ack_word f d at i is = clash (word_is f d (codes "ack") i at is) refl refl

pub clean_up_word : (f : RecordFormat) (d : Data) → HasAt d (codes "input") (string (codes "clean_up")) → (i : Input) → IsRecord f d i → (t : Moment) × IsRecord f d (CleanUp t)
unfolding input_word
clean_up_word f d at (CleanUp t) is = (t, is)
clean_up_word f d at i is = clash (word_is f d (codes "clean_up") i at is) refl refl

pub request_word : (f : RecordFormat) (d : Data) → HasAt d (codes "input") (string (codes "request")) → (i : Input) → IsRecord f d i → (t : TransactionId) × IsRecord f d (Request t)
unfolding input_word
request_word f d at (Request t) is = (t, is)
request_word f d at i is = clash (word_is f d (codes "request") i at is) refl refl

-- ---- one input

pub number_same : (m n : Number) → m.value ≡ n.value → m ≡ n
number_same m n e = λ i. record { value = e i; short = is_prop→PathP (λ j. e j < 10 ^ 18) (λ j. hlevel le_prop) m.short n.short i }

pub moment_same : (t u : Moment) → t.seconds ≡ u.seconds → t ≡ u
moment_same t u e = λ i. record { seconds = e i; in_range = is_prop→PathP (λ j. e j ≤ last_moment) (λ j. hlevel le_prop) t.in_range u.in_range i }

number_once : (d : Data) (key : List ℕ) (m n : Number) → HasAt d key (whole m.value) → HasAt d key (whole n.value) → m ≡ n
number_once d key m n p q = number_same m n (whole_once d key m.value n.value p q)

moment_once : (d : Data) (key : List ℕ) (t u : Moment) → HasAt d key (whole t.seconds) → HasAt d key (whole u.seconds) → t ≡ u
moment_once d key t u p q = moment_same t u (whole_once d key t.seconds u.seconds p q)

code_once : (d : Data) (key : List ℕ) (a b : Code) → HasAt d key (string (code_text a)) → HasAt d key (string (code_text b)) → a ≡ b
code_once d key a b p q = code_text_same a b (text_once d key (code_text a) (code_text b) p q)

order_once : (f : RecordFormat) (d : Data) (a b : Order) → IsRecord f d (Propose a) → IsRecord f d (Propose b) → a ≡ b
order_once f d a b h k =
    let p = h.0.1 in
    let q = k.0.1 in
    let accounts = whole_once d (codes "account") a.account b.account p.0 q.0 in
    let others = whole_once d (codes "to_account") a.to_account b.to_account p.1.1.0 q.1.1.0 in
    let registries = code_once d (codes "to_registry") a.acquirer b.acquirer p.1.1.1.0 q.1.1.1.0 in
    let lists = blocks_once d (codes "units") a.units b.units h.1.units k.1.units p.1.1.1.1.0 q.1.1.1.1.0 in
    λ i. record { account = accounts i; acquirer = registries i; to_account = others i; units = lists i }

-- one message at the key
inner_once : (d : Data) (x y : Data) (m n : Message) → HasAt d (codes "message") x → HasAt d (codes "message") y → IsMessage x m → IsMessage y n → m ≡ n
inner_once d x y m n p q is other = message_once x m n is (subst (λ z. IsMessage z n) (at_once d (codes "message") y x q p) other)

received_once : (f : RecordFormat) (d : Data) (m n : Message) (t u : Moment) → IsRecord f d (Received m t) → IsRecord f d (Received n u) → Received m t ≡ Received n u
received_once f d m n t u h k =
    let messages = inner_once d h.0 k.0 m n h.1.1.1.0 k.1.1.1.0 h.2 k.2 in
    let moments = moment_once d (codes "moment") t u h.1.1.1.1.0 k.1.1.1.1.0 in
    λ i. Received (messages i) (moments i)

-- if the one message at the key has units beyond the format, there is none
pub none_within : (f : RecordFormat) (d inner : Data) (m : Message) → HasAt d (codes "message") inner → IsMessage inner m → (AreUnitsWithin f m.body → ⊥) → (n : Message) → HasMessage f d n → ⊥
none_within f d inner m at is beyond n h = beyond (subst (λ (x : Message). AreUnitsWithin f x.body) (sym (inner_once d inner h.0 m n at h.1 is h.2)) h.3)

words : (f : RecordFormat) (d : Data) (i j : Input) → IsRecord f d i → IsRecord f d j → input_word i ≡ input_word j
words f d i j p q = word_is f d (input_word i) j (word_at f d i p) q

-- a value writes one input
pub input_once : (f : RecordFormat) (d : Data) (i j : Input) → IsRecord f d i → IsRecord f d j → i ≡ j
unfolding input_word
input_once f d (Propose a) (Propose b) p q = ap (λ (x : Order). Propose x) (order_once f d a b p q)
input_once f d (Request x) (Request y) p q = ap (λ (t : TransactionId). Request t) (id_once d (codes "transaction") x y p.1.1.0 q.1.1.0)
input_once f d (OpenAccount m) (OpenAccount n) p q = ap (λ (x : Number). OpenAccount x) (number_once d (codes "account") m n p.1.0 q.1.0)
input_once f d (CloseAccount m) (CloseAccount n) p q = ap (λ (x : Number). CloseAccount x) (number_once d (codes "account") m n p.1.0 q.1.0)
input_once f d (Ack m) (Ack n) p q = ap (λ (x : Number). Ack x) (number_once d (codes "key") m n p.1.1.0 q.1.1.0)
input_once f d (CleanUp t) (CleanUp u) p q = ap (λ (x : Moment). CleanUp x) (moment_once d (codes "moment") t u p.1.1.0 q.1.1.0)
input_once f d (Eligible c may) (Eligible k can) p q = let registries = code_once d (codes "registry") c k p.1.1.1.0 q.1.1.1.0 in let truths = at_once d (codes "may") (boolean may) (boolean can) p.1.1.0 q.1.1.0 in let answers : may ≡ can = cc (truths) in λ i. Eligible (registries i) (answers i)
input_once f d (Received m t) (Received n u) p q = received_once f d m n t u p q
input_once f d i j p q = clash (words f d i j p q) refl refl

pub text_of_one : (f : RecordFormat) (text : List ℕ) (i j : Input) → IsRecordText f text i → IsRecordText f text j → i ≡ j
text_of_one f text i j p q =
    let e : Some q.value ≡ Some p.value = sym q.reads ∙ p.reads in
    let same : q.value ≡ p.value = cc (e) in
    input_once f p.value i j p.writes (subst (λ d. IsRecord f d j) same q.writes)

-- ---- two formats

one_more : (n : ℕ) (o : Option ℕ) → o ≡ Some n → o ≡ Some (n + 1) → ⊥
one_more n o p q = let e : Some n ≡ Some (n + 1) = sym p ∙ q in let same : n ≡ n + 1 = cc (e) in omega (arith, same)

-- no value is a record of both
formats_apart : (d : Data) (i j : Input) → IsRecord One d i → IsRecord Two d j → ⊥
unfolding input_word
formats_apart d (Propose a) (Propose b) p q = one_more 5 _ p.0.0 q.0.0
formats_apart d (Request x) (Request y) p q = one_more 2 _ p.0 q.0
formats_apart d (OpenAccount m) (OpenAccount n) p q = one_more 2 _ p.0 q.0
formats_apart d (CloseAccount m) (CloseAccount n) p q = one_more 2 _ p.0 q.0
formats_apart d (Ack m) (Ack n) p q = one_more 2 _ p.0 q.0
formats_apart d (CleanUp t) (CleanUp u) p q = one_more 2 _ p.0 q.0
formats_apart d (Eligible c may) (Eligible k can) p q = one_more 3 _ p.0 q.0
formats_apart d (Received m t) (Received n u) p q = one_more 3 _ p.1.0 q.1.0
formats_apart d i j p q = clash (word_is Two d (input_word i) j (word_at One d i p) q) refl refl

pub texts_apart : (text : List ℕ) (i j : Input) → IsRecordText One text i → IsRecordText Two text j → ⊥
texts_apart text i j p q =
    let e : Some q.value ≡ Some p.value = sym q.reads ∙ p.reads in
    let same : q.value ≡ p.value = cc (e) in
    formats_apart p.value i j p.writes (subst (λ d. IsRecord Two d j) same q.writes)
