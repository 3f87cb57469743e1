-- The effects of records by the tables of an outbox: all messages, one record more, the first records, the last record
-- taken back.
use Rattle.std.proofs.Common.{◌≡◌, ℕ, zero, suc, ◌+◌, ◌-◌, ◌<◌, ◌≤◌, ◌||◌, Bool, true, false, List, [], ◌∷◌, ◌++◌, take, drop, length, Option, Some, None, refl, sym, ap, subst, ◌∙◌, arith, length-drop, length-append, append-nil, take-append-drop, zero-add}
use Rattle.std.proofs.lemmas.Bool.{true≢false, eqb-true}
use Rattle.std.specs.List.{slice_get}
use Rattle.std.specs.Option.{option_map_or}
use Rattle.std.proofs.lemmas.List.{length-take-le, take-append-le, take_all}
use Rattle.std.proofs.Math.Seq.{take-append_seam}
use Rattle.wire.specs.declared.message.Message.{Message}
use Rattle.records.specs.Kept.{act, sent_in, AreCounts, IsSentBefore}
use Rattle.records.specs.Totals.{total}
use Rattle.records.specs.Sending.{Sent, sent_by_one, messages, acknowledges_key, is_key_acknowledged}
use Rattle.records.specs.declared.record.Record.{Record}

-- counts never go down
pub counts_up : (before : ℕ) (rs : List Record) (all : ℕ) → AreCounts before rs all → before ≤ all
counts_up before [] all h = omega arith
counts_up before (r ∷ rs) all h = let up = counts_up r.sends rs all h.2 in let first = h.0 in omega arith

empty : (ms : List Message) → length ms ≡ 0 → ms ≡ []
empty [] e = refl
empty (m ∷ ms) e = absurd (omega arith)

none_left : (before : ℕ) (ms : List Message) → before ≡ before + length ms → ms ≡ []
none_left before ms e = empty ms (omega arith)

act_sends : (a : Option ℕ) (before sends : ℕ) (ms : List Message) → IsSentBefore a before sends → sent_by_one (act a (take (sends - before) ms)) ≡ take (sends - before) ms
act_sends None before sends ms h = refl
act_sends (Some key) before sends ms h = let same : sends ≡ before = h.0 in let none : sends - before ≡ 0 = omega arith in subst (λ (n : ℕ). [] ≡ take n ms) (sym none) refl

-- the first record has its part of the messages, and the others count the rest
record Part (before : ℕ) (r : Record) (rs : List Record) (ms : List Message) : Type 0 where
  within : r.sends - before ≤ length ms
  ends : before + (r.sends - before) ≡ r.sends
  sent : sent_by_one (act r.acknowledges (take (r.sends - before) ms)) ≡ take (r.sends - before) ms
  rest : AreCounts r.sends rs (r.sends + length (drop (r.sends - before) ms))

part : (before : ℕ) (r : Record) (rs : List Record) (ms : List Message) → AreCounts before (r ∷ rs) (before + length ms) → Part before r rs ms
part before r rs ms h =
    let first : before ≤ r.sends = h.0 in
    let up : r.sends ≤ before + length ms = counts_up r.sends rs (before + length ms) h.2 in
    let d = r.sends - before in
    let left : before + length ms ≡ r.sends + length (drop d ms) = omega (arith, length-drop d ms) in
    record {
      within = omega arith;
      ends = omega arith;
      sent = act_sends r.acknowledges before r.sends ms h.1;
      rest = subst (AreCounts r.sends rs) left h.2;
    }

-- together they send all messages
pub messages_in : (before : ℕ) (rs : List Record) (ms : List Message) → AreCounts before rs (before + length ms) → messages (sent_in before rs ms) ≡ ms
messages_in before [] ms h = sym (none_left before ms h)
messages_in before (r ∷ rs) ms h =
    let p = part before r rs ms h in
    let d = r.sends - before in
    ap (λ (l : List Message). l ++ messages (sent_in r.sends rs (drop d ms))) p.sent
    ∙ ap (λ (l : List Message). take d ms ++ l) (messages_in r.sends rs (drop d ms) p.rest)
    ∙ take-append-drop d ms

pub length_sent_in : (before : ℕ) (rs : List Record) (ms : List Message) → length (sent_in before rs ms) ≡ length rs
length_sent_in before [] ms = refl
length_sent_in before (r ∷ rs) ms = ap suc (length_sent_in r.sends rs (drop (r.sends - before) ms))

take_whole : (ms : List Message) (n : ℕ) → n ≡ length ms → take n ms ≡ ms
take_whole ms n e = take_all n ms (omega arith)

drop_append : (n : ℕ) (xs ys : List Message) → n ≤ length xs → drop n (xs ++ ys) ≡ drop n xs ++ ys
drop_append zero xs ys h = refl
drop_append (suc n) [] ys h = absurd (omega arith)
drop_append (suc n) (x ∷ xs) ys h = drop_append n xs ys (omega arith)

-- one record more, which comes with these messages
pub sent_in_snoc : (before : ℕ) (rs : List Record) (r : Record) (ms new : List Message) → AreCounts before rs (before + length ms) → r.sends ≡ before + length ms + length new
    → sent_in before (rs ++ r ∷ []) (ms ++ new) ≡ sent_in before rs ms ++ act r.acknowledges new ∷ []
sent_in_snoc before [] r ms new h sends =
    let none : ms ≡ [] = none_left before ms h in
    let count : r.sends - before ≡ length new = let e : length ms ≡ 0 = ap length none in omega arith in
    ap (λ (l : List Message). act r.acknowledges (take (r.sends - before) (l ++ new)) ∷ []) none ∙ ap (λ (l : List Message). act r.acknowledges l ∷ []) (take_whole new (r.sends - before) count)
sent_in_snoc before (x ∷ rs) r ms new h sends =
    let p = part before x rs ms h in
    let d = x.sends - before in
    let within : d ≤ length ms = p.within in
    let ends : before + d ≡ x.sends = p.ends in
    let more : r.sends ≡ x.sends + length (drop d ms) + length new = omega (arith, length-drop d ms) in
    ap (λ (l : List Message). act x.acknowledges l ∷ sent_in x.sends (rs ++ r ∷ []) (drop d (ms ++ new))) (take-append-le d ms new within)
    ∙ ap (λ (l : List Message). act x.acknowledges (take d ms) ∷ sent_in x.sends (rs ++ r ∷ []) l) (drop_append d ms new within)
    ∙ ap (λ (l : List Sent). act x.acknowledges (take d ms) ∷ l) (sent_in_snoc x.sends rs r (drop d ms) new p.rest more)

pub counts_snoc : (before : ℕ) (rs : List Record) (r : Record) (all : ℕ) → AreCounts before rs all → all ≤ r.sends → IsSentBefore r.acknowledges all r.sends → AreCounts before (rs ++ r ∷ []) r.sends
counts_snoc before [] r all h up sent = (omega arith, subst (λ (n : ℕ). IsSentBefore r.acknowledges n r.sends) (sym h) sent, refl)
counts_snoc before (x ∷ rs) r all h up sent = (h.0, h.1, counts_snoc x.sends rs r all h.2 up sent)

act_below : (a : Option ℕ) (before sends : ℕ) (ms : List Message) (key : ℕ) → IsSentBefore a before sends → acknowledges_key key (act a ms) ≡ true → key < before
act_below None before sends ms key h e = absurd (true≢false (sym e))
act_below (Some k) before sends ms key h e = subst (λ (n : ℕ). n < before) (eqb-true k key e) h.1

-- what is acknowledged was sent
pub acknowledged_below : (before : ℕ) (rs : List Record) (ms : List Message) (all key : ℕ) → AreCounts before rs all → is_key_acknowledged (sent_in before rs ms) key ≡ true → key < all
acknowledged_below before [] ms all key h e = absurd (true≢false (sym e))
acknowledged_below before (r ∷ rs) ms all key h e =
    let up : r.sends ≤ all = counts_up r.sends rs all h.2 in
    let first : before ≤ r.sends = h.0 in
    either (acknowledges_key key (act r.acknowledges (take (r.sends - before) ms))) (is_key_acknowledged (sent_in r.sends rs (drop (r.sends - before) ms)) key) e
    (λ a. let below : key < before = act_below r.acknowledges before r.sends (take (r.sends - before) ms) key h.1 a in omega arith)
    (λ a. acknowledged_below r.sends rs (drop (r.sends - before) ms) all key h.2 a)
  where
    either : {P : Type 0} (a b : Bool) → (a || b) ≡ true → (a ≡ true → P) → (b ≡ true → P) → P
    either true b e f g = f refl
    either false b e f g = g e

-- what the first records send
pub sent_at : (before : ℕ) (rs : List Record) (ms : List Message) (k : ℕ) (r : Record) → AreCounts before rs (before + length ms) → slice_get rs k ≡ Some r
    → before + length (messages (take (suc k) (sent_in before rs ms))) ≡ r.sends
sent_at before [] ms k r h e = absurd cc
sent_at before (x ∷ rs) ms zero r h e =
    let p = part before x rs ms h in
    let d = x.sends - before in
    let within : d ≤ length ms = p.within in
    let ends : before + d ≡ x.sends = p.ends in
    let same : x ≡ r = cc (e) in
    let one : length (sent_by_one (act x.acknowledges (take d ms)) ++ []) ≡ d = ap length (append-nil (sent_by_one (act x.acknowledges (take d ms)))) ∙ ap length p.sent ∙ length-take-le d ms within in
    ap (λ (n : ℕ). before + n) one ∙ ends ∙ ap (λ (y : Record). y.sends) same
sent_at before (x ∷ rs) ms (suc k) r h e =
    let p = part before x rs ms h in
    let d = x.sends - before in
    let within : d ≤ length ms = p.within in
    let ends : before + d ≡ x.sends = p.ends in
    let later : List Message = messages (take (suc k) (sent_in x.sends rs (drop d ms))) in
    let rest : x.sends + length later ≡ r.sends = sent_at x.sends rs (drop d ms) k r p.rest e in
    let one : length (sent_by_one (act x.acknowledges (take d ms))) ≡ d = ap length p.sent ∙ length-take-le d ms within in
    let both : length (sent_by_one (act x.acknowledges (take d ms)) ++ later) ≡ d + length later = length-append (sent_by_one (act x.acknowledges (take d ms))) later ∙ ap (λ (n : ℕ). n + length later) one in
    omega arith

-- ---- the last record taken back

-- where an element stands, the default doesn't matter
default_aside : (xs : List Record) (k i j : ℕ) → k < length xs → option_map_or (λ y. y.sends) (slice_get xs k) i ≡ option_map_or (λ y. y.sends) (slice_get xs k) j
default_aside [] k i j h = absurd (omega arith)
default_aside (x ∷ xs) zero i j h = refl
default_aside (x ∷ xs) (suc k) i j h = default_aside xs k i j (omega arith)

-- the last of two or more doesn't depend on the first
last_deeper : (r x : Record) (rs : List Record) (before : ℕ) → option_map_or (λ y. y.sends) (slice_get (x ∷ rs) (length (x ∷ rs) - 1)) r.sends ≡ option_map_or (λ y. y.sends) (slice_get (r ∷ x ∷ rs) (length (r ∷ x ∷ rs) - 1)) before
last_deeper r x rs before =
    let short : length (x ∷ rs) - 1 ≡ length rs = omega arith in
    let long : length (r ∷ x ∷ rs) - 1 ≡ suc (length rs) = omega arith in
    rw (short, long) (default_aside (x ∷ rs) (length rs) r.sends before (omega arith))

pub total_last : (before : ℕ) (rs : List Record) → total before rs ≡ option_map_or (λ r. r.sends) (slice_get rs (length rs - 1)) before
total_last before [] = refl
total_last before (r ∷ []) = refl
total_last before (r ∷ x ∷ rs) = total_last r.sends (x ∷ rs) ∙ last_deeper r x rs before

pub total_all : (before : ℕ) (rs : List Record) (all : ℕ) → AreCounts before rs all → total before rs ≡ all
total_all before [] all h = h
total_all before (r ∷ rs) all h = total_all r.sends rs all h.2

pub record Front (before : ℕ) (rs : List Record) (r : Record) (all : ℕ) : Type 0 where
  pub counted : AreCounts before rs (total before rs)
  pub up : total before rs ≤ all
  pub sends : r.sends ≡ all

pub counts_front : (before : ℕ) (rs : List Record) (r : Record) (all : ℕ) → AreCounts before (rs ++ r ∷ []) all → Front before rs r all
counts_front before [] r all h = let e : r.sends ≡ all = h.2 in let up : before ≤ r.sends = h.0 in record { counted = refl; up = omega arith; sends = e }
counts_front before (x ∷ rs) r all h =
    let f = counts_front x.sends rs r all h.2 in
    record { counted = (h.0, h.1, f.counted); up = f.up; sends = f.sends }

-- ---- by what an outbox keeps

pub all_messages : (rs : List Record) (ms : List Message) → AreCounts 0 rs (length ms) → messages (sent_in 0 rs ms) ≡ ms
all_messages rs ms h = messages_in 0 rs ms (subst (AreCounts 0 rs) (sym (zero-add (length ms))) h)

pub sent_by_some : (S : List Sent) (rs : List Record) (ms : List Message) (records : ℕ) (r : Record) → sent_in 0 rs ms ≡ S → AreCounts 0 rs (length ms) → (records ≡ 0 → ⊥) → slice_get rs (records - 1) ≡ Some r
    → r.sends ≡ length (messages (take records S))
sent_by_some S rs ms records r is h some at =
    let one : suc (records - 1) ≡ records = pred_suc records some in
    let e : 0 + length (messages (take (suc (records - 1)) (sent_in 0 rs ms))) ≡ r.sends = sent_at 0 rs ms (records - 1) r (subst (AreCounts 0 rs) (sym (zero-add (length ms))) h) at in
    sym (ap (λ (n : ℕ). length (messages (take n S))) (sym one) ∙ ap (λ (l : List Sent). length (messages (take (suc (records - 1)) l))) (sym is) ∙ sym (zero-add (length (messages (take (suc (records - 1)) (sent_in 0 rs ms))))) ∙ e)
  where
    pred_suc : (n : ℕ) → (n ≡ 0 → ⊥) → suc (n - 1) ≡ n
    pred_suc zero h = absurd (h refl)
    pred_suc (suc n) h = omega arith

pub sent_by_all : (S : List Sent) (rs : List Record) (ms : List Message) (records : ℕ) → sent_in 0 rs ms ≡ S → AreCounts 0 rs (length ms) → length rs ≤ records → length ms ≡ length (messages (take records S))
sent_by_all S rs ms records is h all =
    let e : length S ≡ length rs = ap length (sym is) ∙ length_sent_in 0 rs ms in
    let whole : take records S ≡ S = take_all records S (omega arith) in
    sym (ap (λ (l : List Sent). length (messages l)) (whole ∙ sym is) ∙ ap length (all_messages rs ms h))

drop_seam : (xs ys : List Message) → drop (length xs) (xs ++ ys) ≡ ys
drop_seam [] ys = refl
drop_seam (x ∷ xs) ys = drop_seam xs ys

-- what stands after the first ones
pub rest_is : (front new whole : List Message) (start : ℕ) → whole ≡ front ++ new → start ≡ length front → take (length whole - start) (drop start whole) ≡ new
rest_is front new whole start is at =
    let rest : drop start whole ≡ new = ap (drop start) is ∙ ap (λ (n : ℕ). drop n (front ++ new)) at ∙ drop_seam front new in
    let all : length whole ≡ length front + length new = ap length is ∙ length-append front new in
    ap (take (length whole - start)) rest ∙ take_all (length whole - start) new (omega arith)

pub front_is : (front new whole : List Message) (start : ℕ) → whole ≡ front ++ new → start ≡ length front → take start whole ≡ front
front_is front new whole start is at = ap (take start) is ∙ ap (λ (n : ℕ). take n (front ++ new)) at ∙ take-append_seam front new
