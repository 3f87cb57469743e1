-- The tables of an outbox after one record more, and after the last one is taken back.
use Rattle.std.proofs.Common.{◌≡◌, inl, inr, ℕ, zero, suc, ◌+◌, ◌<◌, ◌≤◌, ◌==◌, ◌&&◌, ◌||◌, not, Bool, true, false, cond, List, [], ◌∷◌, ◌++◌, take, drop, get_or, length, Option, Some, None, refl, sym, ap, subst, ◌∙◌, arith, length-append, append-nil, take-append-drop, zero-add}
use Rattle.std.specs.BTreeSet.{BTreeSet, contains}
use Rattle.std.specs.List.{slice_get}
use Rattle.std.specs.Option.{option_map_or, option_to_list}
use Rattle.std.specs.Ordering.{is_eq}
use Rattle.std.proofs.Math.Bool.{or-false, not-not}
use Rattle.std.proofs.lemmas.Bool.{cases_lt, true≢false, eqb-true, false_from_ne_true}
use Rattle.std.proofs.lemmas.List.{length-take-le}
use Rattle.std.proofs.lemmas.List.Folds.{list_any-append}
use Rattle.std.proofs.lemmas.Option.{slice_get_within, slice_get_past}
use Rattle.units.proofs.Same.{same_node-refl}
use Rattle.units.specs.Code.{same_node}
use Rattle.units.specs.declared.code.Node.{Node}
use Rattle.units.specs.declared.code.Node.TheVariants.{Itl, Registry}
use Rattle.wire.specs.declared.message.Message.{Message}
use Rattle.records.specs.Unacknowledged.{awaits}
use Rattle.records.specs.Kept.{AreCounts, IsKept, IsSentBefore, act, sent_in}
use Rattle.records.specs.Awaiting.{among, peer_of, unacknowledged_cmp, unacknowledged_of}
use Rattle.records.specs.Sending.{Sent, Sends, Acknowledges, acknowledges_key, is_key_acknowledged}
use Rattle.records.specs.Totals.{total}
use Rattle.records.specs.declared.unacknowledged.Unacknowledged.{Unacknowledged}
use Rattle.records.specs.declared.record.Record.{Record}
use Rattle.records.proofs.AwaitingMessages.{among_all, among_append, among_below, among_from, same_unacknowledged}
use Rattle.records.proofs.Sendings.{acknowledged_below, counts_snoc, counts_front, length_sent_in, sent_in_snoc, total_all}

-- ---- what is acknowledged

pub acknowledged_more : (S : List Sent) (x : Sent) (key : ℕ) → is_key_acknowledged (S ++ x ∷ []) key ≡ (is_key_acknowledged S key || acknowledges_key key x)
acknowledged_more S x key = list_any-append (acknowledges_key key) S (x ∷ []) ∙ ap (λ (b : Bool). is_key_acknowledged S key || b) (or-false (acknowledges_key key x))

acknowledged_sends : (S : List Sent) (ms : List Message) (key : ℕ) → is_key_acknowledged (S ++ Sends ms ∷ []) key ≡ is_key_acknowledged S key
acknowledged_sends S ms key = acknowledged_more S (Sends ms) key ∙ or-false (is_key_acknowledged S key)

-- whether a set has a message to a node
pub at_unacknowledged : (ps : BTreeSet Unacknowledged) (ms : List Message) (acked : ℕ → Bool) (n : Node) (key : ℕ) → ((q : Unacknowledged) → contains unacknowledged_cmp ps q ≡ awaits ms acked (peer_of q.registry) q.key)
    → contains unacknowledged_cmp ps (unacknowledged_of n key) ≡ awaits ms acked n key
at_unacknowledged ps ms acked Itl key h = h (unacknowledged_of Itl key)
at_unacknowledged ps ms acked (Registry c) key h = h (unacknowledged_of (Registry c) key)

-- ---- the same tables

pub kept_same : (rs rs' : List Record) (ms ms' : List Message) (ps qs : BTreeSet Unacknowledged) → IsKept (sent_in 0 rs ms) rs ms ps → rs' ≡ rs → ms' ≡ ms → ((q : Unacknowledged) → contains unacknowledged_cmp qs q ≡ contains unacknowledged_cmp ps q)
    → IsKept (sent_in 0 rs' ms') rs' ms' qs
kept_same rs rs' ms ms' ps qs kept records messages same =
    subst (λ (l : List Record). IsKept (sent_in 0 l ms') l ms' qs) (sym records)
    (subst (λ (l : List Message). IsKept (sent_in 0 rs l) rs l qs) (sym messages)
    (record { counted = kept.counted; awaited = λ q. same q ∙ kept.awaited q }))

-- ---- one record more

pub record Next (rs' : List Record) (ms' : List Message) (qs : BTreeSet Unacknowledged) (S : List Sent) : Type 0 where
  pub kept : IsKept (sent_in 0 rs' ms') rs' ms' qs
  pub view : sent_in 0 rs' ms' ≡ S

from_zero : (rs : List Record) (ms : List Message) → AreCounts 0 rs (length ms) → AreCounts 0 rs (0 + length ms)
from_zero rs ms h = subst (AreCounts 0 rs) (sym (zero-add (length ms))) h

awaits_all : (ms : List Message) (acked : ℕ → Bool) (q : Unacknowledged) → awaits ms acked (peer_of q.registry) q.key ≡ (among 0 ms q && not (acked q.key))
awaits_all ms acked q = ap (λ (b : Bool). b && not (acked q.key)) (among_all ms q)

joined : (a b c : Bool) → (b ≡ true → c ≡ false) → ((a && not c) || b) ≡ ((a || b) && not c)
joined true true true h = h refl
joined true true false h = refl
joined true false true h = refl
joined true false false h = refl
joined false true true h = h refl
joined false true false h = refl
joined false false c h = refl

-- messages more
sends_kept : (rs : List Record) (r : Record) (ms new : List Message) (ps qs : BTreeSet Unacknowledged) → IsKept (sent_in 0 rs ms) rs ms ps → r.acknowledges ≡ None → r.sends ≡ length (ms ++ new)
    → ((q : Unacknowledged) → contains unacknowledged_cmp qs q ≡ (contains unacknowledged_cmp ps q || among (length ms) new q)) → Next (rs ++ r ∷ []) (ms ++ new) qs (sent_in 0 rs ms ++ Sends new ∷ [])
sends_kept rs r ms new ps qs kept none count added =
    let S = sent_in 0 rs ms in
    let both : length (ms ++ new) ≡ length ms + length new = length-append ms new in
    let view : sent_in 0 (rs ++ r ∷ []) (ms ++ new) ≡ S ++ Sends new ∷ [] =
    sent_in_snoc 0 rs r ms new (from_zero rs ms kept.counted) (omega arith) ∙ ap (λ (a : Option ℕ). S ++ act a new ∷ []) none in
    let later : (q : Unacknowledged) → among (length ms) new q ≡ true → is_key_acknowledged S q.key ≡ false =
    λ q h. let from : length ms ≤ q.key = among_from (length ms) new q h in false_from_ne_true (is_key_acknowledged S q.key) (λ e. let before : q.key < length ms = acknowledged_below 0 rs ms (length ms) q.key kept.counted e in absurd (omega arith)) in
    record {
      view = view;
      kept = subst (λ (l : List Sent). IsKept l (rs ++ r ∷ []) (ms ++ new) qs) (sym view) (record {
        counted = subst (AreCounts 0 (rs ++ r ∷ [])) count (counts_snoc 0 rs r (length ms) kept.counted (omega arith) (subst (λ (a : Option ℕ). IsSentBefore a (length ms) r.sends) (sym none) tt));
        awaited = λ q.
            added q ∙ ap (λ (b : Bool). b || among (length ms) new q) (kept.awaited q ∙ awaits_all ms (is_key_acknowledged S) q)
            ∙ joined (among 0 ms q) (among (length ms) new q) (is_key_acknowledged S q.key) (later q)
            ∙ ap (λ (b : Bool). b && not (is_key_acknowledged S q.key)) (ap (λ (n : ℕ). among 0 ms q || among n new q) (sym (zero-add (length ms))) ∙ sym (among_append 0 ms new q))
            ∙ ap (λ (b : Bool). among 0 (ms ++ new) q && not b) (sym (acknowledged_sends S new q.key))
            ∙ sym (awaits_all (ms ++ new) (is_key_acknowledged (S ++ Sends new ∷ [])) q);
      });
    }

pub next_sends : (rs rs' : List Record) (n : ℕ) (ms ms' new : List Message) (ps qs : BTreeSet Unacknowledged) → IsKept (sent_in 0 rs ms) rs ms ps → rs' ≡ rs ++ record { sends = n; acknowledges = None } ∷ [] → ms' ≡ ms ++ new
    → n ≡ length ms' → ((q : Unacknowledged) → contains unacknowledged_cmp qs q ≡ (contains unacknowledged_cmp ps q || among (length ms) new q)) → Next rs' ms' qs (sent_in 0 rs ms ++ Sends new ∷ [])
next_sends rs rs' n ms ms' new ps qs kept records messages count added =
    let r : Record = record { sends = n; acknowledges = None } in
    subst (λ (l : List Record). Next l ms' qs (sent_in 0 rs ms ++ Sends new ∷ [])) (sym records)
    (subst (λ (l : List Message). Next (rs ++ r ∷ []) l qs (sent_in 0 rs ms ++ Sends new ∷ [])) (sym messages)
    (sends_kept rs r ms new ps qs kept refl (count ∙ ap length messages) added))

-- one message less
removed : (same at a c : Bool) → (at ≡ true → same ≡ false → a ≡ false) → cond (same && at) false (a && not c) ≡ (a && not (c || at))
removed true true true true h = refl
removed true true true false h = refl
removed true true false c h = refl
removed true false a true h = refl
removed true false a false h = refl
removed false true true c h = absurd (true≢false (h refl refl))
removed false true false c h = refl
removed false false a true h = refl
removed false false a false h = refl

-- the message with that key is this one, so it is among all messages only where it goes to its node
among_one : (ms : List Message) (m : Message) (q : Unacknowledged) → slice_get ms q.key ≡ Some m → among 0 ms q ≡ same_node m.to (peer_of q.registry)
among_one ms m q e = sym (among_all ms q) ∙ ap (λ (o : Option Message). option_map_or (λ x. same_node x.to (peer_of q.registry)) o false) e

pub next_acknowledges : (rs rs' : List Record) (n key : ℕ) (ms : List Message) (m : Message) (ps qs : BTreeSet Unacknowledged) → IsKept (sent_in 0 rs ms) rs ms ps
    → rs' ≡ rs ++ record { sends = n; acknowledges = Some key } ∷ [] → n ≡ length ms → slice_get ms key ≡ Some m
    → ((q : Unacknowledged) → contains unacknowledged_cmp qs q ≡ cond (is_eq (unacknowledged_cmp (unacknowledged_of m.to key) q)) false (contains unacknowledged_cmp ps q)) → Next rs' ms qs (sent_in 0 rs ms ++ Acknowledges key ∷ [])
next_acknowledges rs rs' n key ms m ps qs kept records count here taken =
    let r : Record = record { sends = n; acknowledges = Some key } in
    let S = sent_in 0 rs ms in
    let view : sent_in 0 (rs ++ r ∷ []) ms ≡ S ++ Acknowledges key ∷ [] =
    ap (sent_in 0 (rs ++ r ∷ [])) (sym (append-nil ms)) ∙ sent_in_snoc 0 rs r ms [] (from_zero rs ms kept.counted) (omega arith) in
    let below : key < length ms = slice_get_within ms key m here in
    subst (λ (l : List Record). Next l ms qs (S ++ Acknowledges key ∷ [])) (sym records) (record {
      view = view;
      kept = subst (λ (l : List Sent). IsKept l (rs ++ r ∷ []) ms qs) (sym view) (record {
        counted = subst (AreCounts 0 (rs ++ r ∷ [])) count (counts_snoc 0 rs r (length ms) kept.counted (omega arith) (count, below));
        awaited = λ q.
            taken q
            ∙ ap (λ (b : Bool). cond b false (contains unacknowledged_cmp ps q)) (same_unacknowledged m.to key q)
            ∙ ap (λ (b : Bool). cond (same_node m.to (peer_of q.registry) && (key == q.key)) false b) (kept.awaited q ∙ awaits_all ms (is_key_acknowledged S) q)
            ∙ removed (same_node m.to (peer_of q.registry)) (key == q.key) (among 0 ms q) (is_key_acknowledged S q.key)
            (λ at other. among_one ms m q (subst (λ (k : ℕ). slice_get ms k ≡ Some m) (eqb-true key q.key at) here) ∙ other)
            ∙ ap (λ (b : Bool). among 0 ms q && not b) (sym (acknowledged_more S (Acknowledges key) q.key))
            ∙ sym (awaits_all ms (is_key_acknowledged (S ++ Acknowledges key ∷ [])) q);
      });
    })

-- ---- the last record taken back

taken_out : (a b c : Bool) → (a ≡ true → b ≡ false) → (((a || b) && not c) && not b) ≡ (a && not c)
taken_out true true true h = refl
taken_out true true false h = sym (h refl)
taken_out true false true h = refl
taken_out true false false h = refl
taken_out false true true h = refl
taken_out false true false h = refl
taken_out false false c h = refl

nothing_after : (xs : List Sent) (x : Sent) → xs ++ x ∷ [] ≡ [] → ⊥
nothing_after [] x e = cc (e)
nothing_after (y ∷ xs) x e = cc (e)

last_equal : (xs ys : List Sent) (x y : Sent) → xs ++ x ∷ [] ≡ ys ++ y ∷ [] → (xs ≡ ys) × (x ≡ y)
last_equal [] [] x y e = (refl, cc (e))
last_equal [] (b ∷ ys) x y e = absurd (nothing_after ys y (cc (e)))
last_equal (a ∷ xs) [] x y e = absurd (nothing_after xs x (cc (e)))
last_equal (a ∷ xs) (b ∷ ys) x y e =
    let first : a ≡ b = cc (e) in
    let rest : xs ++ x ∷ [] ≡ ys ++ y ∷ [] = cc (e) in
    let r = last_equal xs ys x y rest in
    (λ i. first i ∷ r.0 i, r.1)

among_until : (ms : List Message) (q : Unacknowledged) → among 0 ms q ≡ true → q.key < length ms
among_until ms q h = elim (cases_lt q.key (length ms)) [
  | inl below ↦ below
  | inr up ↦ absurd (true≢false (sym h ∙ sym (among_all ms q) ∙ ap (λ (o : Option Message). option_map_or (λ x. same_node x.to (peer_of q.registry)) o false) (slice_get_past ms q.key up)))
]

pub taken_back : (rs' rs : List Record) (popped : Option Record) (ms : List Message) (ps qs : BTreeSet Unacknowledged) (earlier : List Sent) (last : List Message) → IsKept (sent_in 0 rs ms) rs ms ps
    → rs ≡ rs' ++ option_to_list popped → (popped ≡ None → length rs ≡ 0) → sent_in 0 rs ms ≡ earlier ++ Sends last ∷ []
    → ((q : Unacknowledged) → contains unacknowledged_cmp qs q ≡ (contains unacknowledged_cmp ps q && not (among (total 0 rs') (drop (total 0 rs') ms) q))) → Next rs' (take (total 0 rs') ms) qs earlier
taken_back rs' rs None ms ps qs earlier last kept records empty ends out =
    let nothing : length rs ≡ 0 = empty refl in
    let count : length (earlier ++ Sends last ∷ []) ≡ length rs = ap length (sym ends) ∙ length_sent_in 0 rs ms in
    let some : length (earlier ++ Sends last ∷ []) ≡ length earlier + 1 = length-append earlier (Sends last ∷ []) in
    absurd (omega arith)
taken_back rs' rs (Some r) ms ps qs earlier last kept records empty ends out =
    let start = total 0 rs' in
    let front = take start ms in
    let rest = drop start ms in
    let f = counts_front 0 rs' r (length ms) (subst (λ (l : List Record). AreCounts 0 l (length ms)) records kept.counted) in
    let within : start ≤ length ms = f.up in
    let count : length front ≡ start = length-take-le start ms within in
    let whole : front ++ rest ≡ ms = take-append-drop start ms in
    let all : length front + length rest ≡ length ms = sym (length-append front rest) ∙ ap length whole in
    let sends : r.sends ≡ length ms = f.sends in
    let counted : AreCounts 0 rs' (length front) = subst (AreCounts 0 rs') (sym count) f.counted in
    let snoc : sent_in 0 rs ms ≡ sent_in 0 rs' front ++ act r.acknowledges rest ∷ [] =
    ap (λ (l : List Record). sent_in 0 l ms) records ∙ ap (sent_in 0 (rs' ++ r ∷ [])) (sym whole) ∙ sent_in_snoc 0 rs' r front rest (from_zero rs' front counted) (omega arith) in
    let same = last_equal (sent_in 0 rs' front) earlier (act r.acknowledges rest) (Sends last) (sym snoc ∙ ends) in
    let S = sent_in 0 rs ms in
    let acked : (key : ℕ) → is_key_acknowledged S key ≡ is_key_acknowledged (sent_in 0 rs' front) key =
    λ key. ap (λ (l : List Sent). is_key_acknowledged l key) (ends ∙ ap (λ (l : List Sent). l ++ Sends last ∷ []) (sym same.0)) ∙ acknowledged_sends (sent_in 0 rs' front) last key in
    record {
      view = same.0;
      kept = record {
        counted = counted;
        awaited = λ q.
            out q
            ∙ ap (λ (b : Bool). b && not (among start rest q)) (kept.awaited q ∙ awaits_all ms (is_key_acknowledged S) q
            ∙ ap (λ (b : Bool). b && not (is_key_acknowledged S q.key))
            (ap (λ (l : List Message). among 0 l q) (sym whole) ∙ among_append 0 front rest q ∙ ap (λ (k : ℕ). among 0 front q || among k rest q) (zero-add (length front) ∙ count)))
            ∙ taken_out (among 0 front q) (among start rest q) (is_key_acknowledged S q.key) (λ h. let until : q.key < length front = among_until front q h in among_below start rest q (omega arith))
            ∙ ap (λ (b : Bool). among 0 front q && not b) (acked q.key)
            ∙ sym (awaits_all front (is_key_acknowledged (sent_in 0 rs' front)) q);
      };
    }

-- for a start that is given by an equation
pub back_at : (rs' rs : List Record) (popped : Option Record) (ms ms' : List Message) (ps qs : BTreeSet Unacknowledged) (start : ℕ) (earlier : List Sent) (last : List Message) → IsKept (sent_in 0 rs ms) rs ms ps
    → rs ≡ rs' ++ option_to_list popped → (popped ≡ None → length rs ≡ 0) → sent_in 0 rs ms ≡ earlier ++ Sends last ∷ [] → start ≡ total 0 rs' → ms' ≡ take start ms
    → ((q : Unacknowledged) → contains unacknowledged_cmp qs q ≡ (contains unacknowledged_cmp ps q && not (among start (drop start ms) q))) → Next rs' ms' qs earlier
back_at rs' rs popped ms ms' ps qs start earlier last kept records empty ends at front out =
    subst (λ (l : List Message). Next rs' l qs earlier) (sym (front ∙ ap (λ (n : ℕ). take n ms) at))
    (taken_back rs' rs popped ms ps qs earlier last kept records empty ends (λ q. out q ∙ ap (λ (n : ℕ). contains unacknowledged_cmp ps q && not (among n (drop n ms) q)) at))

pub start_within : (rs' rs : List Record) (popped : Option Record) (all : ℕ) → AreCounts 0 rs all → rs ≡ rs' ++ option_to_list popped → total 0 rs' ≤ all
start_within rs' rs None all h is =
    let same : rs ≡ rs' = is ∙ append-nil rs' in
    let e : total 0 rs' ≡ all = ap (total 0) (sym same) ∙ total_all 0 rs all h in
    omega arith
start_within rs' rs (Some r) all h is = (counts_front 0 rs' r all (subst (λ (l : List Record). AreCounts 0 l all) is h)).up

-- ---- elements

pub some_at : (ms : List Message) (k : ℕ) (m : Message) → k < length ms → m ≡ get_or ms k m → slice_get ms k ≡ Some m
some_at [] k m h e = absurd (omega arith)
some_at (x ∷ ms) zero m h e = ap Some (sym e)
some_at (x ∷ ms) (suc k) m h e = some_at ms k m (omega arith) e

pub none_past : (ms : List Message) (k : ℕ) → slice_get ms k ≡ None → length ms ≤ k
none_past [] k e = omega arith
none_past (x ∷ ms) zero e = absurd (cc (e))
none_past (x ∷ ms) (suc k) e = let rest = none_past ms k e in omega arith

pub none_past_records : (rs : List Record) (k : ℕ) → slice_get rs k ≡ None → length rs ≤ k
none_past_records [] k e = omega arith
none_past_records (x ∷ rs) zero e = absurd (cc (e))
none_past_records (x ∷ rs) (suc k) e = let rest = none_past_records rs k e in omega arith

-- the message at a key is acknowledged where it isn't kept
pub acknowledged_at : (rs : List Record) (ms : List Message) (ps : BTreeSet Unacknowledged) (key : ℕ) (m : Message) → IsKept (sent_in 0 rs ms) rs ms ps → slice_get ms key ≡ Some m
    → not (contains unacknowledged_cmp ps (unacknowledged_of m.to key)) ≡ is_key_acknowledged (sent_in 0 rs ms) key
acknowledged_at rs ms ps key m kept at =
    let acked = is_key_acknowledged (sent_in 0 rs ms) key in
    ap not (at_unacknowledged ps ms (is_key_acknowledged (sent_in 0 rs ms)) m.to key kept.awaited
    ∙ ap (λ (o : Option Message). option_map_or (λ x. same_node x.to m.to) o false && not acked) at
    ∙ ap (λ (b : Bool). b && not acked) (same_node-refl m.to))
    ∙ not-not acked

pub unacknowledged_past : (rs : List Record) (ms : List Message) (key : ℕ) → AreCounts 0 rs (length ms) → slice_get ms key ≡ None → false ≡ is_key_acknowledged (sent_in 0 rs ms) key
unacknowledged_past rs ms key counted at =
    let past : length ms ≤ key = none_past ms key at in
    sym (false_from_ne_true (is_key_acknowledged (sent_in 0 rs ms) key) (λ e. let below : key < length ms = acknowledged_below 0 rs ms (length ms) key counted e in absurd (omega arith)))
