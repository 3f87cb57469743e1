-- The furthest cut of journals. While some record is next after an order of records, it is put after them. Each record
-- that is put there leaves fewer of the journals, and this ends when no record is next any more. Every other order of
-- first records of the journals is part of that one (`greedy_to`), and events commit their records in an order.
use Rattle.std.proofs.Common.{◌≡◌, ℕ, zero, suc, ◌+◌, ◌<◌, ◌≤◌, List, [], ◌∷◌, ◌++◌, Bool, true, false, true≢false, ◌⊎◌, inl, inr, refl, sym, ap, subst, ◌∙◌, append_assoc, length, arith, length-append}
use Rattle.std.specs.List.{list_any}
use Rattle.std.proofs.lemmas.Bool.{cases_Bool}
use Rattle.std.proofs.lemmas.List.{append-nil, append_cancel_left, nil_from_length}
use Rattle.std.proofs.lemmas.Option.{slice_get_within, get_or_from_slice_get}
use Rattle.units.proofs.Lists.Membership.{In}
use Rattle.units.proofs.Lists.Positions.{In_contains, contains_in}
use Rattle.units.proofs.Lists.SomePass.{list_any_in, list_any_some}
use Rattle.units.proofs.Same.{node_of_same, same_node-refl}
use Rattle.units.specs.Code.{same_node}
use Rattle.units.specs.declared.code.Node.{Node}
use Rattle.wire.specs.declared.input.Input.{Input}
use Rattle.wire.specs.declared.input.Input.TheVariants.{Propose, Request, OpenAccount, CloseAccount, Ack, CleanUp, Eligible, Received}
use Rattle.wire.specs.declared.message.Message.{Message}
use Rattle.scheme.specs.declared.registries.Scheme.{Scheme}
use Rattle.protocol.proofs.NodeIndices.{node_at}
use Rattle.protocol.specs.Deciding.{Verdict, IsRecorded, IsRepeat, IsLate, IsRefused}
use Rattle.protocol.specs.History.{Transition, sends}
use Rattle.protocol.specs.Registries.{is_node, nodes}
use Rattle.protocol.specs.Verdict.{verdict, history}
use Rattle.protocol.specs.Weave.{Placed, journals_of, WasSent, IsNext, InTurn, ArePrefixes, HasNext, IsFurthestCut, committed_by}
use Rattle.protocol.specs.declared.event.WorldEvent.{WorldEvent}
use Rattle.safety.proofs.JournalWeaves.EventsFromOrders.{in_turn_reached}
use Rattle.safety.proofs.JournalWeaves.OrdersFromEvents.{ordered_run}
use Rattle.safety.proofs.JournalWeaves.RecordOrders.{greedy_to, journals_here, journals_there, prefixes_alike}
use Rattle.safety.proofs.ListLemmas.SameMessages.{message_of_same, same_message, same_message-refl}

-- ---- what can be decided

abbrev IsDecided : Type 0 → Type 0
IsDecided A = A ⊎ (A → ⊥)

by_test : (A : Type 0) (b : Bool) → (b ≡ true → A) → (A → b ≡ true) → IsDecided A
by_test A true there back = inl (there refl)
by_test A false there back = inr (λ a. true≢false (sym (back a)))

both_decided : (A B : Type 0) → IsDecided A → IsDecided B → IsDecided (A × B)
both_decided A B (inl a) (inl b) = inl (a, b)
both_decided A B (inl a) (inr b) = inr (λ h. b h.1)
both_decided A B (inr a) b = inr (λ h. a h.0)

all_decided : (A B C : Type 0) → IsDecided A → IsDecided B → IsDecided C → IsDecided (A × B × C)
all_decided A B C (inl a) (inl b) (inl c) = inl (a, b, c)
all_decided A B C (inl a) (inl b) (inr c) = inr (λ h. c h.2)
all_decided A B C (inl a) (inr b) c = inr (λ h. b h.1)
all_decided A B C (inr a) b c = inr (λ h. a h.0)

node_decided : (m n : Node) → IsDecided (m ≡ n)
node_decided m n = by_test (m ≡ n) (same_node m n) (node_of_same m n) (λ e. subst (λ z. same_node m z ≡ true) e (same_node-refl m))

among_decided : (ms : List Message) (m : Message) → IsDecided (In m ms)
among_decided ms m =
    by_test (In m ms) (list_any (same_message m) ms) (λ e. let found = list_any_some (same_message m) ms e in subst (λ z. In z ms) (sym (message_of_same m found.0 found.2)) found.1)
    (λ i. list_any_in (same_message m) ms m i (same_message-refl m))

sent_decided : (scheme : Scheme) (past : Node → List Input) (n : Node) (input : Input) → IsDecided (WasSent scheme past n input)
sent_decided scheme past n (Received m moment) =
    elim (both_decided (m.to ≡ n) (In m (sends (history scheme m.from (past m.from)))) (node_decided m.to n) (among_decided (sends (history scheme m.from (past m.from))) m)) [
      | inl h ↦ inl (h.0, contains_in (sends (history scheme m.from (past m.from))) m h.1)
      | inr h ↦ inr (λ sent. h (sent.0, In_contains (sends (history scheme m.from (past m.from))) m sent.1))
    ]
sent_decided scheme past n (Propose o) = inl tt
sent_decided scheme past n (Request t) = inl tt
sent_decided scheme past n (OpenAccount account) = inl tt
sent_decided scheme past n (CloseAccount account) = inl tt
sent_decided scheme past n (Ack key) = inl tt
sent_decided scheme past n (CleanUp moment) = inl tt
sent_decided scheme past n (Eligible c may) = inl tt

recorded_decided : (v : Verdict) → IsDecided ((xs : List Transition) × (v ≡ IsRecorded xs))
recorded_decided (IsRecorded xs) = inl (xs, refl)
recorded_decided IsRepeat = inr (λ h. let e = h.1 in absurd (cc (e)))
recorded_decided IsLate = inr (λ h. let e = h.1 in absurd (cc (e)))
recorded_decided (IsRefused code) = inr (λ h. let e = h.1 in absurd (cc (e)))

next_decided : (scheme : Scheme) (past : Node → List Input) (r : Placed) → IsDecided (IsNext scheme past r)
next_decided scheme past r =
    all_decided (is_node scheme r.node ≡ true) ((xs : List Transition) × (verdict scheme r.node (history scheme r.node (past r.node)) r.input ≡ IsRecorded xs)) (WasSent scheme past r.node r.input)
    (by_test (is_node scheme r.node ≡ true) (is_node scheme r.node) (λ e. e) (λ e. e))
    (recorded_decided (verdict scheme r.node (history scheme r.node (past r.node)) r.input)) (sent_decided scheme past r.node r.input)

-- ---- a record that is next

module _ (scheme : Scheme) (past journals : Node → List Input) (on : ArePrefixes past journals) where
  -- the node's next record
  abbrev NextOf : Node → Type 0
  NextOf n = (input : Input) × IsNext scheme past (record { node = n; input = input }) × ((rest : List Input) × (journals n ≡ past n ++ input ∷ rest))

  next_of : (n : Node) (rest : List Input) → journals n ≡ past n ++ rest → IsDecided (NextOf n)
  next_of n [] e =
      inr (λ h.
      let both = append_cancel_left (past n) [] (h.0 ∷ h.2.0) (sym e ∙ h.2.1) in
      absurd (cc (both)))
  next_of n (x ∷ xs) e =
      elim (next_decided scheme past (record { node = n; input = x })) [
        | inl next ↦ inl (x, next, (xs, e))
        | inr none ↦
            inr (λ h.
            let both = append_cancel_left (past n) (x ∷ xs) (h.0 ∷ h.2.0) (sym e ∙ h.2.1) in
            let same : h.0 ≡ x = cc (both) in
            none (subst (λ z. IsNext scheme past (record { node = n; input = z })) same h.1))
      ]

  next_among : (ns : List Node) → ((n : Node) × In n ns × NextOf n) ⊎ ((n : Node) → In n ns → NextOf n → ⊥)
  next_among [] = inr (λ n i h. absurd i)
  next_among (n ∷ ns) =
      elim (next_of n (on n).0 (on n).1) [
        | inl here ↦ inl (n, inl refl, here)
        | inr none ↦
            elim (next_among ns) [
              | inl later ↦ inl (later.0, inr later.1, later.2)
              | inr others ↦ inr (λ m i h. at_one n ns none others m i h)
            ]
      ]
    where
      at_one : (n : Node) (ns : List Node) → (NextOf n → ⊥) → ((m : Node) → In m ns → NextOf m → ⊥) → (m : Node) → In m (n ∷ ns) → NextOf m → ⊥
      at_one n ns none others m (inl e) h = none (subst NextOf (sym e) h)
      at_one n ns none others m (inr i) h = others m i h

  in_nodes : (n : Node) → is_node scheme n ≡ true → In n (nodes scheme)
  in_nodes n node =
      let k = node_at scheme n node in
      In_contains (nodes scheme) n (k.0, slice_get_within (nodes scheme) k.0 n k.1, get_or_from_slice_get (nodes scheme) k.0 n n k.1)

  -- of some node of the scheme, or of none
  next_found : ((n : Node) × In n (nodes scheme) × NextOf n) ⊎ (HasNext scheme past journals → ⊥)
  next_found =
      elim (next_among (nodes scheme)) [
        | inl found ↦ inl found
        | inr none ↦ inr (λ h. none h.0.node (in_nodes h.0.node h.1.0) (h.0.input, h.1, h.2))
      ]

  -- how many records of these nodes are left
  abbrev left : List Node → ℕ
  left [] = 0
  left (n ∷ ns) = length (on n).0 + left ns

module _ (scheme : Scheme) (past next journals : Node → List Input) (here : ArePrefixes past journals) (there : ArePrefixes next journals) (more : (n : Node) → length (past n) ≤ length (next n)) where
  rest_shorter : (n : Node) → length (past n) + length (there n).0 ≤ length (next n) + length (here n).0
  rest_shorter n = omega (arith, more n, ap length (here n).1, ap length (there n).1, length-append (past n) (here n).0, length-append (next n) (there n).0)

  rests : (n : Node) → length (past n) + length (here n).0 ≡ length (next n) + length (there n).0
  rests n = sym (length-append (past n) (here n).0) ∙ ap length (sym (here n).1 ∙ (there n).1) ∙ length-append (next n) (there n).0

  left_no_more : (ns : List Node) → left scheme next journals there ns ≤ left scheme past journals here ns
  left_no_more [] = omega arith
  left_no_more (n ∷ ns) = omega (arith, more n, rests n, left_no_more ns)

  left_less : (r : Node) → length (past r) < length (next r) → (ns : List Node) → In r ns → left scheme next journals there ns < left scheme past journals here ns
  left_less r longer [] i = absurd i
  left_less r longer (n ∷ ns) (inl e) = let it : length (past n) < length (next n) = subst (λ z. length (past z) < length (next z)) (sym e) longer in omega (arith, it, rests n, left_no_more ns)
  left_less r longer (n ∷ ns) (inr i) = omega (arith, more n, rests n, left_less r longer ns i)

-- ---- an order after which no record is next

module _ (scheme : Scheme) (journals : Node → List Input) where
  record Furthest : Type 0 where
    order : List Placed
    turn : InTurn scheme order
    within : ArePrefixes (journals_of order) journals
    ends : HasNext scheme (journals_of order) journals → ⊥

  with_next : (order : List Placed) → ArePrefixes (journals_of order) journals → (r : Placed) (rest : List Input) → journals r.node ≡ journals_of order r.node ++ r.input ∷ rest → ArePrefixes (journals_of (r ∷ order)) journals
  with_next order on r rest e n =
      elim (cases_Bool (same_node n r.node)) [
        | inl y ↦ (
          rest,
          subst (λ z. journals z ≡ journals_of (r ∷ order) z ++ rest) (sym (node_of_same n r.node y))
              (e ∙ sym (append_assoc (journals_of order r.node) (r.input ∷ []) rest) ∙ ap (λ xs. xs ++ rest) (sym (journals_here r order))),
        )
        | inr other ↦ ((on n).0, (on n).1 ∙ ap (λ xs. xs ++ (on n).0) (sym (journals_there r order n other)))
      ]

  longer_here : (order : List Placed) (r : Placed) → length (journals_of order r.node) < length (journals_of (r ∷ order) r.node)
  longer_here order r = omega (arith, ap length (journals_here r order), length-append (journals_of order r.node) (r.input ∷ []))

  no_shorter : (order : List Placed) (r : Placed) (n : Node) → length (journals_of order n) ≤ length (journals_of (r ∷ order) n)
  no_shorter order r n =
      elim (cases_Bool (same_node n r.node)) [
        | inl y ↦ let it = subst (λ z. length (journals_of order z) < length (journals_of (r ∷ order) z)) (sym (node_of_same n r.node y)) (longer_here order r) in omega (arith, it)
        | inr other ↦ omega (arith, ap length (journals_there r order n other))
      ]

  done : (order : List Placed) → InTurn scheme order → ArePrefixes (journals_of order) journals → (HasNext scheme (journals_of order) journals → ⊥) → Furthest
  done order turn on none = record { order = order; turn = turn; within = on; ends = none }

  module _ (order : List Placed) (on : ArePrefixes (journals_of order) journals) (found : (n : Node) × In n (nodes scheme) × NextOf scheme (journals_of order) journals on n) where
    abbrev placed : Placed
    placed = record { node = found.0; input = found.2.0 }

    abbrev further : ArePrefixes (journals_of (placed ∷ order)) journals
    further = with_next order on placed found.2.2.0 found.2.2.1

    less : left scheme (journals_of (placed ∷ order)) journals further (nodes scheme) < left scheme (journals_of order) journals on (nodes scheme)
    less = left_less scheme (journals_of order) (journals_of (placed ∷ order)) journals on further (no_shorter order placed) placed.node (longer_here order placed) (nodes scheme) found.1

  go_on : (fuel : ℕ) (order : List Placed) → InTurn scheme order → (on : ArePrefixes (journals_of order) journals) → left scheme (journals_of order) journals on (nodes scheme) ≤ fuel → Furthest
  go_on zero order turn on few =
      elim (next_found scheme (journals_of order) journals on) [
        | inr none ↦ done order turn on none
        | inl found ↦ absurd (omega (arith, few, less order on found))
      ]
  go_on (suc fuel) order turn on few =
      elim (next_found scheme (journals_of order) journals on) [
        | inr none ↦ done order turn on none
        | inl found ↦ go_on fuel (placed order on found ∷ order) (found.2.1, turn) (further order on found) (omega (arith, few, less order on found))
      ]

  furthest : Furthest
  furthest = let on : ArePrefixes (journals_of []) journals = λ n. (journals n, refl) in go_on (left scheme (journals_of []) journals on (nodes scheme)) [] tt on (omega arith)

-- ---- the law

pub furthest_cut : (scheme : Scheme) (journals : Node → List Input) → (events : List WorldEvent) × IsFurthestCut scheme journals events
furthest_cut scheme journals =
    let f = furthest scheme journals in
    let led = in_turn_reached scheme f.order f.turn in (
      led.0,
      record {
        within = prefixes_alike (committed_by scheme led.0) (journals_of f.order) journals (λ n. (led.1 n).0) f.within;
        furthest = λ others inside.
            let o = ordered_run scheme others in
            elim (greedy_to scheme (journals_of f.order) journals f.within o.0 o.1 (prefixes_alike (journals_of o.0) (committed_by scheme others) journals o.2 inside)) [
              | inl covers ↦ λ n. let part = prefixes_alike (committed_by scheme others) (journals_of o.0) (journals_of f.order) (λ m. sym (o.2 m)) covers n in (part.0, (led.1 n).0 ∙ part.1)
              | inr next ↦ absurd (f.ends next)
            ];
      },
    )

-- there is one alone
pub one_cut : (scheme : Scheme) (journals : Node → List Input) (one other : List WorldEvent) → IsFurthestCut scheme journals one → IsFurthestCut scheme journals other → (n : Node) → committed_by scheme one n ≡ committed_by scheme other n
one_cut scheme journals one other first second n =
    both (committed_by scheme one n) (committed_by scheme other n) (first.furthest other second.within n) (second.furthest one first.within n)
  where
    both : (xs ys : List Input) → (rest : List Input) × (xs ≡ ys ++ rest) → (rest : List Input) × (ys ≡ xs ++ rest) → xs ≡ ys
    both xs ys a b =
        let none : a.0 ≡ [] = nil_from_length a.0 (omega (arith, ap length a.1, ap length b.1, length-append ys a.0, length-append xs b.0)) in
        a.1 ∙ ap (λ zs. ys ++ zs) none ∙ append-nil ys
