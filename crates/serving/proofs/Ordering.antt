-- The tickets and notes that a line adds to the seat of its node, and those that the seats of all nodes have after some
-- lines.
use Rattle.std.proofs.Common.{◌≡◌, ◌≢◌, ◌⊎◌, ◌∙◌, ◌<◌, ◌≤◌, ◌+◌, ℕ, suc, Bool, true, false, List, [], ◌∷◌, ◌++◌, length, max, Some, inl, inr, refl, sym, ap, subst, arith, if◌then◌else◌, All, append-nil, append_assoc, get_or, take}
use Rattle.std.specs.Prelude.{nat_lt, slice_get}
use Rattle.std.proofs.Math.ListN.{set}
use Rattle.std.proofs.lemmas.Bool.{and_parts, cases_eq, ltb-false}
use Rattle.std.proofs.lemmas.List.{get_or-set_other, get_or-set_same, length-set}
use Rattle.std.proofs.lemmas.List.Elements.{All-append, All-nil, All-push, All-weaker}
use Rattle.std.proofs.lemmas.Option.{get_or_from_slice_get, slice_get_within, slice_get-get_or}
use Rattle.units.proofs.Lists.OneValue.{one_some}
use Rattle.units.specs.declared.code.Node.{Node}
use Rattle.status.specs.declared.id.TransactionId.{TransactionId}
use Rattle.protocol.specs.Input.{Input}
use Rattle.protocol.specs.Input.TheVariants as inputs
use Rattle.protocol.specs.Scheme.{Scheme}
use Rattle.protocol.specs.Registries.{is_node, index_of}
use Rattle.protocol.specs.World.{is_order, opening}
use Rattle.protocol.proofs.NodeIndices.{node_of_index}
use Rattle.protocol.specs.declared.node_core.Stepped.TheVariants.{Recorded, Repeat, Late}
use Rattle.desk.specs.Desks.{IsTakeOf}
use Rattle.node_state.specs.Expected.{stopped}
use Rattle.node_state.specs.Telling.{kept, tickets_after}
use Rattle.node_state.specs.Views.{SeatView}
use Rattle.node_state.specs.declared.notes.Asked.{Asked}
use Rattle.node_state.specs.declared.notes.Asked.TheVariants.{Take, Query}
use Rattle.node_state.specs.declared.notes.Lengths.{Lengths}
use Rattle.node_state.specs.declared.notes.Lengths.TheVariants.{Grew, Fell}
use Rattle.node_state.specs.declared.notes.Note.{Note}
use Rattle.node_state.specs.declared.notes.Ticket.{Ticket}
use Rattle.node_state.specs.declared.notes.Told.{Told}
use Rattle.node_state.specs.declared.notes.Told.TheVariants.{Step, Status, Refused}
use Rattle.sessions.specs.Orders.{was_ordered}
use Rattle.input_lines.specs.declared.instruction.Instruction.{Instruction}
use Rattle.input_lines.specs.declared.instruction.Instruction.TheVariants as instruction
use Rattle.input_lines.specs.declared.script_line.ScriptLine.{ScriptLine}
use Rattle.serving.specs.Answers.{asked_by, is_possible}
use Rattle.serving.specs.Heard.{IsConfirmed}
use Rattle.serving.specs.Notes.{AreNotes, AreOfLines, IsNotedOf, IsOfLine}
use Rattle.serving.specs.Orders.{Adds, AreInTurn, AreOrders, Ascend, HasOrders, HaveOrders, IsPlayed, IsRecordOf, Notes}
use Rattle.serving.specs.declared.answer.ScriptAnswer.{ScriptAnswer}
use Rattle.serving.specs.declared.answer.ScriptAnswer.TheVariants.{NotPossible, Told as Answered}
use Rattle.serving.proofs.HeardLines.{heard_none, last_or_before, take_more}
use Rattle.serving.proofs.Hearing.{recorded_length}

-- ---- one question

abbrev ticket : ℕ → Input → Ticket
ticket place input = record { place = place; input = input }

grew_by : (len seen : ℕ) (lengths : Lengths) (fell : Bool) → nat_lt len seen ≡ fell → (if fell then Fell else lengths) ≡ Grew → (lengths ≡ Grew) × (seen ≤ len)
grew_by len seen lengths true is e = absurd (cc (e))
grew_by len seen lengths false is e = (e, ltb-false len seen is)

-- a seat that noted that length, and has these additional tickets, each at the last place of that length
adds_of : (asked : Asked) (old new : SeatView) (told : Told) (len : ℕ) (records : List Ticket) → new.tickets ≡ old.tickets ++ records → new.seen ≡ max old.seen len
    → new.lengths ≡ (if nat_lt len old.seen then Fell else old.lengths) → IsRecordOf asked told records → All (λ (t : Ticket). len ≡ t.place + 1) records → Adds asked old new told
adds_of asked old new told len records tickets seen lengths is places = record {
  records = records;
  tickets = tickets;
  is = is;
  grew = λ e.
      let g = grew_by len old.seen old.lengths (nat_lt len old.seen) refl (sym lengths ∙ e) in (
        g.0,
        omega (arith, seen),
        All-weaker (λ (t : Ticket). len ≡ t.place + 1) (λ (t : Ticket). (old.seen ≤ t.place + 1) × (t.place < new.seen)) (λ t last. (omega (arith, last, g.1), omega (arith, last, seen))) records places,
      );
}

none_told : (input : Input) (told : Told) → ((place : ℕ) → told ≡ Step (Recorded place) → ⊥) → IsRecordOf (Take input) told []
none_told input (Step (Recorded place)) none = absurd (none place refl)
none_told input (Step Repeat) none = refl
none_told input (Step Late) none = refl
none_told input (Status status) none = refl
none_told input (Refused refusal) none = inl refl

-- the final result is the first one, or the node had stopped
abbrev IsEnd : Told → Told → Type 0
IsEnd first told = (told ≡ first) ⊎ (told ≡ Refused stopped)

none_at_end : (input : Input) (first told : Told) → ((place : ℕ) → first ≡ Step (Recorded place) → ⊥) → IsEnd first told → IsRecordOf (Take input) told []
none_at_end input first told none (inl same) = subst (λ (t : Told). IsRecordOf (Take input) t []) (sym same) (none_told input first none)
none_at_end input first told none (inr gone) = subst (λ (t : Told). IsRecordOf (Take input) t []) (sym gone) (inl refl)

one_at_end : (input : Input) (place : ℕ) (told : Told) → IsEnd (Step (Recorded place)) told → IsRecordOf (Take input) told (ticket place input ∷ [])
one_at_end input place told (inl same) = subst (λ (t : Told). IsRecordOf (Take input) t (ticket place input ∷ [])) (sym same) refl
one_at_end input place told (inr gone) = subst (λ (t : Told). IsRecordOf (Take input) t (ticket place input ∷ [])) (sym gone) (inr (refl, (place, refl)))

one_place : (place : ℕ) (input : Input) (len : ℕ) → len ≡ place + 1 → All (λ (t : Ticket). len ≡ t.place + 1) (ticket place input ∷ [])
one_place place input len is = All-push (λ (t : Ticket). len ≡ t.place + 1) [] (ticket place input) (All-nil (λ (t : Ticket). len ≡ t.place + 1)) is

module _ (old new : SeatView) (told : Told) (len : ℕ) (seen : new.seen ≡ max old.seen len) (lengths : new.lengths ≡ (if nat_lt len old.seen then Fell else old.lengths)) where
  adds_none : (asked : Asked) → new.tickets ≡ old.tickets → IsRecordOf asked told [] → Adds asked old new told
  adds_none asked same is =
      adds_of asked old new told len [] (same ∙ sym (append-nil old.tickets)) seen lengths is (All-nil (λ (t : Ticket). len ≡ t.place + 1))

  order_told : (input : Input) (first : Told) → ((place : ℕ) → first ≡ Step (Recorded place) → len ≡ place + 1) → new.tickets ≡ tickets_after old.tickets first (Take input) → IsEnd first told
      → Adds (Take input) old new told
  order_told input (Step (Recorded place)) last tickets end =
      adds_of (Take input) old new told len (ticket place input ∷ []) tickets seen lengths (one_at_end input place told end) (one_place place input len (last place refl))
  order_told input (Step Repeat) last tickets end = adds_none (Take input) tickets (none_at_end input (Step Repeat) told (λ place e. cc (e)) end)
  order_told input (Step Late) last tickets end = adds_none (Take input) tickets (none_at_end input (Step Late) told (λ place e. cc (e)) end)
  order_told input (Status status) last tickets end = adds_none (Take input) tickets (none_at_end input (Status status) told (λ place e. cc (e)) end)
  order_told input (Refused refusal) last tickets end = adds_none (Take input) tickets (none_at_end input (Refused refusal) told (λ place e. cc (e)) end)

  question_told : (id : TransactionId) (first : Told) → new.tickets ≡ tickets_after old.tickets first (Query id) → Adds (Query id) old new told
  question_told id (Step (Recorded place)) tickets = adds_none (Query id) tickets refl
  question_told id (Step Repeat) tickets = adds_none (Query id) tickets refl
  question_told id (Step Late) tickets = adds_none (Query id) tickets refl
  question_told id (Status status) tickets = adds_none (Query id) tickets refl
  question_told id (Refused refusal) tickets = adds_none (Query id) tickets refl

-- a confirmation changes neither the tickets nor the lengths
record Confirms (mid : SeatView) (first : Told) (new : SeatView) (told : Told) : Type 0 where
  tickets : new.tickets ≡ mid.tickets
  seen : new.seen ≡ mid.seen
  lengths : new.lengths ≡ mid.lengths
  end : IsEnd first told

confirms : (mid : SeatView) (taken : Note) (new : SeatView) (told : Told) → IsConfirmed mid taken new told → Confirms mid taken.told new told
confirms mid taken new told (inl once) = record { tickets = ap (λ (s : SeatView). s.tickets) once.2; seen = ap (λ (s : SeatView). s.seen) once.2; lengths = ap (λ (s : SeatView). s.lengths) once.2; end = inl once.0 }
confirms mid taken new told (inr (inl done)) = record { tickets = ap (λ (s : SeatView). s.tickets) done.1; seen = ap (λ (s : SeatView). s.seen) done.1; lengths = ap (λ (s : SeatView). s.lengths) done.1; end = inl done.0 }
confirms mid taken new told (inr (inr none)) = record { tickets = ap (λ (s : SeatView). s.tickets) none.1; seen = ap (λ (s : SeatView). s.seen) none.1; lengths = ap (λ (s : SeatView). s.lengths) none.1; end = inr none.0 }

pub adds_order : (old mid new : SeatView) (input : Input) (taken : Note) (told : Told) → taken.asked ≡ Take input → IsTakeOf input taken → mid ≡ kept old taken → IsConfirmed mid taken new told → Adds (Take input) old new told
adds_order old mid new input taken told asked takes is c =
    let same = confirms mid taken new told c in
    order_told old new told taken.length (same.seen ∙ ap (λ (s : SeatView). s.seen) is) (same.lengths ∙ ap (λ (s : SeatView). s.lengths) is) input taken.told (λ place e. recorded_length taken input place takes e)
    (same.tickets ∙ (ap (λ (s : SeatView). s.tickets) is ∙ ap (tickets_after old.tickets taken.told) asked)) same.end

pub adds_question : (old mid new : SeatView) (id : TransactionId) (taken : Note) (told : Told) → taken.asked ≡ Query id → mid ≡ kept old taken → IsConfirmed mid taken new told → Adds (Query id) old new told
adds_question old mid new id taken told asked is c =
    let same = confirms mid taken new told c in
    question_told old new told taken.length (same.seen ∙ ap (λ (s : SeatView). s.seen) is) (same.lengths ∙ ap (λ (s : SeatView). s.lengths) is) id taken.told
    (same.tickets ∙ (ap (λ (s : SeatView). s.tickets) is ∙ ap (tickets_after old.tickets taken.told) asked))

no_question : (seat : SeatView) (id : TransactionId) → Adds (Query id) seat seat (Refused (record { code = 50 }))
no_question seat id = record {
  records = [];
  tickets = sym (append-nil seat.tickets);
  is = refl;
  grew = λ e. (e, (omega arith), All-nil (λ (t : Ticket). (seat.seen ≤ t.place + 1) × (t.place < seat.seen)));
}

-- nothing was asked: memory ran out for the order
adds_nothing : (seat : SeatView) (input : Input) (told : Told) → ((place : ℕ) → told ≡ Step (Recorded place) → ⊥) → Adds (Take input) seat seat told
adds_nothing seat input told none = record {
  records = [];
  tickets = sym (append-nil seat.tickets);
  is = none_told input told none;
  grew = λ e. (e, (omega arith), All-nil (λ (t : Ticket). (seat.seen ≤ t.place + 1) × (t.place < seat.seen)));
}

pub adds_unasked : (i : Instruction) (seat : SeatView) → Adds (asked_by i) seat seat (Refused (record { code = 50 }))
adds_unasked (instruction.Order input) seat = adds_nothing seat input (Refused (record { code = 50 })) (λ place e. cc (e))
adds_unasked (instruction.Status id) seat = no_question seat id
adds_unasked (instruction.Until id status turns) seat = no_question seat id

-- one question after another
pub adds_on : (a b c : SeatView) (id : TransactionId) (first told : Told) → Adds (Query id) a b first → Adds (Query id) b c told → Adds (Query id) a c told
adds_on a b c id first told f g = record {
  records = [];
  tickets =
      g.tickets ∙ (ap (λ (ts : List Ticket). b.tickets ++ ts) g.is ∙ (append-nil b.tickets ∙ (f.tickets ∙ ap (λ (ts : List Ticket). a.tickets ++ ts) f.is)));
  is = refl;
  grew = λ e. let y = g.grew e in let x = f.grew y.0 in (x.0, omega (arith, x.1, y.1), All-nil (λ (t : Ticket). (a.seen ≤ t.place + 1) × (t.place < c.seen)));
}

-- ---- one line more

-- no record, or one of an order
abbrev IsOneAtMost : Asked → List Ticket → Type 0
IsOneAtMost asked records = (records ≡ []) ⊎ ((place : ℕ) × (input : Input) × (asked ≡ Take input) × (records ≡ ticket place input ∷ []))

one_at_most : (asked : Asked) (told : Told) (records : List Ticket) → IsRecordOf asked told records → IsOneAtMost asked records
one_at_most (Take input) (Step (Recorded place)) records is = inr (place, input, refl, is)
one_at_most (Take input) (Step Repeat) records is = inl is
one_at_most (Take input) (Step Late) records is = inl is
one_at_most (Take input) (Status status) records is = inl is
one_at_most (Take input) (Refused refusal) records (inl none) = inl none
one_at_most (Take input) (Refused refusal) records (inr some) = inr (some.1.0, input, refl, some.1.1)
one_at_most (Query id) told records is = inl is

order_possible : (scheme : Scheme) (n : Node) (input : Input) → is_order (opening scheme) n input ≡ true → was_ordered input ≡ true
order_possible scheme n (inputs.Propose o) e = refl
order_possible scheme n (inputs.Request t) e = refl
order_possible scheme n (inputs.OpenAccount account) e = refl
order_possible scheme n (inputs.CloseAccount account) e = refl
order_possible scheme n (inputs.CleanUp moment) e = refl
order_possible scheme n (inputs.Eligible c may) e = refl
order_possible scheme n (inputs.Ack key) e = absurd (cc (e))
order_possible scheme n (inputs.Received m moment) e = absurd (cc (e))

asked_input : (i j : Input) → Take i ≡ Take j → i ≡ j
asked_input i j e = cc (e)

line_ordered : (scheme : Scheme) (n : Node) (i : Instruction) (input : Input) → asked_by i ≡ Take input → is_possible scheme n i ≡ true → was_ordered input ≡ true
line_ordered scheme n (instruction.Order given) input asked possible =
    subst (λ (i : Input). was_ordered i ≡ true) (asked_input given input asked) (order_possible scheme n given (and_parts (is_node scheme n) (is_order (opening scheme) n given) possible).1)
line_ordered scheme n (instruction.Status id) input asked possible = absurd (cc (asked))
line_ordered scheme n (instruction.Until id status turns) input asked possible = absurd (cc (asked))

abbrev IsOrdered : Ticket → Type 0
IsOrdered t = was_ordered t.input ≡ true

ordered_more : (scheme : Scheme) (l : ScriptLine) (tickets records : List Ticket) → All IsOrdered tickets → is_possible scheme l.node l.instruction ≡ true → IsOneAtMost (asked_by l.instruction) records → All IsOrdered (tickets ++ records)
ordered_more scheme l tickets records all possible (inl none) = subst (All IsOrdered) (sym (ap (λ (ts : List Ticket). tickets ++ ts) none ∙ append-nil tickets)) all
ordered_more scheme l tickets records all possible (inr one) =
    subst (λ (ts : List Ticket). All IsOrdered (tickets ++ ts)) (sym one.3) (All-push IsOrdered tickets (ticket one.0 one.1) all (line_ordered scheme l.node l.instruction one.1 one.2 possible))

ascend_more : (tickets : List Ticket) (u : Ticket) (seen : ℕ) → Ascend tickets → All (λ (t : Ticket). t.place < seen) tickets → seen ≤ u.place + 1 → Ascend (tickets ++ u ∷ [])
ascend_more tickets u seen ascend below last i j s t under at_i at_j =
    elim (last_or_before tickets u t j at_j) [
      | inl early ↦ elim (last_or_before tickets u s i at_i) [
        | inl before ↦ ascend i j s t under before early
        | inr late ↦ let within = slice_get_within tickets j t early in absurd (omega (arith, within, late.0, under))
      ]
      | inr new ↦ elim (last_or_before tickets u s i at_i) [
        | inl before ↦
            let low : s.place < seen = subst (λ (x : Ticket). x.place < seen) (get_or_from_slice_get tickets i s s before) (below i s (slice_get_within tickets i s before)) in
            subst (λ (x : Ticket). s.place ≤ x.place) (sym new.1) (omega (arith, low, last))
        | inr late ↦ absurd (omega (arith, late.0, new.0, under))
      ]
    ]

turns_more : (asked : Asked) (old new : SeatView) (told : Told) → AreInTurn old → Adds asked old new told → AreInTurn new
turns_more asked old new told turns a e =
    let g = a.grew e in
    let t = turns g.0 in
    let below : All (λ (x : Ticket). x.place < new.seen) (old.tickets ++ a.records) = All-append (λ (x : Ticket). x.place < new.seen) old.tickets a.records (All-weaker (λ (x : Ticket). x.place < old.seen) (λ (x : Ticket). x.place < new.seen) (λ x low. omega (arith, low, g.1)) old.tickets t.1)
    (All-weaker (λ (x : Ticket). (old.seen ≤ x.place + 1) × (x.place < new.seen)) (λ (x : Ticket). x.place < new.seen) (λ x h. h.1) a.records g.2) in
    (subst Ascend (sym a.tickets) (ascends (one_at_most asked told a.records a.is) g.2 t), subst (All (λ (x : Ticket). x.place < new.seen)) (sym a.tickets) below)
  where
    ascends : IsOneAtMost asked a.records → All (λ (x : Ticket). (old.seen ≤ x.place + 1) × (x.place < new.seen)) a.records → Ascend old.tickets × All (λ (x : Ticket). x.place < old.seen) old.tickets → Ascend (old.tickets ++ a.records)
    ascends (inl none) low t = subst Ascend (sym (ap (λ (ts : List Ticket). old.tickets ++ ts) none ∙ append-nil old.tickets)) t.0
    ascends (inr one) low t =
        let here : All (λ (x : Ticket). (old.seen ≤ x.place + 1) × (x.place < new.seen)) (ticket one.0 one.1 ∷ []) = subst (All (λ (x : Ticket). (old.seen ≤ x.place + 1) × (x.place < new.seen))) one.3 low in
        let first = here 0 (ticket one.0 one.1) (omega arith) in
        subst (λ (ts : List Ticket). Ascend (old.tickets ++ ts)) (sym one.3) (ascend_more old.tickets (ticket one.0 one.1) old.seen t.0 t.1 first.0)

lines_more : {T : Type 0} (Of : ScriptLine → Told → List T → Type 0) (n : Node) (ls : List ScriptLine) (answers : List ScriptAnswer) (left : List T) (l : ScriptLine) (answer : ScriptAnswer) (first : List T) → length answers ≡ length ls → AreOfLines Of n ls answers left
    → IsOfLine Of n l answer first → AreOfLines Of n (ls ++ l ∷ []) (answers ++ answer ∷ []) (left ++ first)
lines_more {T} Of n [] [] left l answer first len none is = (first, [], ap (λ (ts : List T). ts ++ first) none ∙ sym (append-nil first), is, refl)
lines_more {T} Of n [] (b ∷ bs) left l answer first len none is = absurd (omega (arith, len))
lines_more {T} Of n (m ∷ ms) [] left l answer first len none is = absurd (omega (arith, len))
lines_more {T} Of n (m ∷ ms) (b ∷ bs) left l answer first len h is =
    (h.0, h.1 ++ first, ap (λ (ts : List T). ts ++ first) h.2 ∙ append_assoc h.0 h.1 first, h.3, lines_more Of n ms bs h.1 l answer first (omega (arith, len)) h.4 is)

-- a line that left nothing there
no_more : {T : Type 0} (Of : ScriptLine → Told → List T → Type 0) (n : Node) (ls : List ScriptLine) (answers : List ScriptAnswer) (left : List T) (l : ScriptLine) (answer : ScriptAnswer) → length answers ≡ length ls → AreOfLines Of n ls answers left → IsOfLine Of n l answer []
    → AreOfLines Of n (ls ++ l ∷ []) (answers ++ answer ∷ []) left
no_more Of n ls answers left l answer len h is = subst (AreOfLines Of n (ls ++ l ∷ []) (answers ++ answer ∷ [])) (append-nil left) (lines_more Of n ls answers left l answer [] len h is)

abbrev IsRecordOfLine : ScriptLine → Told → List Ticket → Type 0
IsRecordOfLine l told = IsRecordOf (asked_by l.instruction) told

abbrev IsNotedOfLine : ScriptLine → Told → List Note → Type 0
IsNotedOfLine l = IsNotedOf l.instruction

-- ---- the seats of all nodes

-- of a seat without notes
pub has_none : (n : Node) (seat : SeatView) → seat.tickets ≡ [] → seat.notes ≡ [] → HasOrders n [] [] seat
has_none n seat empty unnoted = record {
  orders = empty;
  notes = unnoted;
  ordered = subst (All IsOrdered) (sym empty) (All-nil IsOrdered);
  turns = λ e. (
    subst Ascend (sym empty) (λ i j t u under at_i at_j. absurd (cc (at_i))),
    subst (All (λ (t : Ticket). t.place < seat.seen)) (sym empty) (All-nil (λ (t : Ticket). t.place < seat.seen)),
  );
}

no_orders : (scheme : Scheme) (seats : List SeatView) → All (λ (s : SeatView). (s.tickets ≡ []) × (s.notes ≡ [])) seats → HaveOrders scheme [] [] seats
no_orders scheme seats none n at seat place is =
    let nothing : (seat.tickets ≡ []) × (seat.notes ≡ []) = subst (λ (s : SeatView). (s.tickets ≡ []) × (s.notes ≡ [])) (get_or_from_slice_get seats at seat seat is) (none at seat (slice_get_within seats at seat is)) in
    has_none n seat nothing.0 nothing.1

pub played_none : (scheme : Scheme) (answers : List ScriptAnswer) (seats : List SeatView) → answers ≡ [] → All (λ (s : SeatView). (s.tickets ≡ []) × (s.notes ≡ [])) seats → IsPlayed scheme [] answers seats
played_none scheme answers seats none empty =
    subst (λ (given : List ScriptAnswer). IsPlayed scheme [] given seats) (sym none) (record { heard = heard_none scheme seats; orders = no_orders scheme seats empty })

module _ (scheme : Scheme) (ls : List ScriptLine) (answers : List ScriptAnswer) (seats : List SeatView) (l : ScriptLine) (len : length answers ≡ length ls) (have : HaveOrders scheme ls answers seats) where
  -- a line that isn't possible
  pub orders_impossible : HaveOrders scheme (ls ++ l ∷ []) (answers ++ NotPossible ∷ []) seats
  orders_impossible n at seat place is =
      let h = have n at seat place is in
      record {
        orders = no_more IsRecordOfLine n ls answers seat.tickets l NotPossible len h.orders refl;
        notes = no_more IsNotedOfLine n ls answers seat.notes l NotPossible len h.notes refl;
        ordered = h.ordered;
        turns = h.turns;
      }

  -- a line that was asked at its node
  module _ (told : Told) (at : ℕ) (old new : SeatView) (was : slice_get seats at ≡ Some old) (place : index_of scheme l.node ≡ Some at) (possible : is_possible scheme l.node l.instruction ≡ true) (a : Adds (asked_by l.instruction) old new told) (b : Notes (IsNotedOf l.instruction) old new told) where
    at_node : {T : Type 0} (Of : ScriptLine → Told → List T → Type 0) (n : Node) (left : List T) → index_of scheme n ≡ Some at → Of l told left → IsOfLine Of n l (Answered told) left
    at_node Of n left place_n is =
        let same : l.node ≡ n = one_some l.node n (sym (node_of_index scheme l.node at place) ∙ node_of_index scheme n at place_n) in
        ((λ its. is), (λ others. absurd (others same)))

    here : (n : Node) (seat : SeatView) → index_of scheme n ≡ Some at → seat ≡ new → HasOrders n (ls ++ l ∷ []) (answers ++ Answered told ∷ []) seat
    here n seat place_n is =
        let h = have n at old place_n was in
        subst (HasOrders n (ls ++ l ∷ []) (answers ++ Answered told ∷ [])) (sym is)
        (record {
          orders = subst (AreOrders n (ls ++ l ∷ []) (answers ++ Answered told ∷ [])) (sym a.tickets) (lines_more IsRecordOfLine n ls answers old.tickets l (Answered told) a.records len h.orders (at_node IsRecordOfLine n a.records place_n a.is));
          notes = subst (AreNotes n (ls ++ l ∷ []) (answers ++ Answered told ∷ [])) (sym b.added) (lines_more IsNotedOfLine n ls answers old.notes l (Answered told) b.notes len h.notes (at_node IsNotedOfLine n b.notes place_n b.is));
          ordered = subst (All IsOrdered) (sym a.tickets) (ordered_more scheme l old.tickets a.records h.ordered possible (one_at_most (asked_by l.instruction) told a.records a.is));
          turns = turns_more (asked_by l.instruction) old new told h.turns a;
        })

    elsewhere : (n : Node) (k : ℕ) (seat : SeatView) → index_of scheme n ≡ Some k → slice_get seats k ≡ Some seat → k ≢ at → HasOrders n (ls ++ l ∷ []) (answers ++ Answered told ∷ []) seat
    elsewhere n k seat place_n is other =
        let h = have n k seat place_n is in
        let differs : l.node ≢ n = λ same. other (one_some k at (sym place_n ∙ (ap (index_of scheme) (sym same) ∙ place))) in
        record {
          orders = no_more IsRecordOfLine n ls answers seat.tickets l (Answered told) len h.orders ((λ same. absurd (differs same)), (λ others. refl));
          notes = no_more IsNotedOfLine n ls answers seat.notes l (Answered told) len h.notes ((λ same. absurd (differs same)), (λ others. refl));
          ordered = h.ordered;
          turns = h.turns;
        }

    pub orders_asked : HaveOrders scheme (ls ++ l ∷ []) (answers ++ Answered told ∷ []) (set seats at new)
    orders_asked n k seat place_n is =
        let low : k < length (set seats at new) = slice_get_within (set seats at new) k seat is in
        let read : get_or (set seats at new) k seat ≡ seat = get_or_from_slice_get (set seats at new) k seat seat is in
        elim (cases_eq k at) [
          | inl same ↦
              let found : get_or (set seats at new) at seat ≡ new = get_or-set_same seats at new seat (slice_get_within seats at old was) in
              here n seat (place_n ∙ ap Some same) (sym read ∙ (ap (λ (m : ℕ). get_or (set seats at new) m seat) same ∙ found))
          | inr other ↦
              let kept : get_or seats k seat ≡ seat = sym (get_or-set_other seats at k new seat other) ∙ read in
              elsewhere n k seat place_n (slice_get-get_or seats k seat (omega (arith, low, length-set seats at new)) ∙ ap Some kept) other
        ]

-- the next line of a script
pub orders_next :
    (scheme : Scheme) (olds news : List SeatView) (lines : List ScriptLine) (k : ℕ) (answers more : List ScriptAnswer) (l : ScriptLine) (answer : ScriptAnswer) → slice_get lines k ≡ Some l → length answers ≡ length (take k lines) → HaveOrders scheme (take k lines) answers olds
    → ((ls : List ScriptLine) (given : List ScriptAnswer) → length given ≡ length ls → HaveOrders scheme ls given olds → HaveOrders scheme (ls ++ l ∷ []) (given ++ answer ∷ []) news) → more ≡ answers ++ answer ∷ []
    → HaveOrders scheme (take (k + 1) lines) more news
orders_next scheme olds news lines k answers more l answer at len have step longer =
    let next : suc k ≡ k + 1 = omega arith in
    subst (λ (ls : List ScriptLine). HaveOrders scheme ls more news) (sym (take_more k lines l at) ∙ ap (λ (m : ℕ). take m lines) next)
    (subst (λ (given : List ScriptAnswer). HaveOrders scheme (take k lines ++ l ∷ []) given news) (sym longer) (step (take k lines) answers len have))

-- ---- the seat of one node, all of whose lines are that node's

module _ (scheme : Scheme) (n : Node) (ls : List ScriptLine) (answers : List ScriptAnswer) (l : ScriptLine) (len : length answers ≡ length ls) where
  -- a line that wasn't asked
  pub has_unasked : (seat : SeatView) → HasOrders n ls answers seat → HasOrders n (ls ++ l ∷ []) (answers ++ NotPossible ∷ []) seat
  has_unasked seat h = record {
    orders = no_more IsRecordOfLine n ls answers seat.tickets l NotPossible len h.orders refl;
    notes = no_more IsNotedOfLine n ls answers seat.notes l NotPossible len h.notes refl;
    ordered = h.ordered;
    turns = h.turns;
  }

  -- a line of the node's that was asked
  pub has_asked : (told : Told) (old new : SeatView) → l.node ≡ n → is_possible scheme l.node l.instruction ≡ true → Adds (asked_by l.instruction) old new told → Notes (IsNotedOf l.instruction) old new told → HasOrders n ls answers old
      → HasOrders n (ls ++ l ∷ []) (answers ++ Answered told ∷ []) new
  has_asked told old new its possible a b h = record {
    orders = subst (AreOrders n (ls ++ l ∷ []) (answers ++ Answered told ∷ [])) (sym a.tickets) (lines_more IsRecordOfLine n ls answers old.tickets l (Answered told) a.records len h.orders ((λ same. a.is), (λ others. absurd (others its))));
    notes = subst (AreNotes n (ls ++ l ∷ []) (answers ++ Answered told ∷ [])) (sym b.added) (lines_more IsNotedOfLine n ls answers old.notes l (Answered told) b.notes len h.notes ((λ same. b.is), (λ others. absurd (others its))));
    ordered = subst (All IsOrdered) (sym a.tickets) (ordered_more scheme l old.tickets a.records h.ordered possible (one_at_most (asked_by l.instruction) told a.records a.is));
    turns = turns_more (asked_by l.instruction) old new told h.turns a;
  }
