-- What a seat has kept of the results that it got at a desk.
use Rattle.std.proofs.Common.{◌≡◌, ◌∙◌, ◌+◌, ◌<◌, ◌≤◌, ℕ, Bool, true, false, true≢false, List, [], ◌∷◌, ◌++◌, length, Option, Result, Ok, Err, inl, inr, refl, sym, ap, subst, arith, max, if◌then◌else◌, length-append}
use Rattle.std.proofs.lemmas.List.Elements.{Contains-append_left, Contains-push}
use Rattle.std.specs.Prelude.{Contains}
use Rattle.units.specs.declared.refusal.Refusal.{Refusal}
use Rattle.status.specs.declared.id.TransactionId.{TransactionId}
use Rattle.protocol.specs.Input.{Input}
use Rattle.protocol.specs.Cores.{after, answer_of}
use Rattle.protocol.specs.Deciding.{Verdict, IsRecorded, IsRepeat, IsLate, IsRefused}
use Rattle.protocol.specs.declared.node_core.Stepped.{Stepped}
use Rattle.protocol.specs.declared.node_core.Stepped.TheVariants.{Recorded, Repeat, Late}
use Rattle.status.specs.declared.status.Status.{Status as AStatus}
use Rattle.node_state.specs.Calls.{Takes}
use Rattle.desk.specs.Desks.{IsQueryOf, IsTakeOf}
use Rattle.node_state.specs.Expected.{stopped, told_of}
use Rattle.node_state.specs.Telling.{is_unjudged, kept, notes_after, tickets_after}
use Rattle.node_state.specs.Views.{StateView, SeatView}
use Rattle.node_state.specs.declared.notes.Asked.{Asked}
use Rattle.node_state.specs.declared.notes.Asked.TheVariants.{Take, Query}
use Rattle.node_state.specs.declared.notes.Note.{Note}
use Rattle.node_state.specs.declared.notes.Ticket.{Ticket}
use Rattle.node_state.specs.declared.notes.Told.{Told}
use Rattle.node_state.specs.declared.notes.Told.TheVariants.{Step, Status, Refused}
use Rattle.replies.specs.Answers.{confirmed, is_without_journal}
use Rattle.serving.specs.Heard.{Grows, HasHeard, HasNoted, IsConfirmed}

-- ---- lists

max_left : (a b : ℕ) → a ≤ max a b
max_left a b = omega arith

max_right : (a b : ℕ) → b ≤ max a b
max_right a b = omega arith

-- ---- growing

pub same_seat : (seat : SeatView) → Grows seat seat
same_seat seat = record { tickets = λ t is. is; notes = λ n is. is; confirmed = omega arith }

pub grows_on : (a b c : SeatView) → Grows a b → Grows b c → Grows a c
grows_on a b c f g = record { tickets = λ t is. g.tickets t (f.tickets t is); notes = λ n is. g.notes n (f.notes n is); confirmed = omega (arith, f.confirmed, g.confirmed) }

more_tickets : (ts : List Ticket) (told : Told) (asked : Asked) (t : Ticket) → Contains ts t → Contains (tickets_after ts told asked) t
more_tickets ts (Step (Recorded place)) (Take input) t is = Contains-append_left ts (record { place = place; input = input } ∷ []) t is
more_tickets ts (Step (Recorded place)) (Query id) t is = is
more_tickets ts (Step Repeat) asked t is = is
more_tickets ts (Step Late) asked t is = is
more_tickets ts (Status status) asked t is = is
more_tickets ts (Refused refusal) asked t is = is

either_way : (b : Bool) (ns : List Note) (note n : Note) → Contains ns n → Contains (if b then ns else ns ++ note ∷ []) n
either_way true ns note n is = is
either_way false ns note n is = Contains-append_left ns (note ∷ []) n is

more_notes : (ns : List Note) (told : Told) (note n : Note) → Contains ns n → Contains (notes_after ns told note) n
more_notes ns (Step (Recorded place)) note n is = is
more_notes ns (Step Repeat) note n is = Contains-append_left ns (note ∷ []) n is
more_notes ns (Step Late) note n is = Contains-append_left ns (note ∷ []) n is
more_notes ns (Status status) note n is = Contains-append_left ns (note ∷ []) n is
more_notes ns (Refused refusal) note n is = either_way (is_unjudged refusal.code) ns note n is

kept_grows : (seat : SeatView) (note : Note) → Grows seat (kept seat note)
kept_grows seat note = record {
  tickets = λ t is. more_tickets seat.tickets note.told note.asked t is;
  notes = λ n is. more_notes seat.notes note.told note n is;
  confirmed = omega arith;
}

confirmed_grows : (seat : SeatView) (note : Note) → Grows seat (confirmed seat note)
confirmed_grows seat note = record { tickets = λ t is. is; notes = λ n is. is; confirmed = max_left seat.confirmed note.length }

pub grows_asked : (old mid new : SeatView) (taken : Note) (told : Told) → mid ≡ kept old taken → IsConfirmed mid taken new told → Grows old new
grows_asked old mid new taken told is c =
    let first : Grows old mid = subst (Grows old) (sym is) (kept_grows old taken) in
    elim c [
      | inl at_once ↦ subst (Grows old) (sym at_once.2) first
      | inr later ↦ elim later [
        | inl done ↦ grows_on old mid new first (subst (Grows mid) (sym done.1) (confirmed_grows mid taken))
        | inr none ↦ subst (Grows old) (sym none.1) first
      ]
    ]

-- ---- a seat that has grown has still heard each result

noted_on : (old new : SeatView) (asked : Asked) (told : Told) → Grows old new → HasNoted old asked told → HasNoted new asked told
noted_on old new asked told g h = (h.0, g.notes _ h.1, omega (arith, h.2, g.confirmed))

pub heard_on : (old new : SeatView) (asked : Asked) (told : Told) → Grows old new → HasHeard old asked told → HasHeard new asked told
heard_on old new (Take input) (Step (Recorded place)) g h = (g.tickets _ h.0, omega (arith, h.1, g.confirmed))
heard_on old new (Query id) (Step (Recorded place)) g h = h
heard_on old new asked (Step Repeat) g h = noted_on old new asked (Step Repeat) g h
heard_on old new asked (Step Late) g h = noted_on old new asked (Step Late) g h
heard_on old new asked (Status status) g h = noted_on old new asked (Status status) g h
heard_on old new asked (Refused refusal) g h = λ judged. noted_on old new asked (Refused refusal) g (h judged)

-- ---- one question and its answer

unjudged : (new : SeatView) (asked : Asked) (told : Told) → is_without_journal told ≡ true → HasHeard new asked told
unjudged new asked (Step (Recorded place)) e = absurd (true≢false (sym e))
unjudged new asked (Step Repeat) e = absurd (true≢false (sym e))
unjudged new asked (Step Late) e = absurd (true≢false (sym e))
unjudged new asked (Status status) e = absurd (true≢false (sym e))
unjudged new asked (Refused refusal) e = λ judged. absurd (true≢false (sym e ∙ judged))

-- a record's place is the last one of the length that was noted with it
recorded_place : (place : ℕ) (journal : List Input) (v : Verdict) → answer_of (length journal) v ≡ Ok (Recorded place) → place ≡ length journal
recorded_place place journal (IsRecorded xs) e = cc (e)
recorded_place place journal IsRepeat e = absurd (cc (e))
recorded_place place journal IsLate e = absurd (cc (e))
recorded_place place journal (IsRefused code) e = absurd (cc (e))

result_of : (result : Result Stepped Refusal) (s : Stepped) → told_of result ≡ Step s → result ≡ Ok s
result_of (Ok found) s e = cc (e)
result_of (Err refusal) s e = absurd (cc (e))

one_longer : (old new : StateView) (input : Input) (result : Result Stepped Refusal) (place : ℕ) → Takes old input result new → result ≡ Ok (Recorded place) → (runs : Bool) → old.runs ≡ runs → length new.journal ≡ place + 1
one_longer old new input result place takes is false e = let stops : result ≡ Err stopped = (takes.0 e).0 in absurd (cc (sym is ∙ stops))
one_longer old new input result place takes is true e =
    elim ((takes.1 e).0) [
      | inl due ↦
          let here : place ≡ length old.journal = recorded_place place old.journal _ (sym due ∙ is) in
          let longer : new.journal ≡ old.journal ++ input ∷ [] = ap (λ (h : StateView). h.journal) (takes.1 e).1 ∙ ap (after old.journal input) is in
          omega (arith, here, ap (λ (js : List Input). length js) longer, length-append old.journal (input ∷ []))
      | inr lacks ↦ absurd (cc (sym is ∙ lacks))
    ]

pub recorded_length : (taken : Note) (input : Input) (place : ℕ) → IsTakeOf input taken → taken.told ≡ Step (Recorded place) → taken.length ≡ place + 1
recorded_length taken input place (inl lacks) e = absurd (cc (sym e ∙ lacks))
recorded_length taken input place (inr h) e =
    let tells = h.2 in
    let is : tells.0 ≡ Ok (Recorded place) = result_of tells.0 (Recorded place) (sym tells.1 ∙ e) in
    h.3 ∙ one_longer h.0 h.1 input tells.0 place tells.2 is h.0.runs refl

place_below : (taken : Note) (input : Input) (place : ℕ) → IsTakeOf input taken → taken.told ≡ Step (Recorded place) → place < taken.length
place_below taken input place takes e = omega (arith, recorded_length taken input place takes e)

either_told : (b : Bool) (status : Option AStatus) (s : Stepped) → (if b then Status status else Refused stopped) ≡ Step s → ⊥
either_told true status s e = cc (e)
either_told false status s e = cc (e)

no_step : (taken : Note) (id : TransactionId) (s : Stepped) → IsQueryOf id taken → taken.told ≡ Step s → ⊥
no_step taken id s (inl lacks) e = cc (sym e ∙ lacks)
no_step taken id s (inr h) e = either_told h.0.runs _ s (sym h.1 ∙ e)

noted_last : (old : SeatView) (asked : Asked) (told : Told) (len : ℕ) → notes_after old.notes told (record { asked = asked; told = told; length = len }) ≡ old.notes ++ record { asked = asked; told = told; length = len } ∷ []
    → HasNoted (confirmed (kept old (record { asked = asked; told = told; length = len })) (record { asked = asked; told = told; length = len })) asked told
noted_last old asked told len added =
    let note : Note = record { asked = asked; told = told; length = len } in
    (len, subst (λ ns. Contains ns note) (sym added) (Contains-push old.notes note), max_right old.confirmed len)

judged_last : (old : SeatView) (asked : Asked) (refusal : Refusal) (len : ℕ) → is_unjudged refusal.code ≡ false
    → notes_after old.notes (Refused refusal) (record { asked = asked; told = Refused refusal; length = len }) ≡ old.notes ++ record { asked = asked; told = Refused refusal; length = len } ∷ []
judged_last old asked refusal len judged =
    let note : Note = record { asked = asked; told = Refused refusal; length = len } in
    ap (λ b. if b then old.notes else old.notes ++ note ∷ []) judged

-- the result of a question, or of an order that was not recorded
heard_last : (old : SeatView) (asked : Asked) (told : Told) (len : ℕ) → ((place : ℕ) → told ≡ Step (Recorded place) → ⊥)
    → HasHeard (confirmed (kept old (record { asked = asked; told = told; length = len })) (record { asked = asked; told = told; length = len })) asked told
heard_last old asked (Step (Recorded place)) len none = absurd (none place refl)
heard_last old asked (Step Repeat) len none = noted_last old asked (Step Repeat) len refl
heard_last old asked (Step Late) len none = noted_last old asked (Step Late) len refl
heard_last old asked (Status status) len none = noted_last old asked (Status status) len refl
heard_last old asked (Refused refusal) len none = λ judged. noted_last old asked (Refused refusal) len (judged_last old asked refusal len judged)

order_last : (old : SeatView) (input : Input) (told : Told) (len : ℕ) → IsTakeOf input (record { asked = Take input; told = told; length = len })
    → HasHeard (confirmed (kept old (record { asked = Take input; told = told; length = len })) (record { asked = Take input; told = told; length = len })) (Take input) told
order_last old input (Step (Recorded place)) len takes =
    let below = place_below (record { asked = Take input; told = Step (Recorded place); length = len }) input place takes refl in
    (Contains-push old.tickets (record { place = place; input = input }), omega (arith, below, max_right old.confirmed len))
order_last old input (Step Repeat) len takes = heard_last old (Take input) (Step Repeat) len (λ place e. cc (e))
order_last old input (Step Late) len takes = heard_last old (Take input) (Step Late) len (λ place e. cc (e))
order_last old input (Status status) len takes = heard_last old (Take input) (Status status) len (λ place e. cc (e))
order_last old input (Refused refusal) len takes = heard_last old (Take input) (Refused refusal) len (λ place e. cc (e))

note_is : (n : Note) (asked : Asked) (told : Told) → n.asked ≡ asked → told ≡ n.told → n ≡ record { asked = asked; told = told; length = n.length }
note_is n asked told a t =
    ap (λ (x : Asked). record { asked = x; told = n.told; length = n.length }) a ∙ ap (λ (x : Told). record { asked = asked; told = x; length = n.length }) (sym t)

-- a result that was returned at once, or as the node had stopped, counts as heard by any seat; any other is heard by
-- the seat to which it was confirmed
told_heard : (old mid new : SeatView) (asked : Asked) (taken : Note) (told : Told) → taken.asked ≡ asked → mid ≡ kept old taken
    → (taken ≡ record { asked = asked; told = told; length = taken.length } → HasHeard (confirmed (kept old (record { asked = asked; told = told; length = taken.length })) (record { asked = asked; told = told; length = taken.length })) asked told)
    → IsConfirmed mid taken new told → HasHeard new asked told
told_heard old mid new asked taken told is_asked is last c =
    elim c [
      | inl at_once ↦ unjudged new asked told (ap is_without_journal at_once.0 ∙ at_once.1)
      | inr later ↦ elim later [
        | inl done ↦
            let same : taken ≡ record { asked = asked; told = told; length = taken.length } = note_is taken asked told is_asked done.0 in
            let new_is = done.1 ∙ ap (λ (s : SeatView). confirmed s taken) is ∙ ap (λ (n : Note). confirmed (kept old n) n) same in
            subst (λ (s : SeatView). HasHeard s asked told) (sym new_is) (last same)
        | inr none ↦ unjudged new asked told (ap is_without_journal none.0)
      ]
    ]

pub heard_order : (old mid new : SeatView) (input : Input) (taken : Note) (told : Told) → taken.asked ≡ Take input → IsTakeOf input taken → mid ≡ kept old taken → IsConfirmed mid taken new told → HasHeard new (Take input) told
heard_order old mid new input taken told asked takes is c =
    told_heard old mid new (Take input) taken told asked is
    (λ same. order_last old input told taken.length (subst (IsTakeOf input) same takes)) c

pub heard_question : (old mid new : SeatView) (id : TransactionId) (taken : Note) (told : Told) → taken.asked ≡ Query id → IsQueryOf id taken → mid ≡ kept old taken → IsConfirmed mid taken new told → HasHeard new (Query id) told
heard_question old mid new id taken told asked takes is c =
    told_heard old mid new (Query id) taken told asked is
    (λ same. heard_last old (Query id) told taken.length (λ place e. no_step taken id (Recorded place) takes (ap (λ (x : Note). x.told) same ∙ e))) c
