-- The input that an event gives to a node: where it is recorded, and the messages in the bag afterwards.
use Rattle.std.proofs.Common.{◌≡◌, ℕ, Bool, true, false, cond, List, [], ◌∷◌, ◌++◌, length, Option, Some, None, option_map, refl, sym, ap, ◌∙◌, append_assoc}
use Rattle.std.specs.Prelude.{slice_get, option_and_then}
use Rattle.std.proofs.lemmas.List.{append-nil}
use Rattle.std.proofs.lemmas.Option.{same_Some}
use Rattle.units.proofs.Lists.Positions.{last_at}
use Rattle.units.specs.declared.code.Node.{Node}
use Rattle.status.specs.declared.moment.Moment.{Moment}
use Rattle.wire.specs.declared.input.Input.{Input}
use Rattle.wire.specs.declared.input.Input.TheVariants.{Received}
use Rattle.wire.specs.declared.message.Message.{Message}
use Rattle.protocol.specs.Claims.{whole}
use Rattle.protocol.specs.Deciding.{Verdict, IsRecorded, IsRepeat, IsLate, IsRefused}
use Rattle.protocol.specs.Verdict.{verdict, history}
use Rattle.protocol.specs.Weave.{Gives, Placed}
use Rattle.protocol.specs.World.{World, Station, Stepped, Turn, station, journal, put, stays, rests, answered, take_input, commit, crash, restart, sent, at_node, is_order, posted, step}
use Rattle.protocol.specs.declared.event.Outcome.TheVariants.{Recorded, Repeat, Late, Refused, NotPossible}
use Rattle.protocol.specs.declared.event.Posted.{Posted}
use Rattle.protocol.specs.declared.event.WorldEvent.{WorldEvent}
use Rattle.protocol.specs.declared.event.WorldEvent.TheVariants.{Take, Commit, Post, Deliver, Crash, Restart}
use Rattle.safety.proofs.WorldLemmas.StationsAfterPut.{at_put, found_at_node}
use Rattle.world.proofs.Worlds.{at_node_bag, delivered_bag}
use Rattle.weave.proofs.Turns.{gives_step, taken, not_possible}
use Rattle.trace.specs.Rows.{given}

abbrev pub receiver : World → WorldEvent → Option Node
receiver w e = option_map (λ (r : Placed). r.node) (given w e)

-- ---- the bag

ordered_bag : (w : World) (b : Bool) (x : Stepped) → x.world.bag ≡ w.bag → (cond b x (stays w NotPossible)).world.bag ≡ w.bag
ordered_bag w true x e = e
ordered_bag w false x e = refl

posted_bag : (w : World) (n : Node) (key : ℕ) (o : Option Message) → (rest : List Posted) × ((posted w n key o).world.bag ≡ w.bag ++ rest)
posted_bag w n key None = ([], sym (append-nil w.bag))
posted_bag w n key (Some m) = (record { node = n; key = key; message = m } ∷ [], refl)

as_before : (w v : World) → v.bag ≡ w.bag → (rest : List Posted) × (v.bag ≡ w.bag ++ rest)
as_before w v e = ([], e ∙ sym (append-nil w.bag))

-- no event takes a message from it
pub grown_bag : (w : World) (e : WorldEvent) → (rest : List Posted) × ((step w e).world.bag ≡ w.bag ++ rest)
unfolding step
grown_bag w (Take n input) = as_before w (step w (Take n input)).world (ordered_bag w (is_order w n input) (taken w n input) (at_node_bag w (station w n) (take_input w.scheme input)))
grown_bag w (Commit n count) = as_before w (step w (Commit n count)).world (at_node_bag w (station w n) (commit count))
grown_bag w (Post n key) = posted_bag w n key (option_and_then (sent w.scheme key) (station w n))
grown_bag w (Deliver index moment) = as_before w (step w (Deliver index moment)).world (delivered_bag w moment (slice_get w.bag index))
grown_bag w (Crash n kept) = as_before w (step w (Crash n kept)).world (at_node_bag w (station w n) (crash kept))
grown_bag w (Restart n) = as_before w (step w (Restart n)).world (at_node_bag w (station w n) restart)

none_given : (n : Node) → None ≡ Some n → ⊥
none_given n e = cc (e)

-- an event that gives an input posts nothing
pub kept_bag : (w : World) (e : WorldEvent) (n : Node) → receiver w e ≡ Some n → (step w e).world.bag ≡ w.bag
unfolding step
kept_bag w (Take n input) m h = ordered_bag w (is_order w n input) (taken w n input) (at_node_bag w (station w n) (take_input w.scheme input))
kept_bag w (Commit n count) m h = absurd (none_given m h)
kept_bag w (Post n key) m h = absurd (none_given m h)
kept_bag w (Deliver index moment) m h = delivered_bag w moment (slice_get w.bag index)
kept_bag w (Crash n kept) m h = absurd (none_given m h)
kept_bag w (Restart n) m h = absurd (none_given m h)

-- ---- where it is recorded

no_repeat : (place : ℕ) → Repeat ≡ Recorded place → ⊥
no_repeat place e = cc (e)

no_late : (place : ℕ) → Late ≡ Recorded place → ⊥
no_late place e = cc (e)

no_refusal : (code place : ℕ) → Refused code ≡ Recorded place → ⊥
no_refusal code place e = cc (e)

one_place : (a b : ℕ) → Recorded a ≡ Recorded b → a ≡ b
one_place a b e = cc (e)

abbrev turn_of : Bool → Station → Input → Verdict → Turn
turn_of b s input v = cond b (answered s input v) (rests s NotPossible)

turn_node : (b : Bool) (s : Station) (input : Input) (v : Verdict) → (turn_of b s input v).station.node ≡ s.node
turn_node true s input (IsRecorded xs) = refl
turn_node true s input IsRepeat = refl
turn_node true s input IsLate = refl
turn_node true s input (IsRefused code) = refl
turn_node false s input v = refl

turn_record : (b : Bool) (s : Station) (input : Input) (v : Verdict) (place : ℕ) → (turn_of b s input v).outcome ≡ Recorded place → slice_get (journal (turn_of b s input v).station) place ≡ Some input
turn_record true s input (IsRecorded xs) place r =
    ap (slice_get (s.committed ++ (s.tail ++ input ∷ []))) (sym (one_place (length (journal s)) place r))
    ∙ ap (λ j. slice_get j (length (journal s))) (sym (append_assoc s.committed s.tail (input ∷ [])))
    ∙ last_at (journal s) input
turn_record true s input IsRepeat place r = absurd (no_repeat place r)
turn_record true s input IsLate place r = absurd (no_late place r)
turn_record true s input (IsRefused code) place r = absurd (no_refusal code place r)
turn_record false s input v place r = absurd (not_possible place r)

taken_at : (w : World) (n : Node) (input : Input) (place : ℕ) (o : Option Station) → station w n ≡ o → (at_node w o (take_input w.scheme input)).outcome ≡ Recorded place
    → slice_get (whole (station (at_node w o (take_input w.scheme input)).world n)) place ≡ Some input
taken_at w n input place None h r = absurd (not_possible place r)
taken_at w n input place (Some s) h r =
    let v = verdict w.scheme s.node (history w.scheme s.node (journal s)) input in
    let t = turn_of s.runs s input v in
    let here : station (put w t.station) n ≡ Some t.station = at_put n w.stations s t.station h (turn_node s.runs s input v ∙ found_at_node n w.stations s h) in
    ap (λ x. slice_get (whole x) place) here ∙ turn_record s.runs s input v place r

gives_delivered : (w : World) (moment : Moment) (o : Option Posted) (r : Placed) → option_map (λ (p : Posted). record { node = p.message.to; input = Received p.message moment }) o ≡ Some r
    → (p : Posted) × (o ≡ Some p) × (p.message.to ≡ r.node) × (Received p.message moment ≡ r.input)
gives_delivered w moment None r h = cc
gives_delivered w moment (Some p) r h =
    let same = same_Some (record { node = p.message.to; input = Received p.message moment }) r h in
    (p, refl, ap (λ (x : Placed). x.node) same, ap (λ (x : Placed). x.input) same)

gives_given : (w : World) (e : WorldEvent) (r : Placed) → given w e ≡ Some r → Gives w e r.node r.input
gives_given w (Take n input) r h = let same = same_Some (record { node = n; input = input }) r h in (ap (λ (x : Placed). x.node) same, ap (λ (x : Placed). x.input) same)
gives_given w (Deliver index moment) r h = gives_delivered w moment (slice_get w.bag index) r h
gives_given w (Commit n count) r h = cc
gives_given w (Post n key) r h = cc
gives_given w (Crash n kept) r h = cc
gives_given w (Restart n) r h = cc

-- it is the record at its place of the node's journal
pub recorded : (w : World) (e : WorldEvent) (r : Placed) (place : ℕ) → given w e ≡ Some r → (step w e).outcome ≡ Recorded place → slice_get (whole (station (step w e).world r.node)) place ≡ Some r.input
recorded w e r place h is =
    let goes : step w e ≡ taken w r.node r.input = gives_step w e r.node r.input place (gives_given w e r h) is in
    ap (λ (s : Stepped). slice_get (whole (station s.world r.node)) place) goes
    ∙ taken_at w r.node r.input place (station w r.node) refl (ap (λ (s : Stepped). s.outcome) (sym goes) ∙ is)

-- the node to which an event gives an input is the node of that input's row
pub given_to : (w : World) (e : WorldEvent) (n : Node) → receiver w e ≡ Some n → (r : Placed) × (given w e ≡ Some r) × (r.node ≡ n)
given_to w e n h = of (given w e) h
  where
    of : (o : Option Placed) → option_map (λ (r : Placed). r.node) o ≡ Some n → (r : Placed) × (o ≡ Some r) × (r.node ≡ n)
    of None f = absurd (none_given n f)
    of (Some r) f = (r, refl, same_Some r.node n f)

pub given_none : (w : World) (e : WorldEvent) → receiver w e ≡ None → given w e ≡ None
given_none w e h = of (given w e) h
  where
    of : (o : Option Placed) → option_map (λ (r : Placed). r.node) o ≡ None → o ≡ None
    of None f = refl
    of (Some r) f = cc
