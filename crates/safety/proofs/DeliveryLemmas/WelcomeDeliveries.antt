-- The refusals of deliveries in worlds that events lead to.
use Rattle.std.proofs.Common.{◌≡◌, ℕ, List, [], Bool, true, false, cond, Option, Some, None, refl, sym, ap, subst}
use Rattle.std.specs.Prelude.{slice_get}
use Rattle.units.specs.RefusalCodes.{journal_full}
use Rattle.units.specs.declared.code.Node.{Node}
use Rattle.units.specs.declared.code.Node.TheVariants.{Itl}
use Rattle.status.specs.declared.moment.Moment.{Moment}
use Rattle.wire.specs.declared.input.Input.{Input}
use Rattle.wire.specs.declared.input.Input.TheVariants.{Received}
use Rattle.wire.specs.declared.message.Message.{Message}
use Rattle.scheme.specs.declared.registries.Scheme.{Scheme}
use Rattle.protocol.specs.Claims.{DeliversWelcome, live_of, whole}
use Rattle.protocol.specs.Deciding.{Verdict, IsRecorded, IsRepeat, IsLate, IsRefused}
use Rattle.protocol.specs.History.{sends}
use Rattle.protocol.specs.Verdict.{verdict, history}
use Rattle.protocol.specs.World.{World, Station, station, journal, rests, answered, take_input, at_node, opening, run, deliver, step}
use Rattle.protocol.specs.declared.event.Outcome.TheVariants.{NotPossible, Refused}
use Rattle.protocol.specs.declared.event.Posted.{Posted}
use Rattle.protocol.specs.declared.event.WorldEvent.{WorldEvent}
use Rattle.units.proofs.Lists.Membership.{In, In_slice_get}
use Rattle.units.proofs.Lists.Positions.{In_contains}
use Rattle.safety.specs.Strangers.{AreStrange, opening_among}
use Rattle.safety.specs.Trust.{DeliversWelcomeAmong}
use Rattle.safety.proofs.AgreementOfNodes.CausalHistories.{all_nodes}
use Rattle.safety.proofs.WorldLemmas.NodesWithStation.{Unplaced, live_unplaced, opening_placed, run_placed}
use Rattle.safety.proofs.WorldLemmas.SoundWorlds.{SoundAmong, run_sound, opening_sound_among, live_causal, live_sends}
use Rattle.safety.proofs.WorldLemmas.StationsAfterPut.{found_at_node}
use Rattle.safety.proofs.DeliveryLemmas.WelcomeMessages.{welcome}

-- a turn that is refused is refused by the verdict
refused_turn : (b : Bool) (s : Station) (input : Input) (v : Verdict) (code : ℕ) → (cond b (answered s input v) (rests s NotPossible)).outcome ≡ Refused code → v ≡ IsRefused code
refused_turn false s input v code h = absurd (cc (h))
refused_turn true s input (IsRecorded xs) code h = absurd (cc (h))
refused_turn true s input IsRepeat code h = absurd (cc (h))
refused_turn true s input IsLate code h = absurd (cc (h))
refused_turn true s input (IsRefused c) code h = let same : c ≡ code = cc (h) in ap IsRefused same

module _ {trusted : Node → Bool} (log : trusted Itl ≡ true) (w : World) (sound : SoundAmong trusted w) (unplaced : Unplaced w.scheme (live_of w)) where
  -- a message of the bag in the name of a trusted node was sent by the live journal of that node
  bag_sent : (index : ℕ) (p : Posted) → slice_get w.bag index ≡ Some p → trusted p.message.from ≡ true → In p.message (sends (live_of w p.message.from))
  bag_sent index p e trust = live_sends w p.message.from p.message (sound.posted p (In_slice_get w.bag index p e) trust)

  -- ---- what is refused

  module _ (p : Posted) (moment : Moment) (code : ℕ) (from : trusted p.message.from ≡ true) (to : trusted p.message.to ≡ true) (sent : In p.message (sends (live_of w p.message.from))) where
    delivered_here : (s : Station) → station w p.message.to ≡ Some s → (take_input w.scheme (Received p.message moment) s).outcome ≡ Refused code → code ≡ journal_full
    delivered_here s is outcome =
        let input = Received p.message moment in
        let here = refused_turn s.runs s input (verdict w.scheme s.node (history w.scheme s.node (journal s)) input) code outcome in
        let there = subst (λ z. verdict w.scheme z (history w.scheme z (journal s)) input ≡ IsRefused code) (found_at_node p.message.to w.stations s is) here in
        let live = subst (λ (o : Option Station). verdict w.scheme p.message.to (history w.scheme p.message.to (whole o)) input ≡ IsRefused code) (sym is) there in
        welcome w.scheme (live_of w) (live_causal w sound) log unplaced p.message.from p.message.to from to p.message moment refl refl sent code live

    delivered_to : (o : Option Station) → station w p.message.to ≡ o → (at_node w o (take_input w.scheme (Received p.message moment))).outcome ≡ Refused code → code ≡ journal_full
    delivered_to None is outcome = absurd (cc (outcome))
    delivered_to (Some s) is outcome = delivered_here s is outcome

  delivers_among : DeliversWelcomeAmong trusted w
  unfolding step
  delivers_among index moment code p at from to outcome =
      delivered_to p moment code from to (bag_sent index p at from) (station w p.message.to) refl (subst (λ (o : Option Posted). (deliver w moment o).outcome ≡ Refused code) at outcome)

-- ---- worlds that events lead to

pub delivers_welcome_among : (trusted : Node → Bool) (scheme : Scheme) (ms : List Message) → AreStrange trusted ms → trusted Itl ≡ true → (events : List WorldEvent)
    → DeliversWelcomeAmong trusted (run (opening_among scheme ms) events)
delivers_welcome_among trusted scheme ms strange log events =
    let w = run (opening_among scheme ms) events in
    delivers_among log w (run_sound (opening_among scheme ms) events (opening_sound_among trusted scheme ms strange)) (live_unplaced w (run_placed (opening_among scheme ms) events (opening_placed scheme)))

-- the case without strangers
pub delivers_welcome : (scheme : Scheme) (events : List WorldEvent) → DeliversWelcome (run (opening scheme) events)
unfolding step
delivers_welcome scheme events index moment code outcome = go (slice_get w.bag index) refl outcome
  where
    w : World
    w = run (opening scheme) events

    go : (o : Option Posted) → slice_get w.bag index ≡ o → (deliver w moment o).outcome ≡ Refused code → code ≡ journal_full
    go None at h = absurd (cc (h))
    go (Some p) at h = delivers_welcome_among all_nodes scheme [] (λ m i. absurd (In_contains [] m i)) refl events index moment code p at refl refl outcome
