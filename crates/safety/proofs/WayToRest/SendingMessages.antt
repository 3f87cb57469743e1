-- In a quiet world a message that was sent can be posted, delivered and committed. `send` joins these events into one
-- step. Its result `Went` has equations for the receiver's new record and for the histories of the other nodes, which
-- are the same: the next step starts from a quiet world of the same scheme again.
use Rattle.std.proofs.Common.{◌≡◌, ℕ, suc, ◌+◌, ◌≤◌, List, [], ◌∷◌, ◌++◌, true, false, cond, Some, inl, inr, sym, ap, subst, ◌∙◌, arith, length}
use Rattle.std.proofs.lemmas.Bool.{cond-true, cond-false, cases_Bool}
use Rattle.units.proofs.Same.{node_of_same}
use Rattle.units.specs.Code.{same_node}
use Rattle.units.specs.declared.code.Node.{Node}
use Rattle.status.proofs.Ids.{same_id-refl}
use Rattle.status.specs.Id.{same_id}
use Rattle.status.specs.declared.id.TransactionId.{TransactionId}
use Rattle.status.specs.declared.moment.Moment.{Moment}
use Rattle.wire.specs.declared.input.Input.{Input}
use Rattle.wire.specs.declared.input.Input.TheVariants.{Received}
use Rattle.wire.specs.declared.message.Message.{Message}
use Rattle.scheme.specs.declared.registries.Scheme.{Scheme}
use Rattle.protocol.specs.Claims.{committed_of, committed_part}
use Rattle.protocol.specs.Deciding.{Verdict, IsRecorded}
use Rattle.protocol.specs.History.{Entry, Transition, newest, sends, transitions_of}
use Rattle.protocol.specs.Registries.{is_node}
use Rattle.protocol.specs.Verdict.{history, transitions_made, verdict}
use Rattle.protocol.specs.WayOut.{OnlyTransport}
use Rattle.protocol.specs.World.{World, run, station}
use Rattle.protocol.specs.declared.event.WorldEvent.{WorldEvent}
use Rattle.protocol.specs.declared.event.WorldEvent.TheVariants.{Commit, Deliver, Post}
use Rattle.protocol.proofs.Histories.{history_from_append}
use Rattle.units.proofs.Lists.Membership.{In}
use Rattle.safety.proofs.WorldLemmas.QuietWorlds.{Grown, Quiet, delivers, quiet_after}
use Rattle.safety.proofs.WorldLemmas.SchemesKept.{run_scheme}

-- ---- histories of a world that grew

module _ (w : World) (events : List WorldEvent) (n : Node) (input : Input) (g : Grown w events n input) where
  grown_here : committed_of (run w events) n ≡ history w.scheme n (committed_part (station w n) ++ input ∷ [])
  grown_here = ap (λ (z : Scheme). history z n (committed_part (station (run w events) n))) (run_scheme w events) ∙ ap (history w.scheme n) (ap committed_part g.here ∙ g.committed)

  grown_elsewhere : (m : Node) → same_node n m ≡ false → committed_of (run w events) m ≡ committed_of w m
  grown_elsewhere m other =
      ap (λ (z : Scheme). history z m (committed_part (station (run w events) m))) (run_scheme w events) ∙ ap (λ o. history w.scheme m (committed_part o)) (g.elsewhere m other)

  -- with the transitions that its verdict enters
  grown_entry : (xs : List Transition) → verdict w.scheme n (committed_of w n) input ≡ IsRecorded xs
      → committed_of (run w events) n ≡ record { input = input; transitions = xs } ∷ committed_of w n
  grown_entry xs says =
      grown_here ∙ history_from_append w.scheme n [] (committed_part (station w n)) (input ∷ [])
      ∙ ap {B = List Entry} (λ (z : Verdict). record { input = input; transitions = transitions_made z } ∷ committed_of w n) says

-- ---- a message goes

-- a quiet world of that scheme
pub record Calm (scheme : Scheme) (w : World) : Type 0 where
  pub quiet : Quiet w
  pub same : w.scheme ≡ scheme

calm_after : (scheme : Scheme) (w : World) (events : List WorldEvent) → Calm scheme w → Quiet (run w events) → Calm scheme (run w events)
calm_after scheme w events calm quiet = record { quiet = quiet; same = run_scheme w events ∙ calm.same }

-- a message was sent on, and the receiver made one transition of it
pub record Went (scheme : Scheme) (w : World) (t : TransactionId) (n : Node) (x : Transition) : Type 0 where
  pub events : List WorldEvent
  pub transport : OnlyTransport events
  pub calm : Calm scheme (run w events)
  pub now : newest (transitions_of (committed_of (run w events) n)) t ≡ Some x
  pub others : (m : Node) (u : TransactionId) → same_id t u ≡ false → newest (transitions_of (committed_of (run w events) m)) u ≡ newest (transitions_of (committed_of w m)) u
  pub elsewhere : (m : Node) → same_node n m ≡ false → committed_of (run w events) m ≡ committed_of w m
  pub longer : (m : Node) → length (committed_of (run w events) m) ≤ length (committed_of w m) + cond (same_node n m) 1 0

pub send : (scheme : Scheme) (w : World) → Calm scheme w → (m : Message) (moment : Moment) (t : TransactionId) (x : Transition) → is_node scheme m.to ≡ true → In m (sends (committed_of w m.from))
    → verdict scheme m.to (committed_of w m.to) (Received m moment) ≡ IsRecorded (x ∷ []) → x.id ≡ t → Went scheme w t m.to x
send scheme w calm m moment t x node sent says id =
    let n = m.to in
    let says_here : verdict w.scheme n (committed_of w n) (Received m moment) ≡ IsRecorded (x ∷ []) = subst (λ (z : Scheme). verdict z n (committed_of w n) (Received m moment) ≡ IsRecorded (x ∷ [])) (sym calm.same) says in
    let d = delivers w calm.quiet m moment (x ∷ []) (subst (λ (z : Scheme). is_node z n ≡ true) (sym calm.same) node) sent says_here in
    let events : List WorldEvent = Post m.from d.0 ∷ Deliver (length w.bag) moment ∷ Commit m.to 1 ∷ [] in
    let here = grown_entry w events n (Received m moment) d.1 (x ∷ []) says_here in
    let elsewhere = grown_elsewhere w events n (Received m moment) d.1 in
    record {
      events = events;
      transport = tt;
      calm = calm_after scheme w events calm (quiet_after w events n (Received m moment) calm.quiet d.1);
      now =
          ap (λ (es : List Entry). newest (transitions_of es) t) here
          ∙ cond-true (same_id x.id t) (Some x) (newest (transitions_of (committed_of w n)) t) (subst (λ (z : TransactionId). same_id x.id z ≡ true) id (same_id-refl x.id));
      others = λ z u other.
          elim (cases_Bool (same_node n z)) [
            | inl y ↦
                subst (λ k. newest (transitions_of (committed_of (run w events) k)) u ≡ newest (transitions_of (committed_of w k)) u) (node_of_same n z y)
                (ap (λ (es : List Entry). newest (transitions_of es) u) here
                ∙ cond-false (same_id x.id u) (Some x) (newest (transitions_of (committed_of w n)) u) (subst (λ (k : TransactionId). same_id k u ≡ false) (sym id) other))
            | inr o ↦ ap (λ (es : List Entry). newest (transitions_of es) u) (elsewhere z o)
          ];
      elsewhere = elsewhere;
      longer = λ z.
          elim (cases_Bool (same_node n z)) [
            | inl y ↦
                let one = cond-true {A = ℕ} (same_node n z) 1 0 y in
                let more : length (committed_of (run w events) z) ≡ suc (length (committed_of w z)) =
                subst (λ k. length (committed_of (run w events) k) ≡ suc (length (committed_of w k))) (node_of_same n z y) (ap length here) in
                omega arith
            | inr o ↦ let same = ap length (elsewhere z o) in omega arith
          ];
    }
