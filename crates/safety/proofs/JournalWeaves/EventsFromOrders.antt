-- An order of records in which each is next in its turn is gone through by some list of events. By induction over
-- the order, the events so far lead to a quiet world with the journals so far. The next record is an order of its
-- node, an acknowledgement or a message that was sent, and for each of them there are events that make the node
-- record it.
use Rattle.std.proofs.Common.{◌≡◌, ℕ, ◌<◌, List, [], ◌∷◌, ◌++◌, Bool, true, false, cond, Option, None, Some, inl, inr, refl, sym, ap, subst, ◌∙◌, length}
use Rattle.std.specs.Prelude.{◌&&◌, ◌==◌, nat_le}
use Rattle.std.proofs.lemmas.Bool.{cases_Bool, and_from, eq-eqb, leb-false}
use Rattle.std.proofs.lemmas.List.{append-nil}
use Rattle.units.proofs.Same.{node_of_same, same_node-refl}
use Rattle.units.specs.Code.{same_node}
use Rattle.units.specs.RefusalCodes.{no_row}
use Rattle.units.specs.declared.code.Node.{Node}
use Rattle.units.specs.declared.code.Node.TheVariants.{Itl, Registry}
use Rattle.wire.specs.declared.input.Input.{Input}
use Rattle.wire.specs.declared.input.Input.TheVariants.{Propose, Request, OpenAccount, CloseAccount, Ack, CleanUp, Eligible, Received}
use Rattle.wire.specs.declared.input.Number.{Number}
use Rattle.scheme.specs.declared.registries.Scheme.{Scheme}
use Rattle.protocol.specs.Claims.{committed_part, committed_of}
use Rattle.protocol.specs.Deciding.{Verdict, IsRecorded, IsRepeat, IsRefused, recorded_if_room, acknowledge}
use Rattle.protocol.specs.History.{Transition, Entry, sends, is_acknowledged}
use Rattle.protocol.specs.Registries.{is_node}
use Rattle.protocol.specs.Verdict.{verdict, history}
use Rattle.protocol.specs.Weave.{Projects, Placed, journals_of, WasSent, IsNext, InTurn, uncommitted}
use Rattle.protocol.specs.World.{World, Station, opening, run, station, is_order, was_posted}
use Rattle.protocol.specs.declared.event.Posted.{Posted}
use Rattle.protocol.specs.declared.event.WorldEvent.{WorldEvent}
use Rattle.protocol.specs.declared.event.WorldEvent.TheVariants.{Take, Commit, Post, Deliver}
use Rattle.units.proofs.Lists.SomePass.{list_any_in}
use Rattle.units.proofs.Lists.Membership.{In_right}
use Rattle.units.proofs.Lists.Positions.{In_contains, some_at}
use Rattle.protocol.proofs.NodeIndices.{other_way}
use Rattle.safety.proofs.WorldLemmas.QuietWorlds.{Quiet, there, Grown, record_on, bag_on, take_step, post_step, delivers, opening_quiet, quiet_after, run_append}
use Rattle.safety.proofs.WorldLemmas.ReachedWorlds.{reached, reached_scheme}
use Rattle.safety.proofs.WorldLemmas.SoundWorlds.{none_committed}
use Rattle.safety.proofs.JournalWeaves.RecordOrders.{journals_here, journals_there, sent_later}

-- an acknowledgement that enters is of a message that was sent
pub ack_below : (scheme : Scheme) (es : List Entry) (key : ℕ) (xs : List Transition) → acknowledge scheme es key ≡ IsRecorded xs → key < length (sends es)
ack_below scheme es key xs says = leb-false (length (sends es)) key (not_refused (nat_le (length (sends es)) key) (cond (is_acknowledged es key) IsRepeat (recorded_if_room scheme es [])) says)
  where
    not_refused : (b : Bool) (v : Verdict) → cond b (IsRefused no_row) v ≡ IsRecorded xs → b ≡ false
    not_refused true v e = absurd (cc (e))
    not_refused false v e = refl

module _ (w : World) (quiet : Quiet w) where
  take_on : (n : Node) (input : Input) (xs : List Transition) → is_node w.scheme n ≡ true → is_order w n input ≡ true → verdict w.scheme n (committed_of w n) input ≡ IsRecorded xs → (events : List WorldEvent) × Grown w events n input
  take_on n input xs node order says =
      let s = there w quiet n node in (
        Take n input ∷ Commit n 1 ∷ [],
        record_on w n s.0 input xs (Take n input) s.1 (quiet.idle n s.0 s.1) (subst (λ o. verdict w.scheme n (history w.scheme n (committed_part o)) input ≡ IsRecorded xs) s.1 says) (take_step w n input order),
      )

  -- the message is posted, then acknowledged
  ack_on : (n : Node) (key : Number) (xs : List Transition) → is_node w.scheme n ≡ true
      → ((bag : List Posted) → was_posted (record w { bag = bag }) n key.value ≡ true → is_order (record w { bag = bag }) n (Ack key) ≡ true)
      → verdict w.scheme n (committed_of w n) (Ack key) ≡ IsRecorded xs → key.value < length (sends (committed_of w n)) → (events : List WorldEvent) × Grown w events n (Ack key)
  ack_on n key xs node order says below =
      let s = there w quiet n node in
      let m = some_at (sends (committed_of w n)) key.value below in
      let p : Posted = record { node = n; key = key.value; message = m.0 } in
      let bag : List Posted = w.bag ++ p ∷ [] in
      let in_bag : was_posted (record w { bag = bag }) n key.value ≡ true =
      list_any_in (λ (q : Posted). same_node q.node n && (q.key == key.value)) bag p (In_right p w.bag (p ∷ []) (inl refl))
      (and_from (same_node n n) (key.value == key.value) (same_node-refl n) (eq-eqb key.value key.value refl)) in (
        Post n key.value ∷ Take n (Ack key) ∷ Commit n 1 ∷ [],
        bag_on w (Post n key.value) bag (Take n (Ack key) ∷ Commit n 1 ∷ []) n (Ack key) (post_step w n s.0 key.value m.0 s.1 (quiet.idle n s.0 s.1).0 m.1)
            (record_on (record w { bag = bag }) n s.0 (Ack key) xs (Take n (Ack key)) s.1 (quiet.idle n s.0 s.1)
            (subst (λ o. verdict w.scheme n (history w.scheme n (committed_part o)) (Ack key) ≡ IsRecorded xs) s.1 says) (take_step (record w { bag = bag }) n (Ack key) (order bag in_bag))),
      )

  next_on : (n : Node) (input : Input) (xs : List Transition) → is_node w.scheme n ≡ true → verdict w.scheme n (committed_of w n) input ≡ IsRecorded xs
      → WasSent w.scheme (λ m. committed_part (station w m)) n input → (events : List WorldEvent) × Grown w events n input
  unfolding verdict
  next_on n (Received m moment) xs node says sent =
      let to = sent.0 in
      let g =
      delivers w quiet m moment xs (subst (λ z. is_node w.scheme z ≡ true) (sym to) node) (In_contains (sends (committed_of w m.from)) m sent.1)
      (subst (λ z. verdict w.scheme z (committed_of w z) (Received m moment) ≡ IsRecorded xs) (sym to) says) in
      let events : List WorldEvent = Post m.from g.0 ∷ Deliver (length w.bag) moment ∷ Commit m.to 1 ∷ [] in
      (events, subst (λ z. Grown w events z (Received m moment)) to g.1)
  next_on (Registry c) (Ack key) xs node says sent = ack_on (Registry c) key xs node (λ bag h. h) says (ack_below w.scheme (committed_of w (Registry c)) key.value xs says)
  next_on Itl (Ack key) xs node says sent = ack_on Itl key xs node (λ bag h. h) says (ack_below w.scheme (committed_of w Itl) key.value xs says)
  next_on (Registry c) (Propose o) xs node says sent = take_on (Registry c) (Propose o) xs node refl says
  next_on (Registry c) (Request t) xs node says sent = take_on (Registry c) (Request t) xs node refl says
  next_on (Registry c) (OpenAccount account) xs node says sent = take_on (Registry c) (OpenAccount account) xs node refl says
  next_on (Registry c) (CloseAccount account) xs node says sent = take_on (Registry c) (CloseAccount account) xs node refl says
  next_on (Registry c) (CleanUp moment) xs node says sent = absurd (cc (says))
  next_on (Registry c) (Eligible d may) xs node says sent = absurd (cc (says))
  next_on Itl (CleanUp moment) xs node says sent = take_on Itl (CleanUp moment) xs node refl says
  next_on Itl (Eligible d may) xs node says sent = take_on Itl (Eligible d may) xs node refl says
  next_on Itl (Propose o) xs node says sent = absurd (cc (says))
  next_on Itl (Request t) xs node says sent = absurd (cc (says))
  next_on Itl (OpenAccount account) xs node says sent = absurd (cc (says))
  next_on Itl (CloseAccount account) xs node says sent = absurd (cc (says))

-- ---- a whole order

-- events that lead to a quiet world with the order's journals
record Woven (scheme : Scheme) (order : List Placed) : Type 0 where
  events : List WorldEvent
  quiet : Quiet (reached scheme events)
  same : (n : Node) → committed_part (station (reached scheme events) n) ≡ journals_of order n

weave : (scheme : Scheme) (order : List Placed) → InTurn scheme order → Woven scheme order
weave scheme [] turn = record { events = []; quiet = opening_quiet scheme; same = none_committed scheme }
weave scheme (r ∷ rs) turn =
    let old = weave scheme rs turn.1 in
    let w = reached scheme old.events in
    let next : IsNext w.scheme (journals_of rs) r = subst (λ (z : Scheme). IsNext z (journals_of rs) r) (sym (reached_scheme scheme old.events)) turn.0 in
    let g =
    next_on w old.quiet r.node r.input next.1.0 next.0 (ap (λ xs. verdict w.scheme r.node (history w.scheme r.node xs) r.input) (old.same r.node) ∙ next.1.1)
    (sent_later w.scheme (journals_of rs) (λ m. committed_part (station w m)) (λ n. ([], old.same n ∙ sym (append-nil (journals_of rs n)))) r.node r.input next.2) in
    let both : reached scheme (old.events ++ g.0) ≡ run w g.0 = run_append (opening scheme) old.events g.0 in
    record {
      events = old.events ++ g.0;
      quiet = subst Quiet (sym both) (quiet_after w g.0 r.node r.input old.quiet g.1);
      same = λ n.
          ap (λ (z : World). committed_part (station z n)) both ∙
          elim (cases_Bool (same_node n r.node)) [
            | inl y ↦
                subst (λ z. committed_part (station (run w g.0) z) ≡ journals_of (r ∷ rs) z) (sym (node_of_same n r.node y))
                (ap committed_part g.1.here ∙ g.1.committed ∙ ap (λ xs. xs ++ r.input ∷ []) (old.same r.node) ∙ sym (journals_here r rs))
            | inr other ↦ ap committed_part (g.1.elsewhere n (other_way n r.node other)) ∙ old.same n ∙ sym (journals_there r rs n other)
          ];
    }

pub in_turn_reached : (scheme : Scheme) (order : List Placed) → InTurn scheme order → (events : List WorldEvent) × Projects scheme events (journals_of order)
in_turn_reached scheme order turn =
    let w = weave scheme order turn in
    (w.events, λ n. (w.same n, settled w n (station (reached scheme w.events) n) refl))
  where
    settled : (w : Woven scheme order) (n : Node) (o : Option Station) → station (reached scheme w.events) n ≡ o → uncommitted o ≡ []
    settled w n None e = refl
    settled w n (Some s) e = (w.quiet.idle n s e).1
