-- An owner moves by a completion alone, where one node's history got longer. The lemmas compare two families of
-- histories, before and after: one node has new transitions in front, and all others are unchanged. Each owner
-- before has an owner after, which is the same one or one that a new completion moved the unit to (`onward`). As
-- an owner is unique, the owner after is that one. At the end, one event is shown to commit at one node at most,
-- and so to relate two such families.
use Rattle.std.proofs.Common.{◌≡◌, ◌+◌, ◌≤◌, List, [], ◌++◌, Bool, true, false, Option, Some, option_map, ◌⊎◌, inl, inr, refl, sym, ap, subst, ◌∙◌, arith}
use Rattle.std.specs.List.{list_any, count_by}
use Rattle.std.proofs.lemmas.Bool.{cases_Bool, eqb-true, eq-eqb}
use Rattle.units.proofs.Same.{code_of_same, same_code-refl, node_of_same}
use Rattle.units.specs.Code.{same_code, same_node}
use Rattle.units.specs.declared.block.Unit.{Unit as Serial}
use Rattle.units.specs.declared.code.Code.{Code}
use Rattle.units.specs.declared.code.Node.{Node}
use Rattle.units.specs.declared.code.Node.TheVariants.{Itl, Registry}
use Rattle.status.specs.Content.{Content}
use Rattle.status.specs.Status.{same_status}
use Rattle.status.specs.declared.id.TransactionId.{TransactionId}
use Rattle.status.specs.declared.status.Status.{Status}
use Rattle.status.specs.declared.status.Status.TheVariants.{Proposed, Checked, Accepted, Rejected, Terminated, Cancelled, Completed}
use Rattle.wire.specs.declared.message.ProposalStatus.TheVariants as proposal
use Rattle.wire.specs.declared.input.Input.{Input}
use Rattle.scheme.specs.declared.registries.Scheme.{Scheme}
use Rattle.protocol.specs.Claims.{StandsAt, at_registry, is_received, committed_part, committed_of}
use Rattle.protocol.specs.History.{Transition, Entry, transitions_of, newest, stands_at, is_status, has_serial, carries, gives, credits, at_start, holds}
use Rattle.protocol.specs.Owner.{Owner, At, Due, Owing, Owns, Completes, Moves, sends_off, takes_in, OwnersMove}
use Rattle.protocol.specs.Registries.{has_member}
use Rattle.protocol.specs.Verdict.{history}
use Rattle.protocol.specs.World.{World, station, step}
use Rattle.protocol.specs.declared.event.WorldEvent.{WorldEvent}
use Rattle.safety.proofs.OneLog.LogHearings.{IsAgreed}
use Rattle.safety.proofs.AgreementOfNodes.CausalHistories.{Causal, LogAgrees, completed_agrees, ended}
use Rattle.safety.proofs.WorldLemmas.CommittingEvents.{step_commits}
use Rattle.safety.proofs.AgreementOfNodes.CompletionsAgree.{done_status, given, is_credited, stood, stands_so, completed_once, transfer, initiator_has, initiator_completed}
use Rattle.units.proofs.Lists.NoRepeats.{NoRepeat, no_repeat_apart}
use Rattle.units.proofs.Lists.SomePass.{list_any_some}
use Rattle.protocol.proofs.CountsInLists.{number_none, number_append, number_one, picked, picked_In, picked_append}
use Rattle.safety.proofs.OneRegistry.TransactionEnds.{ends_last, own_contents, proposer}
use Rattle.protocol.proofs.Histories.{history_from_append}
use Rattle.safety.proofs.MovesAndHistories.LongerHistories.{transitions_from}
use Rattle.safety.proofs.MovesAndHistories.NewestTransitions.{Offered, newest_id, newest_append, newest_stands}
use Rattle.safety.proofs.OneRegistry.UnitsCountedOnce.{Waits, local_history}
use Rattle.units.proofs.Lists.Membership.{In, In_left, In_right}
use Rattle.units.proofs.Lists.OneValue.{one_some, clash}
use Rattle.scheme.proofs.Told.{other_from_test}
use Rattle.safety.proofs.ListLemmas.TestsOfSameness.{status_of_same, other_code}
use Rattle.safety.proofs.OwnersOfUnits.UnitsWithOneOwner.{held_or_owed, one_owner}
use Rattle.safety.proofs.OneRegistry.InitiatorStatuses.{IsOwnStatus, own_statuses}
use Rattle.safety.proofs.WorldLemmas.SchemesKept.{step_scheme}
use Rattle.safety.proofs.WorldLemmas.SoundWorlds.{Sound, step_sound, committed_causal}

-- a transfer that has not ended waits at its initiator
still_proposed : (s : Status) → IsOwnStatus s → ((s ≡ Rejected) ⊎ ((s ≡ Terminated) ⊎ (s ≡ Cancelled)) → ⊥) → (s ≡ Completed → ⊥) → s ≡ Proposed
still_proposed Proposed own not_ended not_done = refl
still_proposed Checked own not_ended not_done = absurd own
still_proposed Accepted own not_ended not_done = absurd own
still_proposed Rejected own not_ended not_done = absurd (not_ended (inl refl))
still_proposed Terminated own not_ended not_done = absurd (not_ended (inr (inl refl)))
still_proposed Cancelled own not_ended not_done = absurd (not_ended (inr (inr refl)))
still_proposed Completed own not_ended not_done = absurd (not_done refl)

-- two families of histories, where one node's went on from the first to the second
module _ (scheme : Scheme) (f g : Node → List Entry) (cf : Causal scheme f) (cg : Causal scheme g) (n : Node) (front : List Transition)
    (here : transitions_of (g n) ≡ front ++ transitions_of (f n)) (elsewhere : (m : Node) → same_node n m ≡ false → g m ≡ f m) where
  grown : (m : Node) → n ≡ m → transitions_of (g m) ≡ front ++ transitions_of (f m)
  grown m at = subst (λ z. transitions_of (g z) ≡ front ++ transitions_of (f z)) at here

  in_later : (m : Node) (x : Transition) → In x (transitions_of (f m)) → In x (transitions_of (g m))
  in_later m x i =
      elim (cases_Bool (same_node n m)) [
        | inl y ↦ subst (In x) (sym (grown m (node_of_same n m y))) (In_right x front (transitions_of (f m)) i)
        | inr other ↦ subst (λ (es : List Entry). In x (transitions_of es)) (sym (elsewhere m other)) i
      ]

  new_in : (c : Code) (x : Transition) → n ≡ Registry c → In x front → In x (at_registry g c)
  new_in c x at i = subst (In x) (sym (grown (Registry c) at)) (In_left x front (at_registry f c) i)

  abbrev is_done : Transition → Bool
  is_done x = same_status x.new Completed

  -- a transfer is completed once
  twice : (c : Code) (x y : Transition) → n ≡ Registry c → In x front → In y (at_registry f c) → x.new ≡ Completed → y.new ≡ Completed → x.id ≡ y.id → ⊥
  twice c x y at i j a b same =
      let once = completed_once scheme c is_done (λ z h. status_of_same z.new Completed h) (g (Registry c)) (cg.made (Registry c)) in
      no_repeat_apart (picked is_done front) (picked is_done (at_registry f c)) x.id (subst NoRepeat (ap (picked is_done) (grown (Registry c) at) ∙ picked_append is_done front (at_registry f c)) once)
      (picked_In is_done front x i (done_status x a)) (subst (λ z. In z (picked is_done (at_registry f c))) (sym same) (picked_In is_done (at_registry f c) y j (done_status y b)))

  not_before : (c : Code) (t : TransactionId) (x : Transition) → n ≡ Registry c → In x front → x.new ≡ Completed → x.id ≡ t → StandsAt f (Registry c) t Completed → ⊥
  not_before c t x at i done same h =
      let y = newest_stands (at_registry f c) t Completed (newest (at_registry f c) t) refl h in
      let id = newest_id (at_registry f c) t y.0 y.1 in
      twice c x y.0 at i id.0 done y.2 (same ∙ sym id.1)

  -- a unit that is given away now was waiting: its transfer was proposed before, since the log had heard of it
  was_waiting : (s : Serial) (c : Code) (x : Transition) → n ≡ Registry c → In x front → gives c s x ≡ true → Waits c s (at_registry f c) x.id
  was_waiting s c x at i h =
      let out = given c s x h in
      let own = code_of_same x.id.code c out.1 in
      let last = ends_last scheme c (g (Registry c)) (cg.made (Registry c)) x (new_in c x at i) out.0 in
      let agrees = completed_agrees scheme g cg refl (Registry c) x.id (stands_so (at_registry g c) x.id x Completed last out.0) in
      let log : g Itl ≡ f Itl = elsewhere Itl (subst (λ z. same_node z Itl ≡ false) (sym at) refl) in
      let p = proposer scheme (g Itl) (cg.made Itl) x.id agrees.0 agrees.1 (λ e. subst IsAgreed e agrees.2) in
      let before = initiator_has scheme f cf x.id p.content refl (subst (λ (es : List Entry). Offered es (Registry x.id.code) x.id proposal.Proposed p.content) log p.got) in
      let after = initiator_has scheme g cg x.id p.content refl p.got in
      let was : newest (at_registry f c) x.id ≡ Some before.0 = subst (λ z. newest (at_registry f z) x.id ≡ Some before.0) own before.1 in
      let is : newest (at_registry g c) x.id ≡ Some after.0 = subst (λ z. newest (at_registry g z) x.id ≡ Some after.0) own after.1 in
      let same : after.0 ≡ x = one_some after.0 x (sym is ∙ last) in
      let content : x.content ≡ before.0.content = ap (λ (z : Transition). z.content) (sym same) ∙ after.2 ∙ sym before.2 in
      let id = newest_id (at_registry f c) x.id before.0 was in
      let mine : same_code before.0.id.code c ≡ true = subst (λ (z : TransactionId). same_code z.code c ≡ true) (sym id.1) out.1 in
      let agreed : LogAgrees f x.id = (agrees.0, subst (λ (es : List Entry). newest (transitions_of es) x.id ≡ Some agrees.0) log agrees.1, agrees.2) in
      let so = stands_so (at_registry f c) x.id before.0 in
      record {
        last = before.0;
        is = was;
        new =
            still_proposed before.0.new (own_statuses scheme c (f (Registry c)) (cf.made (Registry c)) before.0 id.0 mine)
            (λ e. ended scheme f cf refl (Registry c) x.id refl agreed (elim e [
              | inl r ↦ inl (so Rejected was r)
              | inr r ↦
                  elim r [
                    | inl k ↦ inr (inl (so Terminated was k))
                    | inr k ↦ inr (inr (so Cancelled was k))
                  ]
            ]))
            (λ e. twice c x before.0 at i id.0 out.0 e (sym id.1));
        own = out.1;
        has = subst (λ k. has_serial k s ≡ true) content out.2;
      }

  -- ---- what is held

  -- where none is given away and one is there, it is held
  held_after : (s : Serial) (c : Code) → n ≡ Registry c → list_any (gives c s) front ≡ false
      → count_by (gives c s) (at_registry f c) + 1 ≤ at_start scheme c s + (count_by (credits c s) (at_registry f c) + count_by (credits c s) front) → holds scheme c (at_registry g c) s ≡ true
  held_after s c at none enough =
      let z = number_none (gives c s) front none in
      let o = number_append (gives c s) front (at_registry f c) in
      let i = number_append (credits c s) front (at_registry f c) in
      let high = subst (λ xs. at_start scheme c s + count_by (credits c s) xs ≤ count_by (gives c s) xs + 1) (grown (Registry c) at) (local_history scheme c s (g (Registry c)) (cg.made (Registry c))).high in
      subst (λ xs. holds scheme c xs s ≡ true) (sym (grown (Registry c) at))
      (eq-eqb (at_start scheme c s + count_by (credits c s) (front ++ at_registry f c)) (count_by (gives c s) (front ++ at_registry f c) + 1) (omega arith))

  held_still : (s : Serial) (c : Code) → n ≡ Registry c → list_any (gives c s) front ≡ false → holds scheme c (at_registry f c) s ≡ true → holds scheme c (at_registry g c) s ≡ true
  held_still s c at none held =
      let a = eqb-true (at_start scheme c s + count_by (credits c s) (at_registry f c)) (count_by (gives c s) (at_registry f c) + 1) held in
      held_after s c at none (omega arith)

  held_now : (s : Serial) (c : Code) (x : Transition) → n ≡ Registry c → In x front → credits c s x ≡ true → (holds scheme c (at_registry f c) s ≡ true → ⊥) → holds scheme c (at_registry g c) s ≡ true
  held_now s c x at i h free =
      let l = local_history scheme c s (f (Registry c)) (cf.made (Registry c)) in
      let low = l.low in
      let high = l.high in
      let one = number_one (credits c s) front x i h in
      elim (cases_Bool (list_any (gives c s) front)) [
        | inr none ↦ held_after s c at none (omega arith)
        | inl some ↦
            let y = list_any_some (gives c s) front some in
            let kept = l.kept y.0.id (was_waiting s c y.0 at y.1 y.2) in
            absurd (free (eq-eqb (at_start scheme c s + count_by (credits c s) (at_registry f c)) (count_by (gives c s) (at_registry f c) + 1) (omega arith)))
      ]

  -- ---- an owner before has an owner after that it stays at or moves to

  abbrev Onward : Serial → Owner → Type 0
  Onward s a = (b : Owner) × Owns scheme g s b × ((a ≡ b) ⊎ Moves f g s a b)

  -- what its initiator completes now, no acquirer has completed
  not_received : (c a : Code) (x : Transition) → n ≡ Registry c → In x front → x.new ≡ Completed → x.id.code ≡ c → same_code a c ≡ false → stands_at (at_registry g a) x.id Completed ≡ false
  not_received c a x at i done own other =
      elim (cases_Bool (stands_at (at_registry g a) x.id Completed)) [
        | inr none ↦ none
        | inl y ↦
            let apart : same_code c a ≡ false = other_code c a (λ e. other_from_test a c other (sym e)) in
            let same : g (Registry a) ≡ f (Registry a) = elsewhere (Registry a) (subst (λ z. same_node z (Registry a) ≡ false) (sym at) apart) in
            let q = stood (newest (at_registry f a) x.id) Completed (subst (λ (es : List Entry). stands_at (transitions_of es) x.id Completed ≡ true) same y) in
            let id = newest_id (at_registry f a) x.id q.0 q.1 in
            let code : q.0.id.code ≡ c = ap (λ (z : TransactionId). z.code) id.1 ∙ own in
            let p = initiator_completed scheme f cf a q.0 id.0 q.2 (subst (λ z. same_code z a ≡ false) (sym code) apart) in
            absurd (twice c x p.0 at i (subst (λ z. In p.0 (at_registry f z)) code p.1) done p.3 (sym (p.2 ∙ id.1)))
      ]

  goes_off : (s : Serial) (c : Code) (x : Transition) → n ≡ Registry c → In x front → gives c s x ≡ true → Onward s (At c)
  goes_off s c x at i h =
      let out = given c s x h in
      let own = code_of_same x.id.code c out.1 in
      let inside = new_in c x at i in
      let k = own_contents scheme c (g (Registry c)) (cg.made (Registry c)) x inside out.1 in
      let last : newest (at_registry g x.id.code) x.id ≡ Some x =
      subst (λ z. newest (at_registry g z) x.id ≡ Some x) (sym own) (ends_last scheme c (g (Registry c)) (cg.made (Registry c)) x inside out.0) in
      let owing : Owing g s x.id = record {
        last = x;
        is = last;
        new = out.0;
        has = out.2;
        waits = subst (λ z. is_received g x.id z ≡ false) (sym k.is) (not_received c k.content.acquirer x at i out.0 own k.acquirer_other);
      } in
      let completes : Completes f g (Registry x.id.code) x.id s = record {
        last = x;
        is = last;
        new = out.0;
        has = out.2;
        before = subst (λ z. StandsAt f (Registry z) x.id Completed → ⊥) (sym own) (not_before c x.id x at i out.0 refl);
      } in
      (Due x.id, owing, inr (subst (λ z. Moves f g s (At z) (Due x.id)) own (sends_off x.id completes)))

  from_holder : (s : Serial) (c : Code) → Owns scheme f s (At c) → Onward s (At c)
  from_holder s c h =
      elim (cases_Bool (same_node n (Registry c))) [
        | inr other ↦ (At c, (h.0, subst (λ (es : List Entry). holds scheme c (transitions_of es) s ≡ true) (sym (elsewhere (Registry c) other)) h.1), inl refl)
        | inl y ↦
            let at = node_of_same n (Registry c) y in
            elim (cases_Bool (list_any (gives c s) front)) [
              | inr none ↦ (At c, (h.0, held_still s c at none h.1), inl refl)
              | inl some ↦ let x = list_any_some (gives c s) front some in goes_off s c x.0 at x.1 x.2
            ]
      ]

  taken_in : (s : Serial) (t : TransactionId) (o : Owing f s t) (a : Code) (x : Transition) → n ≡ Registry a → has_member scheme a ≡ true → same_code t.code a ≡ false → newest (at_registry g t.code) t ≡ Some o.last
      → In x front → newest (at_registry g a) t ≡ Some x → x.new ≡ Completed → Onward s (Due t)
  taken_in s t o a x at member foreign initiator i last done =
      let id = newest_id (at_registry g a) t x last in
      let tr = transfer scheme g cg a t x last foreign done in
      let same : tr.initiator ≡ o.last = one_some tr.initiator o.last (sym tr.newest_there ∙ initiator) in
      let content : x.content ≡ o.last.content = tr.is ∙ sym tr.content_there ∙ ap (λ (z : Transition). z.content) same in
      let has : carries x s ≡ true = subst (λ z. has_serial z s ≡ true) (sym content) o.has in
      let comes = is_credited a s x done (subst (λ (z : TransactionId). same_code z.code a ≡ false) (sym id.1) foreign) has in
      let held = held_now s a x at i comes (λ h. held_or_owed scheme f cf s a t (member, h) o) in
      let completes : Completes f g (Registry a) t s = record { last = x; is = last; new = done; has = has; before = not_before a t x at i done id.1 } in
      (At a, (member, held), inr (takes_in t a completes (ap (option_map (λ (k : Content). k.acquirer)) tr.is ∙ ap Some tr.here)))

  is_waiting : {X : Type 0} (a : Code) (t : TransactionId) → stands_at (at_registry f a) t Completed ≡ false → newest (at_registry g a) t ≡ newest (at_registry f a) t → stands_at (at_registry g a) t Completed ≡ true → X
  is_waiting a t waits same received =
      clash (stands_at (at_registry f a) t Completed) (subst (λ (o : Option Transition). is_status (option_map (λ (x : Transition). x.new) o) Completed ≡ true) same received) waits

  from_ower : (s : Serial) (t : TransactionId) → Owing f s t → Onward s (Due t)
  from_ower s t o =
      let id = newest_id (at_registry f t.code) t o.last o.is in
      let own : same_code o.last.id.code t.code ≡ true = subst (λ (z : TransactionId). same_code z.code t.code ≡ true) (sym id.1) (same_code-refl t.code) in
      let last : newest (at_registry g t.code) t ≡ Some o.last =
      subst (λ z. newest (at_registry g t.code) z ≡ Some o.last) id.1
      (ends_last scheme t.code (g (Registry t.code)) (cg.made (Registry t.code)) o.last (in_later (Registry t.code) o.last id.0) o.new) in
      let k = own_contents scheme t.code (f (Registry t.code)) (cf.made (Registry t.code)) o.last id.0 own in
      let a = k.content.acquirer in
      let waits : is_received f t (Some k.content) ≡ false = subst (λ z. is_received f t z ≡ false) k.is o.waits in
      elim (cases_Bool (is_received g t o.last.content)) [
        | inr none ↦ (Due t, record { last = o.last; is = last; new = o.new; has = o.has; waits = none }, inl refl)
        | inl y ↦
            let received : is_received g t (Some k.content) ≡ true = subst (λ z. is_received g t z ≡ true) k.is y in
            elim (cases_Bool (same_node n (Registry a))) [
              | inr other ↦ is_waiting a t waits (ap (λ (es : List Entry). newest (transitions_of es) t) (elsewhere (Registry a) other)) received
              | inl there ↦
                  let at = node_of_same n (Registry a) there in
                  let x = stood (newest (at_registry g a) t) Completed received in
                  let more = ap (λ xs. newest xs t) (grown (Registry a) at) in
                  elim (newest_append front (at_registry f a) t) [
                    | inl u ↦ is_waiting a t waits (more ∙ u) received
                    | inr u ↦
                        let same : u.0 ≡ x.0 = one_some u.0 x.0 (sym (more ∙ u.3) ∙ x.1) in
                        taken_in s t o a x.0 at k.acquirer_known (other_code t.code a (λ e. other_from_test a t.code k.acquirer_other (sym e))) last (subst (λ z. In z front) same u.1) x.1 x.2
                  ]
            ]
      ]

  onward : (s : Serial) (a : Owner) → Owns scheme f s a → Onward s a
  onward s (At c) h = from_holder s c h
  onward s (Due t) o = from_ower s t o

  owners_move : OwnersMove scheme f g
  owners_move s a b x y = let z = onward s a x in subst (λ w. (a ≡ w) ⊎ Moves f g s a w) (one_owner scheme g cg s z.0 b z.1 y) z.2

-- an event moves the owners of the committed histories so
pub event_moves : (w : World) (e : WorldEvent) → Sound w → OwnersMove w.scheme (committed_of w) (committed_of (step w e).world)
event_moves w e sound =
    let v = (step w e).world in
    let c = step_commits w e in
    let scheme = step_scheme w e in
    let old = committed_part (station w c.node) in
    let more = transitions_from w.scheme c.node (history w.scheme c.node old) c.more in
    owners_move w.scheme (committed_of w) (committed_of v) (committed_causal w sound) (subst (λ (z : Scheme). Causal z (committed_of v)) scheme (committed_causal v (step_sound w e sound))) c.node more.0
    (ap (λ (z : Scheme). transitions_of (history z c.node (committed_part (station v c.node)))) scheme
    ∙ ap (λ (xs : List Input). transitions_of (history w.scheme c.node xs)) c.here
    ∙ ap transitions_of (history_from_append w.scheme c.node [] old c.more)
    ∙ more.1)
    (λ m other. ap (λ (z : Scheme). history z m (committed_part (station v m))) scheme ∙ ap (history w.scheme m) (c.elsewhere m other))
