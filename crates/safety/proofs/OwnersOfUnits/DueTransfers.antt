-- The number of transfers that are due and have a unit is the number of completed transfers that owe it.
-- At one registry both are lists of transactions without repeats and with the same members: a proposal is of a
-- transaction whose newest transition has its content, and a transition to Completed is the newest of its
-- transaction, which was proposed. The rest is sums over registries.
use Rattle.std.specs.List.{count_by, sum_by}
use Rattle.std.proofs.Common.{◌≡◌, ℕ, ◌+◌, List, [], ◌∷◌, Bool, true, false, not, cond, Some, option_map, inl, inr, refl, sym, ap, subst, ◌∙◌, arith, flat_map}
use Rattle.std.specs.Prelude.{◌&&◌, filter}
use Rattle.std.proofs.lemmas.List.{length-map}
use Rattle.std.proofs.lemmas.List.Sums.{sum_by-cons, length-filter}
use Rattle.std.proofs.lemmas.Bool.{and_parts, and_from, cond-true, cond-false, cases_Bool}
use Rattle.units.proofs.Same.{code_of_same}
use Rattle.units.specs.Code.{same_code}
use Rattle.units.specs.Unit.{have_unit}
use Rattle.units.specs.declared.block.Unit.{Unit as Serial}
use Rattle.units.specs.declared.code.Code.{Code}
use Rattle.units.specs.declared.code.Node.{Node}
use Rattle.units.specs.declared.code.Node.TheVariants.{Registry}
use Rattle.status.specs.declared.id.TransactionId.{TransactionId}
use Rattle.status.specs.declared.status.Status.TheVariants.{Completed}
use Rattle.scheme.specs.declared.members.SchemeRegistry.{SchemeRegistry}
use Rattle.scheme.specs.declared.registries.Scheme.{Scheme}
use Rattle.protocol.specs.Claims.{at_registry, is_received, live_of, owes, owed}
use Rattle.protocol.specs.History.{Transition, Entry, newest, stands_at, is_status, has_serial, gives, sends}
use Rattle.protocol.specs.Table.{ProposedTransfer, due, is_due, proposed}
use Rattle.protocol.specs.World.{opening, run}
use Rattle.protocol.specs.declared.event.WorldEvent.{WorldEvent}
use Rattle.units.proofs.Lists.Membership.{In, In_filter, filter_In, In_map, map_In}
use Rattle.units.proofs.Lists.NoRepeats.{NoRepeat}
use Rattle.units.proofs.Lists.OneValue.{one_some}
use Rattle.protocol.proofs.CountsInLists.{number_append, picked, length_picked, In_picked, picked_In}
use Rattle.safety.proofs.AgreementOfNodes.CompletionsAgree.{done_status, given, is_given, stood, completed_once}
use Rattle.safety.proofs.ListLemmas.EquallyLong.{same_length}
use Rattle.safety.proofs.MovesAndHistories.NewestTransitions.{Made, newest_id}
use Rattle.safety.proofs.OneRegistry.ProposedTransfers.{ids, proposals_In, proposed_once, proposed_stands, transfer_in, was_proposed}
use Rattle.safety.proofs.OneRegistry.TransactionEnds.{offered, ends_last}
use Rattle.safety.proofs.OwnersOfUnits.SumsOverRegistries.{over_same}
use Rattle.safety.proofs.WorldLemmas.ReachedWorlds.{reached, reached_scheme, reached_live}

-- ---- lists of proposals

-- those that pass have no repeats where all have none
filter_once : (test : ProposedTransfer → Bool) (ps : List ProposedTransfer) → NoRepeat (ids ps) → NoRepeat (ids (filter test ps))
filter_once test [] n = tt
filter_once test (p ∷ ps) n =
    elim (cases_Bool (test p)) [
      | inl y ↦
          subst (λ z. NoRepeat (ids z)) (sym (cond-true (test p) (p ∷ filter test ps) (filter test ps) y))
          ((λ i. let q = In_map (λ (z : ProposedTransfer). z.id) p.id (filter test ps) i in n.0 (subst (λ t. In t (ids ps)) q.2 (map_In (λ (z : ProposedTransfer). z.id) q.0 ps (In_filter test ps q.0 q.1).0))), filter_once test ps n.1)
      | inr f ↦ subst (λ z. NoRepeat (ids z)) (sym (cond-false (test p) (p ∷ filter test ps) (filter test ps) f)) (filter_once test ps n.1)
    ]

-- those that pass two tests, counted one test after the other
count_filter : {X : Type 0} (p q : X → Bool) (xs : List X) → count_by p (filter q xs) ≡ count_by (λ x. q x && p x) xs
count_filter p q [] = refl
count_filter {X} p q (x ∷ xs) = go (q x) (count_filter p q xs) (sum_by-cons (λ (z : X). cond {A = ℕ} (q z && p z) 1 0) x xs)
  where
    go : (b : Bool) → count_by p (filter q xs) ≡ count_by (λ z. q z && p z) xs → count_by (λ z. q z && p z) (x ∷ xs) ≡ cond (b && p x) 1 0 + count_by (λ z. q z && p z) xs
        → count_by p (cond b (x ∷ filter q xs) (filter q xs)) ≡ count_by (λ z. q z && p z) (x ∷ xs)
    go true e s = let u = sum_by-cons (λ (z : X). cond {A = ℕ} (p z) 1 0) x (filter q xs) in omega arith
    go false e s = omega arith

count_flat : (p : ProposedTransfer → Bool) (g : SchemeRegistry → List ProposedTransfer) (ms : List SchemeRegistry) → count_by p (flat_map g ms) ≡ sum_by (λ m. count_by p (g m)) ms
count_flat p g [] = refl
count_flat p g (m ∷ ms) =
    let a = number_append p (g m) (flat_map g ms) in
    let b = count_flat p g ms in
    let u = sum_by-cons (λ z. count_by p (g z)) m ms in
    omega arith

-- ---- one registry

module _ (scheme : Scheme) (f : Node → List Entry) (s : Serial) where
  -- the transfer is due and has the unit
  abbrev is_due_with : ProposedTransfer → Bool
  is_due_with p = is_due f p && have_unit p.content.units s

  abbrev dues : Code → List ProposedTransfer
  dues c = filter is_due_with (proposed (f (Registry c)))

  -- a transfer that is due stands Completed with its content
  due_owes : (c : Code) → Made scheme (Registry c) (f (Registry c)) → (t : TransactionId) → In t (ids (dues c)) → In t (picked (owes f c s) (at_registry f c))
  due_owes c made t h =
      let g = In_map (λ (z : ProposedTransfer). z.id) t (dues c) h in
      let p = g.0 in
      let i = In_filter is_due_with (proposed (f (Registry c))) p g.1 in
      let parts = and_parts (is_due f p) (have_unit p.content.units s) i.1 in
      let due = and_parts (stands_at (at_registry f p.id.code) p.id Completed) (not (is_received f p.id (Some p.content))) parts.0 in
      let o = proposed_stands scheme c (f (Registry c)) made p i.0 in
      let x = o.0 in
      let id = newest_id (at_registry f c) p.id x o.1 in
      let here : stands_at (at_registry f c) p.id Completed ≡ true = subst (λ z. stands_at (at_registry f z) p.id Completed ≡ true) (code_of_same p.id.code c o.3) due.0 in
      let y = stood (newest (at_registry f c) p.id) Completed here in
      let done : x.new ≡ Completed = subst (λ (z : Transition). z.new ≡ Completed) (one_some y.0 x (sym y.1 ∙ o.1)) y.2 in
      let goes = is_given c s x done (subst (λ (z : TransactionId). same_code z.code c ≡ true) (sym id.1) o.3) (subst (λ k. has_serial k s ≡ true) (sym o.2) parts.1) in
      let waits : not (is_received f x.id x.content) ≡ true =
      subst (λ (z : TransactionId). not (is_received f z x.content) ≡ true) (sym id.1) (subst (λ k. not (is_received f p.id k) ≡ true) (sym o.2) due.1) in
      subst (λ z. In z (picked (owes f c s) (at_registry f c))) (id.1 ∙ g.2)
      (picked_In (owes f c s) (at_registry f c) x id.0 (and_from (gives c s x) (not (is_received f x.id x.content)) goes waits))

  -- a completed transfer that owes the unit was proposed with it
  owes_due : (c : Code) → Made scheme (Registry c) (f (Registry c)) → (t : TransactionId) → In t (picked (owes f c s) (at_registry f c)) → In t (ids (dues c))
  owes_due c made t h =
      let g = In_picked (owes f c s) (at_registry f c) t h in
      let x = g.0 in
      let parts = and_parts (gives c s x) (not (is_received f x.id x.content)) g.2 in
      let out = given c s x parts.0 in
      let last : newest (at_registry f c) x.id ≡ Some x = ends_last scheme c (f (Registry c)) made x g.1 out.0 in
      let q = was_proposed scheme c (f (Registry c)) made x g.1 out.1 in
      let p = q.0 in
      let o = offered scheme c (f (Registry c)) made p q.1 in
      let same : o.0 ≡ x = one_some o.0 x (sym o.1 ∙ subst (λ z. newest (at_registry f c) z ≡ Some x) (sym q.2) last) in
      let content : x.content ≡ Some p.content = subst (λ (z : Transition). z.content ≡ Some p.content) same o.2 in
      let stands_here : stands_at (at_registry f c) p.id Completed ≡ true =
      subst (λ z. stands_at (at_registry f c) z Completed ≡ true) (sym q.2)
      (subst (λ o. is_status (option_map (λ (z : Transition). z.new) o) Completed ≡ true) (sym last) (done_status x out.0)) in
      let stands_there : stands_at (at_registry f p.id.code) p.id Completed ≡ true = subst (λ z. stands_at (at_registry f z) p.id Completed ≡ true) (sym (code_of_same p.id.code c o.3)) stands_here in
      let waits : not (is_received f p.id (Some p.content)) ≡ true =
      subst (λ z. not (is_received f z (Some p.content)) ≡ true) (sym q.2) (subst (λ k. not (is_received f x.id k) ≡ true) content parts.1) in
      let has : have_unit p.content.units s ≡ true = subst (λ k. has_serial k s ≡ true) content out.2 in
      let is = and_from (is_due f (transfer_in p)) (have_unit p.content.units s) (and_from (stands_at (at_registry f p.id.code) p.id Completed) (not (is_received f p.id (Some p.content))) stands_there waits) has in
      subst (λ z. In z (ids (dues c))) (q.2 ∙ g.3)
      (map_In (λ (z : ProposedTransfer). z.id) (transfer_in p) (dues c) (filter_In is_due_with (transfer_in p) (proposed (f (Registry c))) (proposals_In (sends (f (Registry c))) p q.1) is))

  pub due_as_owed : (c : Code) → Made scheme (Registry c) (f (Registry c)) → count_by is_due_with (proposed (f (Registry c))) ≡ count_by (owes f c s) (at_registry f c)
  due_as_owed c made =
      let once = filter_once is_due_with (proposed (f (Registry c))) (proposed_once scheme c (f (Registry c)) made) in
      let ends = completed_once scheme c (owes f c s) (λ x h. (given c s x (and_parts (gives c s x) (not (is_received f x.id x.content)) h).0).0) (f (Registry c)) made in
      sym (length-filter is_due_with (proposed (f (Registry c)))) ∙ sym (length-map (dues c) (λ (z : ProposedTransfer). z.id)) ∙ same_length (ids (dues c)) (picked (owes f c s) (at_registry f c)) once ends (due_owes c made) (owes_due c made) ∙ length_picked (owes f c s) (at_registry f c)

  -- ---- all registries

  pub debts : ((c : Code) → Made scheme (Registry c) (f (Registry c)))
      → count_by (λ p. have_unit p.content.units s) (filter (is_due f) (flat_map (λ m. proposed (f (Registry m.code))) scheme.members)) ≡ owed scheme f s
  debts made =
      let all = flat_map (λ (m : SchemeRegistry). proposed (f (Registry m.code))) scheme.members in
      count_filter (λ p. have_unit p.content.units s) (is_due f) all ∙ count_flat is_due_with (λ m. proposed (f (Registry m.code))) scheme.members
      ∙ over_same (λ m. count_by is_due_with (proposed (f (Registry m.code)))) (λ m. count_by (owes f m.code s) (at_registry f m.code)) (λ m. due_as_owed m.code (made m.code)) scheme.members

-- in a world that events lead to
pub reached_debts : (scheme : Scheme) (events : List WorldEvent) (s : Serial) → count_by (λ p. have_unit p.content.units s) (due (run (opening scheme) events)) ≡ owed scheme (live_of (run (opening scheme) events)) s
reached_debts scheme events s =
    let w = reached scheme events in
    let f = live_of w in
    ap (λ (z : Scheme). count_by (λ (p : ProposedTransfer). have_unit p.content.units s) (filter (is_due f) (flat_map (λ (m : SchemeRegistry). proposed (f (Registry m.code))) z.members))) (reached_scheme scheme events)
    ∙ debts scheme f s (λ c. (reached_live scheme events).made (Registry c))
