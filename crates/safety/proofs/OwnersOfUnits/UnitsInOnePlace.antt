-- A unit is held once or owed once, in histories whose received messages were all sent.
-- At each registry, what it gave away and what it has make up what it started with and what it took in
-- (`local_history`). The sum over all registries leaves one unit, provided that as many transfers were handed over as
-- were taken in. The two lists of transfers have the same members by `CompletionsAgree` and no repeats, so they are
-- equally long.
use Rattle.std.specs.List.{count_by, sum_by}
use Rattle.std.proofs.Common.{◌≡◌, ℕ, ◌+◌, List, Bool, true, false, not, cond, Some, is_some, option_map, inl, inr, sym, ap, subst, ◌∙◌, arith, length, flat_map}
use Rattle.std.specs.Prelude.{◌&&◌}
use Rattle.std.proofs.lemmas.Bool.{cases_Bool, and_parts, and_from, not-false, eqb-true}
use Rattle.units.proofs.Same.{code_of_same, same_code-refl}
use Rattle.units.specs.Code.{same_code}
use Rattle.units.specs.declared.block.Unit.{Unit as Serial}
use Rattle.units.specs.declared.code.Code.{Code}
use Rattle.units.specs.declared.code.Node.{Node}
use Rattle.units.specs.declared.code.Node.TheVariants.{Registry}
use Rattle.status.specs.Content.{Content}
use Rattle.status.specs.declared.id.TransactionId.{TransactionId}
use Rattle.status.specs.declared.status.Status.TheVariants.{Completed}
use Rattle.scheme.specs.declared.members.SchemeRegistry.{SchemeRegistry}
use Rattle.scheme.specs.declared.registries.Scheme.{Scheme}
use Rattle.protocol.specs.Claims.{at_registry, is_received, owes, holders, owed, OnePlace, SpentOnce}
use Rattle.protocol.specs.History.{Transition, Entry, transitions_of, newest, stands_at, is_status, has_serial, gives, credits, at_start, holds, reserved}
use Rattle.protocol.specs.Registries.{allotted, has_member}
use Rattle.safety.proofs.AgreementOfNodes.CausalHistories.{Causal}
use Rattle.safety.proofs.AgreementOfNodes.CompletionsAgree.{done_status, given, credited, is_given, is_credited, stood, completed_once, transfer, initiator_completed}
use Rattle.units.proofs.Lists.NoRepeats.{NoRepeat}
use Rattle.protocol.proofs.CountsInLists.{number_two, picked, length_picked, In_picked, picked_In, number_parts}
use Rattle.safety.proofs.ListLemmas.EquallyLong.{same_length}
use Rattle.safety.proofs.OneRegistry.TransactionEnds.{ends_last, own_contents}
use Rattle.safety.proofs.MovesAndHistories.NewestTransitions.{newest_id}
use Rattle.safety.proofs.OneRegistry.UnitsCountedOnce.{local_history}
use Rattle.units.proofs.Lists.Membership.{In, In_flat_map}
use Rattle.units.proofs.Lists.OneValue.{one_some}
use Rattle.scheme.proofs.Told.{other_from_test}
use Rattle.safety.proofs.ListLemmas.TestsOfSameness.{other_code}
use Rattle.safety.proofs.WorldLemmas.NodesWithStation.{Unplaced}
use Rattle.safety.proofs.OwnersOfUnits.SumsOverRegistries.{over_parts, over_same, over_balance, over_start, start_member, one_above, one_or_none, some_member, codes_rise, In_flat, length_flat, no_repeat_flat}

module _ (scheme : Scheme) (f : Node → List Entry) (causal : Causal scheme f) (s : Serial) where
  -- the transition gives the unit away, and its acquirer has received it
  abbrev hands_over : Code → Transition → Bool
  hands_over c x = gives c s x && is_received f x.id x.content

  -- the transfers of the unit that a registry has handed over, and those that it has taken in
  abbrev handed : SchemeRegistry → List TransactionId
  handed m = picked (hands_over m.code) (at_registry f m.code)

  abbrev taken : SchemeRegistry → List TransactionId
  taken m = picked (credits m.code s) (at_registry f m.code)

  handed_given : (c : Code) (x : Transition) → hands_over c x ≡ true → (gives c s x ≡ true) × (is_received f x.id x.content ≡ true)
  handed_given c x h = and_parts (gives c s x) (is_received f x.id x.content) h

  -- what is handed over is taken in
  handed_taken : (m : SchemeRegistry) (t : TransactionId) → In t (handed m) → (n : SchemeRegistry) × In n scheme.members × In t (taken n)
  handed_taken m t h =
      let x = In_picked (hands_over m.code) (at_registry f m.code) t h in
      let parts = handed_given m.code x.0 x.2 in
      let out = given m.code s x.0 parts.0 in
      let own = own_contents scheme m.code (f (Registry m.code)) (causal.made (Registry m.code)) x.0 x.1 out.1 in
      let a = own.content.acquirer in
      let y = stood (newest (at_registry f a) x.0.id) Completed (subst (λ k. is_received f x.0.id k ≡ true) own.is parts.1) in
      let id = newest_id (at_registry f a) x.0.id y.0 y.1 in
      let foreign : same_code x.0.id.code a ≡ false =
      other_code x.0.id.code a (λ e. other_from_test a m.code own.acquirer_other (sym e ∙ code_of_same x.0.id.code m.code out.1)) in
      let tr = transfer scheme f causal a x.0.id y.0 y.1 foreign y.2 in
      let last : newest (at_registry f x.0.id.code) x.0.id ≡ Some x.0 =
      subst (λ z. newest (at_registry f z) x.0.id ≡ Some x.0) (sym (code_of_same x.0.id.code m.code out.1)) (ends_last scheme m.code (f (Registry m.code)) (causal.made (Registry m.code)) x.0 x.1 out.0) in
      let same : tr.initiator ≡ x.0 = one_some tr.initiator x.0 (sym tr.newest_there ∙ last) in
      let content : y.0.content ≡ x.0.content = tr.is ∙ sym tr.content_there ∙ ap (λ (z : Transition). z.content) same in
      let comes = is_credited a s y.0 y.2 (subst (λ (z : TransactionId). same_code z.code a ≡ false) (sym id.1) foreign) (subst (λ k. has_serial k s ≡ true) (sym content) out.2) in
      let n = some_member scheme a own.acquirer_known in (
        n.0,
        n.1,
        subst (λ z. In t (picked (credits z s) (at_registry f z))) (sym n.2)
            (subst (λ z. In z (picked (credits a s) (at_registry f a))) (id.1 ∙ x.3) (picked_In (credits a s) (at_registry f a) y.0 id.0 comes)),
      )

  -- what is taken in was handed over
  taken_handed : (n : SchemeRegistry) (t : TransactionId) → In t (taken n) → (m : SchemeRegistry) × In m scheme.members × In t (handed m)
  taken_handed n t h =
      let y = In_picked (credits n.code s) (at_registry f n.code) t h in
      let came = credited n.code s y.0 y.2 in
      let last = ends_last scheme n.code (f (Registry n.code)) (causal.made (Registry n.code)) y.0 y.1 came.0 in
      let tr = transfer scheme f causal n.code y.0.id y.0 last came.1 came.0 in
      let x = initiator_completed scheme f causal n.code y.0 y.1 came.0 came.1 in
      let c = y.0.id.code in
      let there : newest (at_registry f c) y.0.id ≡ Some x.0 = subst (λ z. newest (at_registry f c) z ≡ Some x.0) x.2 (ends_last scheme c (f (Registry c)) (causal.made (Registry c)) x.0 x.1 x.3) in
      let same : tr.initiator ≡ x.0 = one_some tr.initiator x.0 (sym tr.newest_there ∙ there) in
      let content : x.0.content ≡ Some tr.content = ap (λ (z : Transition). z.content) (sym same) ∙ tr.content_there in
      let stands_here : stands_at (at_registry f n.code) y.0.id Completed ≡ true = subst (λ o. is_status (option_map (λ (z : Transition). z.new) o) Completed ≡ true) (sym last) (done_status y.0 came.0) in
      let received : is_received f x.0.id x.0.content ≡ true =
      subst (λ k. is_received f x.0.id k ≡ true) (sym content)
      (subst (λ z. stands_at (at_registry f z) x.0.id Completed ≡ true) (sym tr.here) (subst (λ z. stands_at (at_registry f n.code) z Completed ≡ true) (sym x.2) stands_here)) in
      let goes = is_given c s x.0 x.3 (subst (λ (z : TransactionId). same_code z.code c ≡ true) (sym x.2) (same_code-refl c)) (subst (λ k. has_serial k s ≡ true) (tr.is ∙ sym content) came.2) in
      let m = some_member scheme c (not-false (has_member scheme c) tr.member_there) in (
        m.0,
        m.1,
        subst (λ z. In t (picked (hands_over z) (at_registry f z))) (sym m.2)
            (subst (λ z. In z (picked (hands_over c) (at_registry f c))) (x.2 ∙ y.3)
            (picked_In (hands_over c) (at_registry f c) x.0 x.1 (and_from (gives c s x.0) (is_received f x.0.id x.0.content) goes received))),
      )

  -- each transfer is handed over by one registry, and taken in by one
  handed_apart : (m n : SchemeRegistry) (t : TransactionId) → In t (handed m) → In t (handed n) → m.code ≡ n.code
  handed_apart m n t i j =
      let x = In_picked (hands_over m.code) (at_registry f m.code) t i in
      let y = In_picked (hands_over n.code) (at_registry f n.code) t j in
      let a = given m.code s x.0 (handed_given m.code x.0 x.2).0 in
      let b = given n.code s y.0 (handed_given n.code y.0 y.2).0 in
      sym (code_of_same x.0.id.code m.code a.1) ∙ ap (λ (z : TransactionId). z.code) (x.3 ∙ sym y.3) ∙ code_of_same y.0.id.code n.code b.1

  taken_apart : (m n : SchemeRegistry) (t : TransactionId) → In t (taken m) → In t (taken n) → m.code ≡ n.code
  taken_apart m n t i j =
      let x = In_picked (credits m.code s) (at_registry f m.code) t i in
      let y = In_picked (credits n.code s) (at_registry f n.code) t j in
      let a = credited m.code s x.0 x.2 in
      let b = credited n.code s y.0 y.2 in
      let p = transfer scheme f causal m.code x.0.id x.0 (ends_last scheme m.code (f (Registry m.code)) (causal.made (Registry m.code)) x.0 x.1 a.0) a.1 a.0 in
      let q = transfer scheme f causal n.code y.0.id y.0 (ends_last scheme n.code (f (Registry n.code)) (causal.made (Registry n.code)) y.0 y.1 b.0) b.1 b.0 in
      let there : newest (at_registry f x.0.id.code) x.0.id ≡ Some q.initiator = subst (λ (z : TransactionId). newest (at_registry f z.code) z ≡ Some q.initiator) (y.3 ∙ sym x.3) q.newest_there in
      let same : p.initiator ≡ q.initiator = one_some p.initiator q.initiator (sym p.newest_there ∙ there) in
      let content : p.content ≡ q.content = one_some p.content q.content (sym p.content_there ∙ ap (λ (z : Transition). z.content) same ∙ q.content_there) in
      sym p.here ∙ ap (λ (z : Content). z.acquirer) content ∙ q.here

  handed_once : (m : SchemeRegistry) → NoRepeat (handed m)
  handed_once m =
      completed_once scheme m.code (hands_over m.code) (λ x h. (given m.code s x (handed_given m.code x h).0).0) (f (Registry m.code)) (causal.made (Registry m.code))

  taken_once : (m : SchemeRegistry) → NoRepeat (taken m)
  taken_once m = completed_once scheme m.code (credits m.code s) (λ x h. (credited m.code s x h).0) (f (Registry m.code)) (causal.made (Registry m.code))

  abbrev count_handed : SchemeRegistry → ℕ
  count_handed m = count_by (hands_over m.code) (at_registry f m.code)

  abbrev count_given : SchemeRegistry → ℕ
  count_given m = count_by (gives m.code s) (at_registry f m.code)

  abbrev count_taken : SchemeRegistry → ℕ
  count_taken m = count_by (credits m.code s) (at_registry f m.code)

  -- as much is handed over as is taken in
  handed_as_taken : sum_by count_handed scheme.members ≡ sum_by count_taken scheme.members
  handed_as_taken =
      let e =
      same_length (flat_map handed scheme.members) (flat_map taken scheme.members) (no_repeat_flat handed handed_once handed_apart scheme.members (codes_rise scheme))
      (no_repeat_flat taken taken_once taken_apart scheme.members (codes_rise scheme))
      (λ t i. let g = In_flat_map handed t scheme.members i in let k = handed_taken g.0 t g.2 in In_flat taken scheme.members k.0 t k.1 k.2)
      (λ t i. let g = In_flat_map taken t scheme.members i in let k = taken_handed g.0 t g.2 in In_flat handed scheme.members k.0 t k.1 k.2) in
      let a = over_same (λ m. length (handed m)) count_handed (λ m. length_picked (hands_over m.code) (at_registry f m.code)) scheme.members in
      let b = over_same (λ m. length (taken m)) count_taken (λ m. length_picked (credits m.code s) (at_registry f m.code)) scheme.members in
      sym a ∙ sym (length_flat handed scheme.members) ∙ e ∙ length_flat taken scheme.members ∙ b

  in_one_place : holders scheme f s + owed scheme f s ≡ cond (is_some (allotted scheme s)) 1 0
  in_one_place =
      let local = λ (m : SchemeRegistry). local_history scheme m.code s (f (Registry m.code)) (causal.made (Registry m.code)) in
      let a =
      over_balance (λ m. holds scheme m.code (at_registry f m.code) s) count_given (λ m. at_start scheme m.code s) count_taken
      (λ m. one_above (at_start scheme m.code s + count_taken m) (count_given m) (local m).low (local m).high) scheme.members in
      let b =
      over_parts count_given count_handed (λ m. count_by (owes f m.code s) (at_registry f m.code))
      (λ m. number_parts (gives m.code s) (λ x. is_received f x.id x.content) (at_registry f m.code)) scheme.members in
      let c = handed_as_taken in
      let d = over_start scheme s in
      omega arith

pub causal_one_place : (scheme : Scheme) (f : Node → List Entry) → Causal scheme f → OnePlace scheme f
causal_one_place scheme f causal s = in_one_place scheme f causal s

-- who holds a unit is a registry of the scheme: no other one has a history, and nothing is allotted to it
pub holding_member : (scheme : Scheme) (f : Node → List Entry) → Unplaced scheme f → (s : Serial) (c : Code) → holds scheme c (at_registry f c) s ≡ true → has_member scheme c ≡ true
holding_member scheme f unplaced s c h =
    elim (cases_Bool (has_member scheme c)) [
      | inl y ↦ y
      | inr n ↦
          let start = eqb-true (at_start scheme c s + 0) (0 + 1) (subst (λ (es : List Entry). holds scheme c (transitions_of es) s ≡ true) (unplaced (Registry c) n) h) in
          start_member scheme c s (omega arith)
    ]

-- where a unit is in one place, no two registries can spend it
pub spent_once : (scheme : Scheme) (f : Node → List Entry) → Unplaced scheme f → OnePlace scheme f → SpentOnce scheme f
spent_once scheme f unplaced place s c d spend_c spend_d =
    elim (cases_Bool (same_code c d)) [
      | inl y ↦ code_of_same c d y
      | inr other ↦
          let a = (and_parts (holds scheme c (at_registry f c) s) (not (reserved c (at_registry f c) s)) spend_c).0 in
          let b = (and_parts (holds scheme d (at_registry f d) s) (not (reserved d (at_registry f d) s)) spend_d).0 in
          let m = some_member scheme c (holding_member scheme f unplaced s c a) in
          let k = some_member scheme d (holding_member scheme f unplaced s d b) in
          let two =
          number_two (λ (m : SchemeRegistry). holds scheme m.code (at_registry f m.code) s) scheme.members m.0 k.0 m.1 k.1 (subst (λ z. holds scheme z (at_registry f z) s ≡ true) (sym m.2) a)
          (subst (λ z. holds scheme z (at_registry f z) s ≡ true) (sym k.2) b) (λ e. other_from_test c d other (sym m.2 ∙ ap (λ (z : SchemeRegistry). z.code) e ∙ k.2)) in
          let p = place s in
          let q = one_or_none (is_some (allotted scheme s)) in
          absurd (omega arith)
    ]
