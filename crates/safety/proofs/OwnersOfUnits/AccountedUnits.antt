-- A unit that the log's book gives to a trusted registry is held by it, or in one transfer that one of the two
-- completed and the other has not. The transfers to the registry that the log completed are those that the registry
-- completed too (credits) and those that are coming. The transfers of the registry that it completed are those that the
-- log completed too and those that are leaving. No list has repeats, so lists with the same members are equally long.
-- The log's counts (`in_book`) and the registry's (`local_history`) then give the equation, and from it follows that a
-- registry that holds a unit is its owner in the log's book.
use Rattle.std.specs.List.{count_by}
use Rattle.std.proofs.Common.{◌≡◌, ℕ, ◌+◌, ◌≤◌, List, Bool, true, false, not, cond, Option, Some, option_map, inl, inr, refl, sym, ap, subst, ◌∙◌, arith, length}
use Rattle.std.specs.Prelude.{◌&&◌, ◌==◌, nat_le}
use Rattle.std.proofs.lemmas.Bool.{cond-true, cond-false, cases_Bool, and_from, and_parts, eqb-true, eq-eqb, leb-true, leb-false}
use Rattle.units.proofs.Same.{code_of_same, same_code-refl}
use Rattle.units.specs.Code.{same_code}
use Rattle.units.specs.declared.block.Unit.{Unit as Serial}
use Rattle.units.specs.declared.code.Code.{Code}
use Rattle.units.specs.declared.code.Node.{Node}
use Rattle.units.specs.declared.code.Node.TheVariants.{Itl, Registry}
use Rattle.status.specs.Content.{Content}
use Rattle.status.specs.Status.{same_status}
use Rattle.status.specs.declared.id.TransactionId.{TransactionId}
use Rattle.status.specs.declared.status.Status.TheVariants.{Cancelled, Completed}
use Rattle.wire.specs.declared.message.ProposalStatus.TheVariants as proposal
use Rattle.scheme.specs.declared.registries.Scheme.{Scheme}
use Rattle.protocol.specs.Checks.{is_owner}
use Rattle.protocol.specs.Claims.{at_registry, HolderOwns}
use Rattle.protocol.specs.History.{Transition, Entry, transitions_of, newest, stands_at, is_status, has_serial, carries, gives, credits, at_start, holds, reserved, book_owner}
use Rattle.safety.specs.Trust.{brings, brings_to, is_coming, coming, leaving, Accounted, HolderOwnsAmong, SpentOnceAmong}
use Rattle.protocol.proofs.CountsInLists.{picked, length_picked, In_picked, picked_In, number_one, number_parts}
use Rattle.units.proofs.Lists.Membership.{In}
use Rattle.units.proofs.Lists.OneValue.{one_some, clash}
use Rattle.safety.proofs.AgreementOfNodes.CausalHistories.{Causal, CausalAmong, heard_sent}
use Rattle.safety.proofs.AgreementOfNodes.CompletionsAgree.{done_status, given, credited, is_given, is_credited, stood, completed_once, initiator_has, log_has, log_completed}
use Rattle.safety.proofs.ListLemmas.EquallyLong.{same_length}
use Rattle.safety.proofs.ListLemmas.TestsOfSameness.{status_of_same}
use Rattle.safety.proofs.MovesAndHistories.NewestTransitions.{Heard, Offered, newest_id}
use Rattle.safety.proofs.OneLog.LogHearings.{log_offered}
use Rattle.safety.proofs.OneLog.OwnersInLog.{in_book, owner_is, log_ends_last, log_picked_once}
use Rattle.safety.proofs.OneRegistry.RegistryHearings.{Cause, told}
use Rattle.safety.proofs.OneRegistry.TransactionEnds.{ends_last, own_contents, offered, completed_sent, known, proposer}
use Rattle.safety.proofs.OneRegistry.UnitsCountedOnce.{local_history}

-- a number that is another one or one more, by a test
held_number : (a g : ℕ) → g ≤ a → a ≤ g + 1 → cond {A = ℕ} (a == g + 1) 1 0 + g ≡ a
held_number a g low high =
    elim (cases_Bool (a == g + 1)) [
      | inl y ↦ let e = eqb-true a (g + 1) y in let u = cond-true {A = ℕ} (a == g + 1) 1 0 y in omega arith
      | inr n ↦
          let u = cond-false {A = ℕ} (a == g + 1) 1 0 n in
          elim (cases_Bool (nat_le (g + 1) a)) [
            | inl y ↦ let m = leb-true (g + 1) a y in let e : a ≡ g + 1 = omega arith in absurd (let z = sym (eq-eqb a (g + 1) e) ∙ n in cc (z))
            | inr f ↦ let m = leb-false (g + 1) a f in omega arith
          ]
    ]

at_most_one : (b : Bool) → cond {A = ℕ} b 1 0 ≤ 1
at_most_one true = omega arith
at_most_one false = omega arith

stands_done : (xs : List Transition) (t : TransactionId) (x : Transition) → newest xs t ≡ Some x → x.new ≡ Completed → stands_at xs t Completed ≡ true
stands_done xs t x last done = subst (λ o. is_status (option_map (λ (z : Transition). z.new) o) Completed ≡ true) (sym last) (done_status x done)

not_cancelled : (x : Transition) → x.new ≡ Completed → x.new ≡ Cancelled → ⊥
not_cancelled x done e = let y : Completed ≡ Cancelled = sym done ∙ e in cc (y)

module _ {trusted : Node → Bool} (scheme : Scheme) (f : Node → List Entry) (causal : CausalAmong trusted scheme f) (log : trusted Itl ≡ true) (c : Code) (trust : trusted (Registry c) ≡ true) where
  -- what the log knows of a transfer of the registry, the registry has with that content
  own_has : (t : TransactionId) (k : Content) → t.code ≡ c → Offered (f Itl) (Registry t.code) t proposal.Proposed k → (y : Transition) × (newest (at_registry f c) t ≡ Some y) × (y.content ≡ Some k)
  own_has t k at got =
      let o = initiator_has scheme f causal t k (subst (λ z. trusted (Registry z) ≡ true) (sym at) trust) got in
      (o.0, subst (λ z. newest (at_registry f z) t ≡ Some o.0) at o.1, o.2)

  module _ (s : Serial) where
    abbrev here : Transition → Bool
    here x = stands_at (at_registry f c) x.id Completed

    abbrev there : Transition → Bool
    there x = stands_at (transitions_of (f Itl)) x.id Completed

    abbrev brought : Transition → Bool
    brought x = brings c s x && here x

    abbrev gone : Transition → Bool
    gone x = gives c s x && there x

    brought_done : (x : Transition) → brings c s x ≡ true → (x.new ≡ Completed) × (brings_to x.content c ≡ true) × (carries x s ≡ true)
    brought_done x h =
        let a = and_parts (same_status x.new Completed) (brings_to x.content c && carries x s) h in
        let b = and_parts (brings_to x.content c) (carries x s) a.1 in
        (status_of_same x.new Completed a.0, b.0, b.1)

    credited_brought : (t : TransactionId) → In t (picked (credits c s) (at_registry f c)) → In t (picked brought (transitions_of (f Itl)))
    credited_brought t h =
        let x = In_picked (credits c s) (at_registry f c) t h in
        let came = credited c s x.0 x.2 in
        let last = ends_last scheme c (f (Registry c)) (causal.made (Registry c)) x.0 x.1 came.0 in
        let l = log_completed scheme f causal log c x.0 x.1 came.0 came.1 in
        elim (known scheme c (f (Registry c)) (causal.made (Registry c)) x.0.id x.0 last came.1) [
          | inl e ↦ absurd (not_cancelled x.0 came.0 e.0)
          | inr k ↦
              let o = log_has scheme f causal log c x.0.id k.content k.got in
              let same : o.0 ≡ l.0 = one_some o.0 l.0 (sym o.1 ∙ l.1) in
              let content : l.0.content ≡ Some k.content = ap (λ (z : Transition). z.content) (sym same) ∙ o.2 in
              let id = newest_id (transitions_of (f Itl)) x.0.id l.0 l.1 in
              let at : brings_to l.0.content c ≡ true = subst (λ z. brings_to z c ≡ true) (sym content) (subst (λ z. same_code z c ≡ true) (sym k.here) (same_code-refl c)) in
              let comes : brings c s l.0 ≡ true =
              and_from (same_status l.0.new Completed) (brings_to l.0.content c && carries l.0 s) (done_status l.0 l.2)
              (and_from (brings_to l.0.content c) (carries l.0 s) at (subst (λ z. has_serial z s ≡ true) (k.is ∙ sym content) came.2)) in
              let done : here l.0 ≡ true = subst (λ (z : TransactionId). stands_at (at_registry f c) z Completed ≡ true) (sym id.1) (stands_done (at_registry f c) x.0.id x.0 last came.0) in
              subst (λ z. In z (picked brought (transitions_of (f Itl)))) (id.1 ∙ x.3) (picked_In brought (transitions_of (f Itl)) l.0 id.0 (and_from (brings c s l.0) (here l.0) comes done))
        ]

    brought_credited : (t : TransactionId) → In t (picked brought (transitions_of (f Itl))) → In t (picked (credits c s) (at_registry f c))
    brought_credited t h =
        let y = In_picked brought (transitions_of (f Itl)) t h in
        let parts = and_parts (brings c s y.0) (here y.0) y.2 in
        let b = brought_done y.0 parts.0 in
        let last = log_ends_last scheme (f Itl) (causal.made Itl) y.0 y.1 b.0 in
        let x = stood (newest (at_registry f c) y.0.id) Completed parts.1 in
        let id = newest_id (at_registry f c) y.0.id x.0 x.1 in
        elim (cases_Bool (same_code y.0.id.code c)) [
          | inl own ↦
              let at : y.0.id.code ≡ c = code_of_same y.0.id.code c own in
              let p = proposer scheme (f Itl) (causal.made Itl) y.0.id y.0 last (not_cancelled y.0 b.0) in
              let o = own_has y.0.id p.content at p.got in
              let same : o.0 ≡ x.0 = one_some o.0 x.0 (sym o.1 ∙ x.1) in
              let mine = own_contents scheme c (f (Registry c)) (causal.made (Registry c)) x.0 id.0 (subst (λ (z : TransactionId). same_code z.code c ≡ true) (sym id.1) own) in
              let k : mine.content ≡ p.content = one_some mine.content p.content (sym mine.is ∙ ap (λ (z : Transition). z.content) (sym same) ∙ o.2) in
              let to : same_code p.content.acquirer c ≡ true = subst (λ z. brings_to z c ≡ true) p.is b.1 in
              clash (same_code p.content.acquirer c) to (subst (λ (z : Content). same_code z.acquirer c ≡ false) k mine.acquirer_other)
          | inr foreign ↦
              elim (known scheme c (f (Registry c)) (causal.made (Registry c)) y.0.id x.0 x.1 foreign) [
                | inl e ↦ absurd (not_cancelled x.0 x.2 e.0)
                | inr k ↦
                    let o = log_has scheme f causal log c y.0.id k.content k.got in
                    let same : o.0 ≡ y.0 = one_some o.0 y.0 (sym o.1 ∙ last) in
                    let content : x.0.content ≡ y.0.content = k.is ∙ sym o.2 ∙ ap (λ (z : Transition). z.content) same in
                    let comes =
                    is_credited c s x.0 x.2 (subst (λ (z : TransactionId). same_code z.code c ≡ false) (sym id.1) foreign) (subst (λ z. has_serial z s ≡ true) (sym content) b.2) in
                    subst (λ z. In z (picked (credits c s) (at_registry f c))) (id.1 ∙ y.3) (picked_In (credits c s) (at_registry f c) x.0 id.0 comes)
              ]
        ]

    moved_gone : (t : TransactionId) → In t (picked (gives c s) (transitions_of (f Itl))) → In t (picked gone (at_registry f c))
    moved_gone t h =
        let x = In_picked (gives c s) (transitions_of (f Itl)) t h in
        let out = given c s x.0 x.2 in
        let at : x.0.id.code ≡ c = code_of_same x.0.id.code c out.1 in
        let last = log_ends_last scheme (f Itl) (causal.made Itl) x.0 x.1 out.0 in
        let p = proposer scheme (f Itl) (causal.made Itl) x.0.id x.0 last (not_cancelled x.0 out.0) in
        let g = subst (λ z. Heard (f Itl) (Registry z) x.0.id Completed) at (p.ended out.0) in
        let q = completed_sent scheme c (f (Registry c)) (causal.made (Registry c)) g.notification (heard_sent scheme f causal Itl (Registry c) x.0.id Completed trust g) g.told in
        let o = own_has x.0.id p.content at p.got in
        let about : q.0.id ≡ x.0.id = q.2 ∙ g.about in
        let newest_here : newest (at_registry f c) x.0.id ≡ Some q.0 =
        subst (λ z. newest (at_registry f c) z ≡ Some q.0) about (ends_last scheme c (f (Registry c)) (causal.made (Registry c)) q.0 q.1 q.3) in
        let same : o.0 ≡ q.0 = one_some o.0 q.0 (sym o.1 ∙ newest_here) in
        let content : q.0.content ≡ Some p.content = ap (λ (z : Transition). z.content) (sym same) ∙ o.2 in
        let goes : gives c s q.0 ≡ true =
        is_given c s q.0 q.3 (subst (λ (z : TransactionId). same_code z.code c ≡ true) (sym about) out.1) (subst (λ z. has_serial z s ≡ true) (p.is ∙ sym content) out.2) in
        let done : there q.0 ≡ true = subst (λ (z : TransactionId). stands_at (transitions_of (f Itl)) z Completed ≡ true) (sym about) (stands_done (transitions_of (f Itl)) x.0.id x.0 last out.0) in
        subst (λ z. In z (picked gone (at_registry f c))) (about ∙ x.3) (picked_In gone (at_registry f c) q.0 q.1 (and_from (gives c s q.0) (there q.0) goes done))

    gone_moved : (t : TransactionId) → In t (picked gone (at_registry f c)) → In t (picked (gives c s) (transitions_of (f Itl)))
    gone_moved t h =
        let x = In_picked gone (at_registry f c) t h in
        let parts = and_parts (gives c s x.0) (there x.0) x.2 in
        let out = given c s x.0 parts.0 in
        let at : x.0.id.code ≡ c = code_of_same x.0.id.code c out.1 in
        let last = ends_last scheme c (f (Registry c)) (causal.made (Registry c)) x.0 x.1 out.0 in
        let y = stood (newest (transitions_of (f Itl)) x.0.id) Completed parts.1 in
        let id = newest_id (transitions_of (f Itl)) x.0.id y.0 y.1 in
        let p = proposer scheme (f Itl) (causal.made Itl) x.0.id y.0 y.1 (not_cancelled y.0 y.2) in
        let o = own_has x.0.id p.content at p.got in
        let same : o.0 ≡ x.0 = one_some o.0 x.0 (sym o.1 ∙ last) in
        let content : x.0.content ≡ y.0.content = ap (λ (z : Transition). z.content) (sym same) ∙ o.2 ∙ sym p.is in
        let goes = is_given c s y.0 y.2 (subst (λ (z : TransactionId). same_code z.code c ≡ true) (sym id.1) out.1) (subst (λ z. has_serial z s ≡ true) content out.2) in
        subst (λ z. In z (picked (gives c s) (transitions_of (f Itl)))) (id.1 ∙ x.3) (picked_In (gives c s) (transitions_of (f Itl)) y.0 id.0 goes)

    accounted_unit : cond {A = ℕ} (holds scheme c (at_registry f c) s) 1 0 + coming f c s + leaving f c s ≡ cond {A = ℕ} (is_owner (book_owner scheme (transitions_of (f Itl)) s) c) 1 0
    accounted_unit =
        let a =
        same_length (picked (credits c s) (at_registry f c)) (picked brought (transitions_of (f Itl)))
        (completed_once scheme c (credits c s) (λ x i. (credited c s x i).0) (f (Registry c)) (causal.made (Registry c)))
        (log_picked_once scheme brought (λ x i. (brought_done x (and_parts (brings c s x) (here x) i).0).0) (f Itl) (causal.made Itl)) credited_brought brought_credited in
        let b =
        same_length (picked (gives c s) (transitions_of (f Itl))) (picked gone (at_registry f c))
        (log_picked_once scheme (gives c s) (λ x i. (given c s x i).0) (f Itl) (causal.made Itl))
        (completed_once scheme c gone (λ x i. (given c s x (and_parts (gives c s x) (there x) i).0).0) (f (Registry c)) (causal.made (Registry c))) moved_gone gone_moved in
        let i = length_picked (credits c s) (at_registry f c) in
        let j = length_picked brought (transitions_of (f Itl)) in
        let k = length_picked (gives c s) (transitions_of (f Itl)) in
        let l = length_picked gone (at_registry f c) in
        let u = number_parts (brings c s) here (transitions_of (f Itl)) in
        let v = number_parts (gives c s) there (at_registry f c) in
        let m = (in_book scheme s (f Itl) (causal.made Itl)).counts c in
        let n = local_history scheme c s (f (Registry c)) (causal.made (Registry c)) in
        let h = held_number (at_start scheme c s + count_by (credits c s) (at_registry f c)) (count_by (gives c s) (at_registry f c)) n.low n.high in
        omega arith

  pub accounted : Accounted scheme f c
  accounted s = accounted_unit s

  -- a unit that is coming is not held
  pub coming_not_held : (s : Serial) (l : Transition) → In l (transitions_of (f Itl)) → is_coming f c s l ≡ true → holds scheme c (at_registry f c) s ≡ false
  coming_not_held s l i comes =
      let a = accounted s in
      let one = number_one (is_coming f c s) (transitions_of (f Itl)) l i comes in
      elim (cases_Bool (holds scheme c (at_registry f c) s)) [
        | inr n ↦ n
        | inl y ↦
            absurd (let u = cond-true {A = ℕ} (holds scheme c (at_registry f c) s) 1 0 y in
            let most = at_most_one (is_owner (book_owner scheme (transitions_of (f Itl)) s) c) in
            omega arith)
      ]

  pub holder_is_owner : (s : Serial) → holds scheme c (at_registry f c) s ≡ true → book_owner scheme (transitions_of (f Itl)) s ≡ Some c
  holder_is_owner s h =
      let a = accounted s in
      let u = cond-true {A = ℕ} (holds scheme c (at_registry f c) s) 1 0 h in
      elim (cases_Bool (is_owner (book_owner scheme (transitions_of (f Itl)) s) c)) [
        | inl y ↦ owner_is (book_owner scheme (transitions_of (f Itl)) s) c y
        | inr n ↦ absurd (let z = cond-false {A = ℕ} (is_owner (book_owner scheme (transitions_of (f Itl)) s) c) 1 0 n in omega arith)
      ]

module _ {trusted : Node → Bool} (scheme : Scheme) (f : Node → List Entry) (causal : CausalAmong trusted scheme f) (log : trusted Itl ≡ true) where
  pub holder_owns_among : HolderOwnsAmong trusted scheme f
  holder_owns_among s c trust h = holder_is_owner scheme f causal log c trust s h

  pub spent_once_among : SpentOnceAmong trusted scheme f
  spent_once_among s c d of_c of_d h k =
      let a = holder_owns_among s c of_c (and_parts (holds scheme c (at_registry f c) s) (not (reserved c (at_registry f c) s)) h).0 in
      let b = holder_owns_among s d of_d (and_parts (holds scheme d (at_registry f d) s) (not (reserved d (at_registry f d) s)) k).0 in
      one_some c d (sym a ∙ b)

pub holder_owns : (scheme : Scheme) (f : Node → List Entry) → Causal scheme f → HolderOwns scheme f
holder_owns scheme f causal s c h = holder_owns_among scheme f causal refl s c refl h
