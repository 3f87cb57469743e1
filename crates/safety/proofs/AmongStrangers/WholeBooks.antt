-- The log's book, for all messages that the log receives: each allotted unit has one owner, a registry of the scheme.
-- With the accounts of the trusted registries, every allotted unit is in one place among strangers.
use Rattle.std.specs.List.{count_by, sum_by}
use Rattle.std.proofs.Common.{◌≡◌, ℕ, ◌+◌, List, [], ◌∷◌, ◌++◌, Bool, true, false, not, cond, Option, Some, None, ◌⊎◌, inl, inr, refl, sym, ap, subst, ◌∙◌, arith}
use Rattle.std.specs.Prelude.{◌&&◌, option_map, is_some}
use Rattle.std.proofs.lemmas.Bool.{and_from, and_left, and_right, not-false, or_parts, cond-true, cond-false, cases_Bool}
use Rattle.units.specs.Code.{same_code}
use Rattle.units.specs.declared.block.Unit.{Unit as Serial}
use Rattle.units.specs.declared.code.Code.{Code}
use Rattle.units.specs.declared.code.Node.{Node}
use Rattle.units.specs.declared.code.Node.TheVariants.{Itl, Registry}
use Rattle.status.specs.Content.{Content}
use Rattle.status.specs.Status.{same_status}
use Rattle.status.specs.declared.id.TransactionId.{TransactionId}
use Rattle.status.specs.declared.status.Status.{Status}
use Rattle.status.specs.declared.status.Status.TheVariants.{Checked, Accepted, Rejected, Cancelled, Completed}
use Rattle.wire.specs.NotifiedStatuses.{notified_status}
use Rattle.wire.specs.declared.input.Input.{Input}
use Rattle.scheme.specs.declared.members.Holder.{Holder}
use Rattle.scheme.specs.declared.members.SchemeRegistry.{SchemeRegistry}
use Rattle.scheme.specs.declared.registries.Scheme.{Scheme}
use Rattle.protocol.specs.AtLog.{ledger}
use Rattle.protocol.specs.Checks.{is_owner, log_causes, log_findings}
use Rattle.protocol.specs.Claims.{at_registry}
use Rattle.protocol.specs.History.{Transition, Entry, transitions_of, newest, has_serial, carries, holds, book_owner}
use Rattle.protocol.specs.Registries.{allotted, has_member}
use Rattle.safety.specs.Trust.{BookIsWhole, OnePlaceAmong, coming, leaving, place}
use Rattle.units.proofs.Lists.Membership.{In}
use Rattle.units.proofs.Lists.OneValue.{one_some}
use Rattle.safety.proofs.ListLemmas.FirstFound.{mapped_some}
use Rattle.safety.proofs.MovesAndHistories.NewestTransitions.{Made, newest_id}
use Rattle.safety.proofs.MovesAndHistories.TableMoves.{LogMove, checks, passes, cancels, forestalls}
use Rattle.safety.proofs.MovesAndHistories.TableRows.{log_from}
use Rattle.safety.proofs.MovesAndHistories.TransitionForms.{checked}
use Rattle.safety.proofs.OneLog.LogInputs.{AllCancelled, each_log_move, none_stand}
use Rattle.safety.proofs.OneLog.OwnersInLog.{IsBusy, in_book}
use Rattle.safety.proofs.OwnersOfUnits.SumsOverRegistries.{codes_rise, holder_member, is_member, none_at, one_at, over_none, over_same, some_member}
use Rattle.safety.proofs.OwnersOfUnits.AccountedUnits.{accounted}
use Rattle.safety.proofs.AgreementOfNodes.CausalHistories.{CausalAmong}

module _ (scheme : Scheme) (s : Serial) where
  -- the unit has an owner if it was allotted, the owner is a registry of the scheme, and so is each acquirer of a
  -- transfer that is under way
  pub record Whole (xs : List Transition) : Type 0 where
    pub some : is_some (book_owner scheme xs s) ≡ is_some (allotted scheme s)
    pub member : (c : Code) → book_owner scheme xs s ≡ Some c → has_member scheme c ≡ true
    pub known : (x : Transition) → In x xs → IsBusy x.new → (k : Content) → x.content ≡ Some k → has_member scheme k.acquirer ≡ true

  still : (x : Transition) (xs : List Transition) → (same_status x.new Completed && carries x s) ≡ false
      → (IsBusy x.new → (k : Content) → x.content ≡ Some k → has_member scheme k.acquirer ≡ true) → Whole xs → Whole (x ∷ xs)
  still x xs n mine old =
      let e : book_owner scheme (x ∷ xs) s ≡ book_owner scheme xs s =
      cond-false (same_status x.new Completed && carries x s) (option_map (λ (k : Content). k.acquirer) x.content) (book_owner scheme xs s) n in
      record {
        some = ap is_some e ∙ old.some;
        member = λ c h. old.member c (sym e ∙ h);
        known = λ y i b k h.
            elim i [
              | inl same ↦ mine (subst (λ (z : Transition). IsBusy z.new) (sym same) b) k (ap (λ (z : Transition). z.content) same ∙ h)
              | inr j ↦ old.known y j b k h
            ];
      }

  quiet : (x : Transition) (xs : List Transition) → same_status x.new Completed ≡ false → (IsBusy x.new → ⊥) → Whole xs → Whole (x ∷ xs)
  quiet x xs n other old = still x xs (and_left (same_status x.new Completed) (carries x s) n) (λ b k h. absurd (other b)) old

  checked_move : (es : List Entry) (t : TransactionId) (k : Content) (moment : ℕ) (found : List ℕ) → found ≡ log_findings scheme (ledger scheme es) t.code k → Whole (transitions_of es)
      → Whole (checked t k moment found ∷ transitions_of es)
  checked_move es t k moment [] is old =
      let none = none_stand (log_causes scheme (ledger scheme es) t.code k) (sym is) in
      let acquirer = or_parts (not (has_member scheme k.acquirer)) (same_code k.acquirer t.code) none.0 in
      let known : has_member scheme k.acquirer ≡ true = not-false (has_member scheme k.acquirer) acquirer.0 in
      still (checked t k moment []) (transitions_of es) refl
      (λ b l h. let same : Some k ≡ Some l = h in subst (λ (z : Content). has_member scheme z.acquirer ≡ true) (one_some k l same) known) old
  checked_move es t k moment (c ∷ cs) is old = quiet (checked t k moment (c ∷ cs)) (transitions_of es) refl (λ h. h) old

  -- a transfer that was under way goes on with its content
  went_on : (es : List Entry) (q x : Transition) (told : Status) → Made scheme Itl es → newest (transitions_of es) q.id ≡ Some q → x.content ≡ q.content → (k : Content) → q.content ≡ Some k
      → ((q.new ≡ Checked) × (x.new ≡ told) × ((told ≡ Accepted) ⊎ (told ≡ Rejected))) ⊎ ((q.new ≡ Accepted) × (x.new ≡ Completed) × (told ≡ Completed)) → Whole (transitions_of es)
      → Whole (x ∷ transitions_of es)
  went_on es q x told made was same k held (inl m) old =
      let not_done : same_status x.new Completed ≡ false =
      elim m.2 [
        | inl a ↦ subst (λ z. same_status z Completed ≡ false) (sym (m.1 ∙ a)) refl
        | inr a ↦ subst (λ z. same_status z Completed ≡ false) (sym (m.1 ∙ a)) refl
      ] in
      still x (transitions_of es) (and_left (same_status x.new Completed) (carries x s) not_done)
      (λ b l h. old.known q (newest_id (transitions_of es) q.id q was).0 (subst IsBusy (sym m.0) tt) l (sym same ∙ h)) old
  went_on es q x told made was same k held (inr m) old =
      let busy : IsBusy q.new = subst IsBusy (sym m.0) tt in
      let member = old.known q (newest_id (transitions_of es) q.id q was).0 busy k held in
      elim (cases_Bool (carries x s)) [
        | inl y ↦
            let done : same_status x.new Completed ≡ true = subst (λ z. same_status z Completed ≡ true) (sym m.1) refl in
            let moves = and_from (same_status x.new Completed) (carries x s) done y in
            let e : book_owner scheme (x ∷ transitions_of es) s ≡ Some k.acquirer =
            cond-true (same_status x.new Completed && carries x s) (option_map (λ (z : Content). z.acquirer) x.content) (book_owner scheme (transitions_of es) s) moves
            ∙ ap (option_map (λ (z : Content). z.acquirer)) (same ∙ held) in
            let before = (in_book scheme s es made).owner q.id (record { last = q; is = was; new = busy; has = subst (λ z. has_serial z s ≡ true) same y }) in
            record {
              some = ap is_some e ∙ sym (ap is_some before) ∙ old.some;
              member = λ c h. subst (λ z. has_member scheme z ≡ true) (one_some k.acquirer c (sym e ∙ h)) member;
              known = λ z i b l h.
                  elim i [
                    | inl a ↦ absurd (subst IsBusy (ap (λ (w : Transition). w.new) (sym a) ∙ m.1) b)
                    | inr j ↦ old.known z j b l h
                  ];
            }
        | inr n ↦ still x (transitions_of es) (and_right (same_status x.new Completed) (carries x s) n) (λ b l h. absurd (subst IsBusy m.1 b)) old
      ]

  book_move : (es : List Entry) (input : Input) (x : Transition) → Made scheme Itl es → LogMove scheme es input x → Whole (transitions_of es) → Whole (x ∷ transitions_of es)
  book_move es input x made (checks p moment found f st is none member) old = checked_move es p.id p.content moment.seconds found is old
  book_move es input x made (passes n moment q k new was held member right move) old =
      went_on es q x (notified_status n.notified) made (subst (λ z. newest (transitions_of es) z ≡ Some q) (sym (newest_id (transitions_of es) n.id q was).1) was) refl k held
      (log_from q.new (notified_status n.notified) new move) old
  book_move es input x made (forestalls r moment f member none) old = quiet x (transitions_of es) refl (λ h. h) old
  book_move es input x made (cancels given moment t q k why was held stood) old = quiet x (transitions_of es) refl (λ h. h) old

  start : Whole []
  start = record {
    some = mapped_some (λ (h : Holder). h.registry) (allotted scheme s);
    member = λ c h. owner (allotted scheme s) refl c h;
    known = λ x i b k h. absurd i;
  }
    where
      owner : (o : Option Holder) → allotted scheme s ≡ o → (c : Code) → option_map (λ (h : Holder). h.registry) o ≡ Some c → has_member scheme c ≡ true
      owner None e c h = absurd (cc (h))
      owner (Some k) e c h =
          let m = holder_member scheme.members s k e in
          subst (λ z. has_member scheme z ≡ true) (sym m.2 ∙ one_some k.registry c h) (is_member scheme m.0 m.1)

  pub whole : (es : List Entry) → Made scheme Itl es → Whole (transitions_of es)
  whole =
      each_log_move scheme Whole start book_move
      (λ es input x front made move gone all old new. quiet x (front ++ transitions_of es) (subst (λ z. same_status z Completed ≡ false) (sym gone) refl) (λ h. subst IsBusy gone h) new)

pub book_is_whole : (scheme : Scheme) (es : List Entry) → Made scheme Itl es → BookIsWhole scheme (transitions_of es)
book_is_whole scheme es made s = let w = whole scheme s es made in (w.some, w.member)

-- one registry of the scheme is the owner
one_owner : (scheme : Scheme) (o : Option Code) → ((c : Code) → o ≡ Some c → has_member scheme c ≡ true) → sum_by (λ m. cond {A = ℕ} (is_owner o m.code) 1 0) scheme.members ≡ cond (is_some o) 1 0
one_owner scheme None member = over_none scheme.members
one_owner scheme (Some c) member = let m = some_member scheme c (member c refl) in one_at c scheme.members (codes_rise scheme) m.0 m.1 (sym m.2)

module _ {trusted : Node → Bool} (scheme : Scheme) (f : Node → List Entry) (causal : CausalAmong trusted scheme f) (log : trusted Itl ≡ true) where
  placed : (s : Serial) (c : Code) → place trusted scheme f s c ≡ cond {A = ℕ} (is_owner (book_owner scheme (transitions_of (f Itl)) s) c) 1 0
  placed s c =
      elim (cases_Bool (trusted (Registry c))) [
        | inl y ↦
            cond-true {A = ℕ} (trusted (Registry c)) (cond {A = ℕ} (holds scheme c (at_registry f c) s) 1 0 + coming f c s + leaving f c s)
            (cond {A = ℕ} (is_owner (book_owner scheme (transitions_of (f Itl)) s) c) 1 0) y
            ∙ accounted scheme f causal log c y s
        | inr n ↦
            cond-false {A = ℕ} (trusted (Registry c)) (cond {A = ℕ} (holds scheme c (at_registry f c) s) 1 0 + coming f c s + leaving f c s)
            (cond {A = ℕ} (is_owner (book_owner scheme (transitions_of (f Itl)) s) c) 1 0) n
      ]

  pub one_place_among : OnePlaceAmong trusted scheme f
  one_place_among s =
      let w = whole scheme s (f Itl) (causal.made Itl) in
      over_same (λ (m : SchemeRegistry). place trusted scheme f s m.code) (λ m. cond {A = ℕ} (is_owner (book_owner scheme (transitions_of (f Itl)) s) m.code) 1 0) (λ m. placed s m.code) scheme.members
      ∙ one_owner scheme (book_owner scheme (transitions_of (f Itl)) s) w.member
      ∙ ap (λ b. cond {A = ℕ} b 1 0) w.some
