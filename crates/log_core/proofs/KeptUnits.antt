-- Which transfer a unit is in, and who owns it, after the transitions of one more record.
use Rattle.std.proofs.Common.{Bool, List, None, Option, Some, [], ap, cond, false, inl, inr, not, refl, subst, sym, true, ◌&&◌, ◌++◌, ◌∙◌, ◌∷◌, ◌≡◌}
use Rattle.std.specs.Prelude.{if◌then◌else◌, option_map}
use Rattle.std.proofs.lemmas.Bool.{and_from, and_left, and_parts, cases_Bool, cond-false, cond-true, not-true}
use Rattle.units.specs.Intervals.{labels_that}
use Rattle.units.specs.declared.block.Unit.{Unit as Serial}
use Rattle.units.specs.declared.code.Code.{Code}
use Rattle.units.specs.declared.code.Node.TheVariants.{Itl}
use Rattle.status.proofs.Ids.{id_of_same, same_id-refl}
use Rattle.status.specs.Content.{Content}
use Rattle.status.specs.Id.{same_id}
use Rattle.status.specs.Status.{same_status}
use Rattle.status.specs.declared.id.TransactionId.{TransactionId}
use Rattle.status.specs.declared.status.Status.{Status}
use Rattle.status.specs.declared.status.Status.TheVariants.{Accepted, Cancelled, Checked, Completed, Proposed, Rejected, Terminated}
use Rattle.wire.specs.declared.input.Input.{Input}
use Rattle.scheme.specs.declared.registries.Scheme.{Scheme}
use Rattle.checks.specs.declared.register.BookEntry.{BookEntry}
use Rattle.checks.specs.declared.register.UnderWay.{UnderWay}
use Rattle.protocol.specs.History.{Entry, Transition, book_owner, carries, has_serial, newest, transitions_of}
use Rattle.units.proofs.Lists.Membership.{In}
use Rattle.units.proofs.Lists.OneValue.{clash, one_some}
use Rattle.safety.proofs.MovesAndHistories.NewestTransitions.{Made}
use Rattle.safety.proofs.OneLog.OwnersInLog.{Busy, IsBusy}
use Rattle.safety.proofs.OneRegistry.UnitsCountedOnce.{newest_cons}
use Rattle.safety.proofs.ListLemmas.TestsOfSameness.{status_of_same}
use Rattle.log_core.specs.Effects.{handed_over}
use Rattle.log_core.specs.Readings.{owner, under_way}
use Rattle.log_core.proofs.KeptTransfers.{AreOf, newest_among, newest_other}
use Rattle.log_core.proofs.KnownUnderWay.{busy_under_way, under_way_busy, under_way_is}

-- one record more
abbrev pub entry : Input → List Transition → Entry
entry input xs = record { input = input; transitions = xs }

-- ---- who owns a unit

-- the owner as the book labels it
abbrev owner_label : Code → BookEntry
owner_label c = record { registry = c }

abbrev acquirer_in : Option Content → Option Code
acquirer_in k = option_map (λ (content : Content). content.acquirer) k

-- transitions that complete nothing
pub owner_kept : (scheme : Scheme) (front xs : List Transition) (s : Serial) → ((z : Transition) → In z front → same_status z.new Completed ≡ false) → owner scheme (front ++ xs) s ≡ owner scheme xs s
owner_kept scheme [] xs s still = refl
owner_kept scheme (z ∷ zs) xs s still =
    ap (option_map owner_label)
    (cond-false (same_status z.new Completed && carries z s) (acquirer_in z.content) (book_owner scheme (zs ++ xs) s) (and_left (same_status z.new Completed) (carries z s) (still z (inl refl))))
    ∙ owner_kept scheme zs xs s (λ y i. still y (inr i))

-- a transition of a transaction with that content: its units are the acquirer's, where it is completed
pub owner_handed : (scheme : Scheme) (x : Transition) (xs : List Transition) (s : Serial) → (if same_status x.new Completed then handed_over x.content s (owner scheme xs s) else owner scheme xs s) ≡ owner scheme (x ∷ xs) s
owner_handed scheme x xs s = go (same_status x.new Completed) x.content (book_owner scheme xs s)
  where
    handed : (b : Bool) (c : Code) (o : Option Code) → cond b (Some (owner_label c)) (option_map owner_label o) ≡ option_map owner_label (cond b (Some c) o)
    handed true c o = refl
    handed false c o = refl

    go : (b : Bool) (k : Option Content) (o : Option Code) → cond b (handed_over k s (option_map owner_label o)) (option_map owner_label o) ≡ option_map owner_label (cond (b && has_serial k s) (acquirer_in k) o)
    go false k o = refl
    go true None o = refl
    go true (Some k) o = handed (has_serial (Some k) s) k.acquirer o

-- ---- which transfer a unit is in

-- a label that is left passes the test
labels_left : {M : Type 0} (passes : M → Bool) (o : Option M) (m : M) → labels_that passes o ≡ Some m → (o ≡ Some m) × (passes m ≡ true)
labels_left passes None m h = absurd (cc (h))
labels_left {M} passes (Some n) m h = go (passes n) refl h
  where
    go : (b : Bool) → passes n ≡ b → cond b (Some n) None ≡ Some m → (Some n ≡ Some m) × (passes m ≡ true)
    go true e g = (g, subst (λ (z : M). passes z ≡ true) (one_some n m g) e)
    go false e g = absurd (cc (g))

checked_or_accepted : (s : Status) → IsBusy s → same_status s Accepted ≡ false → same_status s Checked ≡ true
checked_or_accepted Checked b h = refl
checked_or_accepted Accepted b h = absurd (cc (h))
checked_or_accepted Proposed b h = absurd b
checked_or_accepted Rejected b h = absurd b
checked_or_accepted Terminated b h = absurd b
checked_or_accepted Cancelled b h = absurd b
checked_or_accepted Completed b h = absurd b

module _ (scheme : Scheme) (es : List Entry) (s : Serial) (input : Input) where
  abbrev xs : List Transition
  xs = transitions_of es

  -- transfers that are under way no longer
  pub under_way_ended : (front : List Transition) (among : TransactionId → Bool) → Made scheme Itl (entry input front ∷ es) → AreOf front among → ((z : Transition) → In z front → IsBusy z.new → ⊥)
      → labels_that (λ u. not (among u.id)) (under_way xs s) ≡ under_way (front ++ xs) s
  under_way_ended front among made of ended =
      let left : UnderWay → Bool = λ u. not (among u.id) in
      sym (under_way_is scheme (entry input front ∷ es) made s (labels_that left (under_way xs s))
      (λ t b. elim (cases_Bool (among t)) [
        | inl y ↦
            let z = newest_among front xs among of t y in
            absurd (ended z.0 z.1 (subst (λ (w : Transition). IsBusy w.new) (one_some b.last z.0 (sym b.is ∙ z.3)) b.new))
        | inr n ↦
            let old : Busy s xs t = record { last = b.last; is = sym (newest_other front xs among of t n) ∙ b.is; new = b.new; has = b.has } in
            ap (labels_that left) (busy_under_way scheme es made.1 s t old)
            ∙ cond-true (not (among t)) (Some (record { id = t })) None (ap not n)
      ])
      (λ u h.
      let m = labels_left left (under_way xs s) u h in
      let b = under_way_busy scheme es made.1 s u m.0 in
      record { last = b.last; is = newest_other front xs among of u.id (not-true (among u.id) m.1) ∙ b.is; new = b.new; has = b.has }))

  module _ (x : Transition) (made : Made scheme Itl (entry input (x ∷ []) ∷ es)) where
    -- a transfer that was under way still is
    pub under_way_same : (q : Transition) → newest xs x.id ≡ Some q → IsBusy q.new → IsBusy x.new → x.content ≡ q.content → under_way xs s ≡ under_way (x ∷ xs) s
    under_way_same q was stood stands content =
        sym (under_way_is scheme (entry input (x ∷ []) ∷ es) made s (under_way xs s)
        (λ t b. elim (newest_cons x xs t b.last b.is) [
          | inl e ↦
              busy_under_way scheme es made.1 s t (record {
                last = q;
                is = ap (newest xs) (sym e.1) ∙ was;
                new = stood;
                has = subst (λ k. has_serial k s ≡ true) (ap (λ (z : Transition). z.content) (sym e.0) ∙ content) b.has;
              })
          | inr e ↦ busy_under_way scheme es made.1 s t (record { last = b.last; is = e.0; new = b.new; has = b.has })
        ])
        (λ u h.
        let b = under_way_busy scheme es made.1 s u h in
        elim (cases_Bool (same_id x.id u.id)) [
          | inl y ↦
              let last : b.last ≡ q = one_some b.last q (sym b.is ∙ ap (newest xs) (sym (id_of_same x.id u.id y)) ∙ was) in
              record {
                last = x;
                is = cond-true (same_id x.id u.id) (Some x) (newest xs u.id) y;
                new = stands;
                has = subst (λ k. has_serial k s ≡ true) (ap (λ (z : Transition). z.content) last ∙ sym content) b.has;
              }
          | inr n ↦ record { last = b.last; is = cond-false (same_id x.id u.id) (Some x) (newest xs u.id) n ∙ b.is; new = b.new; has = b.has }
        ]))

    -- a transfer that wasn't known is under way where it is Checked
    pub under_way_begun : newest xs x.id ≡ None → same_status x.new Accepted ≡ false
        → (if same_status x.new Checked && has_serial x.content s then Some (record { id = x.id }) else under_way xs s) ≡ under_way (x ∷ xs) s
    under_way_begun none other =
        let es' = entry input (x ∷ []) ∷ es in
        let begins = same_status x.new Checked && has_serial x.content s in
        let label : Option UnderWay = Some (record { id = x.id }) in
        elim (cases_Bool begins) [
          | inl y ↦
              let parts = and_parts (same_status x.new Checked) (has_serial x.content s) y in
              let here : Busy s (x ∷ xs) x.id =
              record {
                last = x;
                is = cond-true (same_id x.id x.id) (Some x) (newest xs x.id) (same_id-refl x.id);
                new = subst IsBusy (sym (status_of_same x.new Checked parts.0)) tt;
                has = parts.1;
              } in
              cond-true begins label (under_way xs s) y ∙ sym (busy_under_way scheme es' made s x.id here)
          | inr n ↦
              cond-false begins label (under_way xs s) n
              ∙ sym (under_way_is scheme es' made s (under_way xs s)
              (λ t b. elim (newest_cons x xs t b.last b.is) [
                | inl e ↦
                    let busy = subst (λ (z : Transition). IsBusy z.new) (sym e.0) b.new in
                    let has = subst (λ (z : Transition). carries z s ≡ true) (sym e.0) b.has in
                    clash begins (and_from (same_status x.new Checked) (has_serial x.content s) (checked_or_accepted x.new busy other) has) n
                | inr e ↦ busy_under_way scheme es made.1 s t (record { last = b.last; is = e.0; new = b.new; has = b.has })
              ])
              (λ u h.
              let b = under_way_busy scheme es made.1 s u h in
              elim (cases_Bool (same_id x.id u.id)) [
                | inl y ↦ let known = sym none ∙ ap (newest xs) (id_of_same x.id u.id y) ∙ b.is in absurd (cc (known))
                | inr m ↦ record { last = b.last; is = cond-false (same_id x.id u.id) (Some x) (newest xs u.id) m ∙ b.is; new = b.new; has = b.has }
              ]))
        ]
