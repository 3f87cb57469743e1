-- The rows of the status tables, read backwards: if a row moves, which status it started from, which notification it
-- took and which status it leads to. Each lemma goes through all statuses of one table, and `cc` refutes the cases that
-- the table does not have; for a column without a notification, the rows that move are computed (`one_moves`). The
-- lemmas about `Known` also cover transactions that are unknown, or known without a content. The last section shows
-- which inputs always have a row: for these the table is no cause of a refusal.
use Rattle.std.proofs.Common.{◌≡◌, ◌⊎◌, ℕ, List, [], ◌∷◌, Bool, true, false, Option, Some, None, inl, inr, refl, sym, ap, subst, ◌∙◌}
use Rattle.std.specs.Prelude.{◌&&◌, filter}
use Rattle.std.specs.Option.{option_map_or}
use Rattle.units.specs.declared.code.Code.{Code}
use Rattle.units.specs.declared.code.Node.TheVariants.{Itl}
use Rattle.status.specs.Content.{Content}
use Rattle.status.specs.Status.{same_status}
use Rattle.status.specs.declared.id.TransactionId.{TransactionId}
use Rattle.status.specs.Rows.{initiator_row, log_row, acquirer_row}
use Rattle.status.specs.declared.rows.RecordedStatus.{RecordedStatus}
use Rattle.status.specs.declared.rows.RecordedStatus.TheVariants.{Unknown, Bare, Stands}
use Rattle.status.specs.declared.rows.Row.{Row}
use Rattle.status.specs.declared.rows.Row.TheVariants.{Move, Repeat, Late, Refused}
use Rattle.status.specs.declared.rows.RowInput.{RowInput}
use Rattle.status.specs.declared.rows.RowInput.TheVariants.{Propose, EqualProposal, Notified, CleanUp, RequestOrder, RepeatedRequestOrder, Request}
use Rattle.status.specs.declared.status.Status.{Status}
use Rattle.status.specs.declared.status.Status.TheVariants.{Proposed, Checked, Accepted, Rejected, Terminated, Cancelled, Completed}
use Rattle.wire.specs.NotifiedStatuses.{notified_status, notified_codes}
use Rattle.wire.specs.declared.notified.NotifiedStatus.{NotifiedStatus}
use Rattle.wire.specs.declared.notified.NotifiedStatus.TheVariants as notified
use Rattle.protocol.specs.AtRegistry.{unless_held}
use Rattle.protocol.specs.Deciding.{known, content_in, column_of_proposal}
use Rattle.protocol.specs.Effects.{notifies, initiator_sends, log_sends}
use Rattle.protocol.specs.History.{Transition}
use Rattle.units.proofs.Lists.Membership.{In, filter_In}
use Rattle.safety.proofs.MovesAndHistories.TransitionForms.{concluded_messages, told_to}

pub log_from : (a told new : Status) → log_row (Stands a) (Notified told) ≡ Move new
    → ((a ≡ Checked) × (new ≡ told) × ((told ≡ Accepted) ⊎ (told ≡ Rejected))) ⊎ ((a ≡ Accepted) × (new ≡ Completed) × (told ≡ Completed))
log_from Checked Accepted new h = inl (refl, cc, inl refl)
log_from Checked Rejected new h = inl (refl, cc, inr refl)
log_from Accepted Completed new h = inr (refl, cc, refl)
log_from Accepted Accepted new h = absurd (cc)
log_from Completed Accepted new h = absurd (cc)
log_from Rejected Rejected new h = absurd (cc)
log_from Completed Completed new h = absurd (cc)
log_from Cancelled Accepted new h = absurd (cc)
log_from Cancelled Rejected new h = absurd (cc)
log_from Proposed Proposed new h = absurd (cc)
log_from Terminated Terminated new h = absurd (cc)
log_from _ _ new h = absurd (cc)

-- the notification that the initiator received when it moved to this status
abbrev pub word_to : Status → Status
word_to Completed = Accepted
word_to s = s

pub initiator_from : (a told new : Status) → initiator_row (Stands a) (Notified told) ≡ Move new → (a ≡ Proposed) × (word_to new ≡ told)
initiator_from Proposed Accepted new h = let e : new ≡ Completed = cc in (refl, ap word_to e)
initiator_from Proposed Rejected new h = let e : new ≡ Rejected = cc in (refl, ap word_to e)
initiator_from Proposed Terminated new h = let e : new ≡ Terminated = cc in (refl, ap word_to e)
initiator_from Proposed Cancelled new h = let e : new ≡ Cancelled = cc in (refl, ap word_to e)
initiator_from Completed Accepted new h = absurd (cc)
initiator_from Rejected Rejected new h = absurd (cc)
initiator_from Terminated Terminated new h = absurd (cc)
initiator_from Cancelled Cancelled new h = absurd (cc)
initiator_from Checked Checked new h = absurd (cc)
initiator_from Accepted Accepted new h = absurd (cc)
initiator_from _ _ new h = absurd (cc)

pub acquirer_from : (a told new : Status) → acquirer_row (Stands a) (Notified told) ≡ Move new → (a ≡ Accepted) × (new ≡ told) × ((told ≡ Completed) ⊎ (told ≡ Cancelled))
acquirer_from Accepted Completed new h = (refl, cc, inl refl)
acquirer_from Accepted Cancelled new h = (refl, cc, inr refl)
acquirer_from Rejected Cancelled new h = absurd (cc)
acquirer_from Completed Completed new h = absurd (cc)
acquirer_from Cancelled Cancelled new h = absurd (cc)
acquirer_from Proposed Proposed new h = absurd (cc)
acquirer_from Checked Checked new h = absurd (cc)
acquirer_from Terminated Terminated new h = absurd (cc)
acquirer_from _ _ new h = absurd (cc)

-- ---- what is recorded of a transaction

pub nothing_known : (o : Option Transition) → known o ≡ Unknown → o ≡ None
nothing_known None h = refl
nothing_known (Some x) h = absurd (go x.content h)
  where
    go : (k : Option Content) → option_map_or (λ c. Stands x.new) k Bare ≡ Unknown → ⊥
    go None h = cc (h)
    go (Some k) h = cc (h)

-- it has a content, and this status
pub record Recorded (o : Option Transition) (a : Status) : Type 0 where
  pub last : Transition
  pub is : o ≡ Some last
  pub new : last.new ≡ a
  pub content : Content
  pub known : last.content ≡ Some content

pub status_known : (o : Option Transition) (a : Status) → known o ≡ Stands a → Recorded o a
status_known None a h = absurd (unknown_stands a h)
  where
    unknown_stands : (b : Status) → Unknown ≡ Stands b → ⊥
    unknown_stands b e = cc (e)
status_known (Some x) a h = go x.content refl h
  where
    go : (k : Option Content) → x.content ≡ k → option_map_or (λ c. Stands x.new) k Bare ≡ Stands a → Recorded (Some x) a
    go None e h = absurd (cc (h))
    go (Some k) e h = let s : x.new ≡ a = cc (h) in record { last = x; is = refl; new = s; content = k; known = e }

pub known_status : (x : Transition) (k : Content) → x.content ≡ Some k → known (Some x) ≡ Stands x.new
known_status x k e = ap (λ (o : Option Content). option_map_or (λ c. Stands x.new) o Bare) e

-- ---- rows that move for every recorded status

-- each recorded status of a transaction
every : List RecordedStatus
every = Unknown ∷ Bare ∷ Stands Proposed ∷ Stands Checked ∷ Stands Accepted ∷ Stands Rejected ∷ Stands Terminated ∷ Stands Cancelled ∷ Stands Completed ∷ []

in_every : (k : RecordedStatus) → In k every
unfolding every
in_every Unknown = inl refl
in_every Bare = inr (inl refl)
in_every (Stands Proposed) = inr (inr (inl refl))
in_every (Stands Checked) = inr (inr (inr (inl refl)))
in_every (Stands Accepted) = inr (inr (inr (inr (inl refl))))
in_every (Stands Rejected) = inr (inr (inr (inr (inr (inl refl)))))
in_every (Stands Terminated) = inr (inr (inr (inr (inr (inr (inl refl))))))
in_every (Stands Cancelled) = inr (inr (inr (inr (inr (inr (inr (inl refl)))))))
in_every (Stands Completed) = inr (inr (inr (inr (inr (inr (inr (inr (inl refl))))))))

abbrev moves : Row → Bool
moves (Move new) = true
moves _ = false

-- the rows of a column that move, by what is known
abbrev Moving : (RecordedStatus → Row) → List RecordedStatus
Moving row = filter (λ k. moves (row k)) every

moving : (row : RecordedStatus → Row) (k : RecordedStatus) (new : Status) → row k ≡ Move new → In k (Moving row)
moving row k new h = filter_In (λ o. moves (row o)) k every (in_every k) (ap moves h)

-- a column with one row that moves
one_moves : (row : RecordedStatus → Row) (old : RecordedStatus) (to : Status) → Moving row ≡ old ∷ [] → row old ≡ Move to → (k : RecordedStatus) (new : Status) → row k ≡ Move new → (k ≡ old) × (new ≡ to)
one_moves row old to only there k new h = elim (subst (In k) only (moving row k new h)) [
  | inl e ↦ let m : Move to ≡ Move new = sym there ∙ ap row e ∙ h in (sym e, cc (m))
  | inr none ↦ absurd none
]

pub initiator_proposes : (k : RecordedStatus) (new : Status) → initiator_row k Propose ≡ Move new → (k ≡ Unknown) × (new ≡ Proposed)
unfolding every
initiator_proposes = one_moves (λ k. initiator_row k Propose) Unknown Proposed refl refl

pub initiator_asks : (k : RecordedStatus) (new : Status) → initiator_row k RequestOrder ≡ Move new → (k ≡ Stands Proposed) × (new ≡ Proposed)
unfolding every
initiator_asks = one_moves (λ k. initiator_row k RequestOrder) (Stands Proposed) Proposed refl refl

pub log_cleans : (k : RecordedStatus) (new : Status) → log_row k CleanUp ≡ Move new → (k ≡ Stands Checked) × (new ≡ Cancelled)
unfolding every
log_cleans = one_moves (λ k. log_row k CleanUp) (Stands Checked) Cancelled refl refl

pub initiator_asks_once : (k : RecordedStatus) (new : Status) → initiator_row k RepeatedRequestOrder ≡ Move new → ⊥
unfolding every
initiator_asks_once k new h = moving (λ o. initiator_row o RepeatedRequestOrder) k new h

pub initiator_unasked : (k : RecordedStatus) (new : Status) → initiator_row k Request ≡ Move new → ⊥
unfolding every
initiator_unasked k new h = moving (λ o. initiator_row o Request) k new h

pub acquirer_unasked : (k : RecordedStatus) (new : Status) → acquirer_row k Request ≡ Move new → ⊥
unfolding every
acquirer_unasked k new h = moving (λ o. acquirer_row o Request) k new h

pub initiator_notified : (k : RecordedStatus) (told new : Status) → initiator_row k (Notified told) ≡ Move new → (a : Status) × (k ≡ Stands a)
initiator_notified (Stands a) told new h = (a, refl)
initiator_notified Unknown Proposed new h = absurd (cc (h))
initiator_notified Unknown Checked new h = absurd (cc (h))
initiator_notified Unknown Accepted new h = absurd (cc (h))
initiator_notified Unknown Rejected new h = absurd (cc (h))
initiator_notified Unknown Terminated new h = absurd (cc (h))
initiator_notified Unknown Cancelled new h = absurd (cc (h))
initiator_notified Unknown Completed new h = absurd (cc (h))
initiator_notified Bare Proposed new h = absurd (cc (h))
initiator_notified Bare Checked new h = absurd (cc (h))
initiator_notified Bare Accepted new h = absurd (cc (h))
initiator_notified Bare Rejected new h = absurd (cc (h))
initiator_notified Bare Terminated new h = absurd (cc (h))
initiator_notified Bare Cancelled new h = absurd (cc (h))
initiator_notified Bare Completed new h = absurd (cc (h))

pub log_notified : (k : RecordedStatus) (told new : Status) → log_row k (Notified told) ≡ Move new → (a : Status) × (k ≡ Stands a)
log_notified (Stands a) told new h = (a, refl)
log_notified Unknown Proposed new h = absurd (cc (h))
log_notified Unknown Checked new h = absurd (cc (h))
log_notified Unknown Accepted new h = absurd (cc (h))
log_notified Unknown Rejected new h = absurd (cc (h))
log_notified Unknown Terminated new h = absurd (cc (h))
log_notified Unknown Cancelled new h = absurd (cc (h))
log_notified Unknown Completed new h = absurd (cc (h))
log_notified Bare Proposed new h = absurd (cc (h))
log_notified Bare Checked new h = absurd (cc (h))
log_notified Bare Accepted new h = absurd (cc (h))
log_notified Bare Rejected new h = absurd (cc (h))
log_notified Bare Terminated new h = absurd (cc (h))
log_notified Bare Cancelled new h = absurd (cc (h))
log_notified Bare Completed new h = absurd (cc (h))

pub acquirer_notified : (k : RecordedStatus) (told new : Status) → acquirer_row k (Notified told) ≡ Move new → ((a : Status) × (k ≡ Stands a)) ⊎ ((k ≡ Unknown) × (told ≡ Cancelled) × (new ≡ Cancelled))
acquirer_notified (Stands a) told new h = inl (a, refl)
acquirer_notified Unknown Cancelled new h = inr (refl, refl, cc)
acquirer_notified Unknown Proposed new h = absurd (cc (h))
acquirer_notified Unknown Checked new h = absurd (cc (h))
acquirer_notified Unknown Accepted new h = absurd (cc (h))
acquirer_notified Unknown Rejected new h = absurd (cc (h))
acquirer_notified Unknown Terminated new h = absurd (cc (h))
acquirer_notified Unknown Completed new h = absurd (cc (h))
acquirer_notified Bare Proposed new h = absurd (cc (h))
acquirer_notified Bare Checked new h = absurd (cc (h))
acquirer_notified Bare Accepted new h = absurd (cc (h))
acquirer_notified Bare Rejected new h = absurd (cc (h))
acquirer_notified Bare Terminated new h = absurd (cc (h))
acquirer_notified Bare Cancelled new h = absurd (cc (h))
acquirer_notified Bare Completed new h = absurd (cc (h))

pub log_asked : (k : RecordedStatus) (new : Status) → log_row k Request ≡ Move new → ((k ≡ Unknown) ⊎ (k ≡ Stands Checked)) × (new ≡ Cancelled)
log_asked Unknown new h = (inl refl, cc)
log_asked Bare new h = absurd (cc (h))
log_asked (Stands Checked) new h = (inr refl, cc)
log_asked (Stands Proposed) new h = absurd (cc (h))
log_asked (Stands Accepted) new h = absurd (cc (h))
log_asked (Stands Rejected) new h = absurd (cc (h))
log_asked (Stands Terminated) new h = absurd (cc (h))
log_asked (Stands Cancelled) new h = absurd (cc (h))
log_asked (Stands Completed) new h = absurd (cc (h))

-- ---- a proposal of a transaction that is known

acquirer_equal : (s : Status) → acquirer_row (Stands s) EqualProposal ≡ Repeat
acquirer_equal Proposed = refl
acquirer_equal Checked = refl
acquirer_equal Accepted = refl
acquirer_equal Rejected = refl
acquirer_equal Terminated = refl
acquirer_equal Cancelled = refl
acquirer_equal Completed = refl

log_equal : (s : Status) → log_row (Stands s) EqualProposal ≡ Repeat
log_equal Proposed = refl
log_equal Checked = refl
log_equal Accepted = refl
log_equal Rejected = refl
log_equal Terminated = refl
log_equal Cancelled = refl
log_equal Completed = refl

acquirer_bare : (found : List ℕ) → acquirer_row Bare (column_of_proposal None found) ≡ Late
acquirer_bare [] = refl
acquirer_bare (c ∷ cs) = refl

log_bare : (found : List ℕ) → log_row Bare (column_of_proposal None found) ≡ Late
log_bare [] = refl
log_bare (c ∷ cs) = refl

-- it is a repeat, or late where the record has no content, by the table of the acquirer and by that of the log
module _ (row : RecordedStatus → RowInput → Row) (equal : (s : Status) → row (Stands s) EqualProposal ≡ Repeat) (bare : (found : List ℕ) → row Bare (column_of_proposal None found) ≡ Late) where
  abbrev OfferRow : Transition → List ℕ → Row
  OfferRow x found = row (known (Some x)) (column_of_proposal (content_in (Some x)) found)

  known_offer : (x : Transition) (found : List ℕ) → (OfferRow x found ≡ Repeat) ⊎ (OfferRow x found ≡ Late)
  known_offer x found = go x.content
    where
      go : (k : Option Content) → (row (option_map_or (λ c. Stands x.new) k Bare) (column_of_proposal k found) ≡ Repeat) ⊎ (row (option_map_or (λ c. Stands x.new) k Bare) (column_of_proposal k found) ≡ Late)
      go None = inr (bare found)
      go (Some k) = inl (equal x.new)

  moves_nothing : (x : Transition) (found : List ℕ) (new : Status) → OfferRow x found ≡ Move new → ⊥
  moves_nothing x found new h = elim (known_offer x found) [
    | inl e ↦ let y : Repeat ≡ Move new = sym e ∙ h in cc (y)
    | inr e ↦ let y : Late ≡ Move new = sym e ∙ h in cc (y)
  ]

  has_row : (x : Transition) (found : List ℕ) → OfferRow x found ≡ Refused → ⊥
  has_row x found h = elim (known_offer x found) [
    | inl e ↦ let y : Repeat ≡ Refused = sym e ∙ h in cc (y)
    | inr e ↦ let y : Late ≡ Refused = sym e ∙ h in cc (y)
  ]

pub acquirer_offered : (x : Transition) (found : List ℕ) (new : Status) → acquirer_row (known (Some x)) (column_of_proposal (content_in (Some x)) found) ≡ Move new → ⊥
acquirer_offered = moves_nothing acquirer_row acquirer_equal acquirer_bare

pub log_offered : (x : Transition) (found : List ℕ) (new : Status) → log_row (known (Some x)) (column_of_proposal (content_in (Some x)) found) ≡ Move new → ⊥
log_offered = moves_nothing log_row log_equal log_bare

-- ---- the acquirer does not take in a unit that it holds

pub unless_moves : (held : Bool) (row : Row) (new : Status) → unless_held held row ≡ Move new → (row ≡ Move new) × ((same_status new Completed && held) ≡ false)
unless_moves false row new h = (h, without new)
  where
    without : (s : Status) → (same_status s Completed && false) ≡ false
    without Proposed = refl
    without Checked = refl
    without Accepted = refl
    without Rejected = refl
    without Terminated = refl
    without Cancelled = refl
    without Completed = refl
unless_moves true (Move Proposed) new h = let e : Proposed ≡ new = cc (h) in (h, subst (λ s. (same_status s Completed && true) ≡ false) e refl)
unless_moves true (Move Checked) new h = let e : Checked ≡ new = cc (h) in (h, subst (λ s. (same_status s Completed && true) ≡ false) e refl)
unless_moves true (Move Accepted) new h = let e : Accepted ≡ new = cc (h) in (h, subst (λ s. (same_status s Completed && true) ≡ false) e refl)
unless_moves true (Move Rejected) new h = let e : Rejected ≡ new = cc (h) in (h, subst (λ s. (same_status s Completed && true) ≡ false) e refl)
unless_moves true (Move Terminated) new h = let e : Terminated ≡ new = cc (h) in (h, subst (λ s. (same_status s Completed && true) ≡ false) e refl)
unless_moves true (Move Cancelled) new h = let e : Cancelled ≡ new = cc (h) in (h, subst (λ s. (same_status s Completed && true) ≡ false) e refl)
unless_moves true (Move Completed) new h = absurd (cc (h))
unless_moves true Repeat new h = absurd (cc (h))
unless_moves true Late new h = absurd (cc (h))
unless_moves true Refused new h = absurd (cc (h))

-- ---- what goes out

pub concluded_sends : (c : Code) (t : TransactionId) (k : Option Content) (a told new : Status) → initiator_row (Stands a) (Notified told) ≡ Move new → initiator_sends c t k (Notified told) ≡ concluded_messages c t new
concluded_sends c t k a told new h = let m = initiator_from a told new h in subst (λ s. initiator_sends c t k (Notified s) ≡ concluded_messages c t new) m.1 (go new a told h)
  where
    go : (new a told : Status) → initiator_row (Stands a) (Notified told) ≡ Move new → initiator_sends c t k (Notified (word_to new)) ≡ concluded_messages c t new
    go Completed a told h = refl
    go Rejected a told h = refl
    go Terminated a told h = refl
    go Cancelled a told h = refl
    go Proposed a told h = refl
    go Checked a told h = refl
    go Accepted a told h = absurd (never a told h)
      where
        never : (a told : Status) → initiator_row (Stands a) (Notified told) ≡ Move Accepted → ⊥
        never Proposed Accepted h = cc (h)
        never Proposed Rejected h = cc (h)
        never Proposed Terminated h = cc (h)
        never Proposed Cancelled h = cc (h)
        never Completed Accepted h = cc (h)
        never Rejected Rejected h = cc (h)
        never Terminated Terminated h = cc (h)
        never Cancelled Cancelled h = cc (h)
        never Checked Checked h = cc (h)
        never Accepted Accepted h = cc (h)
        never _ _ h = cc (h)

pub passed_sends : (x : Transition) (k : Content) (said : NotifiedStatus) (new : Status) → log_row (Stands x.new) (Notified (notified_status said)) ≡ Move new
    → log_sends x.id (Some k) (notified_codes said) (Notified (notified_status said)) ≡ notifies Itl (told_to x.id k new) x.id said ∷ []
passed_sends x k said new h = go said (log_from x.new (notified_status said) new h)
  where
    go : (said : NotifiedStatus) → ((x.new ≡ Checked) × (new ≡ notified_status said) × ((notified_status said ≡ Accepted) ⊎ (notified_status said ≡ Rejected))) ⊎ ((x.new ≡ Accepted) × (new ≡ Completed) × (notified_status said ≡ Completed))
        → log_sends x.id (Some k) (notified_codes said) (Notified (notified_status said)) ≡ notifies Itl (told_to x.id k new) x.id said ∷ []
    go notified.Accepted (inl m) = subst (λ s. log_sends x.id (Some k) [] (Notified Accepted) ≡ notifies Itl (told_to x.id k s) x.id notified.Accepted ∷ []) (sym m.1) refl
    go notified.Accepted (inr m) = absurd (let y = m.2 in cc (y))
    go (notified.Rejected codes) (inl m) = subst (λ s. log_sends x.id (Some k) codes (Notified Rejected) ≡ notifies Itl (told_to x.id k s) x.id (notified.Rejected codes) ∷ []) (sym m.1) refl
    go (notified.Rejected codes) (inr m) = absurd (let y = m.2 in cc (y))
    go (notified.Terminated codes) (inl m) = absurd (elim m.2 [ inl y ↦ cc (y) | inr y ↦ cc (y) ])
    go (notified.Terminated codes) (inr m) = absurd (let y = m.2 in cc (y))
    go notified.Cancelled (inl m) = absurd (elim m.2 [ inl y ↦ cc (y) | inr y ↦ cc (y) ])
    go notified.Cancelled (inr m) = absurd (let y = m.2 in cc (y))
    go notified.Completed (inl m) = absurd (elim m.2 [ inl y ↦ cc (y) | inr y ↦ cc (y) ])
    go notified.Completed (inr m) = subst (λ s. log_sends x.id (Some k) [] (Notified Completed) ≡ notifies Itl (told_to x.id k s) x.id notified.Completed ∷ []) (sym m.1) refl

pub unless_same : (held : Bool) (row : Row) → (row ≡ Move Completed → held ≡ false) → unless_held held row ≡ row
unless_same false row h = refl
unless_same true (Move Completed) h = absurd (let e = h refl in cc (e))
unless_same true (Move Proposed) h = refl
unless_same true (Move Checked) h = refl
unless_same true (Move Accepted) h = refl
unless_same true (Move Rejected) h = refl
unless_same true (Move Terminated) h = refl
unless_same true (Move Cancelled) h = refl
unless_same true Repeat h = refl
unless_same true Late h = refl
unless_same true Refused h = refl

-- ---- rows that are there

pub acquirer_offer_row : (o : Option Transition) (found : List ℕ) → acquirer_row (known o) (column_of_proposal (content_in o) found) ≡ Refused → ⊥
acquirer_offer_row None [] h = cc (h)
acquirer_offer_row None (c ∷ cs) h = cc (h)
acquirer_offer_row (Some x) found h = has_row acquirer_row acquirer_equal acquirer_bare x found h

pub log_offer_row : (o : Option Transition) (found : List ℕ) → log_row (known o) (column_of_proposal (content_in o) found) ≡ Refused → ⊥
log_offer_row None [] h = cc (h)
log_offer_row None (c ∷ cs) h = cc (h)
log_offer_row (Some x) found h = has_row log_row log_equal log_bare x found h

-- nothing stands Proposed at the log, so a request has a row
pub log_request_row : (k : RecordedStatus) → (k ≡ Stands Proposed → ⊥) → log_row k Request ≡ Refused → ⊥
log_request_row Unknown other h = cc (h)
log_request_row Bare other h = cc (h)
log_request_row (Stands Proposed) other h = other refl
log_request_row (Stands Checked) other h = cc (h)
log_request_row (Stands Accepted) other h = cc (h)
log_request_row (Stands Rejected) other h = cc (h)
log_request_row (Stands Terminated) other h = cc (h)
log_request_row (Stands Cancelled) other h = cc (h)
log_request_row (Stands Completed) other h = cc (h)
