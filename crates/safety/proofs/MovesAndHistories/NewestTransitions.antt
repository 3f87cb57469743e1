-- Histories that verdicts made (`Made`), what they received (`Got`, `Heard`, `Offered`), and the newest transition
-- of a transaction. What was received stays received when the history gets longer. The newest transition of a
-- transaction is either among the transitions in front, or it is the newest one of the older part. Inductions over
-- histories use these two facts.
use Rattle.std.proofs.Common.{◌≡◌, List, [], ◌∷◌, ◌++◌, true, Option, Some, None, ◌⊎◌, inl, inr, refl, sym, ap, subst, ◌∙◌}
use Rattle.std.specs.Prelude.{option_map}
use Rattle.std.proofs.lemmas.Bool.{cond-true, cond-false, cases_Bool}
use Rattle.units.specs.declared.code.Code.{Code}
use Rattle.units.specs.declared.code.Node.{Node}
use Rattle.units.specs.declared.code.Node.TheVariants.{Itl, Registry}
use Rattle.status.proofs.Ids.{id_of_same, same_id-refl}
use Rattle.status.specs.Content.{Content}
use Rattle.status.specs.Id.{same_id}
use Rattle.status.specs.declared.id.TransactionId.{TransactionId}
use Rattle.status.specs.declared.moment.Moment.{Moment}
use Rattle.status.specs.declared.status.Status.{Status}
use Rattle.wire.specs.NotifiedStatuses.{notified_status}
use Rattle.wire.specs.declared.input.Input.TheVariants.{Received}
use Rattle.wire.specs.declared.message.Message.{Message}
use Rattle.protocol.proofs.MessageForms as message
use Rattle.protocol.proofs.MessageForms.{ProposalMessage, NotificationMessage, RequestMessage}
use Rattle.wire.specs.declared.message.ProposalStatus.{ProposalStatus}
use Rattle.scheme.specs.declared.registries.Scheme.{Scheme}
use Rattle.protocol.specs.History.{Transition, Entry, newest, stands}
use Rattle.protocol.specs.Verdict.{verdict, transitions_made}
use Rattle.units.proofs.Lists.Membership.{In, In_find}
use Rattle.safety.proofs.MovesAndHistories.TableMoves.{RegistryMove, LogMove, registry_moves, log_moves}

-- each entry's transitions are those of its input after the older ones
abbrev pub Made : Scheme → Node → List Entry → Type 0
Made scheme n [] = Unit {0}
Made scheme n (e ∷ es) = (e.transitions ≡ transitions_made (verdict scheme n es e.input)) × Made scheme n es

-- the message was received
abbrev pub Got : List Entry → Message → Type 0
Got [] m = ⊥
Got (e ∷ es) m = ((moment : Moment) × (e.input ≡ Received m moment)) ⊎ Got es m

-- a notification that was received: from whom, of which transaction, of which status
pub record Heard (es : List Entry) (from : Node) (t : TransactionId) (s : Status) : Type 0 where
  pub notification : NotificationMessage
  pub got : Got es (message.notification notification)
  pub sender : notification.from ≡ from
  pub about : notification.id ≡ t
  pub told : notified_status notification.notified ≡ s

-- a proposal that was received
pub record Offered (es : List Entry) (from : Node) (t : TransactionId) (s : ProposalStatus) (k : Content) : Type 0 where
  pub proposal : ProposalMessage
  pub got : Got es (message.proposal proposal)
  pub sender : proposal.from ≡ from
  pub about : proposal.id ≡ t
  pub status : proposal.status ≡ s
  pub content : proposal.content ≡ k

pub heard_later : (e : Entry) (es : List Entry) (from : Node) (t : TransactionId) (s : Status) → Heard es from t s → Heard (e ∷ es) from t s
heard_later e es from t s h = record { notification = h.notification; got = inr h.got; sender = h.sender; about = h.about; told = h.told }

pub offered_later : (e : Entry) (es : List Entry) (from : Node) (t : TransactionId) (s : ProposalStatus) (k : Content) → Offered es from t s k → Offered (e ∷ es) from t s k
offered_later e es from t s k h = record { proposal = h.proposal; got = inr h.got; sender = h.sender; about = h.about; status = h.status; content = h.content }

pub made_registry : (scheme : Scheme) (c : Code) (e : Entry) (es : List Entry) (x : Transition) → Made scheme (Registry c) (e ∷ es) → In x e.transitions → RegistryMove scheme c es e.input x
unfolding verdict
made_registry scheme c e es x transitions_made h = registry_moves scheme c es e.input x (subst (λ xs. In x xs) transitions_made.0 h)

pub made_log : (scheme : Scheme) (e : Entry) (es : List Entry) (x : Transition) → Made scheme Itl (e ∷ es) → In x e.transitions → LogMove scheme es e.input x
unfolding verdict
made_log scheme e es x transitions_made h = log_moves scheme es e.input x (subst (λ xs. In x xs) transitions_made.0 h)

-- ---- the newest transition of a transaction

pub newest_id : (xs : List Transition) (t : TransactionId) (x : Transition) → newest xs t ≡ Some x → In x xs × (x.id ≡ t)
newest_id xs t x h = let g = In_find (λ (y : Transition). same_id y.id t) xs x h in (g.0, id_of_same x.id t g.1)

-- it is among those in front, or is the newest of the older ones
pub newest_append : (xs rest : List Transition) (t : TransactionId) → (newest (xs ++ rest) t ≡ newest rest t) ⊎ ((x : Transition) × In x xs × (x.id ≡ t) × (newest (xs ++ rest) t ≡ Some x))
newest_append [] rest t = inl refl
newest_append (q ∷ qs) rest t =
    elim (cases_Bool (same_id q.id t)) [
      | inl y ↦ inr (q, inl refl, id_of_same q.id t y, cond-true (same_id q.id t) (Some q) (newest (qs ++ rest) t) y)
      | inr n ↦
          elim (newest_append qs rest t) [
            | inl u ↦ inl (cond-false (same_id q.id t) (Some q) (newest (qs ++ rest) t) n ∙ u)
            | inr u ↦ inr (u.0, inr u.1, u.2, cond-false (same_id q.id t) (Some q) (newest (qs ++ rest) t) n ∙ u.3)
          ]
    ]

pub newest_in : (xs rest : List Transition) (q : Transition) (t : TransactionId) → In q xs → q.id ≡ t → (x : Transition) × In x xs × (x.id ≡ t) × (newest (xs ++ rest) t ≡ Some x)
newest_in [] rest q t h e = absurd h
newest_in (p ∷ ps) rest q t (inl i) e =
    let j : p.id ≡ t = ap (λ (z : Transition). z.id) i ∙ e in
    (p, inl refl, j, cond-true (same_id p.id t) (Some p) (newest (ps ++ rest) t) (subst (λ (z : TransactionId). same_id p.id z ≡ true) j (same_id-refl p.id)))
newest_in (p ∷ ps) rest q t (inr i) e =
    elim (cases_Bool (same_id p.id t)) [
      | inl y ↦ (p, inl refl, id_of_same p.id t y, cond-true (same_id p.id t) (Some p) (newest (ps ++ rest) t) y)
      | inr n ↦ let u = newest_in ps rest q t i e in (u.0, inr u.1, u.2, cond-false (same_id p.id t) (Some p) (newest (ps ++ rest) t) n ∙ u.3)
    ]

pub newest_stands : (xs : List Transition) (t : TransactionId) (s : Status) (o : Option Transition) → newest xs t ≡ o → stands xs t ≡ Some s → (x : Transition) × (newest xs t ≡ Some x) × (x.new ≡ s)
newest_stands xs t s None e h = absurd (let x : ◌≡◌ {A = Option Status} None (Some s) = sym (ap (option_map (λ (y : Transition). y.new)) e) ∙ h in cc)
newest_stands xs t s (Some y) e h = (y, e, let x : ◌≡◌ {A = Option Status} (Some y.new) (Some s) = sym (ap (option_map (λ (z : Transition). z.new)) e) ∙ h in cc)
