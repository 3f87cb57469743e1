-- The statuses of a transfer at its initiator: it never stands Checked or Accepted there.
-- The initiator's table has no row to these two statuses, and an induction over the moves of a registry carries this
-- to the whole history.
use Rattle.std.proofs.Common.{◌≡◌, List, true, inl, inr, sym, subst}
use Rattle.units.specs.Code.{same_code}
use Rattle.units.specs.declared.code.Code.{Code}
use Rattle.units.specs.declared.code.Node.TheVariants.{Registry}
use Rattle.status.specs.Rows.{initiator_row}
use Rattle.status.specs.declared.rows.RecordedStatus.TheVariants.{Stands}
use Rattle.status.specs.declared.rows.Row.TheVariants.{Move}
use Rattle.status.specs.declared.rows.RowInput.TheVariants.{Notified}
use Rattle.status.specs.declared.status.Status.{Status}
use Rattle.status.specs.declared.status.Status.TheVariants.{Proposed, Checked, Accepted, Rejected, Terminated, Cancelled, Completed}
use Rattle.wire.specs.NotifiedStatuses.{notified_status}
use Rattle.wire.specs.declared.input.Input.{Input}
use Rattle.scheme.specs.declared.registries.Scheme.{Scheme}
use Rattle.protocol.specs.History.{Transition, Entry, transitions_of}
use Rattle.safety.proofs.OneRegistry.TransactionEnds.{each_move, own_about}
use Rattle.safety.proofs.MovesAndHistories.NewestTransitions.{Made}
use Rattle.units.proofs.Lists.Membership.{In}
use Rattle.units.proofs.Lists.OneValue.{clash}
use Rattle.safety.proofs.MovesAndHistories.TableMoves.{RegistryMove, proposes, asks, arrives, bares, concludes, finishes}
use Rattle.safety.proofs.MovesAndHistories.TableRows.{initiator_from}

abbrev pub IsOwnStatus : Status → Type 0
IsOwnStatus Checked = ⊥
IsOwnStatus Accepted = ⊥
IsOwnStatus _ = Unit {0}

-- by the initiator's table no transfer comes to stand Checked or Accepted
own_status : (a told new : Status) → initiator_row (Stands a) (Notified told) ≡ Move new → IsOwnStatus new
own_status a told Proposed h = tt
own_status a told Rejected h = tt
own_status a told Terminated h = tt
own_status a told Cancelled h = tt
own_status a told Completed h = tt
own_status a told Checked h =
    let m = initiator_from a told Checked h in
    let r : initiator_row (Stands Proposed) (Notified Checked) ≡ Move Checked =
    subst (λ b. initiator_row (Stands b) (Notified Checked) ≡ Move Checked) m.0 (subst (λ w. initiator_row (Stands a) (Notified w) ≡ Move Checked) (sym m.1) h) in
    absurd (cc (r))
own_status a told Accepted h =
    let m = initiator_from a told Accepted h in
    let r : initiator_row (Stands Proposed) (Notified Accepted) ≡ Move Accepted =
    subst (λ b. initiator_row (Stands b) (Notified Accepted) ≡ Move Accepted) m.0 (subst (λ w. initiator_row (Stands a) (Notified w) ≡ Move Accepted) (sym m.1) h) in
    absurd (cc (r))

module _ (scheme : Scheme) (c : Code) where
  abbrev OwnStatuses : List Transition → Type 0
  OwnStatuses xs = (x : Transition) → In x xs → same_code x.id.code c ≡ true → IsOwnStatus x.new

  own_status_move : (es : List Entry) (input : Input) (x : Transition) → RegistryMove scheme c es input x → same_code x.id.code c ≡ true → IsOwnStatus x.new
  own_status_move es input x (proposes o t none is fresh) own = tt
  own_status_move es input x (asks t q old mine stood) own = tt
  own_status_move es input x (arrives p moment found f s is none foreign mine) own = clash (same_code p.id.code c) own foreign
  own_status_move es input x (bares n moment f cancelled none foreign) own = tt
  own_status_move es input x (concludes n moment q new f was mine move) own = own_status q.new (notified_status n.notified) new move
  own_status_move es input x (finishes n moment q new f was foreign move none) own = clash (same_code n.id.code c) (own_about scheme c es n.id q was own) foreign

  pub own_statuses : (es : List Entry) → Made scheme (Registry c) es → OwnStatuses (transitions_of es)
  own_statuses =
      each_move scheme c OwnStatuses (λ x i own. absurd i)
      (λ es input x made move old y i own. elim i [
        | inl e ↦ subst (λ (z : Transition). IsOwnStatus z.new) e (own_status_move es input x move (subst (λ (z : Transition). same_code z.id.code c ≡ true) (sym e) own))
        | inr j ↦ old y j own
      ])
