-- The facts that a registry's two roles give about a transaction, and about the accounts that are awaited, are those of
-- its history.
use Rattle.std.specs.FinMap as map
use Rattle.std.proofs.Common.{Bool, List, None, Option, Some, ap, cond, false, inl, inr, not, refl, sym, true, ℕ, ◌∙◌, ◌≡◌}
use Rattle.std.specs.Prelude.{is_some, option_map}
use Rattle.std.specs.Option.{option_map_or}
use Rattle.std.proofs.lemmas.Bool.{cases_Bool, cond-false, cond-true}
use Rattle.units.specs.Code.{same_code}
use Rattle.units.specs.declared.code.Code.{Code}
use Rattle.units.specs.declared.code.Node.TheVariants.{Registry}
use Rattle.status.specs.Status.{same_status}
use Rattle.status.specs.declared.id.TransactionId.{TransactionId}
use Rattle.status.specs.declared.rows.RecordedStatus.TheVariants.{Stands, Unknown}
use Rattle.status.specs.declared.rows.RowInput.TheVariants as column
use Rattle.status.specs.declared.status.Status.TheVariants.{Proposed}
use Rattle.scheme.specs.declared.registries.Scheme.{Scheme}
use Rattle.protocol.specs.Deciding as decide
use Rattle.protocol.specs.AtRegistry as registry
use Rattle.protocol.specs.AtRegistry.{is_awaited}
use Rattle.protocol.specs.History.{Entry, Transition, is_known, is_requested, newest, stands, stands_at, transitions_of}
use Rattle.protocol.specs.Verdict.{history}
use Rattle.initiator.specs.Transfers as initiator
use Rattle.initiator.specs.declared.transfer.Cancellation.TheVariants.{Asked, NotAsked}
use Rattle.initiator.specs.declared.transfer.OutgoingTransfer.{OutgoingTransfer}
use Rattle.acquirer.specs.Transfers as acquirer
use Rattle.acquirer.specs.declared.transfer.IncomingTransfer.{IncomingTransfer}
use Rattle.safety.proofs.MovesAndHistories.NewestTransitions.{Made}
use Rattle.registry_core.specs.declared.tables.Tables.{Tables}
use Rattle.registry_core.specs.Kept.{IsKept}
use Rattle.registry_core.specs.Readings.{foreign_row, own_row}
use Rattle.registry_core.proofs.AwaitedTransfers.{awaited_row, row_awaited}
use Rattle.safety.proofs.OneRegistry.RecordedEntries.{Entered, entered_made, replays_entered}
use Rattle.registry_core.proofs.RequestedTransfers.{own_known, unknown_unrequested}
use Rattle.safety.proofs.OneRegistry.SoundHistories.{sound_history}

-- the history of the tables' journal
abbrev pub past : Scheme → Code → Tables → List Entry
past scheme c tables = history scheme (Registry c) tables.records.inputs

-- ---- what each role is asked, of any transition

own_known_of : (es : List Entry) (t : TransactionId) (o : Option Transition) → initiator.known_transfer (option_map (own_row es t) o) ≡ option_map_or (λ (x : Transition). Stands x.new) o Unknown
own_known_of es t None = refl
own_known_of es t (Some x) = refl

foreign_known_of : (t : TransactionId) (o : Option Transition) → acquirer.known_transfer (option_map (foreign_row t) o) ≡ decide.known o
foreign_known_of t None = refl
foreign_known_of t (Some x) = refl

foreign_content_of : (t : TransactionId) (o : Option Transition) → acquirer.kept_content (option_map (foreign_row t) o) ≡ decide.content_in o
foreign_content_of t None = refl
foreign_content_of t (Some x) = refl

asked_so : (b : Bool) → initiator.is_asked (cond b Asked NotAsked) ≡ b
asked_so true = refl
asked_so false = refl

own_stands_of : (es : List Entry) (xs : List Transition) (t : TransactionId) (o : Option Transition) → newest xs t ≡ o → initiator.is_still_proposed (option_map (own_row es t) o) ≡ stands_at xs t Proposed
own_stands_of es xs t None e = ap (λ (o : Option Transition). option_map_or (λ s. same_status s Proposed) (option_map (λ (x : Transition). x.new) o) false) (sym e)
own_stands_of es xs t (Some x) e = ap (λ (o : Option Transition). option_map_or (λ s. same_status s Proposed) (option_map (λ (x : Transition). x.new) o) false) (sym e)

own_status_of : (es : List Entry) (t : TransactionId) (o : Option Transition) → option_map (λ (x : Transition). x.new) o ≡ option_map (λ (y : OutgoingTransfer). y.status) (option_map (own_row es t) o)
own_status_of es t None = refl
own_status_of es t (Some x) = refl

foreign_status_of : (t : TransactionId) (o : Option Transition) → option_map (λ (x : Transition). x.new) o ≡ option_map (λ (y : IncomingTransfer). y.status) (option_map (foreign_row t) o)
foreign_status_of t None = refl
foreign_status_of t (Some x) = refl

row_there : {X Y : Type 0} (f : X → Y) (o : Option X) → is_some o ≡ is_some (option_map f o)
row_there f None = refl
row_there f (Some x) = refl

-- ---- of the tables

module _ (scheme : Scheme) (c : Code) (tables : Tables) (kept : IsKept scheme c tables) where
  recorded : Entered scheme c (past scheme c tables)
  recorded = replays_entered scheme c tables.records.inputs kept.records.replays

  made_so : Made scheme (Registry c) (past scheme c tables)
  made_so = entered_made scheme c (past scheme c tables) recorded

  -- a transaction is in the table of its role, and not in the other
  pub own_row_so : (t : TransactionId) → same_code t.code c ≡ true → map.get tables.initiator.transfers t ≡ option_map (own_row (past scheme c tables) t) (newest (transitions_of (past scheme c tables)) t)
  own_row_so t own = kept.kept.own t ∙ cond-true (same_code t.code c) (option_map (own_row (past scheme c tables) t) (newest (transitions_of (past scheme c tables)) t)) None own

  pub foreign_row_so : (t : TransactionId) → same_code t.code c ≡ false → map.get tables.acquirer.transfers t ≡ option_map (foreign_row t) (newest (transitions_of (past scheme c tables)) t)
  foreign_row_so t other = kept.kept.foreign t ∙ cond-true (not (same_code t.code c)) (option_map (foreign_row t) (newest (transitions_of (past scheme c tables)) t)) None (ap not other)

  pub own_not_foreign : (t : TransactionId) → same_code t.code c ≡ true → map.get tables.acquirer.transfers t ≡ None
  own_not_foreign t own = kept.kept.foreign t ∙ cond-false (not (same_code t.code c)) (option_map (foreign_row t) (newest (transitions_of (past scheme c tables)) t)) None (ap not own)

  pub foreign_not_own : (t : TransactionId) → same_code t.code c ≡ false → map.get tables.initiator.transfers t ≡ None
  foreign_not_own t other = kept.kept.own t ∙ cond-false (same_code t.code c) (option_map (own_row (past scheme c tables) t) (newest (transitions_of (past scheme c tables)) t)) None other

  -- what the status tables ask
  pub own_known_so : (t : TransactionId) → same_code t.code c ≡ true → initiator.known_transfer (map.get tables.initiator.transfers t) ≡ decide.known (newest (transitions_of (past scheme c tables)) t)
  own_known_so t own =
      ap initiator.known_transfer (own_row_so t own) ∙ own_known_of (past scheme c tables) t (newest (transitions_of (past scheme c tables)) t) ∙ sym (own_known scheme c (past scheme c tables) made_so t own)

  pub foreign_known_so : (t : TransactionId) → same_code t.code c ≡ false → acquirer.known_transfer (map.get tables.acquirer.transfers t) ≡ decide.known (newest (transitions_of (past scheme c tables)) t)
  foreign_known_so t other = ap acquirer.known_transfer (foreign_row_so t other) ∙ foreign_known_of t (newest (transitions_of (past scheme c tables)) t)

  pub foreign_content_so : (t : TransactionId) → same_code t.code c ≡ false → acquirer.kept_content (map.get tables.acquirer.transfers t) ≡ decide.content_in (newest (transitions_of (past scheme c tables)) t)
  foreign_content_so t other = ap acquirer.kept_content (foreign_row_so t other) ∙ foreign_content_of t (newest (transitions_of (past scheme c tables)) t)

  -- the column of an order to ask for cancellation
  own_asked : (t : TransactionId) (o : Option Transition) → newest (transitions_of (past scheme c tables)) t ≡ o
      → option_map_or (λ (y : OutgoingTransfer). initiator.is_asked y.cancellation) (option_map (own_row (past scheme c tables) t) o) false ≡ is_requested (past scheme c tables) t
  own_asked t None e = sym (unknown_unrequested scheme c (past scheme c tables) recorded t e)
  own_asked t (Some x) e = asked_so (is_requested (past scheme c tables) t)

  pub own_column_so : (t : TransactionId) → same_code t.code c ≡ true → initiator.column_of_request (map.get tables.initiator.transfers t) ≡ registry.request_column (past scheme c tables) t
  own_column_so t own =
      ap initiator.column_of_request (own_row_so t own)
      ∙ ap (λ (b : Bool). cond b column.RepeatedRequestOrder column.RequestOrder) (own_asked t (newest (transitions_of (past scheme c tables)) t) refl)

  pub own_stands_so : (t : TransactionId) → same_code t.code c ≡ true → initiator.is_still_proposed (map.get tables.initiator.transfers t) ≡ stands_at (transitions_of (past scheme c tables)) t Proposed
  own_stands_so t own =
      ap initiator.is_still_proposed (own_row_so t own) ∙ own_stands_of (past scheme c tables) (transitions_of (past scheme c tables)) t (newest (transitions_of (past scheme c tables)) t) refl

  -- whether it is known
  pub own_there_so : (t : TransactionId) → same_code t.code c ≡ true → is_known (transitions_of (past scheme c tables)) t ≡ is_some (map.get tables.initiator.transfers t)
  own_there_so t own = row_there (own_row (past scheme c tables) t) (newest (transitions_of (past scheme c tables)) t) ∙ ap is_some (sym (own_row_so t own))

  pub foreign_there_so : (t : TransactionId) → same_code t.code c ≡ false → is_known (transitions_of (past scheme c tables)) t ≡ is_some (map.get tables.acquirer.transfers t)
  foreign_there_so t other = row_there (foreign_row t) (newest (transitions_of (past scheme c tables)) t) ∙ ap is_some (sym (foreign_row_so t other))

  -- its status
  pub own_status_so : (t : TransactionId) → same_code t.code c ≡ true → stands (transitions_of (past scheme c tables)) t ≡ option_map (λ x. x.status) (map.get tables.initiator.transfers t)
  own_status_so t own = own_status_of (past scheme c tables) t (newest (transitions_of (past scheme c tables)) t) ∙ ap (option_map (λ (y : OutgoingTransfer). y.status)) (sym (own_row_so t own))

  pub foreign_status_so : (t : TransactionId) → same_code t.code c ≡ false → stands (transitions_of (past scheme c tables)) t ≡ option_map (λ x. x.status) (map.get tables.acquirer.transfers t)
  foreign_status_so t other = foreign_status_of t (newest (transitions_of (past scheme c tables)) t) ∙ ap (option_map (λ (y : IncomingTransfer). y.status)) (sym (foreign_row_so t other))

  -- the accounts that are awaited
  pub awaited_has_row : (n : ℕ) → is_awaited c (transitions_of (past scheme c tables)) n ≡ true → (t : TransactionId) × (acquirer.is_awaited_by n (map.get tables.acquirer.transfers t) ≡ true)
  awaited_has_row n h =
      let a = awaited_row scheme c (transitions_of (past scheme c tables)) n (sound_history scheme c (past scheme c tables) made_so) h in
      (a.0, ap (acquirer.is_awaited_by n) (foreign_row_so a.0 a.1.1 ∙ ap (option_map (foreign_row a.0)) a.1.2) ∙ a.1.3)

  awaiting : (n : ℕ) (t : TransactionId) (o : Option Transition) → same_code t.code c ≡ false → newest (transitions_of (past scheme c tables)) t ≡ o → acquirer.is_awaited_by n (option_map (foreign_row t) o) ≡ true
      → is_awaited c (transitions_of (past scheme c tables)) n ≡ true
  awaiting n t None other e h = absurd (cc (h))
  awaiting n t (Some x) other e h = row_awaited c (transitions_of (past scheme c tables)) n t x other e h

  pub row_is_awaited : (n : ℕ) (t : TransactionId) → acquirer.is_awaited_by n (map.get tables.acquirer.transfers t) ≡ true → is_awaited c (transitions_of (past scheme c tables)) n ≡ true
  row_is_awaited n t h =
      elim (cases_Bool (same_code t.code c)) [
        | inl own ↦ let none : false ≡ true = ap (acquirer.is_awaited_by n) (sym (own_not_foreign t own)) ∙ h in absurd (cc (none))
        | inr other ↦ awaiting n t (newest (transitions_of (past scheme c tables)) t) other refl (ap (acquirer.is_awaited_by n) (sym (foreign_row_so t other)) ∙ h)
      ]
