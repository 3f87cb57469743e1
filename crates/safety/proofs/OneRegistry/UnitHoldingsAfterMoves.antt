-- The unit holding of each unit after each case of `RegistryMove`, in the forms of the clauses of `Holdings`.
use Rattle.units.specs.declared.block.Block.{Block}
use Rattle.units.specs.declared.code.Code.{Code}
use Rattle.status.specs.declared.status.Status.TheVariants.{Completed, Proposed}
use Rattle.status.specs.Content.{Content, raws}
use Rattle.protocol.specs.History.{Entry, Transition, holds, newest, position, proposals, reserved, transitions_of}
use Rattle.std.proofs.Common.{List, None, Some, [], ap, false, not, refl, subst, sym, true, ℕ, ◌&&◌, ◌+◌, ◌∙◌, ◌∷◌, ◌≡◌, inl, inr}
use Rattle.safety.proofs.MovesAndHistories.NewestTransitions.{Made, newest_id}
use Rattle.wire.specs.declared.message.Message.{Message}
use Rattle.status.specs.declared.rows.Row.TheVariants.{Move}
use Rattle.safety.proofs.MovesAndHistories.TableMoves.{NoneStands}
use Rattle.status.specs.declared.rows.RowInput.TheVariants.{Notified}
use Rattle.status.specs.Order.{Order}
use Rattle.protocol.specs.Pieces.{Piece, pieces}
use Rattle.units.specs.declared.code.Node.TheVariants.{Registry}
use Rattle.scheme.specs.declared.registries.Scheme.{Scheme}
use Rattle.units.specs.declared.block.Unit.{Unit as Serial}
use Rattle.status.specs.declared.rows.RecordedStatus.TheVariants.{Stands}
use Rattle.status.specs.declared.status.Status.{Status}
use Rattle.status.specs.declared.id.TransactionId.{TransactionId}
use Rattle.status.specs.Rows.{acquirer_row, initiator_row}
use Rattle.std.proofs.lemmas.Bool.{and_parts, false_from_ne_true, not-false, cases_Bool, cond-false, cond-true}
use Rattle.safety.proofs.OneRegistry.UnitsCountedOnce.{and_second, arrived_quiet, free_content}
use Rattle.safety.proofs.MovesAndHistories.TransitionForms.{arrived, asking, bare, moved, proposed}
use Rattle.protocol.proofs.CanonicalBlocks.{canonical_piece}
use Rattle.protocol.specs.AtRegistry.{content_of, holding, holds_some, is_position}
use Rattle.units.specs.Unit.{covers, have_unit}
use Rattle.safety.proofs.OneRegistry.StepsOfUnitHoldings.{covers_raws}
use Rattle.accounts.specs.Holdings.{free_unit_holding, is_reserved_by, kind_in, released, reserved as reserved_by}
use Rattle.status.specs.Id.{id_at}
use Rattle.units.proofs.Lists.SomePass.{list_any_none}
use Rattle.safety.proofs.OneRegistry.UnitHoldingsAfterTransitions.{unit_holding_after_arrival, unit_holding_after_asking, unit_holding_after_credit, unit_holding_after_foreign_end, unit_holding_after_proposal, unit_holding_after_release, unit_holding_after_removal, unit_holdings_before_credit}
use Rattle.protocol.specs.Held.{unit_holding_at}
use Rattle.units.specs.Intervals.{labels_that}
use Rattle.std.specs.Prelude.{if◌then◌else◌, option_map}
use Rattle.std.specs.Option.{option_or}
use Rattle.safety.proofs.OneRegistry.TransactionEnds.{own_code}
use Rattle.protocol.specs.Checks.{propose_refusals}
use Rattle.units.specs.Code.{same_code}
use Rattle.status.specs.Status.{same_status}
use Rattle.safety.proofs.ListLemmas.TestsOfSameness.{status_of_same}
use Rattle.units.proofs.Lists.OneValue.{clash}
use Rattle.protocol.specs.Deciding.{known}
use Rattle.safety.proofs.OneRegistry.UnitHoldingsOfUnits.{unit_holding_of_unheld}

-- units that a proposal may take are held, and none is reserved
pub proposed_free : (scheme : Scheme) (c : Code) (es : List Entry) (o : Order) → NoneStands (propose_refusals scheme c (holding scheme c es) o) → (s : Serial) → have_unit (content_of o).units s ≡ true
    → (holds scheme c (transitions_of es) s ≡ true) × (reserved c (transitions_of es) s ≡ false)
proposed_free scheme c es o none s h =
    let xs = transitions_of es in
    let p = canonical_piece o.units none.1.0 s h in
    let held = not-false (holds scheme c xs p.0.unit && is_position (position scheme c xs p.0.unit) o.account p.0)
    (list_any_none (λ (q : Piece). not (holds scheme c xs q.unit && is_position (position scheme c xs q.unit) o.account q)) (pieces o.units) p.0 none.1.1.1.1.0 p.1) in
    let free = list_any_none (λ (q : Piece). reserved c xs q.unit) (pieces o.units) p.0 none.1.1.1.1.1.0 p.1 in (
      subst (λ z. holds scheme c xs z ≡ true) p.2 (and_parts (holds scheme c xs p.0.unit) (is_position (position scheme c xs p.0.unit) o.account p.0) held).0,
      subst (λ z. reserved c xs z ≡ false) p.2 free,
    )

module _ (scheme : Scheme) (c : Code) (es : List Entry) (made : Made scheme (Registry c) es) where
  -- as the content lists its units
  pub unit_holding_proposed : (o : Order) (t : TransactionId) → NoneStands (propose_refusals scheme c (holding scheme c es) o) → id_at c (proposals es + 1) ≡ Some t → newest (transitions_of es) t ≡ None → (s : Serial)
      → unit_holding_at scheme c (proposed c t (content_of o) ∷ transitions_of es) s
      ≡ (if have_unit (content_of o).units s then option_map (reserved_by t) (unit_holding_at scheme c (transitions_of es) s) else unit_holding_at scheme c (transitions_of es) s)
  unit_holding_proposed o t none is fresh =
      unit_holding_after_proposal scheme c es made (proposed c t (content_of o)) (content_of o) fresh (own_code scheme c (proposals es + 1) t is) refl refl (proposed_free scheme c es o none)

  -- as blocks do
  pub unit_holding_reserved : (o : Order) (t : TransactionId) (blocks : List Block) → NoneStands (propose_refusals scheme c (holding scheme c es) o) → id_at c (proposals es + 1) ≡ Some t → newest (transitions_of es) t ≡ None
      → raws blocks ≡ (content_of o).units → (s : Serial)
      → unit_holding_at scheme c (proposed c t (content_of o) ∷ transitions_of es) s
      ≡ (if covers blocks s then option_map (reserved_by t) (unit_holding_at scheme c (transitions_of es) s) else unit_holding_at scheme c (transitions_of es) s)
  unit_holding_reserved o t blocks none is fresh units s =
      unit_holding_proposed o t none is fresh s
      ∙ ap (λ b. if b then option_map (reserved_by t) (unit_holding_at scheme c (transitions_of es) s) else unit_holding_at scheme c (transitions_of es) s) (ap (λ us. have_unit us s) (sym units) ∙ covers_raws blocks s)

  pub unit_holding_asked : (t : TransactionId) (x : Transition) → newest (transitions_of es) t ≡ Some x → same_code t.code c ≡ true → x.new ≡ Proposed → (s : Serial)
      → unit_holding_at scheme c (asking c x ∷ transitions_of es) s ≡ unit_holding_at scheme c (transitions_of es) s
  unit_holding_asked t x was own stood = unit_holding_after_asking scheme c es made (asking c x) x t was own stood (newest_id (transitions_of es) t x was).1 refl refl

  pub unit_holding_arrived : (t : TransactionId) (k : Content) (moment : ℕ) (found : List ℕ) → newest (transitions_of es) t ≡ None → same_code t.code c ≡ false → (s : Serial)
      → unit_holding_at scheme c (arrived c t k moment found ∷ transitions_of es) s ≡ unit_holding_at scheme c (transitions_of es) s
  unit_holding_arrived t k moment found fresh foreign = let a = arrived_quiet found in unit_holding_after_arrival scheme c es made (arrived c t k moment found) fresh foreign a.1 a.0

  pub unit_holding_bare : (t : TransactionId) (moment : ℕ) → newest (transitions_of es) t ≡ None → same_code t.code c ≡ false → (s : Serial)
      → unit_holding_at scheme c (bare t moment ∷ transitions_of es) s ≡ unit_holding_at scheme c (transitions_of es) s
  unit_holding_bare t moment fresh foreign = unit_holding_after_arrival scheme c es made (bare t moment) fresh foreign (λ e. cc (e)) refl

  pub unit_holding_released : (t : TransactionId) (told : Status) (x : Transition) (new : Status) (moment : ℕ) (messages : List Message) → newest (transitions_of es) t ≡ Some x → same_code t.code c ≡ true
      → initiator_row (Stands x.new) (Notified told) ≡ Move new → (new ≡ Completed → ⊥) → (s : Serial)
      → unit_holding_at scheme c (moved x new moment messages ∷ transitions_of es) s ≡ option_map (released t) (unit_holding_at scheme c (transitions_of es) s)
  unit_holding_released t told x new moment messages was own move other =
      unit_holding_after_release scheme c es made (moved x new moment messages) x t told was own (newest_id (transitions_of es) t x was).1 refl move
      (false_from_ne_true (same_status new Completed) (λ y. other (status_of_same new Completed y)))

  pub unit_holding_removed : (t : TransactionId) (told : Status) (x : Transition) (new : Status) (moment : ℕ) (messages : List Message) → newest (transitions_of es) t ≡ Some x → same_code t.code c ≡ true
      → initiator_row (Stands x.new) (Notified told) ≡ Move new → new ≡ Completed → (s : Serial)
      → unit_holding_at scheme c (moved x new moment messages ∷ transitions_of es) s ≡ labels_that (λ unit_holding. not (is_reserved_by t unit_holding)) (unit_holding_at scheme c (transitions_of es) s)
  unit_holding_removed t told x new moment messages was own move done =
      unit_holding_after_removal scheme c es made (moved x new moment messages) x t told was own (newest_id (transitions_of es) t x was).1 refl move (ap (λ z. same_status z Completed) done)

  pub unit_holding_unmoved : (t : TransactionId) (told : Status) (x : Transition) (new : Status) (moment : ℕ) → newest (transitions_of es) t ≡ Some x → same_code t.code c ≡ false
      → acquirer_row (Stands x.new) (Notified told) ≡ Move new → (new ≡ Completed → ⊥) → (s : Serial)
      → unit_holding_at scheme c (moved x new moment [] ∷ transitions_of es) s ≡ unit_holding_at scheme c (transitions_of es) s
  unit_holding_unmoved t told x new moment was foreign move other =
      unit_holding_after_foreign_end scheme c es made (moved x new moment []) x t told was foreign (newest_id (transitions_of es) t x was).1 refl refl move
      (false_from_ne_true (same_status new Completed) (λ y. other (status_of_same new Completed y)))

  pub unit_holding_credited : (t : TransactionId) (told : Status) (x : Transition) (new : Status) (moment : ℕ) (k : Content) (blocks : List Block) → newest (transitions_of es) t ≡ Some x → same_code t.code c ≡ false
      → acquirer_row (Stands x.new) (Notified told) ≡ Move new → new ≡ Completed → x.content ≡ Some k → (same_status new Completed && holds_some scheme c (transitions_of es) x.content) ≡ false → raws blocks ≡ k.units → (s : Serial)
      → unit_holding_at scheme c (moved x new moment [] ∷ transitions_of es) s ≡ option_or (option_map (free_unit_holding k.to_account) (kind_in blocks s)) (unit_holding_at scheme c (transitions_of es) s)
  unit_holding_credited t told x new moment k blocks was foreign move done known none units =
      let finished : same_status new Completed ≡ true = ap (λ z. same_status z Completed) done in
      unit_holding_after_credit scheme c es made (moved x new moment []) x t told k blocks was foreign (newest_id (transitions_of es) t x was).1 refl refl move finished known
      (ap (holds_some scheme c (transitions_of es)) (sym known) ∙ and_second (same_status new Completed) (holds_some scheme c (transitions_of es) x.content) none finished) units

  -- what is credited wasn't there
  pub unit_holding_absent : (x : Transition) (new : Status) (k : Content) (blocks : List Block) → new ≡ Completed → x.content ≡ Some k → (same_status new Completed && holds_some scheme c (transitions_of es) x.content) ≡ false → raws blocks ≡ k.units
      → (s : Serial) → covers blocks s ≡ true → unit_holding_at scheme c (transitions_of es) s ≡ None
  unit_holding_absent x new k blocks done known none units =
      unit_holdings_before_credit scheme c (transitions_of es) k blocks
      (ap (holds_some scheme c (transitions_of es)) (sym known) ∙ and_second (same_status new Completed) (holds_some scheme c (transitions_of es) x.content) none (ap (λ z. same_status z Completed) done)) units

  -- both ends of a transfer out of this registry at once
  pub unit_holding_concluded : (t : TransactionId) (told : Status) (x : Transition) (new : Status) (moment : ℕ) (messages : List Message) → newest (transitions_of es) t ≡ Some x → same_code t.code c ≡ true
      → initiator_row (Stands x.new) (Notified told) ≡ Move new → (s : Serial)
      → unit_holding_at scheme c (moved x new moment messages ∷ transitions_of es) s
      ≡ (if same_status new Completed then labels_that (λ unit_holding. not (is_reserved_by t unit_holding)) (unit_holding_at scheme c (transitions_of es) s) else option_map (released t) (unit_holding_at scheme c (transitions_of es) s))
  unit_holding_concluded t told x new moment messages was own move s =
      let unit_holding = unit_holding_at scheme c (transitions_of es) s in
      elim (cases_Bool (same_status new Completed)) [
        | inl y ↦
            unit_holding_removed t told x new moment messages was own move (status_of_same new Completed y) s
            ∙ sym (cond-true (same_status new Completed) (labels_that (λ unit_holding. not (is_reserved_by t unit_holding)) unit_holding) (option_map (released t) unit_holding) y)
        | inr n ↦
            unit_holding_released t told x new moment messages was own move (λ e. clash (same_status new Completed) (ap (λ z. same_status z Completed) e) n) s
            ∙ sym (cond-false (same_status new Completed) (labels_that (λ unit_holding. not (is_reserved_by t unit_holding)) unit_holding) (option_map (released t) unit_holding) n)
      ]

-- as the content lists its units, none of them is there before they are credited
pub units_absent : (scheme : Scheme) (c : Code) (xs : List Transition) (k : Content) → holds_some scheme c xs (Some k) ≡ false → (s : Serial) → have_unit k.units s ≡ true → unit_holding_at scheme c xs s ≡ None
units_absent scheme c xs k none s y = unit_holding_of_unheld scheme c s xs (free_content scheme c s xs (Some k) y none)
