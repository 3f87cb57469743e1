-- Holdings whose unit holdings and accounts are those of a history know what its checks ask.
use Rattle.std.specs.FinMap as map
use Rattle.std.proofs.Common.{Bool, List, None, Option, Some, ap, cond, false, inl, inr, refl, sym, true, ℕ, ◌&&◌, ◌==◌, ◌∙◌, ◌≡◌}
use Rattle.units.specs.declared.code.Code.{Code}
use Rattle.protocol.specs.History.{Entry, Position, holds, position, reserved, transitions_of, reserver}
use Rattle.checks.specs.Knowing.{Knows}
use Rattle.accounts.specs.declared.unit_holding.UnitHolding.{UnitHolding}
use Rattle.safety.proofs.MovesAndHistories.NewestTransitions.{Made}
use Rattle.protocol.specs.Pieces.{Piece}
use Rattle.units.specs.declared.code.Node.TheVariants.{Registry}
use Rattle.scheme.specs.declared.registries.Scheme.{Scheme}
use Rattle.units.specs.declared.block.Unit.{Unit as Serial}
use Rattle.status.specs.declared.id.TransactionId.{TransactionId}
use Rattle.std.proofs.lemmas.Bool.{cases_Bool, cond-true}
use Rattle.safety.proofs.OneRegistry.UnitHoldingsOfUnits.{held_position, unit_holding_is_held, unit_holding_of_unheld, reserved_some, unheld_reserver}
use Rattle.protocol.specs.AtRegistry.{holding, is_position}
use Rattle.accounts.specs.Holdings.{HoldingsView}
use Rattle.std.specs.Prelude.{is_some, option_map}
use Rattle.protocol.specs.Held.{unit_holding_at, unit_holding_in, account_status_at}
use Rattle.std.specs.Option.{option_map_or}
use Rattle.units.specs.Unit.{same_kind}
use Rattle.safety.proofs.OneRegistry.SoundHistories.{sound_history}

-- what a unit holding says of a piece is what its position says
unit_holding_says : (r : Option TransactionId) (q : Option Position) (n : ℕ) (p : Piece) → is_position q n p ≡ option_map_or (λ (unit_holding : UnitHolding). (unit_holding.account == n) && same_kind unit_holding.kind p.kind) (option_map (unit_holding_in r) q) false
unit_holding_says r None n p = refl
unit_holding_says r (Some q) n p = refl

unit_holding_has : (h : Bool) (r : Option TransactionId) (q : Option Position) (n : ℕ) (p : Piece)
    → (h && is_position q n p) ≡ option_map_or (λ (unit_holding : UnitHolding). (unit_holding.account == n) && same_kind unit_holding.kind p.kind) (cond h (option_map (unit_holding_in r) q) None) false
unit_holding_has true r q n p = unit_holding_says r q n p
unit_holding_has false r q n p = refl

unit_holding_reserved : (r : Option TransactionId) (q : Position) (o : Option Position) → o ≡ Some q → option_map_or (λ (unit_holding : UnitHolding). is_some unit_holding.reserving) (option_map (unit_holding_in r) o) false ≡ is_some r
unit_holding_reserved r q None e = absurd (cc (e))
unit_holding_reserved r q (Some p) e = refl

module _ (scheme : Scheme) (c : Code) (es : List Entry) (made : Made scheme (Registry c) es) where
  -- a unit is reserved exactly when its unit holding is
  pub reserved_unit_holding : (s : Serial) → reserved c (transitions_of es) s ≡ option_map_or (λ unit_holding. is_some unit_holding.reserving) (unit_holding_at scheme c (transitions_of es) s) false
  reserved_unit_holding s =
      let xs = transitions_of es in
      let sound = sound_history scheme c es made in
      let says = λ (o : Option UnitHolding). option_map_or (λ (unit_holding : UnitHolding). is_some unit_holding.reserving) o false in
      elim (cases_Bool (holds scheme c xs s)) [
        | inl y ↦
            let q = held_position scheme c s xs y in
            let here = cond-true (holds scheme c xs s) (option_map (unit_holding_in (reserver c xs s)) (position scheme c xs s)) None y in
            reserved_some scheme c s xs ∙ sym (ap says here ∙ unit_holding_reserved (reserver c xs s) q.0 (position scheme c xs s) q.1)
        | inr n ↦
            let free = unheld_reserver scheme c s xs sound n in
            reserved_some scheme c s xs ∙ ap is_some free ∙ sym (ap says (unit_holding_of_unheld scheme c s xs n))
      ]

  pub knows : (held : HoldingsView) → ((s : Serial) → map.get held.unit_holdings s ≡ unit_holding_at scheme c (transitions_of es) s) → ((n : ℕ) → map.get held.accounts n ≡ account_status_at scheme c es n) → Knows scheme c held (holding scheme c es)
  knows held unit_holdings accounts =
      let xs = transitions_of es in
      record {
        accounts = accounts;
        has = λ n p.
            unit_holding_has (holds scheme c xs p.unit) (reserver c xs p.unit) (position scheme c xs p.unit) n p
            ∙ ap (λ o. option_map_or (λ (unit_holding : UnitHolding). (unit_holding.account == n) && same_kind unit_holding.kind p.kind) o false) (sym (unit_holdings p.unit));
        is_held = λ s. sym (unit_holding_is_held scheme c s xs) ∙ ap is_some (sym (unit_holdings s));
        is_reserved = λ s. reserved_unit_holding s ∙ ap (λ o. option_map_or (λ (unit_holding : UnitHolding). is_some unit_holding.reserving) o false) (sym (unit_holdings s));
      }
