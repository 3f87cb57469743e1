-- The lines of holdings that say a registry's history are its holdings as a report writes them.
use Rattle.std.specs.FinMap.{get}
use Rattle.std.proofs.Common.{◌≡◌, true, List, [], ◌∷◌, map, Some, inl, inr, refl, sym, ap, subst, ◌∙◌}
use Rattle.std.proofs.lemmas.Bool.{cases_Bool, cond-false, cond-true}
use Rattle.units.proofs.Lists.Membership.{In}
use Rattle.units.proofs.Lists.OneValue.{one_some}
use Rattle.units.proofs.Lists.Positions.{In_contains, contains_in}
use Rattle.units.specs.Intervals.{AreKept, label_at}
use Rattle.units.specs.Unit.{has_unit}
use Rattle.units.specs.declared.block.Unit.{Unit as Serial}
use Rattle.accounts.specs.Holdings.{HoldingsView}
use Rattle.accounts.specs.Lines.{AreLines, unit_holding_interval}
use Rattle.accounts.specs.declared.unit_holding.HeldBlock.{HeldBlock}
use Rattle.accounts.specs.declared.unit_holding.UnitHolding.{UnitHolding}
use Rattle.protocol.specs.Held.{unit_holding_at}
use Rattle.registry_core.specs.Registry.{RegistryCoreView, moves}
use Rattle.registry_core.specs.Reported.{AreHoldings, IsHeldSo}
use Rattle.safety.proofs.OneRegistry.UnitHoldingsOfUnits.{unit_holding_of_held, unit_holding_parts}

-- ---- a unit and the line that has it

labelled : (lines : List HeldBlock) (s : Serial) (line : HeldBlock) → AreKept (map unit_holding_interval lines) → In line lines → has_unit line.block.raw s ≡ true → label_at (map unit_holding_interval lines) s ≡ Some (unit_holding_interval line).label
labelled [] s line kept i h = absurd i
labelled (l ∷ lines) s line kept (inl e) h =
    cond-true (has_unit l.block.raw s) (Some (unit_holding_interval l).label) (label_at (map unit_holding_interval lines) s) (subst (λ (q : HeldBlock). has_unit q.block.raw s ≡ true) (sym e) h)
    ∙ ap (λ (q : HeldBlock). Some (unit_holding_interval q).label) e
labelled (l ∷ lines) s line kept (inr i) h =
    elim (cases_Bool (has_unit l.block.raw s)) [
      | inl y ↦ let clash = sym (kept.1 s y) ∙ labelled lines s line kept.2 i h in absurd (cc (clash))
      | inr n ↦ cond-false (has_unit l.block.raw s) (Some (unit_holding_interval l).label) (label_at (map unit_holding_interval lines) s) n ∙ labelled lines s line kept.2 i h
    ]

found : (lines : List HeldBlock) (s : Serial) (unit_holding : UnitHolding) → label_at (map unit_holding_interval lines) s ≡ Some unit_holding → (line : HeldBlock) × In line lines × (has_unit line.block.raw s ≡ true) × ((unit_holding_interval line).label ≡ unit_holding)
found [] s unit_holding e = absurd (cc (e))
found (l ∷ lines) s unit_holding e =
    elim (cases_Bool (has_unit l.block.raw s)) [
      | inl y ↦ (l, inl refl, y, one_some (unit_holding_interval l).label unit_holding (sym (cond-true (has_unit l.block.raw s) (Some (unit_holding_interval l).label) (label_at (map unit_holding_interval lines) s) y) ∙ e))
      | inr n ↦
          let f = found lines s unit_holding (sym (cond-false (has_unit l.block.raw s) (Some (unit_holding_interval l).label) (label_at (map unit_holding_interval lines) s) n) ∙ e) in
          (f.0, inr f.1, f.2, f.3)
    ]

-- ---- a unit and how it is held

unit_holding_held : (r : RegistryCoreView) (s : Serial) (unit_holding : UnitHolding) → unit_holding_at r.scheme r.code (moves r) s ≡ Some unit_holding → IsHeldSo r s unit_holding
unit_holding_held r s unit_holding e =
    let (held, (q, placed, so)) = unit_holding_parts r.scheme r.code s (moves r) unit_holding e in
    record {
      held = held;
      placed = placed ∙ ap (λ (l : UnitHolding). Some (record { account = l.account; kind = l.kind })) so;
      reserved = ap (λ (l : UnitHolding). l.reserving) so;
    }

held_unit_holding : (r : RegistryCoreView) (s : Serial) (unit_holding : UnitHolding) → IsHeldSo r s unit_holding → unit_holding_at r.scheme r.code (moves r) s ≡ Some unit_holding
held_unit_holding r s unit_holding h =
    unit_holding_of_held r.scheme r.code s (moves r) (record { account = unit_holding.account; kind = unit_holding.kind }) h.held h.placed ∙ ap (λ o. Some (record { account = unit_holding.account; kind = unit_holding.kind; reserving = o })) h.reserved

-- ---- the lines

pub lines_report : (r : RegistryCoreView) (held : HoldingsView) (lines : List HeldBlock) → ((s : Serial) → get held.unit_holdings s ≡ unit_holding_at r.scheme r.code (moves r) s) → AreLines held lines → AreHoldings r lines
lines_report r held lines says is =
    record {
      in_order = is.ordered;
      exact = λ s unit_holding. (
        (λ h. let f = found lines s unit_holding (is.same s ∙ says s ∙ held_unit_holding r s unit_holding h) in record { line = f.0; among = contains_in lines f.0 f.1; has = f.2; so = f.3 }),
        (λ h. unit_holding_held r s unit_holding (sym (says s) ∙ sym (is.same s) ∙ labelled lines s h.line is.apart (In_contains lines h.line h.among) h.has ∙ ap (λ (l : UnitHolding). Some l) h.so)),
      );
    }
