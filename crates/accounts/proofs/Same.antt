-- UnitHoldings that compare alike are one.
use Rattle.std.proofs.Common.{◌≡◌, Bool, true, true≢false, ◌&&◌, eqb, Option, Some, None, refl, sym, ap, eq-eqb}
use Rattle.std.specs.Option.{option_eq}
use Rattle.std.proofs.lemmas.Bool.{and_parts, and_from, eqb-true}
use denote.Enum.Bare.{sameb, true_same}
use Rattle.units.specs.contracts.block.Kind as kind
use Rattle.units.proofs.BlockLists.{kind_from}
use Rattle.status.specs.Id.{same_id}
use Rattle.status.proofs.Ids.{id_of_same, same_id-refl}
use Rattle.status.specs.declared.id.TransactionId.{TransactionId}
use Rattle.accounts.specs.declared.unit_holding.UnitHolding.{UnitHolding}

pub reserving_of_same : (a b : Option TransactionId) → option_eq same_id a b ≡ true → a ≡ b
reserving_of_same None None e = refl
reserving_of_same None (Some y) e = absurd (true≢false (sym e))
reserving_of_same (Some x) None e = absurd (true≢false (sym e))
reserving_of_same (Some x) (Some y) e = ap Some (id_of_same x y e)

reserving-refl : (a : Option TransactionId) → option_eq same_id a a ≡ true
reserving-refl None = refl
reserving-refl (Some x) = same_id-refl x

abbrev pub same_unit_holding : UnitHolding → UnitHolding → Bool
same_unit_holding a b = eqb a.account b.account && (sameb kind.the_type a.kind b.kind && option_eq same_id a.reserving b.reserving)

pub unit_holding_of_same : (a b : UnitHolding) → same_unit_holding a b ≡ true → a ≡ b
unit_holding_of_same a b e =
    let h = and_parts (eqb a.account b.account) _ e in
    let k = and_parts (sameb kind.the_type a.kind b.kind) (option_eq same_id a.reserving b.reserving) h.1 in
    let accounts = eqb-true a.account b.account h.0 in
    let kinds = kind_from a.kind b.kind k.0 in
    let reservings = reserving_of_same a.reserving b.reserving k.1 in
    λ i. record { account = accounts i; kind = kinds i; reserving = reservings i }

pub same_unit_holding-refl : (a : UnitHolding) → same_unit_holding a a ≡ true
same_unit_holding-refl a =
    and_from (eqb a.account a.account) _ (eq-eqb a.account a.account refl) (and_from (sameb kind.the_type a.kind a.kind) (option_eq same_id a.reserving a.reserving) (true_same kind.the_type a.kind a.kind refl) (reserving-refl a.reserving))
