-- How units are held, by tests of their unit holdings.
use Rattle.std.proofs.Common.{◌≡◌, ◌≢◌, ℕ, ◌<◌, List, Bool, true, true≢false, ◌&&◌, eqb, Option, Some, None, IsSome, is_none, refl, sym, ap, ◌∙◌, eq-eqb}
use Rattle.std.specs.FinMap.{FinMap, get, get-entries, entries, entries_sorted}
use Rattle.std.specs.Option.{option_map}
use Rattle.std.proofs.lemmas.Bool.{and_parts, and_from, eqb-true}
use Rattle.std.proofs.lemmas.Option.{same_Some}
use denote.Enum.Bare.{sameb, true_same}
use Rattle.units.specs.contracts.block.Kind as kind
use Rattle.units.specs.Keys.{unit_cmp}
use Rattle.units.specs.Unit.{covers}
use Rattle.units.specs.declared.block.Block.{Block}
use Rattle.units.specs.declared.block.Kind.{Kind}
use Rattle.units.specs.declared.block.Unit.{Unit as Serial}
use Rattle.status.specs.declared.id.TransactionId.{TransactionId}
use Rattle.accounts.specs.Holdings.{HoldingsView}
use Rattle.accounts.specs.Refusals.{IsHeldAs, AreHeld, IsReserved, HasUnits}
use Rattle.accounts.specs.declared.unit_holding.UnitHolding.{UnitHolding}
use Rattle.units.proofs.BlockLists.{kind_from, passed}
use Rattle.units.proofs.UnitKeys.{units_total, exact_units}
use Rattle.accounts.specs.Tables.{is_in}
use Rattle.accounts.proofs.Blocks.{covered}
use Rattle.accounts.proofs.Counts.{count_of, some_counted, counted_some}

abbrev pub is_held_as : ℕ → Kind → UnitHolding → Bool
is_held_as account k unit_holding = eqb unit_holding.account account && sameb kind.the_type unit_holding.kind k

pub held_as : (held : HoldingsView) (account : ℕ) (k : Kind) (s : Serial) → option_map (is_held_as account k) (get held.unit_holdings s) ≡ Some true → IsHeldAs held account k s
held_as held account k s e =
    let h = passed (is_held_as account k) (get held.unit_holdings s) e in
    let two = and_parts (eqb h.0.account account) (sameb kind.the_type h.0.kind k) h.2 in
    record { unit_holding = h.0; is = h.1; account_is = eqb-true h.0.account account two.0; kind_is = kind_from h.0.kind k two.1 }

passes_held : (held : HoldingsView) (account : ℕ) (k : Kind) (s : Serial) → IsHeldAs held account k s → option_map (is_held_as account k) (get held.unit_holdings s) ≡ Some true
passes_held held account k s h =
    ap (option_map (is_held_as account k)) h.is ∙ ap Some (and_from (eqb h.unit_holding.account account) (sameb kind.the_type h.unit_holding.kind k) (eq-eqb h.unit_holding.account account h.account_is) (true_same kind.the_type h.unit_holding.kind k h.kind_is))

pub not_held : (held : HoldingsView) (account : ℕ) (k : Kind) (s : Serial) (unit_holdings : FinMap unit_cmp UnitHolding) → unit_holdings ≡ held.unit_holdings → option_map (is_held_as account k) (get unit_holdings s) ≢ Some true → IsHeldAs held account k s → ⊥
not_held held account k s unit_holdings same no' h = no' (ap (λ m. option_map (is_held_as account k) (get m s)) same ∙ passes_held held account k s h)

abbrev pub is_unreserved : UnitHolding → Bool
is_unreserved unit_holding = is_none unit_holding.reserving

none_of : (o : Option TransactionId) → is_none o ≡ true → o ≡ None
none_of None e = refl
none_of (Some x) e = absurd (true≢false (sym e))

some_of : (o : Option TransactionId) → (is_none o ≡ true → ⊥) → IsSome o
some_of None no' = absurd (no' refl)
some_of (Some x) no' = refl

-- a unit holding whose unit passes is free
pub free_from : (held : HoldingsView) (s : Serial) (unit_holding : UnitHolding) → option_map is_unreserved (get held.unit_holdings s) ≡ Some true → get held.unit_holdings s ≡ Some unit_holding → unit_holding.reserving ≡ None
free_from held s unit_holding e is = none_of unit_holding.reserving (same_Some (is_none unit_holding.reserving) true (ap (option_map is_unreserved) (sym is) ∙ e))

-- what passes both tests passes each
pub both_pass : (p q : UnitHolding → Bool) (o : Option UnitHolding) → option_map (λ u. p u && q u) o ≡ Some true → (option_map p o ≡ Some true) × (option_map q o ≡ Some true)
both_pass p q None e = cc
both_pass p q (Some u) e = let two = and_parts (p u) (q u) (same_Some (p u && q u) true e) in (ap Some two.0, ap Some two.1)

-- a held unit that doesn't pass is reserved
pub reserved_from : (held : HoldingsView) (account : ℕ) (blocks : List Block) → AreHeld held account blocks → (s : Serial) → covers blocks s ≡ true → option_map is_unreserved (get held.unit_holdings s) ≢ Some true → IsReserved held blocks
reserved_from held account blocks all s h no' =
    let b = covered blocks s h in
    let unit_holding = all b.0 s b.1 in
    record { unit = s; unit_holding = unit_holding.unit_holding; of = h; is = unit_holding.is; reserved = some_of unit_holding.unit_holding.reserving (λ e. no' (ap (option_map is_unreserved) unit_holding.is ∙ ap Some e)) }

-- an account has units where some are counted
pub units_counted : (held : HoldingsView) (account : ℕ) → 0 < count_of (is_in account) (entries held.unit_holdings) → HasUnits held account
units_counted held account lt =
    let w = some_counted unit_cmp units_total exact_units (is_in account) (entries held.unit_holdings) (entries_sorted held.unit_holdings) lt in
    record { unit = w.0; unit_holding = w.1; is = get-entries held.unit_holdings w.0 ∙ w.2; account_is = eqb-true w.1.account account w.3 }

pub counted_units : (held : HoldingsView) (account : ℕ) → HasUnits held account → 0 < count_of (is_in account) (entries held.unit_holdings)
counted_units held account h =
    counted_some unit_cmp units_total exact_units (is_in account) h.unit h.unit_holding (entries held.unit_holdings) (entries_sorted held.unit_holdings) (sym (get-entries held.unit_holdings h.unit) ∙ h.is) (eq-eqb h.unit_holding.account account h.account_is)
