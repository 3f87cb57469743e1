-- The checks of an order, by the registry's holdings.
use Rattle.std.proofs.Common.{◌≡◌, ℕ, List, Bool, true, false, true≢false, not, cond, Option, Some, None, IsSome, is_some, ◌&&◌, ◌||◌, ◌==◌, inl, inr, refl, sym, ap, subst, ◌∙◌, eq-eqb}
use Rattle.std.specs.FinMap.{get}
use Rattle.std.specs.List.{list_any}
use Rattle.std.specs.Option.{option_map_or}
use Rattle.std.proofs.Math.Bool.{not-not}
use Rattle.std.proofs.lemmas.Bool.{cases_Bool, and_parts, and_from, eqb-true}
use Rattle.units.proofs.Same.{kind_of_same}
use Rattle.units.specs.Canonical.{canonical}
use Rattle.units.specs.Unit.{same_kind, kind_index}
use Rattle.units.specs.declared.block.Block.{Block}
use Rattle.units.specs.declared.block.Kind.{Kind}
use Rattle.units.specs.declared.block.Unit.{Unit as Serial}
use Rattle.units.specs.declared.code.Code.{Code}
use Rattle.status.specs.Content.{raws}
use Rattle.status.specs.declared.id.TransactionId.{TransactionId}
use Rattle.accounts.proofs.Blocks.{covered, covers_from}
use Rattle.accounts.specs.Holdings.{HoldingsView}
use Rattle.accounts.specs.Refusals.{IsOpen, IsHeldAs, IsUnitOf, AreHeld, AreFree, IsLacking, IsReserved, MayReserve, IsReserveRefusal}
use Rattle.accounts.specs.declared.unit_holding.UnitHolding.{UnitHolding}
use Rattle.accounts.specs.declared.unit_holding.AccountStatus.{AccountStatus}
use Rattle.accounts.specs.declared.unit_holding.AccountStatus.TheVariants.{Open, Closed}
use Rattle.scheme.specs.declared.registries.Scheme.{Scheme}
use Rattle.protocol.specs.Checks.{Holding}
use Rattle.protocol.specs.Pieces.{pieces}
use Rattle.protocol.specs.Registries.{has_account}
use Rattle.protocol.proofs.CanonicalBlocks.{canonical_from}
use Rattle.units.proofs.Lists.Membership.{In}
use Rattle.checks.proofs.PiecesOfBlocks.{unit_as, block_with, piece_in, some_passes, none_passes, raws_in_range}
use Rattle.checks.specs.Following.{holding_refusals}
use Rattle.checks.specs.Knowing.{Knows}
use Rattle.checks.specs.Refusing.{first_of}

-- ---- accounts

abbrev account_status_of : (has closed : Bool) → Option AccountStatus
account_status_of has closed = cond has (Some (cond closed Closed Open)) None

abbrev is_open : Option AccountStatus → Bool
is_open (Some Open) = true
is_open _ = false

open_only : (has closed : Bool) → is_open (account_status_of has closed) ≡ not (not has || closed)
open_only true true = refl
open_only true false = refl
open_only false closed = refl

-- the account isn't open
pub not_open : (o : Option AccountStatus) (has closed : Bool) → o ≡ account_status_of has closed → (not has || closed) ≡ not (is_open o)
not_open o has closed e = sym (ap not (ap is_open e ∙ open_only has closed) ∙ not-not (not has || closed))

opened : (o : Option AccountStatus) → o ≡ Some Open → not (is_open o) ≡ false
opened o e = ap (λ p. not (is_open p)) e

unopened : (o : Option AccountStatus) → (o ≡ Some Open → ⊥) → not (is_open o) ≡ true
unopened None no' = refl
unopened (Some Open) no' = absurd (no' refl)
unopened (Some Closed) no' = refl

-- ---- unit holdings

abbrev pub is_as : ℕ → Kind → UnitHolding → Bool
is_as account k unit_holding = (unit_holding.account == account) && same_kind unit_holding.kind k

abbrev pub is_taken : UnitHolding → Bool
is_taken unit_holding = is_some unit_holding.reserving

-- a unit holding that passes a test
passing : (test : UnitHolding → Bool) (o : Option UnitHolding) → option_map_or test o false ≡ true → (unit_holding : UnitHolding) × (o ≡ Some unit_holding) × (test unit_holding ≡ true)
passing test None e = absurd (true≢false (sym e))
passing test (Some unit_holding) e = (unit_holding, refl, e)

some_none : (o : Option TransactionId) → o ≡ None → is_some o ≡ false
some_none o e = ap is_some e

some_some : (o : Option TransactionId) → IsSome o → is_some o ≡ true
some_some None h = absurd (cc)
some_some (Some t) h = refl

held_as : (held : HoldingsView) (account : ℕ) (k : Kind) (s : Serial) → option_map_or (is_as account k) (get held.unit_holdings s) false ≡ true → IsHeldAs held account k s
held_as held account k s e =
    let h = passing (is_as account k) (get held.unit_holdings s) e in
    let two = and_parts (h.0.account == account) (same_kind h.0.kind k) h.2 in
    record { unit_holding = h.0; is = h.1; account_is = eqb-true h.0.account account two.0; kind_is = kind_of_same h.0.kind k two.1 }

as_held : (held : HoldingsView) (account : ℕ) (k : Kind) (s : Serial) → IsHeldAs held account k s → option_map_or (is_as account k) (get held.unit_holdings s) false ≡ true
as_held held account k s h =
    ap (λ o. option_map_or (is_as account k) o false) h.is
    ∙ and_from (h.unit_holding.account == account) (same_kind h.unit_holding.kind k) (eq-eqb h.unit_holding.account account h.account_is) (eq-eqb (kind_index h.unit_holding.kind) (kind_index k) (ap kind_index h.kind_is))

-- ---- the causes

module _ (scheme : Scheme) (c : Code) (held : HoldingsView) (known : Holding) (knows : Knows scheme c held known) (account : ℕ) (blocks : List Block) where
  open_cause : IsOpen held account → (not (has_account scheme c account) || known.is_closed account) ≡ false
  open_cause is = not_open (get held.accounts account) (has_account scheme c account) (known.is_closed account) (knows.accounts account) ∙ opened (get held.accounts account) is

  shut_cause : (IsOpen held account → ⊥) → (not (has_account scheme c account) || known.is_closed account) ≡ true
  shut_cause no' = not_open (get held.accounts account) (has_account scheme c account) (known.is_closed account) (knows.accounts account) ∙ unopened (get held.accounts account) no'

  held_cause : AreHeld held account blocks → list_any (λ p. not (known.has account p)) (pieces (raws blocks)) ≡ false
  held_cause all = none_passes (λ p. not (known.has account p)) blocks (λ b p is kind e.
      let one = subst (λ k. IsHeldAs held account k p.unit) (sym kind) (all b p.unit is) in
      let has = knows.has account p ∙ as_held held account p.kind p.unit one in
      true≢false (sym e ∙ ap not has))

  lacking_cause : IsLacking held account blocks → list_any (λ p. not (known.has account p)) (pieces (raws blocks)) ≡ true
  lacking_cause lack = some_passes (λ p. not (known.has account p)) blocks lack.block lack.unit lack.of
      (elim (cases_Bool (known.has account (unit_as lack.unit lack.block))) [
        | inl y ↦ absurd (lack.lacks (held_as held account lack.block.raw.kind lack.unit (sym (knows.has account (unit_as lack.unit lack.block)) ∙ y)))
        | inr n ↦ ap not n
      ])

  free_cause : AreHeld held account blocks → AreFree held blocks → list_any (λ p. known.is_reserved p.unit) (pieces (raws blocks)) ≡ false
  free_cause all free = none_passes (λ p. known.is_reserved p.unit) blocks (λ b p is kind e.
      let one = all b p.unit is in
      let none = free p.unit one.unit_holding (covers_from blocks b p.unit is.among is.has) one.is in
      let no' = knows.is_reserved p.unit ∙ ap (λ o. option_map_or is_taken o false) one.is ∙ some_none one.unit_holding.reserving none in
      true≢false (sym e ∙ no'))

  reserved_cause : IsReserved held blocks → list_any (λ p. known.is_reserved p.unit) (pieces (raws blocks)) ≡ true
  reserved_cause taken =
      let w = covered blocks taken.unit taken.of in
      some_passes (λ p. known.is_reserved p.unit) blocks w.0 taken.unit w.1 (knows.is_reserved taken.unit ∙ ap (λ o. option_map_or is_taken o false) taken.is ∙ some_some taken.unit_holding.reserving taken.reserved)

  -- what may be reserved is refused for none of these
  pub may_refusals : MayReserve held account blocks → first_of (holding_refusals scheme c known account (raws blocks)) ≡ None
  may_refusals may = rw (open_cause may.open_account, held_cause may.held_so, free_cause may.held_so may.free) refl

  -- the first of them is the reason why they may not
  pub reserve_refusals : (code : ℕ) → IsReserveRefusal held account blocks code → first_of (holding_refusals scheme c known account (raws blocks)) ≡ Some code
  reserve_refusals code (inl (e, shut)) = rw (shut_cause shut) (ap Some (sym e))
  reserve_refusals code (inr (inl (e, open', lack))) = rw (open_cause open', lacking_cause lack) (ap Some (sym e))
  reserve_refusals code (inr (inr (e, open', all, taken))) = rw (open_cause open', held_cause all, reserved_cause taken) (ap Some (sym e))

-- ---- the canonical form

-- a unit of the canonical form is one of the blocks
canonical_unit : (blocks canon : List Block) → raws canon ≡ canonical (raws blocks) → (b : Block) (s : Serial) → IsUnitOf canon b s → (a : Block) × IsUnitOf blocks a s × (b.raw.kind ≡ a.raw.kind)
canonical_unit blocks canon e b s is =
    let i = subst (λ rs. In (unit_as s b) (pieces rs)) e (piece_in canon b s is) in
    block_with blocks (unit_as s b) (canonical_from (raws blocks) (raws_in_range blocks) (unit_as s b) i)

-- where blocks may be reserved, so may their canonical form
pub may_canonical : (held : HoldingsView) (account : ℕ) (blocks canon : List Block) → raws canon ≡ canonical (raws blocks) → MayReserve held account blocks → MayReserve held account canon
may_canonical held account blocks canon e may = record {
  open_account = may.open_account;
  held_so = λ b s is. let w = canonical_unit blocks canon e b s is in subst (λ k. IsHeldAs held account k s) (sym w.2) (may.held_so w.0 s w.1);
  free = λ s unit_holding h is.
      let b = covered canon s h in
      let w = canonical_unit blocks canon e b.0 s b.1 in
      may.free s unit_holding (covers_from blocks w.0 s w.1.among w.1.has) is;
}
