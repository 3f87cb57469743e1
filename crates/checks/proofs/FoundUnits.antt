-- The findings of an acquirer, by the registry's holdings.
use Rattle.std.proofs.Common.{◌≡◌, ℕ, zero, suc, ◌-◌, List, [], ◌∷◌, Bool, true, false, true≢false, not, cond, Option, Some, None, IsSome, is_some, is_none, IsTrue, ◌&&◌, ◌||◌, refl, sym, ap, ◌∙◌, arith, map}
use Rattle.std.specs.Bool.{OnTrue, OnFalse}
use Rattle.std.specs.FinMap.{get}
use Rattle.std.specs.List.{list_any}
use Rattle.std.specs.Option.{option_map}
use Rattle.std.proofs.Math.Bool.{or-false}
use Rattle.std.proofs.lemmas.List.Folds.{list_any-append}
use Rattle.units.specs.Unit.{covers}
use Rattle.units.specs.declared.block.Block.{Block}
use Rattle.units.specs.declared.block.Kind.{Kind}
use Rattle.units.specs.declared.block.RawBlock.{RawBlock}
use Rattle.units.specs.declared.block.Unit.{Unit as Serial}
use Rattle.units.specs.declared.code.Code.{Code}
use Rattle.status.specs.Content.{Content, raws}
use Rattle.accounts.proofs.Blocks.{covered, covers_from}
use Rattle.accounts.specs.Holdings.{HoldingsView, is_open}
use Rattle.accounts.specs.declared.unit_holding.AccountStatus.{AccountStatus}
use Rattle.accounts.specs.declared.unit_holding.AccountStatus.TheVariants.{Open, Closed}
use Rattle.scheme.specs.declared.registries.Scheme.{Scheme}
use Rattle.protocol.specs.Checks.{Holding, acquirer_findings, codes_of}
use Rattle.protocol.specs.Registries.{has_account, takes_kind}
use Rattle.units.specs.RefusalCodes.{receiver_unknown, receiver_closed, unit_already_held, kind_not_taken}
use Rattle.protocol.specs.Pieces.{Piece, piece, pieces, pieces_of, up_from}
use Rattle.checks.proofs.PiecesOfBlocks.{some_passes, none_passes}
use Rattle.checks.specs.Knowing.{Knows}

-- ---- accounts

unknown_told : (has closed : Bool) → is_none (option_map is_open (cond has (Some (cond closed Closed Open)) None)) ≡ not has
unknown_told true closed = refl
unknown_told false closed = refl

pub is_unknown : (o : Option AccountStatus) (has closed : Bool) → o ≡ cond has (Some (cond closed Closed Open)) None → is_none (option_map is_open o) ≡ not has
is_unknown o has closed e = ap (λ p. is_none (option_map is_open p)) e ∙ unknown_told has closed

abbrev pub is_shut : Option Bool → Bool
is_shut None = false
is_shut (Some open') = not open'

shut_told : (has closed : Bool) → is_shut (option_map is_open (cond has (Some (cond closed Closed Open)) None)) ≡ (has && closed)
shut_told true true = refl
shut_told true false = refl
shut_told false closed = refl

pub is_closed : (o : Option AccountStatus) (has closed : Bool) → o ≡ cond has (Some (cond closed Closed Open)) None → is_shut (option_map is_open o) ≡ (has && closed)
is_closed o has closed e = ap (λ p. is_shut (option_map is_open p)) e ∙ shut_told has closed

-- ---- units that are held

module _ (scheme : Scheme) (c : Code) (held : HoldingsView) (known : Holding) (knows : Knows scheme c held known) (blocks : List Block) where
  pub held_told : (b : Bool) → OnTrue b ((s : Serial) × IsTrue (covers blocks s) × IsSome (get held.unit_holdings s)) → OnFalse b ((s : Serial) → IsTrue (covers blocks s) → get held.unit_holdings s ≡ None)
      → b ≡ list_any (λ p. known.is_held p.unit) (pieces (raws blocks))
  held_told true some none =
      let w = covered blocks some.0 some.1 in
      sym (some_passes (λ p. known.is_held p.unit) blocks w.0 some.0 w.1 (knows.is_held some.0 ∙ some.2))
  held_told false some none =
      sym (none_passes (λ p. known.is_held p.unit) blocks (λ b p is kind e.
      true≢false (sym e ∙ knows.is_held p.unit ∙ ap is_some (none p.unit (covers_from blocks b p.unit is.among is.has)))))

-- ---- kinds

both_alike : (x y : Bool) → y ≡ x → (x || y) ≡ x
both_alike true y e = refl
both_alike false y e = e

one_kind : (test : Kind → Bool) (b : RawBlock) (from count : ℕ) → list_any (λ (p : Piece). test p.kind) (map (piece b) (up_from from (suc count))) ≡ test b.kind
one_kind test b from zero = or-false (test b.kind)
one_kind test b from (suc count) = both_alike (test b.kind) (list_any (λ (p : Piece). test p.kind) (map (piece b) (up_from (suc from) (suc count)))) (one_kind test b (suc from) count)

kind_of_block : (test : Kind → Bool) (b : Block) → list_any (λ (p : Piece). test p.kind) (pieces_of b.raw) ≡ test b.raw.kind
kind_of_block test b =
    let r = b.in_range.1 in
    let e : suc b.raw.last - b.raw.first ≡ suc (b.raw.last - b.raw.first) = omega (arith, r) in
    ap (λ n. list_any (λ (p : Piece). test p.kind) (map (piece b.raw) (up_from b.raw.first n))) e ∙ one_kind test b.raw b.raw.first (b.raw.last - b.raw.first)

-- a test of the kinds of blocks is one of the kinds of their units
pub kinds_told : (test : Kind → Bool) (blocks : List Block) → list_any (λ b. test b.raw.kind) blocks ≡ list_any (λ p. test p.kind) (pieces (raws blocks))
kinds_told test [] = refl
kinds_told test (b ∷ bs) = sym
    (list_any-append (λ (p : Piece). test p.kind) (pieces_of b.raw) (pieces (raws bs)) ∙ ap (λ x. x || list_any (λ (p : Piece). test p.kind) (pieces (raws bs))) (kind_of_block test b) ∙ ap (λ x. test b.raw.kind || x) (sym (kinds_told test bs)))

-- ---- all findings

pub found_by : (scheme : Scheme) (c : Code) (known : Holding) (k : Content) (unknown shut held untaken : Bool) (found : List ℕ)
    → unknown ≡ not (has_account scheme c k.to_account) → shut ≡ (has_account scheme c k.to_account && known.is_closed k.to_account) → held ≡ list_any (λ p. known.is_held p.unit) (pieces k.units)
    → untaken ≡ list_any (λ p. not (takes_kind scheme c p.kind)) (pieces k.units) → found ≡ codes_of ((unknown, receiver_unknown) ∷ (shut, receiver_closed) ∷ (held, unit_already_held) ∷ (untaken, kind_not_taken) ∷ [])
    → found ≡ acquirer_findings scheme c known k
found_by scheme c known k unknown shut held untaken found e1 e2 e3 e4 h = h ∙ rw (e1, e2, e3, e4) refl
