-- An account is used exactly when a unit's holding is in it: the units that were ever in play are enough, since one
-- that is held was allotted or came by a transfer.
use Rattle.std.specs.FinMap as map
use Rattle.scheme.specs.Allotted as start
use Rattle.std.proofs.lemmas.List.Folds.{list_any-append}
use Rattle.scheme.specs.declared.members.Allotment.{Allotment}
use Rattle.units.specs.declared.block.Block.{Block}
use Rattle.std.proofs.Common.{Bool, List, None, Option, Some, [], ap, arith, cond, false, flat_map, inl, inr, not, refl, subst, sym, true, ℕ, ◌&&◌, ◌+◌, ◌==◌, ◌||◌, ◌∙◌, ◌∷◌, ◌≡◌}
use Rattle.units.specs.declared.code.Code.{Code}
use Rattle.status.specs.declared.status.Status.TheVariants.{Completed}
use Rattle.status.specs.Content.{Content, raws}
use Rattle.accounts.specs.Refusals.{HasUnits}
use Rattle.accounts.specs.Holdings.{HoldingsView}
use Rattle.scheme.specs.declared.members.Holder.{Holder}
use Rattle.units.proofs.Lists.Membership.{In, In_left, In_right}
use Rattle.accounts.specs.declared.unit_holding.UnitHolding.{UnitHolding}
use Rattle.scheme.specs.declared.members.SchemeRegistry.{SchemeRegistry}
use Rattle.protocol.specs.Pieces.{Piece, pieces}
use Rattle.protocol.specs.History.{Position, Transition, at_start, carries, credits, gives, has_serial, holds, is_with, position, reserver}
use Rattle.scheme.specs.declared.registries.Scheme.{Scheme}
use Rattle.units.specs.declared.block.Unit.{Unit as Serial}
use Rattle.scheme.specs.Order.{all_blocks, blocks_of}
use Rattle.protocol.specs.Registries.{allotted}
use Rattle.scheme.specs.Allotted.{holder, allotted_in}
use Rattle.std.proofs.lemmas.Bool.{and_from, and_parts, cases_Bool, eq-eqb, eqb-true}
use Rattle.safety.proofs.OneRegistry.UnitHoldingsOfUnits.{held_position, unit_holding_of_held, unit_holding_parts}
use Rattle.safety.proofs.ListLemmas.FirstFound.{any_found}
use Rattle.std.specs.List.{count_by}
use Rattle.units.specs.Unit.{covers, has_unit}
use Rattle.safety.proofs.OneRegistry.StepsOfUnitHoldings.{covers_raws}
use Rattle.std.specs.Prelude.{find, is_some, option_map}
use Rattle.protocol.specs.AtRegistry.{is_used, seen}
use Rattle.units.proofs.Lists.SomePass.{list_any_some, list_any_in}
use Rattle.protocol.specs.Held.{unit_holding_at, unit_holding_in}
use Rattle.protocol.proofs.CountsInLists.{number_some}
use Rattle.std.specs.Option.{option_map_or, option_or}
use Rattle.protocol.proofs.UnitsOfBlocks.{piece_of}
use Rattle.units.specs.Code.{same_code}
use Rattle.status.specs.Status.{same_status}

pub or_some : {X : Type 0} (a b : Option X) → is_some (option_or a b) ≡ (is_some a || is_some b)
or_some None b = refl
or_some (Some x) b = refl

flat_map_In : {X A : Type 0} (f : X → List A) (a : A) (x : X) (xs : List X) → In x xs → In a (f x) → In a (flat_map f xs)
flat_map_In f a x [] i h = absurd i
flat_map_In f a x (y ∷ ys) (inl e) h = In_left a (f y) (flat_map f ys) (subst (λ z. In a (f z)) (sym e) h)
flat_map_In f a x (y ∷ ys) (inr i) h = In_right a (f y) (flat_map f ys) (flat_map_In f a x ys i h)

module _ (s : Serial) where
  -- a unit is allotted exactly when the blocks have it
  pub allotted_in_blocks : (code : Code) (parts : List Allotment) → is_some (allotted_in code parts s) ≡ covers (blocks_of parts) s
  allotted_in_blocks code [] = refl
  allotted_in_blocks code (a ∷ parts) =
      or_some (option_map (λ (b : Block). holder code a.account b.raw.kind) (find (λ (b : Block). has_unit b.raw s) a.units)) (allotted_in code parts s)
      ∙ ap (λ t. t || is_some (allotted_in code parts s)) (sym (any_found (λ (b : Block). has_unit b.raw s) (λ (b : Block). holder code a.account b.raw.kind) a.units))
      ∙ ap (λ t. covers a.units s || t) (allotted_in_blocks code parts)
      ∙ sym (list_any-append (λ (b : Block). has_unit b.raw s) a.units (blocks_of parts))

  pub allotted_blocks : (ms : List SchemeRegistry) → is_some (start.allotted ms s) ≡ covers (all_blocks ms) s
  allotted_blocks [] = refl
  allotted_blocks (m ∷ ms) =
      or_some (allotted_in m.code m.allotted s) (start.allotted ms s)
      ∙ ap (λ t. t || is_some (start.allotted ms s)) (allotted_in_blocks m.code m.allotted)
      ∙ ap (λ t. covers (blocks_of m.allotted) s || t) (allotted_blocks ms)
      ∙ sym (list_any-append (λ (b : Block). has_unit b.raw s) (blocks_of m.allotted) (all_blocks ms))

  carried_piece : (k : Option Content) → has_serial k s ≡ true → (p : Piece) × In p (option_map_or (λ (k : Content). pieces k.units) k []) × (p.unit ≡ s)
  carried_piece None e = absurd (cc (e))
  carried_piece (Some k) e = piece_of k.units s e

  with_some : (c : Code) (h : Option Holder) → is_with c h ≡ true → is_some h ≡ true
  with_some c None e = absurd (cc (e))
  with_some c (Some h) e = refl

  module _ (scheme : Scheme) (c : Code) (xs : List Transition) where
    moves_seen : (x : Transition) → In x xs → carries x s ≡ true → (p : Piece) × In p (seen scheme xs) × (p.unit ≡ s)
    moves_seen x i h =
        let p = carried_piece x.content h in
        let all = pieces (raws (all_blocks scheme.members)) in
        let moved_units = λ (y : Transition). option_map_or (λ (k : Content). pieces k.units) y.content [] in
        (p.0, In_right p.0 all (flat_map moved_units xs) (flat_map_In moved_units p.0 x xs i p.1), p.2)

    start_seen : is_some (allotted scheme s) ≡ true → (p : Piece) × In p (seen scheme xs) × (p.unit ≡ s)
    start_seen h =
        let p = piece_of (raws (all_blocks scheme.members)) s (covers_raws (all_blocks scheme.members) s ∙ sym (allotted_blocks scheme.members) ∙ h) in
        (p.0, In_left p.0 (pieces (raws (all_blocks scheme.members))) (flat_map (λ (y : Transition). option_map_or (λ (k : Content). pieces k.units) y.content []) xs) p.1, p.2)

    -- a unit that is held was in play
    pub held_seen : holds scheme c xs s ≡ true → (p : Piece) × In p (seen scheme xs) × (p.unit ≡ s)
    held_seen h =
        let e = eqb-true (at_start scheme c s + count_by (credits c s) xs) (count_by (gives c s) xs + 1) h in
        elim (cases_Bool (is_with c (allotted scheme s))) [
          | inl y ↦ start_seen (with_some c (allotted scheme s) y)
          | inr n ↦
              let none : at_start scheme c s ≡ 0 = ap (λ b. cond b 1 0) n in
              let x = number_some (credits c s) xs (omega arith) in
              let carried = (and_parts (not (same_code x.0.id.code c)) (carries x.0 s) (and_parts (same_status x.0.new Completed) (not (same_code x.0.id.code c) && carries x.0 s) x.2).1).1 in
              moves_seen x.0 x.1 carried
        ]

-- a unit's holding in the account
pub record UnitHoldingIn (scheme : Scheme) (c : Code) (xs : List Transition) (account : ℕ) : Type 0 where
  pub unit : Serial
  pub unit_holding : UnitHolding
  pub is : unit_holding_at scheme c xs unit ≡ Some unit_holding
  pub account_is : unit_holding.account ≡ account

module _ (scheme : Scheme) (c : Code) (xs : List Transition) (account : ℕ) where
  abbrev is_in_account : Option Position → Bool
  is_in_account q = option_map_or (λ q. q.account == account) q false

  pub used_unit_holding : is_used scheme c xs account ≡ true → UnitHoldingIn scheme c xs account
  used_unit_holding h =
      let p = list_any_some (λ (p : Piece). holds scheme c xs p.unit && is_in_account (position scheme c xs p.unit)) (seen scheme xs) h in
      let s = p.0.unit in
      let parts = and_parts (holds scheme c xs s) (is_in_account (position scheme c xs s)) p.2 in
      let q = held_position scheme c s xs parts.0 in
      record {
        unit = s;
        unit_holding = unit_holding_in (reserver c xs s) q.0;
        is = unit_holding_of_held scheme c s xs q.0 parts.0 q.1;
        account_is = eqb-true q.0.account account (sym (ap is_in_account q.1) ∙ parts.1);
      }

  pub unit_holding_used : UnitHoldingIn scheme c xs account → is_used scheme c xs account ≡ true
  unit_holding_used l =
      let parts = unit_holding_parts scheme c l.unit xs l.unit_holding l.is in
      let q = parts.1 in
      let p = held_seen l.unit scheme c xs parts.0 in
      let here : q.0.account ≡ account = ap (λ (unit_holding : UnitHolding). unit_holding.account) q.2 ∙ l.account_is in
      let at : is_in_account (position scheme c xs l.unit) ≡ true = ap is_in_account q.1 ∙ eq-eqb q.0.account account here in
      let both = and_from (holds scheme c xs l.unit) (is_in_account (position scheme c xs l.unit)) parts.0 at in
      list_any_in (λ (p : Piece). holds scheme c xs p.unit && is_in_account (position scheme c xs p.unit)) (seen scheme xs) p.0 p.1
      (subst (λ (s : Serial). (holds scheme c xs s && is_in_account (position scheme c xs s)) ≡ true) (sym p.2) both)

  -- as holdings say it
  pub used_units : (held : HoldingsView) → ((s : Serial) → map.get held.unit_holdings s ≡ unit_holding_at scheme c xs s) → is_used scheme c xs account ≡ true → HasUnits held account
  used_units held unit_holdings h = let l = used_unit_holding h in record { unit = l.unit; unit_holding = l.unit_holding; is = unit_holdings l.unit ∙ l.is; account_is = l.account_is }

  pub units_used : (held : HoldingsView) → ((s : Serial) → map.get held.unit_holdings s ≡ unit_holding_at scheme c xs s) → HasUnits held account → is_used scheme c xs account ≡ true
  units_used held unit_holdings h = unit_holding_used (record { unit = h.unit; unit_holding = h.unit_holding; is = sym (unit_holdings h.unit) ∙ h.is; account_is = h.account_is })
