-- Who holds a unit, found along the allotments of a registry.
use Rattle.std.proofs.Common.{◌≡◌, ℕ, ◌+◌, ◌<◌, List, length, get_or, drop, Option, Some, None, option_map, sym, ap, ◌∙◌}
use Rattle.std.specs.Option.{option_or}
use Rattle.std.specs.List.{find}
use Rattle.std.proofs.lemmas.List.{at_drop_more}
use Rattle.units.specs.Unit.{has_unit}
use Rattle.units.specs.declared.block.Block.{Block}
use Rattle.units.specs.declared.block.Unit.{Unit as Serial}
use Rattle.units.specs.declared.code.Code.{Code}
use Rattle.scheme.specs.Allotted.{holder, allotted_in}
use Rattle.scheme.specs.declared.members.Allotment.{Allotment}
use Rattle.scheme.specs.declared.members.Holder.{Holder}

module _ (code : Code) (unit : Serial) (all : List Allotment) (i : ℕ) (x : Allotment) (lt : i < length all) (is : x ≡ get_or all i x) where
  abbrev here : Option Block → Option Holder
  here found = option_map (λ (b : Block). holder code x.account b.raw.kind) found

  next : allotted_in code (drop i all) unit ≡ option_or (here (find (λ b. has_unit b.raw unit) x.units)) (allotted_in code (drop (i + 1) all) unit)
  next =
      at_drop_more (λ (l : List Allotment). allotted_in code l unit) all i x lt
      ∙ ap (λ (y : Allotment). option_or (option_map (λ (b : Block). holder code y.account b.raw.kind) (find (λ b. has_unit b.raw unit) y.units)) (allotted_in code (drop (i + 1) all) unit)) (sym is)

  pub found_here : (b : Block) → allotted_in code (drop i all) unit ≡ allotted_in code all unit → Some b ≡ find (λ b. has_unit b.raw unit) x.units → Some (holder code x.account b.raw.kind) ≡ allotted_in code all unit
  found_here b rest found = ap (λ (o : Option Block). option_or (here o) (allotted_in code (drop (i + 1) all) unit)) found ∙ sym next ∙ rest

  pub none_here : allotted_in code (drop i all) unit ≡ allotted_in code all unit → None ≡ find (λ b. has_unit b.raw unit) x.units → allotted_in code (drop (i + 1) all) unit ≡ allotted_in code all unit
  none_here rest found = ap (λ (o : Option Block). option_or (here o) (allotted_in code (drop (i + 1) all) unit)) found ∙ sym next ∙ rest
