-- A label for all units of a content's blocks.
use Rattle.std.proofs.Common.{◌≡◌, List, [], ◌∷◌, ◌||◌, Bool, true, false, cond, find, Option, Some, refl, ap, ◌∙◌}
use Rattle.std.specs.Option.{option_map_or}
use Rattle.units.specs.Unit.{has_unit, have_unit, covers}
use Rattle.units.specs.declared.block.Block.{Block}
use Rattle.units.specs.declared.block.RawBlock.{RawBlock}
use Rattle.units.specs.declared.block.Unit.{Unit as Serial}
use Rattle.status.proofs.UnitsOfContents.{covered}
use Rattle.status.specs.Content.{raws}

module _ {M : Type 0} (label : M) (s : Serial) (old : Option M) where
  found : (blocks : List Block) → option_map_or (λ (b : Block). Some label) (find (λ (b : Block). has_unit b.raw s) blocks) old ≡ cond (covers blocks s) (Some label) old
  found [] = refl
  found (b ∷ bs) = go (has_unit b.raw s) (found bs)
    where
      go : (h : Bool) → option_map_or (λ (d : Block). Some label) (find (λ (d : Block). has_unit d.raw s) bs) old ≡ cond (covers bs s) (Some label) old
          → option_map_or (λ (d : Block). Some label) (cond h (Some b) (find (λ (d : Block). has_unit d.raw s) bs)) old ≡ cond (h || covers bs s) (Some label) old
      go true rest = refl
      go false rest = rest

pub one_label : {M : Type 0} (label : M) (blocks : List Block) (units : List RawBlock) (s : Serial) (old : Option M) → raws blocks ≡ units
    → option_map_or (λ (b : Block). Some label) (find (λ (b : Block). has_unit b.raw s) blocks) old ≡ cond (have_unit units s) (Some label) old
one_label label blocks units s old is = found label s old blocks ∙ ap (λ b. cond b (Some label) old) (covered blocks units s is)
