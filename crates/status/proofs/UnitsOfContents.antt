-- The units of blocks without the proofs that the blocks carry.
use Rattle.std.proofs.Common.{◌≡◌, ◌||◌, List, [], ◌∷◌, refl, ap, ◌∙◌}
use Rattle.units.specs.Unit.{has_unit, have_unit, covers}
use Rattle.units.specs.declared.block.Block.{Block}
use Rattle.units.specs.declared.block.RawBlock.{RawBlock}
use Rattle.units.specs.declared.block.Unit.{Unit as Serial}
use Rattle.status.specs.Content.{raws}

pub covered : (blocks : List Block) (units : List RawBlock) (s : Serial) → raws blocks ≡ units → covers blocks s ≡ have_unit units s
covered blocks units s e = go blocks ∙ ap (λ l. have_unit l s) e
  where
    go : (bs : List Block) → covers bs s ≡ have_unit (raws bs) s
    go [] = refl
    go (b ∷ bs) = ap (λ r. has_unit b.raw s || r) (go bs)
