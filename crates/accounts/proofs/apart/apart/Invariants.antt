use Rattle.std.proofs.Common.{◌≡◌, Some, take}
use Rattle.std.specs.FinMap.{get}
use Rattle.units.specs.Unit.{covers}
use Rattle.units.specs.declared.block.Block.{Block}
use Rattle.units.specs.declared.block.Kind.{Kind}
use Rattle.units.specs.declared.block.Unit.{Unit as Serial}
use Rattle.std.specs.Option.{is_some}
use Rattle.accounts.specs.Refusals.{IsUnitOf}
use Rattle.accounts.proofs.apart.apart.Given as goal

-- the units of the blocks so far are there, each with the kind of one of its blocks
abbrev pub invariant-loop-block : goal.invariant-loop-block
invariant-loop-block l = record {
  there : (s : Serial) → is_some (get l.kinds s) ≡ covers (take l.block-index l.blocks) s;
  kinds : (s : Serial) (k : Kind) → get l.kinds s ≡ Some k → (b : Block) × IsUnitOf (take l.block-index l.blocks) b s × (b.raw.kind ≡ k);
}
