use Rattle.std.proofs.Common.{take}
use Rattle.serde_json.specs.View.{items_view}
use Rattle.json_fields.specs.Fields.{EachIs}
use Rattle.wire.specs.Reading.{IsBlockItem}
use Rattle.wire_objects.proofs.lists.each_block.Given as goal

abbrev pub invariant-loop-value : goal.invariant-loop-value
invariant-loop-value l = EachIs IsBlockItem (items_view (take l.value-index l.values)) l.blocks.items
