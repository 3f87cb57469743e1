use Rattle.std.proofs.Common.{take}
use Rattle.serde_json.specs.View.{items_view}
use Rattle.json_fields.specs.Fields.{EachIs}
use Rattle.wire.specs.Reading.{IsCodeItem}
use Rattle.wire_objects.proofs.lists.each_code.Given as goal

abbrev pub invariant-loop-value : goal.invariant-loop-value
invariant-loop-value l = EachIs IsCodeItem (items_view (take l.value-index l.values)) l.codes.items
