use Rattle.std.proofs.Common.{take}
use Rattle.serde_json.specs.View.{items_view}
use Rattle.json_fields.specs.Fields.{EachIs}
use Rattle.scheme.specs.Grammar.{HasNoTwins, IsKind}
use Rattle.scheme.proofs.grammar.different_kinds.Given as goal

abbrev pub invariant-loop-value : goal.invariant-loop-value
invariant-loop-value l = EachIs IsKind (items_view (take l.value-index l.values)) l.kinds.items × HasNoTwins l.kinds.items
