use Rattle.std.proofs.Common.{◌++◌, codes, decimal, ap, ◌∙◌}
use Rattle.units.specs.Code.{node_text}
use Rattle.events.proofs.ObjectLines.{three_more}
use Rattle.events.proofs.objects.post_object.Goals as goal

pub returns : goal.returns
returns c = c.in_ok-format.ensures.ok ∙ ap (λ l. codes "{\"event\":\"post\",\"key\":" ++ l) (three_more (decimal c.args.key) (codes ",\"node\":\"") (node_text c.args.node) (codes "\"}\n"))
