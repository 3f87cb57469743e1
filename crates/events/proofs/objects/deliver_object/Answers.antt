use Rattle.std.proofs.Common.{◌++◌, codes, decimal, ap, ◌∙◌}
use Rattle.events.proofs.ObjectLines.{three_more}
use Rattle.events.proofs.objects.deliver_object.Goals as goal

pub returns : goal.returns
returns c = c.in_ok-format.ensures.ok ∙ ap (λ l. codes "{\"event\":\"deliver\",\"message\":" ++ l) (three_more (decimal c.args.message) (codes ",\"moment\":") (decimal c.args.moment.seconds) (codes "}\n"))
