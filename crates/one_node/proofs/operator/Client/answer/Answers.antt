use Rattle.std.proofs.Common.{◌∙◌, refl}
use Rattle.one_node.proofs.Possible.{possible}
use Rattle.one_node.proofs.operator.Client.answer.Goals as goal

pub returns-then-takes : goal.returns-then-takes
returns-then-takes g c =
    let scheme = c.args.self.now.scheme.now in
    let asked = c.ask.ensures in (
      possible scheme c.args.self.now.node c.args.instruction c.takes.result c.requires.member (c.takes.ensures scheme) ∙ c.if-takes.true,
      record { heard = asked.heard; grows = asked.grows; adds = asked.adds; notes = asked.notes },
    )

pub returns-else-takes : goal.returns-else-takes
returns-else-takes g c =
    let scheme = c.args.self.now.scheme.now in
    (possible scheme c.args.self.now.node c.args.instruction c.takes.result c.requires.member (c.takes.ensures scheme) ∙ c.if-takes.false, refl)
