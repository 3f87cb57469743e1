use Rattle.std.proofs.lemmas.Str.Pattern.{split_parts}
use Rattle.units.proofs.Cuts.{parts_some, parts_none}
use Rattle.units.proofs.text.cut.Goals as goal

pub returns-clause-some : goal.returns-clause-some
returns-clause-some c = parts_some c.args.at c.args.text.now c.split_once.result (split_parts c.args.at c.args.text.now c.split_once.result c.split_once.ensures.cases c.requires)

pub returns-clause-none : goal.returns-clause-none
returns-clause-none c = parts_none c.args.at c.args.text.now c.split_once.result (split_parts c.args.at c.args.text.now c.split_once.result c.split_once.ensures.cases c.requires)
