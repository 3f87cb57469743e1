use Rattle.std.proofs.Common.{◌∙◌, ap, sym}
use Rattle.std.specs.Option.{option_copied}
use Rattle.units.proofs.UnitLines.{gt_false, itself, lt_false_from}
use Rattle.units.proofs.unit_map.finding.floor.Goals as goal

pub returns-in-Some-clause-found : goal.returns-in-Some-clause-found
returns-in-Some-clause-found g c = (sym c.get.ensures.value ∙ ap option_copied c.in-Some.is, itself c.args.unit)

pub returns-in-Some-clause-last : goal.returns-in-Some-clause-last
returns-in-Some-clause-last g c = λ q up some. lt_false_from c.args.unit q (gt_false q c.args.unit up)
