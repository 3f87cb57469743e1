use Rattle.std.proofs.Common.{◌∙◌, ap, sym}
use Rattle.std.specs.Option.{option_copied}
use Rattle.units.proofs.UnitLines.{itself}
use Rattle.units.proofs.unit_map.finding.next.Goals as goal

pub returns-in-Some-clause-found : goal.returns-in-Some-clause-found
returns-in-Some-clause-found g c = (sym c.get.ensures.value ∙ ap option_copied c.in-Some.is, itself c.args.unit)

pub returns-in-Some-clause-first : goal.returns-in-Some-clause-first
returns-in-Some-clause-first g c = λ q up some. up
