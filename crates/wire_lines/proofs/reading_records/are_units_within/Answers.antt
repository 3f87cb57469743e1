use Rattle.std.proofs.Common.{arith}
use Rattle.std.proofs.lemmas.Grind.{elements}
use Rattle.wire_lines.proofs.reading_records.are_units_within.Goals as goal

pub returns-in-Proposal : goal.returns-in-Proposal
returns-in-Proposal c = grind (arith, elements)
