use Rattle.std.proofs.Common.{rules}
use Rattle.tags.proofs.key_file.add_line.Goals as goal

pub returns-clause-ok : goal.returns-clause-ok
returns-clause-ok c = search rules
