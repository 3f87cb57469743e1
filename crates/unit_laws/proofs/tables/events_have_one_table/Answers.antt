use Rattle.protocol.specs.World.{opening, run}
use Rattle.unit_laws.proofs.TableOfWorld.{one_table}
use Rattle.unit_laws.proofs.tables.events_have_one_table.Goals as goal

pub returns : goal.returns
returns c = λ scheme events. one_table (run (opening scheme) events)
