use Rattle.world.proofs.Opening.{nodes_opened}
use Rattle.world.proofs.stations.opening_stations.Goals as goal

pub returns-in-Ok-clause-nodes : goal.returns-in-Ok-clause-nodes
returns-in-Ok-clause-nodes c = nodes_opened c.add_opening_stations.new.stations.items c.args.scheme.now.members c.in-Ok.ensures.opens
