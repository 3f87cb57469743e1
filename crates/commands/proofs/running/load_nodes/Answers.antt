use Rattle.protocol.specs.Registries.{nodes}
use Rattle.commands.proofs.InFolder.{own_are, whose_are}
use Rattle.commands.proofs.running.load_nodes.Goals as goal

pub load_run-loaded-requires-clause-whose : goal.load_run-loaded-requires-clause-whose
load_run-loaded-requires-clause-whose g c = whose_are g.A.Archive c.args.archive.now g.A.Store.NodeStore c.args.folder.now (nodes c.args.scheme.now) c.in_ok-stores.stores.items c.in_ok-stores.ensures.ok

pub load_run-loaded-requires-clause-own : goal.load_run-loaded-requires-clause-own
load_run-loaded-requires-clause-own g c = own_are g.A.Archive c.args.archive.now g.A.Store.NodeStore c.args.folder.now (nodes c.args.scheme.now) c.in_ok-stores.stores.items c.in_ok-stores.ensures.ok
