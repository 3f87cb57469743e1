use Rattle.std.proofs.Common.{refl}
use Rattle.one_node.proofs.Ending.{opens}
use Rattle.one_node.proofs.living.run_alone.Goals as goal

pub live-requires-clause-may_open : goal.live-requires-clause-may_open
live-requires-clause-may_open g c = λ lifetimes live. opens g.N.Store.NodeStore c.args.setting.now.scheme.now c.args.loaded c.requires.opened

pub live-requires-clause-opens : goal.live-requires-clause-opens
live-requires-clause-opens g c = λ lifetimes live. λ scheme n journal faults is. is
