use Rattle.std.proofs.Common.{refl}
use Rattle.units.specs.declared.code.Node.TheVariants.{Registry}
use Rattle.registry_core.proofs.TakenAcknowledgements.{takes_acknowledged}
use Rattle.registry_core.proofs.tables.Tables.acknowledge.Goals as goal

pub returns : goal.returns
returns c =
    let was = c.args.self.now in
    takes_acknowledged was.scheme was.code was _ c.args.key c.requires.kept refl refl refl c.args.input.now c.acknowledge.result c.requires.input refl refl (c.acknowledge.ensures (Registry was.code) c.requires.kept.records)
