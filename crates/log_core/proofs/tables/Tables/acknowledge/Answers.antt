use Rattle.std.proofs.Common.{refl}
use Rattle.units.specs.declared.code.Node.TheVariants.{Itl}
use Rattle.log_core.proofs.TakenAcknowledgements.{takes_acknowledged}
use Rattle.log_core.proofs.tables.Tables.acknowledge.Goals as goal

pub returns : goal.returns
returns c =
    let was = c.args.self.now in
    takes_acknowledged was.scheme was _ c.args.key c.requires.kept refl refl refl c.args.input.now c.acknowledge.result c.requires.input refl (c.acknowledge.ensures Itl c.requires.kept.records)
