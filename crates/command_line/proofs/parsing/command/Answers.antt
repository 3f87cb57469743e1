use Rattle.std.proofs.Common.{refl}
use Rattle.clap.specs.Words.{app_of}
use Rattle.command_line.specs.Words.{kyoto_link, with_auditors}
use Rattle.command_line.proofs.SubcommandTables.{before_all, one_more}
use Rattle.command_line.proofs.parsing.command.Goals as goal

pub loop-subcommand-init : goal.loop-subcommand-init
loop-subcommand-init c = before_all with_auditors kyoto_link _ _ c.in_ok-program.ensures refl

pub loop-subcommand-preserved : goal.loop-subcommand-preserved
loop-subcommand-preserved c =
    let added = c.in_ok-program-2.ensures (app_of c.loop-subcommand.program) (refl, c.loop-subcommand.invariant.local) in
    one_more kyoto_link _ c.loop-subcommand.subcommand-index _ c.loop-subcommand.program _ c.loop-subcommand-test.true c.loop-subcommand.invariant added
