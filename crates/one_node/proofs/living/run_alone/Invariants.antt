use Rattle.one_node.specs.Lives.{opens_with}
use Rattle.one_node.proofs.living.run_alone.Given as goal

-- the desk opens with the records that the node was loaded with
abbrev pub ghosts-live : goal.ghosts-live
ghosts-live g a = record { opened = opens_with a.setting.now.scheme.now a.loaded.state.node a.loaded.state.journal }
