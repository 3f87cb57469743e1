-- The states that the records of stores lead to.
use Rattle.node_state.specs.Views.{StateView, opened_with}
use Rattle.world.specs.Cores.{journal_of, node_of, scheme_of}
use Rattle.world.specs.declared.any_core.Core.{Core}

-- the state of a core whose whole journal was there at the opening; no public contract cites it
abbrev pub opened_core : Core → StateView
opened_core core = opened_with (scheme_of core) (node_of core) (journal_of core)
