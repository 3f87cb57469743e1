-- A station of the code as a station of the protocol.
use Rattle.std.specs.Prelude.{[], List, map, take, drop, true}
use Rattle.scheme.specs.declared.registries.Scheme.{Scheme}
use Rattle.protocol.specs.World as worlds
use Rattle.world.specs.Cores.{journal_of, node_of}
use Rattle.world.specs.declared.any_core.Core.{Core}
use Rattle.world.specs.declared.station.Station.{Station}

-- its node, its journal with the first records committed, and whether it runs
abbrev pub station_of : Station → worlds.Station
station_of s = record { node = node_of s.core; committed = take s.committed (journal_of s.core); tail = drop s.committed (journal_of s.core); runs = s.runs }

-- a running node that has committed nothing of the core's journal
abbrev pub uncommitted_station : Core → worlds.Station
uncommitted_station core = record { node = node_of core; committed = []; tail = journal_of core; runs = true }

-- the world of these cores' nodes, in which nothing is committed and nothing posted
abbrev pub uncommitted : Scheme → List Core → worlds.World
uncommitted scheme cores = record { scheme = scheme; stations = map uncommitted_station cores; bag = [] }
