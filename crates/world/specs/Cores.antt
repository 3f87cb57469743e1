-- A node's core as contracts see it: its scheme, its node and its journal.
use Rattle.std.specs.Prelude.{List}
use Rattle.units.specs.declared.code.Node.{Node}
use Rattle.units.specs.declared.code.Node.TheVariants as nodes
use Rattle.wire.specs.declared.input.Input.{Input}
use Rattle.scheme.specs.declared.registries.Scheme.{Scheme}
use Rattle.world.specs.declared.any_core.Core.{Core}
use Rattle.world.specs.declared.any_core.Core.TheVariants.{Registry, Log}

abbrev pub scheme_of : Core → Scheme
scheme_of (Registry r) = r.scheme
scheme_of (Log l) = l.scheme

abbrev pub node_of : Core → Node
node_of (Registry r) = nodes.Registry r.code
node_of (Log l) = nodes.Itl

abbrev pub journal_of : Core → List Input
journal_of (Registry r) = r.journal
journal_of (Log l) = l.journal
