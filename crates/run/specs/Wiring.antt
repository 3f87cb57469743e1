-- Which nodes send to which. No public contract cites it.
use Rattle.std.specs.Prelude.{List, [], ◌∷◌, map}
use Rattle.units.specs.declared.code.Node.{Node}

-- for the log, and for each registry after it, the nodes that it sends to: the log to all registries, a registry to the
-- log
abbrev pub peers_of : List Node → List (List Node)
peers_of [] = []
peers_of (log ∷ registries) = registries ∷ map (λ r. log ∷ []) registries
