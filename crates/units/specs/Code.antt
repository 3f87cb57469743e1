-- The texts of registry codes and nodes.
use Rattle.std.specs.Prelude.{ℕ, List, [], ◌∷◌, Bool, true, false, ◌==◌, ◌&&◌, codes}
use Rattle.units.specs.declared.code.Code.{Code}
use Rattle.units.specs.declared.code.Node.{Node}
use Rattle.units.specs.declared.code.Node.TheVariants.{Itl, Registry}

-- the two letters of a code
abbrev pub code_text : Code → List ℕ
code_text c = c.first ∷ c.second ∷ []

-- a registry by its code, the log as ITL
abbrev pub node_text : Node → List ℕ
node_text Itl = codes "ITL"
node_text (Registry c) = code_text c

abbrev pub same_code : Code → Code → Bool
same_code a b = (a.first == b.first) && (a.second == b.second)

abbrev pub same_node : Node → Node → Bool
same_node Itl Itl = true
same_node (Registry a) (Registry b) = same_code a b
same_node _ _ = false
