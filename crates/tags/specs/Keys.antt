-- The keys that a node shares with others.
use Rattle.std.specs.Prelude.{ℕ, Bool, List, Option, bytes_eq}
use Rattle.std.specs.List.{find, list_any}
use Rattle.std.specs.Option.{option_map}
use Rattle.units.specs.Code.{same_node}
use Rattle.units.specs.declared.code.Node.{Node}

-- a node, and the bytes of the key that is shared with it
pub record NodeKey : Type 0 where
  pub node : Node
  pub key : List ℕ

-- the key that is shared with the node
abbrev pub key_of : List NodeKey → Node → Option (List ℕ)
key_of keys node = option_map (λ entry. entry.key) (find (λ entry. same_node entry.node node) keys)

-- whether one of them is that key
abbrev pub has_key : List NodeKey → List ℕ → Bool
has_key keys key = list_any (λ entry. bytes_eq entry.key key) keys
