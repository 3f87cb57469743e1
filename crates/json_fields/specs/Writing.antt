-- The tokens of values, written one after another.
use Rattle.std.specs.Prelude.{List, [], ◌∷◌, ◌++◌}
use Rattle.std.specs.List.{flat_map}
use Rattle.json.specs.Token.{key}
use Rattle.json.specs.Tree.{json_tokens}
pub use Rattle.json.specs.Lex.{tokens}
pub use Rattle.json.specs.Print.{print}
pub use Rattle.json.specs.Token.{Token}
pub use Rattle.json.specs.Tree.{depth}
use Rattle.serde_json.specs.Data.{Data}
use Rattle.serde_json.specs.Written.{outline}
use Rattle.json_fields.specs.Objects.{Field}

-- the tokens of a value
abbrev pub data_tokens : Data → List Token
data_tokens d = json_tokens (outline d)

-- the tokens of a value for each element; no public contract cites it
abbrev pub each_tokens : {X : Type 0} → (X → Data) → List X → List Token
each_tokens f xs = flat_map (λ x. data_tokens (f x)) xs

-- these tokens, and then a field's
abbrev pub after_field : List Token → Field → List Token
after_field ts f = (ts ++ key f.0 ∷ []) ++ data_tokens f.1

-- these tokens, and then those of each field; no public contract cites it
abbrev pub after_fields : List Token → List Field → List Token
after_fields ts [] = ts
after_fields ts (f ∷ fs) = after_fields (after_field ts f) fs
