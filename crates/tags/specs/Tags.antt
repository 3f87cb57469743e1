-- The tags of messages and of their replies, and lines with a tag.
use Rattle.std.specs.Prelude.{◌≡◌, ℕ, List, [], ◌∷◌, ◌++◌, length}
use Rattle.hex.specs.Hex.{encode_lower}
use Rattle.units.specs.Code.{node_text}
use Rattle.units.specs.declared.code.Node.{Node}
use Rattle.tags.specs.Hmac.{hmac}

-- from one node to another: both names, each with a space after it
abbrev pub direction : Node → Node → List ℕ
direction from to = node_text from ++ 32 ∷ node_text to ++ 32 ∷ []

-- the tag of a message from one node to another
abbrev pub message_tag : List ℕ → Node → Node → List ℕ → List ℕ
message_tag key from to text = hmac key (direction from to ++ text)

-- the tag of the reply to a message from one node to another, which goes the other way: over the message, a newline and
-- the reply
abbrev pub reply_tag : List ℕ → Node → Node → List ℕ → List ℕ → List ℕ
reply_tag key from to text reply = hmac key (direction to from ++ text ++ 10 ∷ reply)

-- two lowercase hexadecimal digits for each byte
abbrev pub hex_text : List ℕ → List ℕ
hex_text bytes = encode_lower bytes

-- how many digits a tag has
abbrev pub tag_digits : ℕ
tag_digits = 64

-- a text behind its tag
abbrev pub tagged : List ℕ → List ℕ → List ℕ
tagged tag text = hex_text tag ++ 32 ∷ text

-- the line has that many digits, a space, and then the text
pub record IsSplit (line digits text : List ℕ) : Type 0 where
  pub whole : line ≡ digits ++ 32 ∷ text
  pub count : length digits ≡ tag_digits
