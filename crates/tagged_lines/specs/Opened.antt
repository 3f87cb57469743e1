-- The line that is returned for the bytes of a connection whose first line has to be a message with its tag.
use Rattle.std.specs.Prelude.{◌≡◌, ℕ, ◌+◌, List, [], ◌∷◌, ◌++◌, length, drop, codes, nat_le, if◌then◌else◌, ◌==◌, Option, None, Some, option_map, option_and_then, unwrap_or}
use Rattle.std.specs.List.{find}
use Rattle.std.specs.Str.{bytes_eq, is_utf8}
use Rattle.serde_json.specs.Read.{read}
use Rattle.json_fields.specs.Fields.{text_at}
use Rattle.units.specs.Code.{node_text}
use Rattle.units.specs.Limits.{longest_line}
use Rattle.units.specs.declared.code.Node.{Node}
use Rattle.wire.specs.Messages.{IsLine}
use Rattle.wire.specs.declared.message.Message.{Message}
use Rattle.tags.specs.Keys.{NodeKey, key_of}
use Rattle.tags.specs.Tags.{tagged, message_tag, tag_digits}

-- how many bytes a line with a tag may have before its newline: the tag's digits, a space and the longest line
abbrev pub longest_tagged : ℕ
longest_tagged = tag_digits + 1 + longest_line

-- the bytes before the first newline
abbrev pub line_of : List ℕ → Option (List ℕ)
line_of [] = None
line_of (b ∷ bs) = if b == 10 then Some [] else option_map (λ l. b ∷ l) (line_of bs)

-- the text at the key `from` of the JSON text
abbrev pub sender_text : List ℕ → Option (List ℕ)
sender_text text = if is_utf8 text then option_and_then (text_at (codes "from")) (read text) else None

-- the node with that name, with its key
abbrev pub named : List NodeKey → List ℕ → Option NodeKey
named keys name = find (λ entry. bytes_eq (node_text entry.node) name) keys

-- the node with its key that the text names as its sender
abbrev pub sender_of : List NodeKey → List ℕ → Option NodeKey
sender_of keys text = option_and_then (named keys) (sender_text text)

-- the text behind the tag, if the tag is that of a message to the node under its sender's key
abbrev pub opened_text : List NodeKey → Node → List ℕ → Option (List ℕ)
opened_text keys node line =
    let text = drop (tag_digits + 1) line in
    option_and_then (λ sender. if bytes_eq line (tagged (message_tag sender.key sender.node node text) text) then Some text else None) (sender_of keys text)

-- that text, or an empty one, with a newline
abbrev pub opened_line : List NodeKey → Node → List ℕ → List ℕ
opened_line keys node line = unwrap_or (opened_text keys node line) [] ++ 10 ∷ []

-- the same for the first line of some bytes, and nothing if they have none or it is too long
abbrev pub opened_first : List NodeKey → Node → Option (List ℕ) → List ℕ
opened_first keys node None = []
opened_first keys node (Some line) = if nat_le (length line) longest_tagged then opened_line keys node line else []

abbrev pub opened : List NodeKey → Node → List ℕ → List ℕ
opened keys node raw = opened_first keys node (line_of raw)

-- the bytes begin with this line behind its tag under the key of its sender, and it is a message of no other node
pub record HasTag (keys : List NodeKey) (node : Node) (raw line : List ℕ) : Type 0 where
  pub sender : Node
  pub key : List ℕ
  pub known : key_of keys sender ≡ Some key
  pub rest : List ℕ
  pub begins : raw ≡ tagged (message_tag key sender node line) line ++ 10 ∷ rest
  pub of : (message : Message) → IsLine line message → message.from ≡ sender
