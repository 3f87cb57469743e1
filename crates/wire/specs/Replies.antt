-- The texts of replies.
use Rattle.std.specs.Prelude.{◌≡◌, ℕ, ◌≤◌, List, [], ◌∷◌, length, codes, Some, IsUtf8}
use Rattle.serde_json.specs.Data.{Data, string}
use Rattle.serde_json.specs.Read.{read}
use Rattle.serde_json.specs.Written.{compact_text}
use Rattle.units.specs.Limits.{longest_line}
use Rattle.wire.specs.Objects.{Field, HasExactly, object_of, whole}
use Rattle.wire.specs.declared.reply.Reply.{Reply}
use Rattle.wire.specs.declared.reply.Reply.TheVariants.{Received, Refused}

-- the fields of a reply, keys in byte order; the code is 0 if nothing was refused
abbrev pub reply_fields : Reply → List Field
reply_fields Received = (codes "code", whole 0) ∷ (codes "result", string (codes "received")) ∷ []
reply_fields (Refused code) = (codes "code", whole code.number) ∷ (codes "result", string (codes "refused")) ∷ []

-- the text of a reply: its fields as compact JSON
abbrev pub reply_text : Reply → List ℕ
reply_text r = compact_text (object_of (reply_fields r))

-- the line writes the reply: at most `longest_line` bytes of JSON in UTF-8
pub record IsReply (line : List ℕ) (r : Reply) : Type 0 where
  pub short : length line ≤ longest_line
  pub utf8 : IsUtf8 line
  pub value : Data
  pub reads : read line ≡ Some value
  pub writes : HasExactly value (reply_fields r)
