-- The lines that writers of lines with tags send. No public contract cites it.
use Rattle.std.specs.Prelude.{◌≡◌, ◌≤◌, ℕ, List, [], ◌∷◌, ◌++◌, length, Option, None, Some}
use Rattle.tags.specs.Tags.{tagged, message_tag, reply_tag}
use Rattle.tagged_lines.specs.Views.{MessageView}
use Rattle.tagged_lines.specs.declared.checking_reader.Check.{Check}
use Rattle.tagged_lines.specs.declared.checking_reader.Check.TheVariants.{Reading, Giving, Ended, Failed}

-- how many bytes the line of a reply may have with its tag, before its newline
abbrev pub longest_tagged_reply : ℕ
longest_tagged_reply = 95

-- the tag of the message
abbrev pub tag_of : MessageView → List ℕ
tag_of m = message_tag m.key m.from m.to m.text

-- the tag of a reply to the message
abbrev pub reply_tag_of : MessageView → List ℕ → List ℕ
reply_tag_of m reply = reply_tag m.key m.from m.to m.text reply

-- the line of a message
abbrev pub message_line : MessageView → List ℕ
message_line m = tagged (tag_of m) m.text ++ 10 ∷ []

-- the line of a reply, with its tag if it replies to a message with one
abbrev pub reply_line : Option MessageView → List ℕ → List ℕ
reply_line None reply = reply ++ 10 ∷ []
reply_line (Some m) reply = tagged (reply_tag_of m reply) reply ++ 10 ∷ []

-- the line is a reply to the message behind its tag
abbrev pub IsTaggedReply : MessageView → List ℕ → Type 0
IsTaggedReply m line = (reply : List ℕ) × (line ≡ tagged (reply_tag_of m reply) reply)

-- the line of a reader of a reply, if it returns the line from there on
abbrev pub FitsCheck : Check → List ℕ → Type 0
FitsCheck Reading line = length line ≤ longest_tagged_reply
FitsCheck (Giving at) line = (at ≤ length line) × ((m : MessageView) × (text : List ℕ) × IsTaggedReply m text × (line ≡ text ++ 10 ∷ []))
FitsCheck Ended line = Unit {0}
FitsCheck Failed line = Unit {0}
