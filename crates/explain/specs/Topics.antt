-- The topics, the names for which the words of `explain` are taken, and what is written for them.
use Rattle.std.specs.Prelude.{◌≡◌, ◌≢◌, ◌<◌, ◌++◌, ◌==◌, ◌||◌, not, ℕ, Bool, List, [], ◌∷◌, Option, Some, None, codes, filter, find, flat_map, if◌then◌else◌, length, map, take}
use Rattle.std.specs.Io.KnownBytes.{Appends, Keeps}
use Rattle.std.specs.Borrow.{Bor}
use Rattle.std.specs.Char.{is_ascii_digit}
use Rattle.std.specs.List.{Contains, before_first, join_with_byte, list_all, list_any, slice_split}
use Rattle.std.specs.Str.{bytes_eq}
use Rattle.command_faults.specs.declared.fault.Cause.TheVariants.{Order}
use Rattle.command_faults.specs.declared.fault.OpFault.{OpFault}
use Rattle.command_faults.specs.declared.fault.OpFault.TheVariants.{Input, NoMemory, Write}
use Rattle.explain.specs.declared.format_topics.TheConstants.{FORMAT_TOPICS}
use Rattle.explain.specs.declared.protocol_topics.TheConstants.{PROTOCOL_TOPICS}
use Rattle.explain.specs.declared.table_topics.TheConstants.{TABLE_TOPICS}

-- the name and the text of each topic of a table; no public contract cites it
abbrev pub entries : List (Bor (List ℕ) × Bor (List ℕ)) → List (List ℕ × List ℕ)
entries table = map (λ t. (t.0.now, t.1.now)) table

-- the name and the text of each topic of faults, outcomes and tables
unfoldable pub format_topics : List (List ℕ × List ℕ)
format_topics = map (λ t. (t.0.now, t.1.now)) FORMAT_TOPICS.now ++ map (λ t. (t.0.now, t.1.now)) TABLE_TOPICS.now

-- the name and the text of each topic of the documents
unfoldable pub topics : List (List ℕ × List ℕ)
topics = map (λ t. (t.0.now, t.1.now)) PROTOCOL_TOPICS.now ++ format_topics

-- one of them has that name and that text
abbrev pub Has : List (List ℕ × List ℕ) → (word text : List ℕ) → Type 0
Has named word text = Contains named (word, text)

-- none of them has that name; no public contract cites it
abbrev pub HasNone : List (List ℕ × List ℕ) → List ℕ → Type 0
HasNone named word = (text : List ℕ) → Contains named (word, text) → ⊥

-- the name of each topic, one on a line
abbrev pub listed : List (List ℕ × List ℕ) → List ℕ
listed named = flat_map (λ t. t.0 ++ codes "\n") named

-- ---- the words

-- the part between two spaces is not empty
abbrev pub is_piece : List ℕ → Bool
is_piece part = not (length part == 0)

-- what stands between the spaces of the words
abbrev pub pieces : List (List ℕ) → List (List ℕ)
pieces words = filter is_piece (flat_map (slice_split (λ b. b == 32)) words)

-- ---- the names for which pieces stand

-- the piece from its first byte that is no hyphen
abbrev pub without_hyphens : List ℕ → List ℕ
without_hyphens [] = []
without_hyphens (b ∷ rest) = if b == 45 then without_hyphens rest else b ∷ rest

-- a colon, a comma or a full stop
abbrev pub is_mark : ℕ → Bool
is_mark b = (b == 58) || (b == 44) || (b == 46)

-- the piece without a mark as its last byte
abbrev pub without_mark : List ℕ → List ℕ
without_mark [] = []
without_mark (b ∷ []) = if is_mark b then [] else b ∷ []
without_mark (b ∷ c ∷ rest) = b ∷ without_mark (c ∷ rest)

-- the piece as a name: without hyphens before it, without a mark after it, and as far as its first apostrophe
abbrev pub bare : List ℕ → List ℕ
bare piece = before_first (λ b. b == 39) (without_mark (without_hyphens piece))

-- digits alone
abbrev pub is_number : List ℕ → Bool
is_number name = list_all is_ascii_digit name

-- two neighbouring pieces as a name: the second one after `refused`, and otherwise both with a hyphen between them
abbrev pub pair : (first second : List ℕ) → List ℕ
pair first second = if bytes_eq first (codes "refused") then second else first ++ (codes "-" ++ second)

-- each two neighbouring pieces as a name
abbrev pub pairs : List (List ℕ) → List (List ℕ)
pairs [] = []
pairs (only ∷ []) = []
pairs (first ∷ second ∷ rest) = pair first second ∷ pairs (second ∷ rest)

-- each piece as a name, and numbers after all others
abbrev pub singles : List (List ℕ) → List (List ℕ)
singles parts = filter (λ name. not (is_number name)) (map bare parts) ++ filter is_number (map bare parts)

-- the names for which pieces may stand: all of them with hyphens between them, each two neighbours, each one
abbrev pub names_of : List (List ℕ) → List (List ℕ)
names_of parts = join_with_byte 45 parts ∷ pairs parts ++ singles parts

-- ---- the topic

-- a topic has that name
abbrev pub is_topic : List ℕ → Bool
is_topic name = list_any (λ t. bytes_eq t.0 name) topics

-- the name of the topic for which the words ask: the first of their names that a topic has
abbrev pub asked : List (List ℕ) → Option (List ℕ)
asked words = find is_topic (names_of (pieces words))

-- the text is that of the first of the names that a topic has, and there is none where no topic has one; no public
-- contract cites it
abbrev pub Finds : List (List ℕ) → Option (Bor (List ℕ)) → Type 0
Finds names None = find is_topic names ≡ None
Finds names (Some text) = (name : List ℕ) × (find is_topic names ≡ Some name) × Has topics name text.now

-- ---- what is written

-- the text that is written: without words the names of all topics, and otherwise the text of the topic for which the
-- words ask
abbrev pub Explains : (words : List (List ℕ)) → (text : List ℕ) → Type 0
Explains [] text = text ≡ listed topics
Explains (word ∷ rest) text = (name : List ℕ) × (asked (word ∷ rest) ≡ Some name) × Has topics name text

-- the words ask for no topic, and nothing was written; or some first bytes of the text were written, but not all of it;
-- or out of memory, and nothing was written
abbrev pub FailsToExplain : OpFault → (words : List (List ℕ)) → (before after : Option (List ℕ)) → Type 0
FailsToExplain (Input line cause) words v w = (line ≡ 1) × (cause ≡ Order) × (words ≢ []) × (asked words ≡ None) × Keeps v w
FailsToExplain (Write count) words v w = (text : List ℕ) × Explains words text × (count < length text) × Appends v w (take count text)
FailsToExplain NoMemory words v w = Keeps v w
FailsToExplain _ words v w = ⊥
