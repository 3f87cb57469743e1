-- The text of a file of keys, and the faults of such a text.
use Rattle.std.specs.Prelude.{◌≡◌, ◌≤◌, ◌<◌, ◌+◌, ℕ, List, [], ◌∷◌, ◌++◌, length, false, true, Ok, None, IsSome}
use Rattle.std.specs.List.{AllByRecursion}
use Rattle.hex.specs.Hex.{decode_sized}
use Rattle.streams.specs.Lines.{stream_of, HasNoNewline}
use Rattle.units.specs.Code.{node_text}
use Rattle.tags.specs.Keys.{NodeKey, has_key, key_of}
use Rattle.tags.specs.declared.key_file.KeysFault.{KeysFault}
use Rattle.tags.specs.declared.key_file.KeysFault.TheVariants.{Form, Twice, Same, TooMany, Empty, NoMemory}

-- how many bytes a key has
abbrev pub key_bytes : ℕ
key_bytes = 32

-- how many lines a file of keys may have
abbrev pub most_keys : ℕ
most_keys = 33

-- the line writes that key: the node's name, a space, and two hexadecimal digits a byte, in either case
pub record IsKeyLine (line : List ℕ) (entry : NodeKey) : Type 0 where
  pub digits : List ℕ
  pub written : line ≡ node_text entry.node ++ 32 ∷ digits
  pub read : decode_sized digits key_bytes ≡ Ok entry.key

-- lines that were ended, and then one that wasn't, if it has bytes
abbrev pub with_last : List (List ℕ) → List ℕ → List (List ℕ)
with_last ended [] = ended
with_last ended (b ∷ bs) = ended ++ (b ∷ bs) ∷ []

-- the lines of a text: a newline ends each of them, except that the last one may lack it
pub record HasLines (text : List ℕ) (lines : List (List ℕ)) : Type 0 where
  pub ended : List (List ℕ)
  pub last : List ℕ
  pub whole : text ≡ stream_of ended last
  pub each : AllByRecursion HasNoNewline ended
  pub free : HasNoNewline last
  pub all : lines ≡ with_last ended last

-- after the earlier keys, the lines write these, each another key than those before it, and for a node that had none yet
abbrev pub WriteKeys : List NodeKey → List (List ℕ) → List NodeKey → Type 0
WriteKeys earlier [] [] = Unit {0}
WriteKeys earlier (line ∷ lines) (entry ∷ entries) = IsKeyLine line entry × (key_of earlier entry.node ≡ None) × (has_key earlier entry.key ≡ false) × WriteKeys (earlier ++ entry ∷ []) lines entries
WriteKeys earlier _ _ = ⊥

-- the text of a file of these keys: a line for each, no node and no key twice, at least one and not too many
pub record AreKeys (text : List ℕ) (keys : List NodeKey) : Type 0 where
  pub lines : List (List ℕ)
  pub cut : HasLines text lines
  pub writes : WriteKeys [] lines keys
  pub some : 1 ≤ length lines
  pub few : length lines ≤ most_keys

-- a line of the text after others that write keys; its number counts from 1
pub record IsLineAfter (text : List ℕ) (number : ℕ) (keys : List NodeKey) (line : List ℕ) : Type 0 where
  pub lines : List (List ℕ)
  pub later : List (List ℕ)
  pub cut : HasLines text (lines ++ line ∷ later)
  pub writes : WriteKeys [] lines keys
  pub count : number ≡ length lines + 1

-- the faults of the text of a file of keys
abbrev pub IsKeysFault : List ℕ → KeysFault → Type 0
IsKeysFault text (Form number) = (keys : List NodeKey) × (line : List ℕ) × IsLineAfter text number keys line × ((entry : NodeKey) → IsKeyLine line entry → ⊥)
IsKeysFault text (Twice number) = (keys : List NodeKey) × (line : List ℕ) × IsLineAfter text number keys line × ((entry : NodeKey) × IsKeyLine line entry × IsSome (key_of keys entry.node))
IsKeysFault text (Same number) = (keys : List NodeKey) × (line : List ℕ) × IsLineAfter text number keys line × ((entry : NodeKey) × IsKeyLine line entry × (key_of keys entry.node ≡ None) × (has_key keys entry.key ≡ true))
IsKeysFault text TooMany = (keys : List NodeKey) × (lines : List (List ℕ)) × (more : List (List ℕ)) × HasLines text (lines ++ more) × WriteKeys [] lines keys × (length lines ≡ most_keys) × (0 < length more)
IsKeysFault text Empty = text ≡ []
IsKeysFault text NoMemory = Unit {0}

-- ---- what the code follows; no public contract cites what stands below

-- the first line of some bytes, and the bytes after it
abbrev pub IsFirstLine : List ℕ → List ℕ → List ℕ → Type 0
IsFirstLine bytes line rest = (lines : List (List ℕ)) → HasLines rest lines → HasLines bytes (line ∷ lines)

-- of the lines of a text, those before the rest write these keys
pub record ReadsKeys (text : List ℕ) (keys : List NodeKey) (rest : List ℕ) : Type 0 where
  pub lines : List (List ℕ)
  pub before : (others : List (List ℕ)) → HasLines rest others → HasLines text (lines ++ others)
  pub writes : WriteKeys [] lines keys

-- why a line after others isn't added
abbrev pub IsLineFault : List NodeKey → List ℕ → KeysFault → Type 0
IsLineFault keys line (Form number) = (number ≡ length keys + 1) × ((entry : NodeKey) → IsKeyLine line entry → ⊥)
IsLineFault keys line (Twice number) = (number ≡ length keys + 1) × ((entry : NodeKey) × IsKeyLine line entry × IsSome (key_of keys entry.node))
IsLineFault keys line (Same number) = (number ≡ length keys + 1) × ((entry : NodeKey) × IsKeyLine line entry × (key_of keys entry.node ≡ None) × (has_key keys entry.key ≡ true))
IsLineFault keys line TooMany = ⊥
IsLineFault keys line Empty = ⊥
IsLineFault keys line NoMemory = Unit {0}
