-- How some lines and a piece of a stream are served, and the bytes that are left of them. No public contract cites it.
use Rattle.std.specs.Prelude.{◌≡◌, ℕ, ◌+◌, ◌*◌, ◌<◌, ◌≤◌, List, [], ◌++◌, length, take, false, Option}
use Rattle.std.specs.List.{AllByRecursion}
use Rattle.units.specs.Limits.{longest_line}
use Rattle.streams.specs.SplitterView.{SplitterView}
use Rattle.streams.specs.Lines.{stream_of, HasNoNewline, IsWithin}
use Rattle.streams.specs.Calls.{GoesOn}
use Rattle.exchanges.specs.Given.{Given, lines_of}
use Rattle.exchanges.specs.Sessions.{RepliesToAll, RepliesToTheStop, RepliesCutShort}
use Rattle.exchanges.specs.CountedView.{CountedView}
use Rattle.exchanges.specs.declared.ends.SessionEnd.{SessionEnd}
use Rattle.exchanges.specs.declared.ends.SessionEnd.TheVariants as session_end
use Rattle.exchanges.specs.declared.pieces.PieceEnd.{PieceEnd}
use Rattle.exchanges.specs.declared.pieces.PieceEnd.TheVariants.{Replied, TooLong, Stopped, WriteFault, NoMemory}
use Rattle.exchanges.specs.declared.replying.LinesEnd.{LinesEnd}
use Rattle.exchanges.specs.declared.replying.LinesEnd.TheVariants as lines_end

-- how many lines a piece may end
abbrev pub most_lines : ℕ
most_lines = 12_288

-- the end of a piece from the end of its lines
abbrev pub piece_end : PieceEnd → LinesEnd → PieceEnd
piece_end all lines_end.AllReplied = all
piece_end all lines_end.Stopped = Stopped
piece_end all (lines_end.WriteFault n) = WriteFault n
piece_end all lines_end.NoMemory = NoMemory

-- the numbers of an end are small
abbrev pub IsSmall : PieceEnd → Type 0
IsSmall (Replied n) = n ≤ most_lines
IsSmall TooLong = Unit {0}
IsSmall Stopped = Unit {0}
IsSmall (WriteFault n) = n < 31 * most_lines
IsSmall NoMemory = Unit {0}

-- a splitter that holds these bytes and takes more
abbrev pub open_with : List ℕ → SplitterView
open_with rest = record { limit = longest_line; rest = rest; closed = false }

-- the stream ended where a splitter held these bytes
abbrev pub StreamEnds : List ℕ → SessionEnd → Type 0
StreamEnds rest session_end.PeerEnded = rest ≡ []
StreamEnds rest session_end.Truncated = 0 < length rest
StreamEnds rest _ = ⊥

module _ {W : Type 0} (contents : W → Option (List ℕ)) where
  -- how the replies to some lines ended, by the lines that were given and the lines after these
  abbrev pub LinesEndBy : ℕ → CountedView W → CountedView W → List Given → List (List ℕ) → LinesEnd → Type 0
  LinesEndBy most w w' given later lines_end.AllReplied = RepliesToAll contents w w' given × (later ≡ [])
  LinesEndBy most w w' given later lines_end.Stopped = RepliesToTheStop contents w w' given
  LinesEndBy most w w' given later (lines_end.WriteFault n) = RepliesCutShort contents most w w' given n
  LinesEndBy most w w' given later lines_end.NoMemory = RepliesToAll contents w w' given

  -- the first of these lines were given in their order, with this end
  pub record ServesLines (most : ℕ) (w w' : CountedView W) (old new : List Given) (lines : List (List ℕ)) (end : LinesEnd) : Type 0 where
    pub given : List Given
    pub later : List (List ℕ)
    pub joined : new ≡ old ++ given
    pub first : lines ≡ lines_of given ++ later
    pub ends : LinesEndBy most w w' given later end

  -- why a piece was left, by the lines that were given and the bytes after these lines
  abbrev pub PieceEndsBy : ℕ → ℕ → CountedView W → CountedView W → List Given → List ℕ → SplitterView → PieceEnd → Type 0
  PieceEndsBy left left' w w' given rest held (Replied n) =
      RepliesToAll contents w w' given × (n ≡ length given) × (held ≡ open_with rest) × IsWithin longest_line rest × GoesOn left left' w.calls w'.calls × (0 < left')
  PieceEndsBy left left' w w' given rest held TooLong = RepliesToAll contents w w' given × (longest_line < length rest) × HasNoNewline (take (longest_line + 1) rest)
  PieceEndsBy left left' w w' given rest held Stopped = RepliesToTheStop contents w w' given
  PieceEndsBy left left' w w' given rest held (WriteFault n) = RepliesCutShort contents left w w' given n
  PieceEndsBy left left' w w' given rest held NoMemory = RepliesToAll contents w w' given

  -- the first lines of some bytes were given in their order, with this end
  pub record ServesPiece (left left' : ℕ) (w w' : CountedView W) (old new : List Given) (bytes : List ℕ) (held : SplitterView) (end : PieceEnd) : Type 0 where
    pub given : List Given
    pub rest : List ℕ
    pub joined : new ≡ old ++ given
    pub whole : bytes ≡ stream_of (lines_of given) rest
    pub each : AllByRecursion (IsWithin longest_line) (lines_of given)
    pub ends : PieceEndsBy left left' w w' given rest held end
