-- How many lines a session has read, and the bytes that were read and written over a connection that is given back.
use Rattle.std.specs.Prelude.{◌≡◌, ◌==◌, ℕ, List, [], Option, count_by}
use Rattle.std.specs.Io.KnownBytes.{Appends, Consumes, IsAtEnd}
use Rattle.streams.specs.Lines.{stream_of}
use Rattle.exchanges.specs.Given.{Given, lines_of, replies_text, NoneStopped}

-- how many of the bytes are newlines
abbrev pub newlines : List ℕ → ℕ
newlines bytes = count_by (λ b. b == 10) bytes

-- ---- what the code follows; no public contract cites what stands below

-- the bytes that a reader has left, and those that a writer holds
module _ {R W : Type 0} (remaining : R → Option (List ℕ)) (contents : W → Option (List ℕ)) where
  -- lines were read up to the end, and a reply was written to each of them; none of the replies says that the node has
  -- stopped
  pub record IsRepliedTo (r : R) (w : W) (r' : R) (w' : W) : Type 0 where
    pub given : List Given
    pub read : Consumes (remaining r) (remaining r') (stream_of (lines_of given) [])
    pub ended : IsAtEnd (remaining r')
    pub wrote : Appends (contents w) (contents w') (replies_text given)
    pub running : NoneStopped given
