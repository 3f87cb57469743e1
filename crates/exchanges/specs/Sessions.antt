-- The lines that a session gives to its answerer, the bytes that it reads and writes, and why it ends.
use Rattle.std.specs.Prelude.{◌≡◌, ℕ, ◌+◌, ◌<◌, ◌≤◌, List, [], ◌∷◌, ◌++◌, length, take, Option}
use Rattle.std.specs.Io.KnownBytes.{Appends, Consumes, IsAtEnd}
use Rattle.std.specs.List.{AllByRecursion}
use Rattle.units.specs.Limits.{longest_line}
use Rattle.streams.specs.Lines.{stream_of, HasNoNewline, IsWithin}
use Rattle.streams.specs.Calls.{GoesUp, Fails, most_interruptions}
use Rattle.exchanges.specs.Given.{Given, lines_of, replies_text, IsStopped, NoneStopped}
use Rattle.exchanges.specs.CountedView.{CountedView}
use Rattle.exchanges.specs.Streams.{WritesFirst}
use Rattle.exchanges.specs.declared.ends.SessionEnd.{SessionEnd}
use Rattle.exchanges.specs.declared.ends.SessionEnd.TheVariants.{PeerEnded, Truncated, TooLong, ReadFault, WriteFault, Stopped, TurnLimit, NoMemory}

-- how often a session reads at most
abbrev pub most_reads : ℕ
most_reads = 1_000_000

module _ {W : Type 0} (contents : W → Option (List ℕ)) where
  -- the replies to all given lines were written, no call failed, and no reply says that the node has stopped
  pub record RepliesToAll (old new : CountedView W) (given : List Given) : Type 0 where
    pub wrote : Appends (contents old.inner) (contents new.inner) (replies_text given)
    pub sound : new.calls.failures ≡ old.calls.failures
    pub running : NoneStopped given

  -- the same, except that the last reply, and no earlier one, says that the node has stopped
  pub record RepliesToTheStop (old new : CountedView W) (given : List Given) : Type 0 where
    pub earlier : List Given
    pub last : Given
    pub whole : given ≡ earlier ++ last ∷ []
    pub wrote : Appends (contents old.inner) (contents new.inner) (replies_text given)
    pub sound : new.calls.failures ≡ old.calls.failures
    pub running : NoneStopped earlier
    pub stopped : IsStopped last.reply

  -- the first n bytes of the replies were written: all replies except the last, and a part of the last
  pub record RepliesCutShort (most : ℕ) (old new : CountedView W) (given : List Given) (n : ℕ) : Type 0 where
    pub earlier : List Given
    pub last : Given
    pub whole : given ≡ earlier ++ last ∷ []
    pub running : NoneStopped earlier
    pub earlier_written : length (replies_text earlier) ≤ n
    pub wrote : WritesFirst contents most old new (replies_text given) n

module _ {R W : Type 0} (remaining : R → Option (List ℕ)) (contents : W → Option (List ℕ)) where
  -- why a session ended, by the lines that were given and the bytes that were read after these lines
  abbrev pub EndsBy : CountedView R → CountedView R → CountedView W → CountedView W → List Given → List ℕ → SessionEnd → Type 0
  EndsBy r r' w w' given rest PeerEnded = RepliesToAll contents w w' given × (r'.calls.failures ≡ r.calls.failures) × (rest ≡ []) × IsAtEnd (remaining r'.inner)
  EndsBy r r' w w' given rest Truncated =
      RepliesToAll contents w w' given × (r'.calls.failures ≡ r.calls.failures) × (0 < length rest) × IsWithin longest_line rest × IsAtEnd (remaining r'.inner)
  EndsBy r r' w w' given rest TooLong =
      RepliesToAll contents w w' given × (r'.calls.failures ≡ r.calls.failures) × (longest_line < length rest) × HasNoNewline (take (longest_line + 1) rest)
  EndsBy r r' w w' given rest ReadFault = RepliesToAll contents w w' given × Fails r.calls r'.calls × IsWithin longest_line rest
  EndsBy r r' w w' given rest (WriteFault n) = RepliesCutShort contents most_interruptions w w' given n × (r'.calls.failures ≡ r.calls.failures)
  EndsBy r r' w w' given rest Stopped = RepliesToTheStop contents w w' given × (r'.calls.failures ≡ r.calls.failures)
  EndsBy r r' w w' given rest TurnLimit = RepliesToAll contents w w' given × (r'.calls.failures ≡ r.calls.failures) × IsWithin longest_line rest × GoesUp most_reads r.calls.count r'.calls.count
  EndsBy r r' w w' given rest NoMemory = RepliesToAll contents w w' given × (r'.calls.failures ≡ r.calls.failures)

  -- a session: lines were given in their order, they are the first lines of the bytes that were read, and this was its
  -- end
  pub record Serves (r r' : CountedView R) (w w' : CountedView W) (old new : List Given) (end : SessionEnd) : Type 0 where
    pub given : List Given
    pub rest : List ℕ
    pub joined : new ≡ old ++ given
    pub read : Consumes (remaining r.inner) (remaining r'.inner) (stream_of (lines_of given) rest)
    pub each : AllByRecursion (IsWithin longest_line) (lines_of given)
    pub ends : EndsBy r r' w w' given rest end
