-- The reading and writing of known bytes, and whether calls failed.
use Rattle.std.specs.Prelude.{◌≡◌, ℕ, ◌<◌, List, length, take, Option}
use Rattle.std.specs.Io.KnownBytes.{Appends, Consumes, IsAtEnd}
use Rattle.streams.specs.Calls.{Fails, FailsAfter}
use Rattle.exchanges.specs.CountedView.{CountedView}

module _ {W : Type 0} (contents : W → Option (List ℕ)) where
  -- all of these bytes were written, and no call failed
  abbrev pub WritesAll : CountedView W → CountedView W → List ℕ → Type 0
  WritesAll old new bytes = Appends (contents old.inner) (contents new.inner) bytes × (new.calls.failures ≡ old.calls.failures)

  -- the first n of these bytes were written and no others, because a call failed or `most` calls were interrupted
  abbrev pub WritesFirst : ℕ → CountedView W → CountedView W → List ℕ → ℕ → Type 0
  WritesFirst most old new bytes n = (n < length bytes) × Appends (contents old.inner) (contents new.inner) (take n bytes) × FailsAfter most old.calls new.calls

module _ {R : Type 0} (remaining : R → Option (List ℕ)) where
  -- these bytes were read, and no call failed
  abbrev pub Takes : CountedView R → CountedView R → List ℕ → Type 0
  Takes old new bytes = Consumes (remaining old.inner) (remaining new.inner) bytes × (new.calls.failures ≡ old.calls.failures)

  -- these bytes were read, no call failed, and there are no more
  abbrev pub TakesAll : CountedView R → CountedView R → List ℕ → Type 0
  TakesAll old new bytes = Takes old new bytes × IsAtEnd (remaining new.inner)

  -- these bytes were read, and then a call failed or too many were interrupted
  abbrev pub TakesAndFails : CountedView R → CountedView R → List ℕ → Type 0
  TakesAndFails old new bytes = Consumes (remaining old.inner) (remaining new.inner) bytes × Fails old.calls new.calls
