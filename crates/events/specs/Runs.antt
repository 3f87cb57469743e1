-- The text of a run: its scheme and its events, as `rehearse` reads them.
use Rattle.std.specs.Prelude.{◌≡◌, ℕ, ◌≤◌, List, [], ◌∷◌, ◌++◌, length}
use Rattle.units.specs.Text.{IsFreeOf}
use Rattle.protocol.specs.Scheme.{Scheme}
use Rattle.protocol.specs.declared.event.WorldEvent.{WorldEvent}
use Rattle.scheme.specs.Text.{IsSchemeText}
use Rattle.input_lines.specs.EventLines.{IsEventLine}
use Rattle.input_lines.specs.Lines.{Begins}
use Rattle.streams.specs.Inputs.{longest_input, longest_input_line}

-- the bytes are lines that write the events, one each
abbrev pub AreEventLines : List ℕ → List WorldEvent → Type 0
AreEventLines bytes [] = bytes ≡ []
AreEventLines bytes (e ∷ events) = (line : List ℕ) × (rest : List ℕ) × Begins bytes line rest × IsEventLine line e × AreEventLines rest events

-- the scheme's line, then the lines of the events
pub record IsRun (text : List ℕ) (scheme : Scheme) (events : List WorldEvent) : Type 0 where
  pub first : List ℕ
  pub lines : List ℕ
  pub begins : Begins text first lines
  pub scheme_is : IsSchemeText first scheme
  pub events_are : AreEventLines lines events

-- neither the text nor a line of it is longer than an input may be
pub record IsWithinLimits (text : List ℕ) : Type 0 where
  pub whole : length text ≤ longest_input
  pub lines : (before line rest : List ℕ) → text ≡ before ++ (line ++ 10 ∷ rest) → IsFreeOf 10 line → length line ≤ longest_input_line
