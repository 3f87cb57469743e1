-- Journals, and how far cores record them. No public contract cites it.
use Rattle.std.specs.Prelude.{◌≡◌, ◌⊎◌, ℕ, List, [], ◌++◌, length, slice_get, Some}
use Rattle.units.specs.declared.code.Node.{Node}
use Rattle.wire.specs.declared.input.Input.{Input}
use Rattle.scheme.specs.declared.registries.Scheme.{Scheme}
use Rattle.protocol.specs.Registries.{nodes}
use Rattle.protocol.specs.Cores.{IsFirstNotRecorded}

-- the node records the first records of the journal, and these are all, or the next one isn't recorded after them
pub record IsAhead (scheme : Scheme) (n : Node) (journal recorded : List Input) : Type 0 where
  pub rest : List Input
  pub is : journal ≡ recorded ++ rest
  pub ends : (rest ≡ []) ⊎ IsFirstNotRecorded scheme n journal (length recorded)

-- each node of the scheme, by its index, records the first records of its journal in this sense
pub record AreAhead (scheme : Scheme) (journals recorded : List (List Input)) : Type 0 where
  pub each : (k : ℕ) (n : Node) (long short : List Input) → slice_get (nodes scheme) k ≡ Some n → slice_get journals k ≡ Some long → slice_get recorded k ≡ Some short → IsAhead scheme n long short
  pub journals_count : length journals ≡ length (nodes scheme)
  pub recorded_count : length recorded ≡ length (nodes scheme)
