-- The words of a peer and of a time.
use Rattle.std.specs.Prelude.{◌≡◌, ◌≤◌, ℕ, List, ◌∷◌, ◌++◌}
use Rattle.std.specs.Net.Grammar.{IsSocketText}
use Rattle.units.specs.Code.{node_text}
use Rattle.units.specs.Text.{IsNumberText}
use Rattle.sockets.specs.Addresses.{NodeAddress}

-- a node's name, an equals sign, and its address
pub record IsPeerWord (word : List ℕ) (peer : NodeAddress) : Type 0 where
  pub text : List ℕ
  pub is : word ≡ node_text peer.0 ++ 61 ∷ text
  pub address : IsSocketText text peer.1

-- a number of seconds, 1 at least
abbrev pub IsSeconds : List ℕ → ℕ → Type 0
IsSeconds word seconds = IsNumberText word seconds × (1 ≤ seconds)
