-- Records that are left. No public contract cites it.
use Rattle.std.specs.Option.{option_map_or}
use Rattle.std.specs.Prelude.{◌≡◌, ◌<◌, ◌≤◌, ℕ, ◌+◌, Bool, not, nat_le, List, length, slice_get, slice_index, Ok, Some}
use Rattle.units.specs.declared.code.Node.{Node}
use Rattle.scheme.specs.declared.registries.Scheme.{Scheme}
use Rattle.protocol.specs.Cores.{answer}
use Rattle.protocol.specs.Registries.{index_of}
use Rattle.protocol.specs.World.{World}
use Rattle.protocol.specs.declared.node_core.Stepped.TheVariants as stepped
use Rattle.weave.specs.Following.{committed_at}
use Rattle.weave.specs.Steps.{whole_at}
use Rattle.weave.specs.declared.cut.Rest.{Rest}

-- how many records the journal of a node has, by the node's index
abbrev pub count_at : Scheme → List ℕ → Node → ℕ
count_at scheme counts n = option_map_or (λ k. slice_index counts k) (index_of scheme n) 0

-- none of the first nodes has a record left
abbrev pub AreDoneBelow : World → (Node → ℕ) → List Node → ℕ → Type 0
AreDoneBelow w counts ns at = (k : ℕ) (n : Node) → k < at → slice_get ns k ≡ Some n → counts n ≤ length (committed_at w n)

-- the node is the first with a record left, which has that place
pub record IsLeft (w : World) (counts : Node → ℕ) (ns : List Node) (n : Node) (place : ℕ) : Type 0 where
  pub at : ℕ
  pub is : slice_get ns at ≡ Some n
  pub placed : place ≡ length (committed_at w n)
  pub left : place < counts n
  pub before : AreDoneBelow w counts ns at

-- the node's journal goes on after the committed records
abbrev pub has_rest : World → Node → Bool
has_rest w n = not (nat_le (length (whole_at w n)) (length (committed_at w n)))

-- these are the node's records after the committed ones, and the node records the first of them next
pub record IsRest (w : World) (n : Node) (r : Rest) : Type 0 where
  pub node : r.node ≡ n
  pub place : r.place ≡ length (committed_at w n)
  pub count : length (whole_at w n) ≡ r.place + r.count
  pub next : slice_get (whole_at w n) r.place ≡ Some r.next
  pub recorded : answer w.scheme n (committed_at w n) r.next ≡ Ok (stepped.Recorded (length (committed_at w n)))
