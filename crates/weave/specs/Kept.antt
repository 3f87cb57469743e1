-- The invariants while journals are followed, and the changes of each step. No public contract cites it.
use Rattle.std.specs.BTreeMap as tree
use Rattle.std.specs.Option.{option_map_or}
use Rattle.std.specs.Prelude.{◌≡◌, ◌<◌, ◌≤◌, ℕ, true, List, [], ◌∷◌, ◌++◌, Contains, length, map, Some, None, if◌then◌else◌}
use Rattle.units.specs.declared.code.Node.{Node}
use Rattle.status.specs.Id.{id_cmp, same_id}
use Rattle.status.specs.declared.id.TransactionId.{TransactionId}
use Rattle.wire.specs.declared.message.Message.{Message}
use Rattle.scheme.specs.declared.registries.Scheme.{Scheme}
use Rattle.protocol.specs.Registries.{is_node, nodes}
use Rattle.protocol.specs.Weave.{IsQuiet}
use Rattle.protocol.specs.World.{World, step}
use Rattle.protocol.specs.declared.event.WorldEvent.{WorldEvent}
use Rattle.protocol.specs.declared.event.WorldEvent.TheVariants.{Commit, Post}
use Rattle.weave.specs.Steps.{Follows, IsPostedTo, left_of, next_message, sent_count, whole_at, with_message, without_tails}
use Rattle.weave.specs.declared.following.Following.{Following}
use Rattle.weave.specs.declared.following.Visit.{Visit}
use Rattle.weave.specs.declared.following.Visit.TheVariants.{Advanced, Rests}

abbrev pub numbers_of : Following → TransactionId → List ℕ
numbers_of f t = option_map_or (λ v. v.items) (tree.get id_cmp f.numbers t) []

-- ---- the invariants

-- the journals are followed towards the whole ones, up to the committed records, with these nodes pending
pub record IsFollowingWith (scheme : Scheme) (f : Following) (pending : List Node) : Type 0 where
  pub follows : Follows scheme (whole_at f.world) (without_tails f.world) f.events.items (numbers_of f) f.posted.items pending
  pub nodes_are : map (λ s. s.node) f.world.stations ≡ nodes scheme

-- the same, with every message that was sent posted
pub record IsFollowing (scheme : Scheme) (f : Following) : Type 0 where
  pub follows : IsFollowingWith scheme f f.pending.items
  pub quiet : IsQuiet (without_tails f.world)

-- the node's messages with keys below that one are posted, and all messages of other nodes
pub record IsPosting (scheme : Scheme) (f : Following) (n : Node) (key : ℕ) : Type 0 where
  pub follows : IsFollowingWith scheme f f.pending.items
  pub node : is_node f.world.scheme n ≡ true
  pub pending : Contains f.pending.items n
  pub posted : IsPostedTo (without_tails f.world) n key
  pub few : key ≤ sent_count (without_tails f.world) n

-- the whole journals are the same
abbrev pub HasWholeSame : World → World → Type 0
HasWholeSame w v = (n : Node) → whole_at v n ≡ whole_at w n

-- how many records of these nodes' journals are left
abbrev pub left_in : World → List Node → ℕ
left_in w ns = left_of (whole_at w) (without_tails w) ns

-- ---- the changes of a step

-- the node's next record is committed, the event is noted, and the node is pending again
pub record Takes (f g : Following) (n : Node) (e : WorldEvent) : Type 0 where
  pub world : g.world ≡ (step f.world (Commit n 1)).world
  pub events : g.events.items ≡ f.events.items ++ e ∷ Commit n 1 ∷ []
  pub numbers : (t : TransactionId) → numbers_of g t ≡ numbers_of f t
  pub posted : g.posted.items ≡ f.posted.items
  pub pending : g.pending.items ≡ f.pending.items ++ n ∷ []

-- the message with that key is posted, and its receiver is pending
pub record Posts (f g : Following) (n : Node) (key : ℕ) : Type 0 where
  pub message : Message
  pub next : next_message f.world n key ≡ Some message
  pub world : g.world ≡ with_message f.world n key message
  pub events : g.events.items ≡ f.events.items ++ Post n key ∷ []
  pub numbers : (t : TransactionId) → numbers_of g t ≡ (if same_id message.id t then numbers_of f t ++ length f.world.bag ∷ [] else numbers_of f t)
  pub posted : g.posted.items ≡ f.posted.items
  pub pending : g.pending.items ≡ f.pending.items ++ message.to ∷ []

abbrev pub HasPosted : Following → Following → Node → ℕ → Visit → Type 0
HasPosted f g n key Advanced = Posts f g n key
HasPosted f g n key Rests = (next_message f.world n key ≡ None) × (g ≡ f)

-- the world went on and fewer records are left, or nothing has changed
abbrev pub IsFewer : List Node → Following → Following → Visit → Type 0
IsFewer ns f g Advanced = left_in g.world ns < left_in f.world ns
IsFewer ns f g Rests = g ≡ f

-- the world went on and fewer records are left, or no node is pending
abbrev pub IsFewerOrDone : List Node → Following → Following → Visit → Type 0
IsFewerOrDone ns f g Advanced = left_in g.world ns < left_in f.world ns
IsFewerOrDone ns f g Rests = g.pending.items ≡ []
