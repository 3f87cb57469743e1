-- A transfer is brought on record by record: what a record at one node leaves at the others, and how much room is left.
use Rattle.std.proofs.Common.{◌≡◌, ℕ, ◌+◌, ◌≤◌, List, [], false, Option, Some, refl, ap, ◌∙◌, arith, length}
use Rattle.units.specs.Code.{same_code, same_node}
use Rattle.units.specs.declared.code.Code.{Code}
use Rattle.units.specs.declared.code.Node.{Node}
use Rattle.units.specs.declared.code.Node.TheVariants.{Itl, Registry}
use Rattle.status.specs.Content.{Content}
use Rattle.status.specs.Id.{same_id}
use Rattle.status.specs.declared.id.TransactionId.{TransactionId}
use Rattle.scheme.specs.declared.registries.Scheme.{Scheme}
use Rattle.protocol.specs.Claims.{committed_of}
use Rattle.protocol.specs.History.{Entry, Transition, newest, transitions_of}
use Rattle.protocol.specs.WayOut.{IsOpen}
use Rattle.protocol.specs.World.{World, run}
use Rattle.safety.proofs.AgreementOfNodes.CausalHistories.{Causal}
use Rattle.safety.proofs.WayToRest.SendingMessages.{Calm, Went}
use Rattle.safety.proofs.OwnersOfUnits.SumsOverRegistries.{one_or_none}
use Rattle.safety.proofs.WayToRest.WakingNodes.{Reaches, reaches_on}
use Rattle.safety.proofs.WayToRest.TakenMessages.{Room, causal}
use Rattle.safety.proofs.OneTransfer.StagesAtNodes as stages

-- the transfer was brought to its end, by a limited number of records at the log and at each registry, and no other
-- was touched
pub record Closes (scheme : Scheme) (w : World) (t : TransactionId) (i j : ℕ) : Type 0 where
  pub world : World
  pub reaches : Reaches w world
  pub calm : Calm scheme world
  pub others : (m : Node) (u : TransactionId) → same_id t u ≡ false → newest (transitions_of (committed_of world m)) u ≡ newest (transitions_of (committed_of w m)) u
  pub log_longer : length (committed_of world Itl) ≤ length (committed_of w Itl) + i
  pub longer : (c : Code) → length (committed_of world (Registry c)) ≤ length (committed_of w (Registry c)) + j
  pub closed : IsOpen (committed_of world) t → ⊥

-- the newest transition of the transfer at its initiator, in a quiet world
pub record Stage (scheme : Scheme) (w : World) (t : TransactionId) (x : Transition) (k : Content) : Type 0 where
  pub calm : Calm scheme w
  pub known : stages.Stage scheme (committed_of w) t x k

-- ---- one step after another

module _ (scheme : Scheme) (t : TransactionId) where
  went : (w : World) (n : Node) (x : Transition) (g : Went scheme w t n x) → Reaches w (run w g.events)
  went w n x g = (g.events, refl, g.transport)

  -- a record at the log, and one at a registry
  pub room_log : (w : World) (x : Transition) (i j : ℕ) (g : Went scheme w t Itl x) → Room scheme w (i + 1) j → Room scheme (run w g.events) i j
  room_log w x i j g room = (
    (let a = room.0 in let b = g.longer Itl in omega arith),
    λ c. let a = room.1 c in let b = g.longer (Registry c) in omega arith,
  )

  pub room_registry : (w : World) (n : Code) (x : Transition) (i j : ℕ) (g : Went scheme w t (Registry n) x) → Room scheme w i (j + 1) → Room scheme (run w g.events) i j
  room_registry w n x i j g room = (
    (let a = room.0 in let b = g.longer Itl in omega arith),
    λ c. let a = room.1 c in let b = g.longer (Registry c) in let d = one_or_none (same_code n c) in omega arith,
  )

  pub then_log : (w : World) (x : Transition) (i j : ℕ) (g : Went scheme w t Itl x) → Closes scheme (run w g.events) t i j → Closes scheme w t (i + 1) j
  then_log w x i j g y = record {
    world = y.world;
    reaches = reaches_on w (run w g.events) y.world (went w Itl x g) y.reaches;
    calm = y.calm;
    others = λ m u o. y.others m u o ∙ g.others m u o;
    log_longer = let a = g.longer Itl in let b = y.log_longer in omega arith;
    longer = λ c. let a = g.longer (Registry c) in let b = y.longer c in omega arith;
    closed = y.closed;
  }

  pub then_registry : (w : World) (n : Code) (x : Transition) (i j : ℕ) (g : Went scheme w t (Registry n) x) → Closes scheme (run w g.events) t i j → Closes scheme w t i (j + 1)
  then_registry w n x i j g y = record {
    world = y.world;
    reaches = reaches_on w (run w g.events) y.world (went w (Registry n) x g) y.reaches;
    calm = y.calm;
    others = λ m u o. y.others m u o ∙ g.others m u o;
    log_longer = let a = g.longer Itl in let b = y.log_longer in omega arith;
    longer = λ c. let a = g.longer (Registry c) in let b = y.longer c in let d = one_or_none (same_code n c) in omega arith;
    closed = y.closed;
  }

  pub room_less : (w : World) (i j more many : ℕ) → i ≤ more → j ≤ many → Room scheme w more many → Room scheme w i j
  room_less w i j more many h k room = ((let a = room.0 in omega arith), λ c. let a = room.1 c in omega arith)

  pub at_most : (w : World) (i j more many : ℕ) → i ≤ more → j ≤ many → Closes scheme w t i j → Closes scheme w t more many
  at_most w i j more many h k y = record {
    world = y.world;
    reaches = y.reaches;
    calm = y.calm;
    others = y.others;
    log_longer = let b = y.log_longer in omega arith;
    longer = λ c. let b = y.longer c in omega arith;
    closed = y.closed;
  }

  pub already : (w : World) (i j : ℕ) → Calm scheme w → (IsOpen (committed_of w) t → ⊥) → Closes scheme w t i j
  already w i j calm h = record {
    world = w;
    reaches = ([], refl, tt);
    calm = calm;
    others = λ m u o. refl;
    log_longer = omega arith;
    longer = λ c. omega arith;
    closed = h;
  }

  pub newest_next : (w : World) (n m : Node) (x : Transition) (o : Option Transition) (g : Went scheme w t n x) → same_node n m ≡ false → newest (transitions_of (committed_of w m)) t ≡ o
      → newest (transitions_of (committed_of (run w g.events) m)) t ≡ o
  newest_next w n m x o g other is = ap (λ (es : List Entry). newest (transitions_of es) t) (g.elsewhere m other) ∙ is

  -- another node's record leaves the initiator's transition
  pub stage_next : (w : World) (n : Node) (y x : Transition) (k : Content) (g : Went scheme w t n y) → Stage scheme w t x k → same_node n (Registry t.code) ≡ false → Stage scheme (run w g.events) t x k
  stage_next w n y x k g s other = record {
    calm = g.calm;
    known = record {
      is = newest_next w n (Registry t.code) y (Some x) g other s.known.is;
      content = s.known.content;
      initiator = s.known.initiator;
      acquirer = s.known.acquirer;
      other = s.known.other;
    };
  }

  pub cau : (w : World) (x : Transition) (k : Content) → Stage scheme w t x k → Causal scheme (committed_of w)
  cau w x k s = causal scheme w s.calm
