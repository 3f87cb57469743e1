-- A station after a crash, by its journal and how many of its records are committed.
use Rattle.std.proofs.Common.{◌≡◌, ℕ, ◌+◌, ◌-◌, ◌≤◌, Bool, true, false, List, [], take, drop, length, sym, ap, subst, ◌∙◌, arith}
use Rattle.std.specs.Prelude.{nat_le}
use Rattle.std.proofs.Math.ListN.{drop_of_length-le}
use Rattle.std.proofs.lemmas.Bool.{cond-true, le-leb}
use Rattle.std.proofs.lemmas.List.{length-drop, length-take-le, take_all}
use Rattle.units.specs.declared.code.Node.{Node}
use Rattle.wire.specs.declared.input.Input.{Input}
use Rattle.protocol.specs.World.{Station, Turn, crash}
use Rattle.protocol.specs.declared.event.Outcome.{Outcome}
use Rattle.protocol.specs.declared.event.Outcome.TheVariants.{Done}
use Rattle.world.specs.Cores.{journal_of, node_of}
use Rattle.world.specs.declared.any_core.Core.{Core}
use Rattle.world.proofs.TailsOfJournals.{take_more}

-- a running node with its first records committed
abbrev pub at : Node → ℕ → List Input → Station
at n c j = record { node = n; committed = take c j; tail = drop c j; runs = true }

abbrev pub turn : Station → Outcome → Turn
turn s o = record { station = s; outcome = o }

-- a core of the same node with the first records of a journal, and no other
pub record IsLeft (n : Node) (j : List Input) (records : ℕ) (core : Core) : Type 0 where
  pub node : node_of core ≡ n
  pub front : take records (journal_of core) ≡ take records j
  pub short : length (journal_of core) ≤ records

pub left_short : (n : Node) (j : List Input) (records : ℕ) (core : Core) → node_of core ≡ n → journal_of core ≡ take records j → records ≤ length j → IsLeft n j records core
left_short n j records core node journal fits =
    let size : length (take records j) ≡ records = length-take-le records j fits in
    record {
      node = node;
      front = ap (take records) journal ∙ take_all records (take records j) (omega (arith, size));
      short = subst (λ (l : List Input). length l ≤ records) (sym journal) (omega (arith, size));
    }

-- the journal that is left begins as the old one does and has no tail
pub crashed : (n : Node) (c kept : ℕ) (j left : List Input) → c ≤ length j → kept ≤ length j - c → take (c + kept) left ≡ take (c + kept) j → length left ≤ c + kept
    → turn (record { node = n; committed = take (c + kept) left; tail = drop (c + kept) left; runs = false }) Done ≡ crash kept (at n c j)
crashed n c kept j left within fits front short =
    let stopped : List Input → List Input → Turn = λ committed tail. turn (record { node = n; committed = committed; tail = tail; runs = false }) Done in
    let enough : kept ≤ length (drop c j) = subst (λ (k : ℕ). kept ≤ k) (sym (length-drop c j)) fits in
    ap (stopped (take (c + kept) left)) (drop_of_length-le left short)
    ∙ ap (λ (l : List Input). stopped l []) (front ∙ take_more c kept j within)
    ∙ sym (cond-true (nat_le kept (length (drop c j))) _ _ (le-leb kept (length (drop c j)) enough))

-- a crash of a running node whose core is then such a one
pub crash_leaves : (n : Node) (c kept : ℕ) (j : List Input) (runs : Bool) (core : Core) → runs ≡ true → c ≤ length j → kept ≤ length j - c → IsLeft n j (c + kept) core
    → turn (record { node = node_of core; committed = take (c + kept) (journal_of core); tail = drop (c + kept) (journal_of core); runs = false }) Done
    ≡ crash kept (record { node = n; committed = take c j; tail = drop c j; runs = runs })
crash_leaves n c kept j runs core running within fits is =
    rw (is.node, running) (crashed n c kept j (journal_of core) within fits is.front is.short)
