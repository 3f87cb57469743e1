-- The units that registries hold and those that transfers owe are together as many as the scheme allots. The blocks of
-- all lines and of all due transfers are put into one list. The number of lines that have a unit is the number of
-- registries that hold it, and the number of due transfers that have it is the number of those that owe it. By
-- `causal_one_place` the unit is then in that list as often as in the scheme's blocks.
use Rattle.std.proofs.Common.{◌≡◌, ℕ, ◌+◌, List, [], ◌∷◌, ◌++◌, cond, subst, refl, ◌∙◌, arith, map, flat_map}
use Rattle.std.specs.List.{count_by, sum_by}
use Rattle.std.proofs.lemmas.List.Sums.{sum_by-cons, sum_by-append}
use Rattle.units.specs.Unit.{has_unit, have_unit}
use Rattle.units.specs.declared.block.Block.{Block}
use Rattle.units.specs.declared.block.RawBlock.{RawBlock}
use Rattle.units.specs.declared.block.Unit.{Unit as Serial}
use Rattle.status.specs.Content.{raws}
use Rattle.registry_core.specs.HeldBlock.{HeldBlock}
use Rattle.scheme.specs.Order.{all_blocks}
use Rattle.scheme.specs.declared.members.SchemeRegistry.{SchemeRegistry}
use Rattle.scheme.specs.declared.registries.Scheme.{Scheme}
use Rattle.protocol.specs.Claims.{at_registry, holders, live_of, owed}
use Rattle.protocol.specs.History.{holds}
use Rattle.protocol.specs.Table.{ProposedTransfer, due}
use Rattle.protocol.specs.World.{World, opening, run}
use Rattle.protocol.specs.declared.event.WorldEvent.{WorldEvent}
use Rattle.safety.proofs.ListLemmas.SumsOfLists.{sum_flat, sum_map, sum_same}
use Rattle.safety.proofs.ListLemmas.UnitsOneByOne.{same_units, units_once}
use Rattle.safety.proofs.OwnersOfUnits.AllottedBlocks.{allotted_once}
use Rattle.safety.proofs.OwnersOfUnits.UnitsInOnePlace.{causal_one_place}
use Rattle.safety.proofs.WorldLemmas.ReachedWorlds.{reached, reached_live, reached_scheme}
use Rattle.report.proofs.DueTransfers.{due_apart}
use Rattle.report.proofs.LinesOfHoldings.{lines_hold}
use Rattle.safety.specs.NumberOfUnits.{allotted_units, units_of}
use Rattle.report.specs.NumberOfUnits.{due_units, held_units}
use Rattle.world.specs.RegistryLines.{AreLines, registry_at}

-- ---- the blocks of lines and of transfers

abbrev line_blocks : List HeldBlock → List RawBlock
line_blocks ls = map (λ (l : HeldBlock). l.block.raw) ls

abbrev held_blocks : List (List HeldBlock) → List RawBlock
held_blocks lines = flat_map line_blocks lines

abbrev due_blocks : List ProposedTransfer → List RawBlock
due_blocks ps = flat_map (λ (p : ProposedTransfer). p.content.units) ps

held_sum : (lines : List (List HeldBlock)) → sum_by units_of (held_blocks lines) ≡ sum_by (λ ls. sum_by held_units ls) lines
held_sum lines =
    sum_flat units_of line_blocks lines
    ∙ sum_same (λ (ls : List HeldBlock). sum_by units_of (line_blocks ls)) (λ (ls : List HeldBlock). sum_by held_units ls) lines (λ ls i. sum_map units_of (λ (l : HeldBlock). l.block.raw) ls)

due_sum : (ps : List ProposedTransfer) → sum_by units_of (due_blocks ps) ≡ sum_by due_units ps
due_sum ps = sum_flat units_of (λ (p : ProposedTransfer). p.content.units) ps

allotted_sum : (scheme : Scheme) → sum_by units_of (raws (all_blocks scheme.members)) ≡ allotted_units scheme
allotted_sum scheme = sum_map units_of (λ (b : Block). b.raw) (all_blocks scheme.members)

-- ---- how often a unit is in them

module _ (s : Serial) where
  abbrev one : RawBlock → ℕ
  one b = cond (has_unit b s) 1 0

  lines_count : (w : World) (ms : List SchemeRegistry) (lines : List (List HeldBlock)) → AreLines w ms lines
      → sum_by (λ ls. count_by (λ (l : HeldBlock). has_unit l.block.raw s) ls) lines ≡ count_by (λ m. holds w.scheme m.code (at_registry (live_of w) m.code) s) ms
  lines_count w [] [] h = refl
  lines_count w [] (ls ∷ lss) h = absurd h
  lines_count w (m ∷ ms) [] h = absurd h
  lines_count w (m ∷ ms) (ls ∷ lss) h =
      let here = lines_hold (registry_at w m.code) ls h.0 s in
      let rest = lines_count w ms lss h.1 in
      let a = sum_by-cons (λ (z : List HeldBlock). count_by (λ (l : HeldBlock). has_unit l.block.raw s) z) ls lss in
      let b = sum_by-cons (λ (z : SchemeRegistry). cond {A = ℕ} (holds w.scheme z.code (at_registry (live_of w) z.code) s) 1 0) m ms in
      omega arith

  held_count : (scheme : Scheme) (events : List WorldEvent) (lines : List (List HeldBlock)) → AreLines (reached scheme events) scheme.members lines
      → count_by (λ (b : RawBlock). has_unit b s) (held_blocks lines) ≡ holders scheme (live_of (reached scheme events)) s
  held_count scheme events lines are =
      let w = reached scheme events in
      sum_flat one line_blocks lines
      ∙ sum_same (λ (ls : List HeldBlock). sum_by one (line_blocks ls)) (λ (ls : List HeldBlock). count_by (λ (l : HeldBlock). has_unit l.block.raw s) ls) lines (λ ls i. sum_map one (λ (l : HeldBlock). l.block.raw) ls)
      ∙ subst
      (λ (z : Scheme). sum_by (λ ls. count_by (λ (l : HeldBlock). has_unit l.block.raw s) ls) lines ≡ count_by (λ (m : SchemeRegistry). holds z m.code (at_registry (live_of w) m.code) s) scheme.members)
      (reached_scheme scheme events) (lines_count w scheme.members lines are)

  due_count : (scheme : Scheme) (events : List WorldEvent)
      → count_by (λ (b : RawBlock). has_unit b s) (due_blocks (due (reached scheme events))) ≡ count_by (λ (p : ProposedTransfer). have_unit p.content.units s) (due (reached scheme events))
  due_count scheme events =
      sum_flat one (λ (p : ProposedTransfer). p.content.units) (due (reached scheme events))
      ∙ sum_same (λ (p : ProposedTransfer). sum_by one p.content.units) (λ (p : ProposedTransfer). cond {A = ℕ} (have_unit p.content.units s) 1 0) (due (reached scheme events))
      (λ p i. units_once p.content.units (due_apart scheme events p i) s)

-- ---- the law

-- the number of due transfers that have a unit is the number of completed transfers that owe it: the law
-- `safety::debts_are_owed`
abbrev pub DebtsAreOwed : Type 0
DebtsAreOwed =
    (scheme : Scheme) (events : List WorldEvent) (s : Serial) → count_by (λ p. have_unit p.content.units s) (due (run (opening scheme) events)) ≡ owed scheme (live_of (run (opening scheme) events)) s

pub sums : DebtsAreOwed → (scheme : Scheme) (events : List WorldEvent) (lines : List (List HeldBlock)) → AreLines (run (opening scheme) events) scheme.members lines
    → sum_by (λ ls. sum_by held_units ls) lines + sum_by due_units (due (run (opening scheme) events)) ≡ allotted_units scheme
sums debts scheme events lines are =
    let w = reached scheme events in
    let held = held_blocks lines in
    let owing = due_blocks (due w) in
    let e =
    same_units (held ++ owing) (raws (all_blocks scheme.members)) (λ s.
    let a = sum_by-append (one s) held owing in
    let b = held_count s scheme events lines are in
    let c = due_count s scheme events in
    let d = debts scheme events s in
    let g = causal_one_place scheme (live_of w) (reached_live scheme events) s in
    let x = allotted_once scheme s in
    let y = sum_map (one s) (λ (z : Block). z.raw) (all_blocks scheme.members) in
    omega arith) in
    let a = sum_by-append units_of held owing in
    let b = held_sum lines in
    let c = due_sum (due w) in
    let d = allotted_sum scheme in
    omega arith
