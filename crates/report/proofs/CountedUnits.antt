-- A table's numbers count every unit once: the law of the numbers, and that no number reaches the greatest one shown.
use Rattle.std.proofs.Common.{◌≡◌, ◌≤◌, ◌<◌, ◌+◌, ℕ, List, [], ◌∷◌, map, refl, subst, arith}
use Rattle.std.specs.Prelude.{sum_by}
use Rattle.std.proofs.lemmas.List.Sums.{sum_by-cons}
use Rattle.registry_core.specs.HeldBlock.{HeldBlock}
use Rattle.scheme.specs.declared.registries.Scheme.{Scheme}
use Rattle.protocol.specs.Table.{due}
use Rattle.protocol.specs.World.{opening, run}
use Rattle.protocol.specs.declared.event.WorldEvent.{WorldEvent}
use Rattle.safety.specs.NumberOfUnits.{allotted_units}
use Rattle.report.specs.NumberOfUnits.{due_units, held_units}
use Rattle.world.specs.RegistryLines.{AreLines}
use Rattle.world.specs.Stocks.{AreStocks}
use Rattle.world.specs.declared.views.Stock.{Stock}
use Rattle.report.specs.ReportLines.{greatest_shown, held_shown, shown}
use Rattle.safety.proofs.WorldLemmas.ReachedWorlds.{reached_scheme}
use Rattle.report.specs.Table.{AddUp}

-- the law: the units of all lines and of all that is due are those that the scheme allots
abbrev pub Sums : Type 0
Sums = (scheme : Scheme) (events : List WorldEvent) (lines : List (List HeldBlock)) → AreLines (run (opening scheme) events) scheme.members lines
    → sum_by (λ ls. sum_by held_units ls) lines + sum_by due_units (due (run (opening scheme) events)) ≡ allotted_units scheme

-- what a scheme allots is shown as it is
abbrev pub Fits : Type 0
Fits = (scheme : Scheme) → allotted_units scheme < 18_446_744_073_709_551_616

shown_so : (n : ℕ) → n ≤ greatest_shown → shown n ≡ n
shown_so n l = omega (arith)

-- numbers whose sum can be shown are shown
all_shown : (stocks : List Stock) → sum_by (λ ls. sum_by held_units ls) (map (λ s. s.lines) stocks) ≤ greatest_shown
    → sum_by (λ s. held_shown s.lines) stocks ≡ sum_by (λ ls. sum_by held_units ls) (map (λ s. s.lines) stocks)
all_shown [] l = refl
all_shown (s ∷ stocks) l =
    let all = sum_by-cons (λ ls. sum_by held_units ls) s.lines (map (λ s. s.lines) stocks) in
    let shown_all = sum_by-cons (λ s. held_shown s.lines) s stocks in
    let rest = all_shown stocks (omega (arith, l, all)) in
    let here = shown_so (sum_by held_units s.lines) (omega (arith, l, all)) in
    omega (arith, all, shown_all, rest, here)

pub counted : Sums → Fits → (scheme : Scheme) (events : List WorldEvent) (stocks : List Stock) → AreStocks (run (opening scheme) events) (run (opening scheme) events).scheme.members stocks
    → AddUp scheme stocks (due (run (opening scheme) events))
counted sums fits scheme events stocks are =
    let w = run (opening scheme) events in
    let lines = subst (λ (z : Scheme). AreLines w z.members (map (λ s. s.lines) stocks)) (reached_scheme scheme events) are.lines in
    let law = sums scheme events (map (λ s. s.lines) stocks) lines in
    let room = fits scheme in
    let held = all_shown stocks (omega arith) in
    let owed = shown_so (sum_by due_units (due w)) (omega arith) in
    omega arith
