-- The table of a world that events lead to.
use Rattle.std.proofs.Common.{◌≡◌, ℕ, List, subst}
use Rattle.units.specs.declared.code.Node.{Node}
use Rattle.scheme.specs.declared.registries.Scheme.{Scheme}
use Rattle.protocol.specs.Claims.{committed_of, live_of}
use Rattle.protocol.specs.Headline.{IsSafe}
use Rattle.protocol.specs.History.{Entry}
use Rattle.protocol.specs.World.{World, opening, run}
use Rattle.protocol.specs.declared.event.WorldEvent.{WorldEvent}
use Rattle.report.specs.declared.form.Form.{Form}
use Rattle.report.specs.Table.{IsSafeTable, IsTable}
use Rattle.report.proofs.CountedUnits.{Fits, Sums, counted}

-- the law: these histories are safe in each world that events lead to
abbrev AreSafe : (World → Node → List Entry) → Type 0
AreSafe of_world = (scheme : Scheme) (events : List WorldEvent) → IsSafe scheme (of_world (run (opening scheme) events))

pub safe_table : (form : Form) → Sums → Fits → AreSafe live_of → AreSafe committed_of → (scheme : Scheme) (events : List WorldEvent) (w : World) (text : List ℕ) → w ≡ run (opening scheme) events → IsTable form w text → IsSafeTable form scheme events text
safe_table form sums fits live committed scheme events w text led is =
    let there = subst (λ (v : World). IsTable form v text) led is in
    record {
      table = there;
      counted = counted sums fits scheme events there.stocks there.are;
      live = live scheme events;
      committed = committed scheme events;
    }
