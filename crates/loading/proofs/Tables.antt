-- The table of a woven world, and why there may be none.
use Rattle.std.proofs.Common.{◌≡◌, ◌∙◌, ◌++◌, ℕ, List, [], ap, sym, subst}
use Rattle.protocol.specs.Input.{Input}
use Rattle.protocol.specs.Scheme.{Scheme}
use Rattle.protocol.specs.Weave.{Projects}
use Rattle.protocol.specs.declared.event.WorldEvent.{WorldEvent}
use Rattle.weave.specs.Following.{IsWeaveFault, journal_of}
use Rattle.weave.specs.declared.fault.WeaveFault.{WeaveFault}
use Rattle.weave.specs.declared.fault.WeaveFault.TheVariants.{Stuck, NoMemory}
use Rattle.report.specs.Table.{IsSafeTable}
use Rattle.report.specs.declared.form.Form.{Form}
use Rattle.loading.specs.Runs.{FailsToWeave, IsAuditTable, of_weaving}

-- the table of the world that the events lead to, added to an empty text
pub audited : (form : Form) (scheme : Scheme) (js : List (List Input)) (events : List WorldEvent) (empty text : List ℕ) → Projects scheme events (journal_of scheme js) → empty ≡ [] → (table : List ℕ) × IsSafeTable form scheme events table × (text ≡ empty ++ table)
    → IsAuditTable form scheme js text
audited form scheme js events empty text projects none told =
    subst (IsAuditTable form scheme js) (sym (told.2 ∙ ap (λ (bytes : List ℕ). bytes ++ told.0) none)) (record { events = events; projects = projects; is_table = told.1 })

pub fails_to_weave : (scheme : Scheme) (js : List (List Input)) (fault : WeaveFault) → IsWeaveFault scheme (journal_of scheme js) fault → FailsToWeave scheme js (of_weaving fault)
fails_to_weave scheme js (Stuck n place) f = f
fails_to_weave scheme js NoMemory f = tt
