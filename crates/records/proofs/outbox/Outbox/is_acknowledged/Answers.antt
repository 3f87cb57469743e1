use Rattle.std.proofs.Common.{List, not, ap, sym, ◌∙◌}
use Rattle.std.specs.BTreeSet.{contains}
use Rattle.std.specs.List.{slice_get}
use Rattle.std.specs.Option.{option_copied}
use Rattle.records.specs.Awaiting.{unacknowledged_cmp}
use Rattle.records.specs.Sending.{is_key_acknowledged, Sent}
use Rattle.records.specs.declared.unacknowledged.Unacknowledged.{Unacknowledged}
use Rattle.wire.specs.declared.message.Message.{Message}
use Rattle.records.proofs.KeptTables.{acknowledged_at, unacknowledged_past}
use Rattle.records.proofs.outbox.Outbox.is_acknowledged.Goals as goal

pub returns-in-Some : goal.returns-in-Some
returns-in-Some c =
    ap not (c.contains.ensures ∙ ap (λ (p : Unacknowledged). contains unacknowledged_cmp c.self.inside.unacknowledged p) c.unacknowledged_of.ensures)
    ∙ acknowledged_at c.self.inside.records.items c.self.inside.messages.items c.self.inside.unacknowledged c.args.key c.in-Some.message.now c.self.invariant
    (ap (λ (l : List Message). slice_get l c.args.key) (sym c.as_slice.ensures.value) ∙ sym c.message_at.ensures ∙ ap option_copied c.in-Some.is)
    ∙ ap (λ (l : List Sent). is_key_acknowledged l c.args.key) c.self.view_is

pub returns-in-None : goal.returns-in-None
returns-in-None c =
    unacknowledged_past c.self.inside.records.items c.self.inside.messages.items c.args.key c.self.invariant.counted
    (ap (λ (l : List Message). slice_get l c.args.key) (sym c.as_slice.ensures.value) ∙ sym c.message_at.ensures ∙ ap option_copied c.in-None.is)
    ∙ ap (λ (l : List Sent). is_key_acknowledged l c.args.key) c.self.view_is
