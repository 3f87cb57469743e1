use Rattle.std.proofs.Common.{◌≤◌, ◌-◌, List, length, ap, sym, ◌∙◌, arith}
use Rattle.std.specs.List.{slice_get}
use Rattle.std.specs.Option.{option_copied}
use Rattle.records.specs.declared.record.Record.{Record}
use Rattle.records.proofs.KeptTables.{none_past_records}
use Rattle.records.proofs.Sendings.{sent_by_some, sent_by_all}
use Rattle.records.proofs.outbox.Outbox.sent_by.Goals as goal

pub returns-in-Some : goal.returns-in-Some
returns-in-Some c =
    sent_by_some c.args.self.now c.self.inside.records.items c.self.inside.messages.items c.args.records c.in-Some.record.now c.self.view_is c.self.invariant.counted (λ e. omega arith)
    (ap (λ (l : List Record). slice_get l (c.args.records - 1)) (sym c.as_slice.ensures.value) ∙ sym c.record_at.ensures ∙ ap option_copied c.in-Some.is)

pub returns-in-None : goal.returns-in-None
returns-in-None c =
    let past : length c.self.inside.records.items ≤ c.args.records - 1 =
    none_past_records c.self.inside.records.items (c.args.records - 1)
    (ap (λ (l : List Record). slice_get l (c.args.records - 1)) (sym c.as_slice.ensures.value) ∙ sym c.record_at.ensures ∙ ap option_copied c.in-None.is) in
    c.len.ensures ∙ c.self.inside.messages.ok.0
    ∙ sent_by_all c.args.self.now c.self.inside.records.items c.self.inside.messages.items c.args.records c.self.view_is c.self.invariant.counted (omega arith)
