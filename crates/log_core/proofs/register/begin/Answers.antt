use Rattle.std.proofs.Common.{rules, Some, sym, ap, ◌∙◌}
use Rattle.std.specs.FinMap.{get}
use Rattle.std.specs.Option.{option_copied}
use Rattle.std.specs.Prelude.{if◌then◌else◌}
use Rattle.std.proofs.lemmas.Result.{on_ok_weaker}
use Rattle.units.specs.declared.block.Block.{Block}
use Rattle.checks.specs.declared.register.UnderWay.{UnderWay}
use Rattle.protocol.specs.History.{has_serial}
use Rattle.safety.proofs.ListLemmas.LabelledBlocks.{one_label}
use Rattle.log_core.proofs.register.begin.Goals as goal

pub set_all-requires-clause-apart : goal.set_all-requires-clause-apart
set_all-requires-clause-apart c = c.requires c.in-Some.content.now c.units.result.now (ap option_copied c.in-Some.is) c.units.ensures.value

pub returns-in-Some-clause-ok : goal.returns-in-Some-clause-ok
returns-in-Some-clause-ok c =
    let label : UnderWay = record { id = c.args.id } in
    let all = c.set_all.ensures.ok (λ (b : Block). Some label) (λ b r h. search (rules, h)) in
    on_ok_weaker c.set_all.result
    (λ h s. h s ∙ one_label label c.units.result.now c.in-Some.content.now.units s (get c.args.under_way.now s) c.units.ensures.value
    ∙ ap (λ k. if has_serial (option_copied k) s then Some label else get c.args.under_way.now s) (sym c.in-Some.is)) all
