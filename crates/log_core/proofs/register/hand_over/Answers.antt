use Rattle.std.proofs.Common.{rules, Some, sym, ap, ◌∙◌}
use Rattle.std.specs.FinMap.{get}
use Rattle.std.specs.Option.{option_copied}
use Rattle.std.proofs.lemmas.Result.{on_ok_weaker}
use Rattle.units.specs.declared.block.Block.{Block}
use Rattle.checks.specs.declared.register.BookEntry.{BookEntry}
use Rattle.log_core.specs.Effects.{handed_over}
use Rattle.safety.proofs.ListLemmas.LabelledBlocks.{one_label}
use Rattle.log_core.proofs.register.hand_over.Goals as goal

pub set_all-requires-clause-apart : goal.set_all-requires-clause-apart
set_all-requires-clause-apart c = c.requires c.in-Some.content.now c.units.result.now (ap option_copied c.in-Some.is) c.units.ensures.value

pub returns-clause-ok : goal.returns-clause-ok
returns-clause-ok c =
    let label : BookEntry = record { registry = c.in-Some.content.now.acquirer } in
    let all = c.set_all.ensures.ok (λ (b : Block). Some label) (λ b r h. search (rules, h)) in
    on_ok_weaker c.set_all.result
    (λ h s. h s ∙ one_label label c.units.result.now c.in-Some.content.now.units s (get c.args.book.now s) c.units.ensures.value
    ∙ ap (λ k. handed_over (option_copied k) s (get c.args.book.now s)) (sym c.in-Some.is)) all
