use Rattle.std.proofs.Common.{rules, not, Bool, refl}
use Rattle.std.specs.FinMap.{get}
use Rattle.units.specs.Code.{same_code}
use Rattle.protocol.specs.Pieces.{Piece}
use Rattle.checks.proofs.LabelledUnits.{some_labelled}
use Rattle.checks.specs.Following.{is_of_other}
use Rattle.checks.specs.declared.register.BookEntry.{BookEntry}
use Rattle.checks.proofs.log.is_of_another.Goals as goal

pub returns : goal.returns
returns c =
    let book = c.args.book.now in
    let registry = c.args.registry in
    let passes : BookEntry → Bool = λ o. not (same_code o.registry registry) in
    let test : Piece → Bool = λ p. is_of_other registry (get book p.unit) in
    some_labelled book c.args.block.now.raw test passes (λ s. refl) c.has_some_of.result (c.has_some_of.ensures.some passes (λ m r h. search (rules, h))) (c.has_some_of.ensures.none passes (λ m r h. search (rules, h)))
