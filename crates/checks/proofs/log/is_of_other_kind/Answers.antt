use Rattle.std.proofs.Common.{rules, not, Bool, refl}
use Rattle.std.specs.FinMap.{get}
use Rattle.units.specs.Unit.{same_kind}
use Rattle.scheme.specs.declared.members.Holder.{Holder}
use Rattle.protocol.specs.Checks.{has_other_kind}
use Rattle.protocol.specs.Pieces.{Piece}
use Rattle.checks.proofs.LabelledUnits.{some_labelled}
use Rattle.checks.proofs.log.is_of_other_kind.Goals as goal

pub returns : goal.returns
returns c =
    let allotments = c.args.allotments.now in
    let block = c.args.block.now.raw in
    let passes : Holder → Bool = λ h. not (same_kind h.kind block.kind) in
    let test : Piece → Bool = λ p. has_other_kind (get allotments p.unit) p.kind in
    some_labelled allotments block test passes (λ s. refl) c.has_some_of.result (c.has_some_of.ensures.some passes (λ m r h. search (rules, h))) (c.has_some_of.ensures.none passes (λ m r h. search (rules, h)))
