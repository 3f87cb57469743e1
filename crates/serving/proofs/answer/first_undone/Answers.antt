use Rattle.std.proofs.Common.{◌∙◌, sym}
use Rattle.std.proofs.lemmas.Slice.Zip.{either_empty_from_Zip}
use Rattle.serving.proofs.Undone.{none_left}
use Rattle.serving.proofs.answer.first_undone.Goals as goal

pub returns : goal.returns
returns c = sym (c.loop-line.invariant.undone ∙ none_left _ _ _ (either_empty_from_Zip c.loop-line.line-iterator c.next.new.self c.next.result c.in-None.is c.next.ensures.steps))
