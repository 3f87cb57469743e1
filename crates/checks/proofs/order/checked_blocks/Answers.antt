use Rattle.std.proofs.Common.{◌≡◌, false, List, refl, sym, ap, subst, ◌∙◌, inr}
use Rattle.std.specs.List.{list_any}
use Rattle.units.specs.declared.block.RawBlock.{RawBlock}
use Rattle.status.specs.Content.{raws}
use Rattle.protocol.specs.Checks.{is_out_of_range}
use Rattle.protocol.specs.Pieces.{pieces, repeats}
use Rattle.checks.proofs.PiecesOfBlocks.{raws_in_range}
use Rattle.checks.proofs.order.checked_blocks.Goals as goal

pub returns-then-has_repeats-clause-refused : goal.returns-then-has_repeats-clause-refused
returns-then-has_repeats-clause-refused c =
    let some = sym c.is_wrong_count.ensures ∙ c.if-is_wrong_count.false in
    let good = subst (λ (rs : List RawBlock). list_any is_out_of_range rs ≡ false) c.in_ok-blocks.ensures.ok (raws_in_range c.in_ok-blocks.blocks.items) in
    let same = ap raws c.deref.ensures.value ∙ c.in_ok-blocks.ensures.ok in
    let twice = ap (λ (rs : List RawBlock). repeats (pieces rs)) (sym same) ∙ sym c.has_repeats.ensures ∙ c.if-has_repeats.true in
    inr (rw (some, good, twice) refl)

pub returns-clause-ok : goal.returns-clause-ok
returns-clause-ok c =
    let some = sym c.is_wrong_count.ensures ∙ c.if-is_wrong_count.false in
    let good = subst (λ (rs : List RawBlock). list_any is_out_of_range rs ≡ false) c.in_ok-blocks.ensures.ok (raws_in_range c.in_ok-blocks.blocks.items) in
    let same = ap raws c.deref.ensures.value ∙ c.in_ok-blocks.ensures.ok in
    let once = ap (λ (rs : List RawBlock). repeats (pieces rs)) (sym same) ∙ sym c.has_repeats.ensures ∙ c.if-has_repeats.false in
    rw (some, good, once) refl
