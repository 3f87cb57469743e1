use Rattle.std.proofs.Common.{◌≡◌, [], ◌∷◌, ◌++◌, is_some, is_none, ap, ◌∙◌}
use Rattle.std.specs.FinMap.{get}
use Rattle.std.proofs.lemmas.Result.{on_ok_weaker}
use Rattle.units.specs.RefusalCodes.{unit_repeated, unit_not_allotted, other_owner, other_transfer, other_kind}
use Rattle.status.specs.Content.{raws}
use Rattle.protocol.specs.Checks.{Causes, codes_of, has_other_kind}
use Rattle.checks.proofs.CodesInOrder.{noted_after}
use Rattle.checks.proofs.LabelledUnits.{each_block}
use Rattle.checks.specs.Following.{is_of_other, unit_causes}
use Rattle.checks.proofs.log.note_units.Goals as goal

pub returns : goal.returns
returns c =
    let start = c.args.found.now.items in
    let register = c.args.register.now in
    let initiator = c.args.initiator in
    let blocks = c.args.blocks.now in
    let a = (c.has_repeats.result, unit_repeated) ∷ [] in
    let b = (c.has_unallotted.result, unit_not_allotted) ∷ [] in
    let d = (c.has_other_owner.result, other_owner) ∷ [] in
    let e = (c.has_busy.result, other_transfer) ∷ [] in
    let f = (c.has_other_kind.result, other_kind) ∷ [] in
    let two = noted_after start a b c.note.new.found.items c.note-2.new.found.items c.in_ok-note.ensures c.in_ok-note-2.ensures in
    let three = noted_after start (a ++ b) d c.note-2.new.found.items c.note-3.new.found.items two c.in_ok-note-3.ensures in
    let four = noted_after start (a ++ b ++ d) e c.note-3.new.found.items c.note-4.new.found.items three c.in_ok-note-4.ensures in
    let unallotted = c.has_unallotted.ensures ∙ each_block (λ p. is_none (get register.allotments p.unit)) blocks in
    let owned = c.has_other_owner.ensures ∙ each_block (λ p. is_of_other initiator (get register.book p.unit)) blocks in
    let busy = c.has_busy.ensures ∙ each_block (λ p. is_some (get register.under_way p.unit)) blocks in
    let other = c.has_other_kind.ensures ∙ each_block (λ p. has_other_kind (get register.allotments p.unit) p.kind) blocks in
    let same : a ++ b ++ d ++ e ++ f ≡ unit_causes register initiator (raws blocks) = λ i.
    (c.has_repeats.ensures i, unit_repeated) ∷ (unallotted i, unit_not_allotted) ∷ (owned i, other_owner) ∷ (busy i, other_transfer) ∷ (other i, other_kind) ∷ [] in
    on_ok_weaker c.note-5.result (λ last. noted_after start (a ++ b ++ d ++ e) f c.note-4.new.found.items c.note-5.new.found.items four last ∙ ap (λ (causes : Causes). start ++ codes_of causes) same) c.note-5.ensures
