use Rattle.std.proofs.Common.{List, [], ◌∷◌, ◌++◌, not, ◌&&◌, ◌||◌, unwrap_or, ap, ◌∙◌}
use Rattle.std.specs.BTreeMap as tree
use Rattle.units.specs.Code.{same_code}
use Rattle.units.specs.Keys.{code_cmp}
use Rattle.units.specs.RefusalCodes.{wrong_acquirer, initiator_not_eligible, acquirer_not_eligible}
use Rattle.units.specs.declared.block.RawBlock.{RawBlock}
use Rattle.units.specs.declared.code.Code.{Code}
use Rattle.protocol.specs.Checks.{codes_of}
use Rattle.protocol.specs.Registries.{has_member}
use Rattle.checks.proofs.CodesInOrder.{noted}
use Rattle.checks.proofs.LogCauses.{log_found}
use Rattle.checks.specs.Following.{unit_causes}
use Rattle.checks.specs.Knowing.{starts_eligible}
use Rattle.checks.proofs.log.log_findings.Goals as goal

pub returns : goal.returns
returns c = λ known knows.
    let scheme = c.args.scheme.now in
    let register = c.args.register.now in
    let initiator = c.args.initiator in
    let k = c.args.content.now in
    let acquirer = c.acquirer-acquirer.ensures in
    let stranger = c.is_no_acquirer-stranger.ensures ∙ ap (λ (q : Code). not (has_member scheme q) || same_code q initiator) acquirer in
    let barred = c.is_barred-barred.ensures ∙ ap (λ (q : Code). has_member scheme q && not (unwrap_or (tree.get code_cmp register.orders q) (starts_eligible scheme q))) acquirer in
    let a = (c.is_no_acquirer-stranger.result, wrong_acquirer) ∷ [] in
    let u = unit_causes register initiator k.units in
    let b = (not c.is_eligible-may.result, initiator_not_eligible) ∷ [] in
    let d = (c.is_barred-barred.result, acquirer_not_eligible) ∷ [] in
    let units = c.in_ok-note_units.ensures ∙ ap (λ (rs : List RawBlock). c.note.new.found.items ++ codes_of (unit_causes register initiator rs)) c.units.ensures.value in
    let one = noted [] a c.new-found.result.items c.note.new.found.items c.new-found.ensures.items c.in_ok-note.ensures in
    let two = noted a u c.note.new.found.items c.note_units.new.found.items one units in
    let three = noted (a ++ u) b c.note_units.new.found.items c.note-2.new.found.items two c.in_ok-note-2.ensures in
    let four = noted (a ++ u ++ b) d c.note-2.new.found.items c.note-3.new.found.items three c.in_ok-note-3.ensures in
    log_found scheme register known knows initiator k c.is_no_acquirer-stranger.result c.is_eligible-may.result c.is_barred-barred.result _ stranger c.is_eligible-may.ensures barred (c.some_codes.ensures ∙ four)
