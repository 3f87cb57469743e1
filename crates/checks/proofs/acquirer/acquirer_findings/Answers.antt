use Rattle.std.proofs.Common.{not, ◌&&◌, [], ◌∷◌, ◌++◌, List, ap, ◌∙◌}
use Rattle.std.specs.List.{list_any}
use Rattle.units.specs.RefusalCodes.{receiver_unknown, receiver_closed, unit_already_held, kind_not_taken}
use Rattle.units.specs.declared.block.RawBlock.{RawBlock}
use Rattle.protocol.specs.Pieces.{pieces}
use Rattle.protocol.specs.Registries.{has_account, takes_kind}
use Rattle.checks.proofs.CodesInOrder.{noted}
use Rattle.checks.proofs.FoundUnits.{kinds_told, found_by}
use Rattle.checks.proofs.acquirer.acquirer_findings.Goals as goal

pub returns : goal.returns
returns c = λ known knows.
    let scheme = c.args.scheme.now in
    let code = c.args.code in
    let k = c.args.content.now in
    let account = c.to_account-account.ensures.value in
    let units = c.units-blocks.ensures.value in
    let unknown = c.is_unknown.ensures scheme code known knows ∙ ap (λ n. not (has_account scheme code n)) account in
    let shut = c.is_closed.ensures scheme code known knows ∙ ap (λ n. has_account scheme code n && known.is_closed n) account in
    let held = c.holds_some.ensures scheme code known knows ∙ ap (λ (rs : List RawBlock). list_any (λ p. known.is_held p.unit) (pieces rs)) units in
    let untaken =
    c.has_untaken.ensures ∙ kinds_told (λ kind. not (takes_kind scheme code kind)) c.units-blocks.result.now ∙ ap (λ (rs : List RawBlock). list_any (λ p. not (takes_kind scheme code p.kind)) (pieces rs)) units in
    let a = (c.is_unknown.result, receiver_unknown) ∷ [] in
    let b = (c.is_closed.result, receiver_closed) ∷ [] in
    let d = (c.holds_some.result, unit_already_held) ∷ [] in
    let e = (c.has_untaken.result, kind_not_taken) ∷ [] in
    let one = noted [] a _ _ c.new-found.ensures.items c.in_ok-note.ensures in
    let two = noted a b _ _ one c.in_ok-note-2.ensures in
    let three = noted (a ++ b) d _ _ two c.in_ok-note-3.ensures in
    let four = noted (a ++ b ++ d) e _ _ three c.in_ok-note-4.ensures in
    found_by scheme code known k _ _ _ _ _ unknown shut held untaken (c.some_codes.ensures ∙ four)
