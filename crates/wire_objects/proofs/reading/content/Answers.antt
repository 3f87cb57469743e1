use Rattle.std.proofs.Common.{ℕ, List, codes}
use Rattle.serde_json.specs.View.{view}
use Rattle.json_fields.specs.Fields.{HasAt}
use Rattle.json_fields.proofs.Parts.{lacks_too, read_so}
use Rattle.serde_json.specs.Data.{string}
use Rattle.units.specs.Code.{code_text}
use Rattle.units.specs.declared.block.Block.{Block}
use Rattle.units.specs.declared.code.Code.{Code}
use Rattle.status.specs.Content.{raws}
use Rattle.status.proofs.Contents.{in_range}
use Rattle.wire.specs.Objects.{blocks, whole}
use Rattle.wire.specs.Reading.{HasContent}
use Rattle.wire.proofs.Told.{own_blocks, content_found}
use Rattle.wire_objects.proofs.reading.content.Goals as goal

pub returns-in_err-units : goal.returns-in_err-units
returns-in_err-units c =
    let d = view c.args.value.now in
    lacks_too (λ (bs : List Block). HasAt d (codes "units") (blocks (raws bs))) (HasContent d) c.in_err-units.field-0.0 c.from_residual-in_err-units.result c.from_residual-in_err-units.ensures.1
    (own_blocks d) c.in_err-units.ensures

pub returns : goal.returns
returns c =
    let d = view c.args.value.now in
    let account = read_so (λ (n : ℕ). HasAt d (codes "account") (whole n)) c.whole_at.result c.in_ok-account.account c.in_ok-account.ensures.value c.whole_at.ensures in
    let to_account = read_so (λ (n : ℕ). HasAt d (codes "to_account") (whole n)) c.whole_at-2.result c.in_ok-to_account.to_account c.in_ok-to_account.ensures.value c.whole_at-2.ensures in
    let acquirer = read_so (λ (n : Code). HasAt d (codes "to_registry") (string (code_text n))) c.code_at.result c.in_ok-acquirer.acquirer c.in_ok-acquirer.ensures.value c.code_at.ensures in
    rw c.ok_or-4.ensures.value
    (content_found d c.in_ok-account.account c.in_ok-to_account.to_account c.in_ok-acquirer.acquirer (raws c.in_ok-units.units) c.new.result account to_account acquirer
    c.in_ok-units.ensures (in_range c.in_ok-units.units) c.new.ensures.some c.new.ensures.valid c.new.ensures.none)
