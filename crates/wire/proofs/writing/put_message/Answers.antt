use Rattle.std.proofs.Common.{◌≡◌, sym, subst}
use Rattle.std.specs.Prelude.{OnOk}
use Rattle.wire.specs.Messages.{fields_with}
use Rattle.json_fields.specs.Writing.{after_fields}
use Rattle.wire.specs.declared.message.Body.{Body}
use Rattle.wire.proofs.writing.put_message.Goals as goal

pub returns-in-Proposal-clause-fields : goal.returns-in-Proposal-clause-fields
returns-in-Proposal-clause-fields c =
    subst (λ (b : Body). OnOk c.put_proposal.result (c.put_proposal.new.out ≡ after_fields c.args.out.now (fields_with c.args.message.now b))) (sym c.in-Proposal.is) c.put_proposal.ensures.fields
