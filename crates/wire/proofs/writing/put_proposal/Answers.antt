use Rattle.std.proofs.Common.{drop, ap, ◌∙◌}
use Rattle.wire.specs.Messages.{fields_with}
use Rattle.json_fields.specs.Writing.{after_fields}
use Rattle.wire.specs.declared.message.Body.TheVariants.{Proposal}
use Rattle.json_fields.proofs.Written.{then_ok}
use Rattle.wire.proofs.writing.put_proposal.Goals as goal

pub returns-clause-fields : goal.returns-clause-fields
returns-clause-fields c =
    let all = fields_with c.args.message.now (Proposal c.args.proposal.now) in
    then_ok c.put_last_fields.result (λ last. last ∙ ap (λ ts. after_fields ts (drop 5 all)) c.in_ok-put_first_fields.ensures) c.put_last_fields.ensures.fields
