use Rattle.std.proofs.Common.{◌++◌, ap, ◌∙◌}
use Rattle.wire.specs.Messages.{message_data}
use Rattle.json_fields.specs.Writing.{data_tokens}
use Rattle.wire.proofs.Printed.{line_of}
use Rattle.json_fields.proofs.Written.{printed}
use Rattle.wire.proofs.writing.encode.Goals as goal

pub returns-clause-text : goal.returns-clause-text
returns-clause-text c =
    let d = message_data c.args.message.now in
    printed d c.write_message.new.out c.into_bytes.result.items (c.in_ok-write_message.ensures.tokens ∙ ap (λ ts. ts ++ data_tokens d) c.in_ok-out.ensures) c.into_bytes.ensures.text

pub returns-clause-line : goal.returns-clause-line
returns-clause-line c =
    let m = c.args.message.now in
    let are = c.in_ok-write_message.ensures.tokens ∙ ap (λ ts. ts ++ data_tokens (message_data m)) c.in_ok-out.ensures in
    line_of m c.write_message.new.out c.into_bytes.result.items are c.in_ok-write_message.ensures.sound c.into_bytes.ensures.text c.into_bytes.ensures.reads_back c.into_bytes.ensures.utf8
