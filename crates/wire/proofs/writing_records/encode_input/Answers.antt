use Rattle.std.proofs.Common.{◌++◌, ap, ◌∙◌}
use Rattle.wire.specs.Records.{record_data}
use Rattle.json_fields.specs.Writing.{data_tokens}
use Rattle.wire.proofs.PrintedRecords.{record_of}
use Rattle.json_fields.proofs.Written.{printed}
use Rattle.wire.proofs.writing_records.encode_input.Goals as goal

pub returns-clause-text : goal.returns-clause-text
returns-clause-text c =
    let d = record_data c.args.input.now in
    printed d c.write_record.new.out c.into_bytes.result.items (c.in_ok-write_record.ensures.tokens ∙ ap (λ ts. ts ++ data_tokens d) c.in_ok-out.ensures) c.into_bytes.ensures.text

pub returns-clause-record : goal.returns-clause-record
returns-clause-record c =
    let i = c.args.input.now in
    let are = c.in_ok-write_record.ensures.tokens ∙ ap (λ ts. ts ++ data_tokens (record_data i)) c.in_ok-out.ensures in
    record_of i c.write_record.new.out c.into_bytes.result.items are c.in_ok-write_record.ensures.sound c.into_bytes.ensures.text c.into_bytes.ensures.reads_back c.into_bytes.ensures.utf8
