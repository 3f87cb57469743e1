-- The text that is printed for a record has the expected fields.
use Rattle.std.proofs.Common.{◌≡◌, ℕ, List, refl, sym, subst}
use Rattle.std.specs.Prelude.{IsUtf8}
use Rattle.json.specs.Lex.{tokens}
use Rattle.json.specs.Print.{print}
use Rattle.json.specs.Token.{Token}
use Rattle.wire.specs.Messages.{message_data}
use Rattle.wire.specs.Records.{record_data, IsRecord, IsRecordText}
use Rattle.json_fields.specs.Writing.{data_tokens}
use Rattle.wire.specs.Writing.{IsSoundInput}
use Rattle.wire.specs.declared.input.Input.{Input}
use Rattle.wire.specs.declared.input.Input.TheVariants.{Propose, Request, OpenAccount, CloseAccount, Ack, CleanUp, Eligible, Received}
use Rattle.wire.specs.declared.record_format.RecordFormat.TheVariants.{Two}
use Rattle.wire.proofs.Printed.{message_exact}
use Rattle.wire.proofs.ReadBack.{record_back, record_shallow}
use Rattle.wire.proofs.Within.{within_two}
use Rattle.json_fields.proofs.Written.{printed_reads}

record_is : (i : Input) → IsSoundInput i → IsRecord Two (record_data i) i
record_is (Propose o) is = ((refl, (refl, (refl, (refl, (refl, (refl, (refl, tt))))))), is)
record_is (Request t) is = (refl, (refl, (refl, (refl, tt))))
record_is (OpenAccount n) is = (refl, (refl, (refl, (refl, tt))))
record_is (CloseAccount n) is = (refl, (refl, (refl, (refl, tt))))
record_is (Ack n) is = (refl, (refl, (refl, (refl, tt))))
record_is (CleanUp t) is = (refl, (refl, (refl, (refl, tt))))
record_is (Eligible c may) is = (refl, (refl, (refl, (refl, (refl, tt)))))
record_is (Received m t) is = (message_data m, (refl, (refl, (refl, (refl, (refl, tt))))), (message_exact m, is), within_two m.body is)

pub record_of : (i : Input) (ts : List Token) (bytes : List ℕ) → ts ≡ data_tokens (record_data i) → IsSoundInput i → bytes ≡ print ts → tokens (print ts) ≡ ts → IsUtf8 (print ts) → IsRecordText Two bytes i
record_of i ts bytes are sound text reads utf8 =
    record {
      utf8 = subst IsUtf8 (sym text) utf8;
      value = record_data i;
      reads = printed_reads (record_data i) ts bytes are text reads (record_shallow i) (record_back i sound);
      writes = record_is i sound;
    }
