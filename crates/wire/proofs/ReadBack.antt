-- The texts of messages and records are read back as them: their values nest little, and their numbers are short.
use Rattle.std.proofs.Common.{◌≡◌, ℕ, ◌+◌, ◌<◌, ◌≤◌, List, [], ◌∷◌, Some, refl, lit≤, arith}
use Rattle.json.specs.Tree.{depth, items_depth}
use Rattle.serde_json.specs.Read.{of_json, of_items}
use Rattle.serde_json.specs.Written.{outline, items_outline}
use Rattle.serde_json.proofs.Numbers.{number_of-decimal}
use Rattle.units.specs.declared.block.RawBlock.{RawBlock}
use Rattle.wire.specs.Codes.{Ascends}
use Rattle.wire.specs.Messages.{fields_with, message_data, IsSound}
use Rattle.wire.specs.NotifiedStatuses.{notified_codes, IsNotified}
use Rattle.wire.specs.Objects.{block_items, object_of, whole_items}
use Rattle.wire.specs.Records.{record_data}
use Rattle.wire.specs.Writing.{IsSoundInput}
use Rattle.wire.specs.declared.input.Input.{Input}
use Rattle.wire.specs.declared.input.Input.TheVariants.{Propose, Request, OpenAccount, CloseAccount, Ack, CleanUp, Eligible, Received}
use Rattle.wire.specs.declared.message.Body.{Body}
use Rattle.wire.specs.declared.message.Body.TheVariants as body
use Rattle.wire.specs.declared.message.Message.{Message}
use Rattle.wire.specs.declared.notified.NotifiedStatus.{NotifiedStatus}
use Rattle.wire.specs.declared.notified.NotifiedStatus.TheVariants.{Accepted, Rejected, Terminated, Cancelled, Completed}

-- ---- lists

blocks_back : (bs : List RawBlock) → of_items (items_outline (block_items bs)) ≡ Some (block_items bs)
blocks_back [] = refl
blocks_back (b ∷ bs) = rw (blocks_back bs) refl

blocks_flat : (bs : List RawBlock) → items_depth (items_outline (block_items bs)) ≡ 0
blocks_flat [] = refl
blocks_flat (b ∷ bs) = rw (blocks_flat bs) refl

ascends_back : (first last : ℕ) (cs : List ℕ) → Ascends first last cs → last < 1000 → of_items (items_outline (whole_items cs)) ≡ Some (whole_items cs)
ascends_back first last [] are lt = refl
ascends_back first last (c ∷ cs) are lt = let here = are.0 in rw (number_of-decimal c (omega arith), ascends_back (c + 1) last cs are.1 lt) refl

whole_flat : (ns : List ℕ) → items_depth (items_outline (whole_items ns)) ≡ 0
whole_flat [] = refl
whole_flat (n ∷ ns) = rw (whole_flat ns) refl

notified_back : (n : NotifiedStatus) → IsNotified n → of_items (items_outline (whole_items (notified_codes n))) ≡ Some (whole_items (notified_codes n))
notified_back Accepted is = refl
notified_back (Rejected cs) is = ascends_back 301 304 cs is.1 (omega arith)
notified_back (Terminated cs) is = ascends_back 201 208 cs is.1 (omega arith)
notified_back Cancelled is = refl
notified_back Completed is = refl

-- ---- messages

fields_back : (m : Message) (b : Body) → IsSound b → of_json (outline (object_of (fields_with m b))) ≡ Some (object_of (fields_with m b))
fields_back m (body.Proposal p) is =
    let account = is.account in
    let to_account = is.to_account in
    rw (number_of-decimal p.content.account (omega arith), number_of-decimal p.content.to_account (omega arith), blocks_back p.content.units) refl
fields_back m (body.Notification n) is = rw (notified_back n is) refl
fields_back m body.Request is = refl

pub message_back : (m : Message) → IsSound m.body → of_json (outline (message_data m)) ≡ Some (message_data m)
message_back m is = fields_back m m.body is

fields_shallow : (m : Message) (b : Body) → depth (outline (object_of (fields_with m b))) ≤ 2
fields_shallow m (body.Proposal p) = rw (blocks_flat p.content.units) (lit≤ tt)
fields_shallow m (body.Notification n) = rw (whole_flat (notified_codes n)) (lit≤ tt)
fields_shallow m body.Request = lit≤ tt

pub message_shallow : (m : Message) → depth (outline (message_data m)) ≤ 2
message_shallow m = fields_shallow m m.body

-- ---- records

pub record_back : (i : Input) → IsSoundInput i → of_json (outline (record_data i)) ≡ Some (record_data i)
record_back (Propose o) is =
    let account = is.account in
    let to_account = is.to_account in
    rw (number_of-decimal o.account (omega arith), number_of-decimal o.to_account (omega arith), blocks_back o.units, number_of-decimal 2 (omega arith)) refl
record_back (Request t) is = rw (number_of-decimal 2 (omega arith)) refl
record_back (OpenAccount n) is = let short = n.short in rw (number_of-decimal n.value (omega arith), number_of-decimal 2 (omega arith)) refl
record_back (CloseAccount n) is = let short = n.short in rw (number_of-decimal n.value (omega arith), number_of-decimal 2 (omega arith)) refl
record_back (Ack n) is = let short = n.short in rw (number_of-decimal n.value (omega arith), number_of-decimal 2 (omega arith)) refl
record_back (CleanUp t) is = let in_range = t.in_range in rw (number_of-decimal t.seconds (omega arith), number_of-decimal 2 (omega arith)) refl
record_back (Eligible c may) is = rw (number_of-decimal 2 (omega arith)) refl
record_back (Received m t) is = let in_range = t.in_range in rw (message_back m is, number_of-decimal t.seconds (omega arith), number_of-decimal 2 (omega arith)) refl

pub record_shallow : (i : Input) → depth (outline (record_data i)) ≤ 127
record_shallow (Propose o) = rw (blocks_flat o.units) (lit≤ tt)
record_shallow (Request t) = lit≤ tt
record_shallow (OpenAccount n) = lit≤ tt
record_shallow (CloseAccount n) = lit≤ tt
record_shallow (Ack n) = lit≤ tt
record_shallow (CleanUp t) = lit≤ tt
record_shallow (Eligible c may) = lit≤ tt
record_shallow (Received m t) = omega (arith, message_shallow m)
