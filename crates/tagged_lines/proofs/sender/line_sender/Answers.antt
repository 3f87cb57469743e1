use Rattle.std.proofs.Common.{◌≡◌, ap, sym, subst, ◌∙◌}
use Rattle.std.proofs.lemmas.Bool.{false≢true}
use Rattle.tags.specs.Keys.{NodeKey}
use Rattle.tags.specs.Tags.{hex_text}
use Rattle.tagged_lines.specs.Opened.{sender_of}
use Rattle.tagged_lines.specs.Opening.{IsSenderOf}
use Rattle.tagged_lines.proofs.Senders.{shut_without_tag, shut_without_sender, shut_wrong, opened_right, without_name, without_key, with_key, behind_tag, right_line, wrong_line}
use Rattle.tagged_lines.proofs.sender.line_sender.Goals as goal

pub returns-in_default-clause-text : goal.returns-in_default-clause-text
returns-in_default-clause-text c = shut_without_tag c.args.keys.now c.args.node c.args.line.now c.in_default.ensures.none

pub returns-in_default-2-clause-text : goal.returns-in_default-2-clause-text
returns-in_default-2-clause-text c =
    let keys = c.args.keys.now in
    let text = c.in-Some.text.now in
    let behind = behind_tag c.args.line.now c.in-Some.digits.now text c.in-Some.ensures.some in
    shut_without_sender keys c.args.node c.args.line.now (ap (sender_of keys) behind ∙ without_name keys text (subst (IsSenderOf text) c.in_default-2.is c.in_ok-from.ensures))

pub returns-in_default-key_of-clause-text : goal.returns-in_default-key_of-clause-text
returns-in_default-key_of-clause-text c =
    let keys = c.args.keys.now in
    let text = c.in-Some.text.now in
    let behind = behind_tag c.args.line.now c.in-Some.digits.now text c.in-Some.ensures.some in
    let says = subst (IsSenderOf text) c.in-Some-2.is c.in_ok-from.ensures in
    shut_without_sender keys c.args.node c.args.line.now (ap (sender_of keys) behind ∙ without_key keys text c.in-Some-2.from says (sym c.in_default-key_of.ensures))

pub returns-then-is_written-clause-text : goal.returns-then-is_written-clause-text
returns-then-is_written-clause-text c =
    let keys = c.args.keys.now in
    let line = c.args.line.now in
    let digits = c.in-Some.digits.now in
    let text = c.in-Some.text.now in
    let from = c.in-Some-2.from in
    let key = c.in-Some-key_of.key.now in
    let split = c.in-Some.ensures.some in
    let says = subst (IsSenderOf text) c.in-Some-2.is c.in_ok-from.ensures in
    let found = ap (sender_of keys) (behind_tag line digits text split) ∙ with_key keys text from key says (sym c.in-Some-key_of.ensures) in
    let sender : NodeKey = record { node = from; key = key } in
    opened_right keys c.args.node line sender found (right_line line digits text c.message_tag.result sender c.args.node split (c.is_written.ensures.0 c.if-is_written.true) c.message_tag.ensures)

pub returns-else-is_written-clause-text : goal.returns-else-is_written-clause-text
returns-else-is_written-clause-text c =
    let keys = c.args.keys.now in
    let line = c.args.line.now in
    let digits = c.in-Some.digits.now in
    let text = c.in-Some.text.now in
    let from = c.in-Some-2.from in
    let key = c.in-Some-key_of.key.now in
    let split = c.in-Some.ensures.some in
    let says = subst (IsSenderOf text) c.in-Some-2.is c.in_ok-from.ensures in
    let found = ap (sender_of keys) (behind_tag line digits text split) ∙ with_key keys text from key says (sym c.in-Some-key_of.ensures) in
    let sender : NodeKey = record { node = from; key = key } in
    let other = λ (h : digits ≡ hex_text c.message_tag.result). false≢true (sym c.if-is_written.false ∙ c.is_written.ensures.1 h) in
    shut_wrong keys c.args.node line sender found (wrong_line line digits text c.message_tag.result sender c.args.node split other c.message_tag.ensures)
