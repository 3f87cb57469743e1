-- Replies behind their tags.
use Rattle.std.proofs.Common.{◌≡◌, ℕ, ◌+◌, List, [], ◌∷◌, ◌++◌, length, take, sym, ap, ◌∙◌, arith, length-append}
use Rattle.tags.proofs.TagLengths.{tag_length}
use Rattle.tags.specs.Tags.{IsSplit, hex_text, tagged, direction, tag_digits}
use Rattle.tagged_lines.proofs.Senders.{behind_tag, front_of}
use Rattle.tagged_lines.specs.Sent.{FitsCheck, IsTaggedReply, reply_tag_of}
use Rattle.tagged_lines.specs.Views.{MessageView}
use Rattle.tagged_lines.specs.declared.checking_reader.Check.TheVariants.{Giving}

reply_digits : (m : MessageView) (reply : List ℕ) → length (hex_text (reply_tag_of m reply)) ≡ tag_digits
reply_digits m reply = tag_length m.key (direction m.to m.from ++ m.text ++ 10 ∷ reply)

split_reply : (m : MessageView) (line reply : List ℕ) → line ≡ tagged (reply_tag_of m reply) reply → IsSplit line (hex_text (reply_tag_of m reply)) reply
split_reply m line reply e = record { whole = e; count = reply_digits m reply }

pub is_right : (m : MessageView) (line digits reply tag : List ℕ) → IsSplit line digits reply → tag ≡ reply_tag_of m reply → digits ≡ hex_text tag → IsTaggedReply m line
is_right m line digits reply tag s is e = (reply, s.whole ∙ ap (λ (d : List ℕ). d ++ 32 ∷ reply) (e ∙ ap hex_text is))

pub right_is : (m : MessageView) (line digits reply tag : List ℕ) → IsSplit line digits reply → tag ≡ reply_tag_of m reply → IsTaggedReply m line → digits ≡ hex_text tag
right_is m line digits reply tag s is (r, e) =
    let other = split_reply m line r e in
    let same : r ≡ reply = sym (behind_tag line (hex_text (reply_tag_of m r)) r other) ∙ behind_tag line digits reply s in
    sym (front_of tag_digits digits (32 ∷ reply) s.count) ∙ ap (take tag_digits) (sym s.whole ∙ e) ∙ front_of tag_digits (hex_text (reply_tag_of m r)) (32 ∷ r) other.count
    ∙ ap (λ (t : List ℕ). hex_text (reply_tag_of m t)) same ∙ ap hex_text (sym is)

pub no_reply : (m : MessageView) (line : List ℕ) → ((digits text : List ℕ) → IsSplit line digits text → ⊥) → IsTaggedReply m line → ⊥
no_reply m line never (r, e) = never (hex_text (reply_tag_of m r)) r (split_reply m line r e)

pub fits_reply : (m : MessageView) (line new : List ℕ) → IsTaggedReply m line → new ≡ line ++ 10 ∷ [] → FitsCheck (Giving 65) new
fits_reply m line new (r, e) same =
    let whole : length new ≡ length line + 1 = ap length same ∙ length-append line (10 ∷ []) in
    let parts : length line ≡ length (hex_text (reply_tag_of m r)) + length (32 ∷ r) = ap length e ∙ length-append (hex_text (reply_tag_of m r)) (32 ∷ r) in
    let size = reply_digits m r in
    (omega (arith, whole, parts, size), (m, line, (r, e), same))
