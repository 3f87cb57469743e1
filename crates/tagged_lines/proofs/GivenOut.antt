-- Each line that is returned is empty, or the bytes begin with it behind its tag.
use Rattle.std.proofs.Common.{◌≡◌, ℕ, ◌+◌, ◌⊎◌, inl, inr, leb, eqb, Bool, true, false, cond, List, [], ◌∷◌, ◌++◌, Option, Some, None, length, drop, refl, sym, ap, subst, ◌∙◌}
use Rattle.std.proofs.lemmas.Bool.{eqb-true, eqb-false}
use Rattle.std.specs.Prelude.{option_map, option_and_then, unwrap_or}
use Rattle.serde_json.specs.Find.{as_str}
use Rattle.streams.specs.Lines.{HasNoNewline}
use Rattle.units.proofs.Cuts.{cut_once}
use Rattle.units.specs.Code.{node_text}
use Rattle.units.specs.declared.code.Node.{Node}
use Rattle.wire.proofs.OneMessage.{node_same, parties_in}
use Rattle.wire.specs.Messages.{IsLine}
use Rattle.wire.specs.declared.message.Message.{Message}
use Rattle.tags.specs.Keys.{NodeKey}
use Rattle.tags.specs.Tags.{hex_text, message_tag, tag_digits}
use Rattle.tagged_lines.specs.Opened.{HasTag, line_of, longest_tagged, opened, opened_first, opened_line, opened_text, sender_text}
use Rattle.tagged_lines.proofs.Senders.{says_read, found_key, opened_sender, right}

-- the first line and the bytes after it
abbrev Cut : List ℕ → List ℕ → Type 0
Cut raw line = (rest : List ℕ) × (raw ≡ line ++ 10 ∷ rest) × HasNoNewline line

cut_more : (b : ℕ) (raw line : List ℕ) → (b ≡ 10 → ⊥) → ((l : List ℕ) → line_of raw ≡ Some l → Cut raw l) → (o : Option (List ℕ)) → line_of raw ≡ o → option_map (λ (l : List ℕ). b ∷ l) o ≡ Some line → Cut (b ∷ raw) line
cut_more b raw line other shorter None is e = absurd (cc (e))
cut_more b raw line other shorter (Some l) is e =
    let cut = shorter l is in
    let same : b ∷ l ≡ line = cc (e) in
    (cut.0, subst (λ (t : List ℕ). b ∷ raw ≡ t ++ 10 ∷ cut.0) same (ap (λ (t : List ℕ). b ∷ t) cut.1), subst HasNoNewline same (other, cut.2))

cut_here : (b : ℕ) (raw line : List ℕ) → ((l : List ℕ) → line_of raw ≡ Some l → Cut raw l) → (t : Bool) → eqb b 10 ≡ t → cond t (Some []) (option_map (λ (l : List ℕ). b ∷ l) (line_of raw)) ≡ Some line → Cut (b ∷ raw) line
cut_here b raw line shorter true is e =
    let none : [] ≡ line = cc (e) in
    (raw, subst (λ (t : List ℕ). b ∷ raw ≡ t ++ 10 ∷ raw) none (ap (λ (n : ℕ). n ∷ raw) (eqb-true b 10 is)), subst HasNoNewline none tt)
cut_here b raw line shorter false is e = cut_more b raw line (eqb-false b 10 is) shorter (line_of raw) refl e

line_there : (raw line : List ℕ) → line_of raw ≡ Some line → Cut raw line
line_there [] line e = absurd (cc (e))
line_there (b ∷ raw) line e = cut_here b raw line (line_there raw) (eqb b 10) refl e

no_line : (line rest : List ℕ) → [] ≡ line ++ 10 ∷ rest → ⊥
no_line [] rest e = cc (e)
no_line (b ∷ line) rest e = cc (e)

free_suffix : (xs ys : List ℕ) → HasNoNewline (xs ++ ys) → HasNoNewline ys
free_suffix [] ys free = free
free_suffix (x ∷ xs) ys free = free_suffix xs ys free.1

one_some : (x y : List ℕ) → Some x ≡ Some y → x ≡ y
one_some x y e = cc (e)

says_sender : (line : List ℕ) (m : Message) → IsLine line m → sender_text line ≡ Some (node_text m.from)
says_sender line m is =
    let at = (parties_in is.value m is.writes).sender in
    says_read line is.value is.utf8 is.reads ∙ ap (option_and_then as_str) at

-- the line of a message that is opened
with_tag : (keys : List NodeKey) (node : Node) (raw line first t : List ℕ) → Cut raw first → t ≡ line → opened_text keys node first ≡ Some t → HasTag keys node raw line
with_tag keys node raw line first t cut same opened =
    let found = opened_sender keys node first t opened in
    let from = found.0 in
    let text : drop (tag_digits + 1) first ≡ line = sym found.3 ∙ same in
    let key = found_key keys (drop (tag_digits + 1) first) from found.1 in
    let says : sender_text line ≡ Some (node_text from.node) = subst (λ (x : List ℕ). sender_text x ≡ Some (node_text from.node)) text key.0 in
    let tagged_line : first ≡ right from node line = found.2 ∙ ap (right from node) text in
    record {
      sender = from.node;
      key = from.key;
      known = key.1;
      rest = cut.0;
      begins = cut.1 ∙ ap (λ (x : List ℕ). x ++ 10 ∷ cut.0) tagged_line;
      of = λ m is. node_same m.from from.node (one_some _ _ (sym (says_sender line m is) ∙ says));
    }

shut_or_opened : (keys : List NodeKey) (node : Node) (raw line rest first : List ℕ) → Cut raw first → HasNoNewline line → (o : Option (List ℕ)) → opened_text keys node first ≡ o → unwrap_or o [] ++ 10 ∷ [] ≡ line ++ 10 ∷ rest
    → (line ≡ []) ⊎ HasTag keys node raw line
shut_or_opened keys node raw line rest first cut free None is e = inl (sym (cut_once 10 [] [] line rest tt free e).0)
shut_or_opened keys node raw line rest first cut free (Some t) is e =
    let found = opened_sender keys node first t is in
    let whole : HasNoNewline (hex_text (message_tag found.0.key found.0.node node (drop (tag_digits + 1) first)) ++ 32 ∷ drop (tag_digits + 1) first) = subst HasNoNewline found.2 cut.2 in
    let after = free_suffix (hex_text (message_tag found.0.key found.0.node node (drop (tag_digits + 1) first))) (32 ∷ drop (tag_digits + 1) first) whole in
    let clean : HasNoNewline t = subst HasNoNewline (sym found.3) after.1 in
    inr (with_tag keys node raw line first t cut (cut_once 10 t [] line rest clean free e).0 is)

short_or_long : (keys : List NodeKey) (node : Node) (raw line rest first : List ℕ) → Cut raw first → HasNoNewline line → (b : Bool) → cond b (opened_line keys node first) [] ≡ line ++ 10 ∷ rest → (line ≡ []) ⊎ HasTag keys node raw line
short_or_long keys node raw line rest first cut free true e = shut_or_opened keys node raw line rest first cut free (opened_text keys node first) refl e
short_or_long keys node raw line rest first cut free false e = absurd (no_line line rest e)

some_or_none : (keys : List NodeKey) (node : Node) (raw line rest : List ℕ) → HasNoNewline line → (o : Option (List ℕ)) → line_of raw ≡ o → opened_first keys node o ≡ line ++ 10 ∷ rest → (line ≡ []) ⊎ HasTag keys node raw line
some_or_none keys node raw line rest free None is e = absurd (no_line line rest e)
some_or_none keys node raw line rest free (Some first) is e = short_or_long keys node raw line rest first (line_there raw first is) free (leb (length first) longest_tagged) e

pub given_out_has_tag : (keys : List NodeKey) (node : Node) (raw line rest : List ℕ) → HasNoNewline line → opened keys node raw ≡ line ++ 10 ∷ rest → (line ≡ []) ⊎ HasTag keys node raw line
given_out_has_tag keys node raw line rest free e = some_or_none keys node raw line rest free (line_of raw) refl e
