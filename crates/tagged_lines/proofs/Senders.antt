-- The node that a text names as its sender, among those with keys.
use Rattle.std.proofs.Common.{◌≡◌, ℕ, ◌+◌, eqb, Bool, true, false, ◌&&◌, cond, List, [], ◌∷◌, ◌++◌, Option, Some, None, length, take, drop, refl, sym, ap, ◌∙◌}
use Rattle.std.proofs.Math.Bool.{and-false, and-true}
use Rattle.std.proofs.Math.Seq.{drop-append-add, take-append_seam}
use Rattle.std.proofs.lemmas.Bool.{false_from_ne_true}
use Rattle.std.proofs.lemmas.Slice.Eq.{bytes_eq-Decides}
use Rattle.std.specs.Prelude.{codes, find, option_map, option_and_then, IfSome, IfNone}
use Rattle.std.specs.Str.{bytes_eq, is_utf8, IsUtf8}
use Rattle.std.proofs.lemmas.Str.{IsUtf8-from_is_utf8, is_utf8-from_IsUtf8}
use Rattle.serde_json.specs.Data.{Data}
use Rattle.serde_json.specs.Read.{read}
use Rattle.json_fields.specs.Fields.{text_at}
use Rattle.units.proofs.Same.{node_of_same}
use Rattle.units.proofs.Lists.Membership.{In_find}
use Rattle.units.specs.Code.{node_text, same_node}
use Rattle.units.specs.declared.code.Node.{Node}
use Rattle.units.specs.declared.code.Node.TheVariants.{Itl, Registry}
use Rattle.tags.proofs.TagLengths.{tag_length}
use Rattle.tags.specs.Keys.{NodeKey, key_of}
use Rattle.tags.specs.Tags.{IsSplit, hex_text, tagged, message_tag, direction, tag_digits}
use Rattle.tagged_lines.specs.Opened.{sender_text, sender_of, named, opened_text}
use Rattle.tagged_lines.specs.Opening.{IsSenderOf}

-- ---- the sender in the text

pub says_read : (text : List ℕ) (d : Data) → IsUtf8 text → read text ≡ Some d → sender_text text ≡ text_at (codes "from") d
says_read text d utf8 e =
    ap (λ (t : Bool). cond t (option_and_then (text_at (codes "from")) (read text)) None) (is_utf8-from_IsUtf8 text utf8) ∙ ap (option_and_then (text_at (codes "from"))) e

pub says_nothing : (text : List ℕ) → (IsUtf8 text → read text ≡ None) → sender_text text ≡ None
says_nothing text none = go (is_utf8 text) (λ h. none (IsUtf8-from_is_utf8 text h))
  where
    go : (b : Bool) → (b ≡ true → read text ≡ None) → cond b (option_and_then (text_at (codes "from")) (read text)) None ≡ None
    go true h = ap (option_and_then (text_at (codes "from"))) (h refl)
    go false h = refl

pub sender_said : (text : List ℕ) (d : Data) (r : Option Node) → IsUtf8 text → read text ≡ Some d → IfSome r (λ node. text_at (codes "from") d ≡ Some (node_text node))
    → IfNone r ((node : Node) → text_at (codes "from") d ≡ Some (node_text node) → ⊥) → IsSenderOf text r
sender_said text d (Some node) utf8 e some none = says_read text d utf8 e ∙ some
sender_said text d None utf8 e some none = λ node says. none node (sym (says_read text d utf8 e) ∙ says)

pub sender_unsaid : (text : List ℕ) → (IsUtf8 text → read text ≡ None) → IsSenderOf text None
sender_unsaid text none = λ node says. let e = sym (says_nothing text none) ∙ says in cc (e)

-- ---- names

pub same_name : (a b : Node) → bytes_eq (node_text a) (node_text b) ≡ same_node a b
same_name Itl Itl = refl
same_name Itl (Registry c) = ap (λ (t : Bool). eqb 73 c.first && t) (and-false (eqb 84 c.second)) ∙ and-false (eqb 73 c.first)
same_name (Registry c) Itl = ap (λ (t : Bool). eqb c.first 73 && t) (and-false (eqb c.second 84)) ∙ and-false (eqb c.first 73)
same_name (Registry c) (Registry d) = ap (λ (t : Bool). eqb c.first d.first && t) (and-true (eqb c.second d.second))

find_like : (p q : NodeKey → Bool) → ((x : NodeKey) → p x ≡ q x) → (xs : List NodeKey) → find p xs ≡ find q xs
find_like p q same [] = refl
find_like p q same (x ∷ xs) = ap (λ (t : Bool). cond t (Some x) (find p xs)) (same x) ∙ ap (cond (q x) (Some x)) (find_like p q same xs)

find_none : (p : NodeKey → Bool) (xs : List NodeKey) → ((x : NodeKey) → p x ≡ true → ⊥) → find p xs ≡ None
find_none p [] never = refl
find_none p (x ∷ xs) never = ap (λ (t : Bool). cond t (Some x) (find p xs)) (false_from_ne_true (p x) (never x)) ∙ find_none p xs never

named_node : (keys : List NodeKey) (from : Node) → named keys (node_text from) ≡ find (λ entry. same_node entry.node from) keys
named_node keys from = find_like (λ entry. bytes_eq (node_text entry.node) (node_text from)) (λ entry. same_node entry.node from) (λ x. same_name x.node from) keys

from_text : (keys : List NodeKey) (text : List ℕ) (from : Node) → sender_text text ≡ Some (node_text from) → sender_of keys text ≡ find (λ entry. same_node entry.node from) keys
from_text keys text from says = ap (option_and_then (named keys)) says ∙ named_node keys from

none_mapped : (o : Option NodeKey) → option_map (λ (entry : NodeKey). entry.key) o ≡ None → o ≡ None
none_mapped None e = refl
none_mapped (Some x) e = absurd (cc (e))

some_mapped : (o : Option NodeKey) (key : List ℕ) → option_map (λ (entry : NodeKey). entry.key) o ≡ Some key → (entry : NodeKey) × (o ≡ Some entry) × (entry.key ≡ key)
some_mapped None key e = absurd (cc (e))
some_mapped (Some x) key e = (x, refl, cc (e))

pub without_key : (keys : List NodeKey) (text : List ℕ) (from : Node) → sender_text text ≡ Some (node_text from) → key_of keys from ≡ None → sender_of keys text ≡ None
without_key keys text from says none = from_text keys text from says ∙ none_mapped _ none

pub with_key : (keys : List NodeKey) (text : List ℕ) (from : Node) (key : List ℕ) → sender_text text ≡ Some (node_text from) → key_of keys from ≡ Some key → sender_of keys text ≡ Some (record { node = from; key = key })
with_key keys text from key says known =
    let there = some_mapped _ key known in
    let passes = (In_find (λ entry. same_node entry.node from) keys there.0 there.1).1 in
    let same : there.0.node ≡ from = node_of_same there.0.node from passes in
    from_text keys text from says ∙ there.1 ∙ ap Some (λ i. record { node = same i; key = there.2 i })

no_name : (keys : List NodeKey) (o : Option (List ℕ)) → ((node : Node) → o ≡ Some (node_text node) → ⊥) → option_and_then (named keys) o ≡ None
no_name keys None never = refl
no_name keys (Some name) never =
    find_none (λ entry. bytes_eq (node_text entry.node) name) keys (λ x h. never x.node (ap Some (sym ((bytes_eq-Decides (node_text x.node) name).0 h))))

pub without_name : (keys : List NodeKey) (text : List ℕ) → IsSenderOf text None → sender_of keys text ≡ None
without_name keys text never = no_name keys (sender_text text) never

-- the entry that is found has the key of its node
pub found_key : (keys : List NodeKey) (text : List ℕ) (from : NodeKey) → sender_of keys text ≡ Some from → (sender_text text ≡ Some (node_text from.node)) × (key_of keys from.node ≡ Some from.key)
found_key keys text from found = go (sender_text text) refl found
  where
    go : (o : Option (List ℕ)) → sender_text text ≡ o → option_and_then (named keys) o ≡ Some from → (sender_text text ≡ Some (node_text from.node)) × (key_of keys from.node ≡ Some from.key)
    go None says e = absurd (cc (e))
    go (Some name) says e =
        let passes = (In_find (λ entry. bytes_eq (node_text entry.node) name) keys from e).1 in
        let same : node_text from.node ≡ name = (bytes_eq-Decides (node_text from.node) name).0 passes in
        let there : find (λ entry. same_node entry.node from.node) keys ≡ Some from = sym (named_node keys from.node) ∙ ap (named keys) same ∙ e in
        (says ∙ ap Some (sym same), ap (option_map (λ (entry : NodeKey). entry.key)) there)

-- ---- the tag

abbrev pub right : NodeKey → Node → List ℕ → List ℕ
right sender node text = tagged (message_tag sender.key sender.node node text) text

-- a line with a tag is cut behind it
pub behind_tag : (line digits text : List ℕ) → IsSplit line digits text → drop (tag_digits + 1) line ≡ text
behind_tag line digits text s =
    ap (drop (tag_digits + 1)) s.whole ∙ ap (λ (n : ℕ). drop (n + 1) (digits ++ 32 ∷ text)) (sym s.count) ∙ drop-append-add digits (32 ∷ text) 1

pub right_line : (line digits text tag : List ℕ) (sender : NodeKey) (node : Node) → IsSplit line digits text → digits ≡ hex_text tag → tag ≡ message_tag sender.key sender.node node text → line ≡ right sender node (drop (tag_digits + 1) line)
right_line line digits text tag sender node s written is =
    s.whole ∙ ap (λ (d : List ℕ). d ++ 32 ∷ text) (written ∙ ap hex_text is) ∙ ap (right sender node) (sym (behind_tag line digits text s))

pub front_of : (n : ℕ) (xs ys : List ℕ) → length xs ≡ n → take n (xs ++ ys) ≡ xs
front_of n xs ys e = ap (λ (k : ℕ). take k (xs ++ ys)) (sym e) ∙ take-append_seam xs ys

pub wrong_line : (line digits text tag : List ℕ) (sender : NodeKey) (node : Node) → IsSplit line digits text → (digits ≡ hex_text tag → ⊥) → tag ≡ message_tag sender.key sender.node node text → line ≡ right sender node (drop (tag_digits + 1) line) → ⊥
wrong_line line digits text tag sender node s other is e =
    let own = message_tag sender.key sender.node node text in
    let whole : digits ++ 32 ∷ text ≡ hex_text own ++ 32 ∷ text = sym s.whole ∙ e ∙ ap (right sender node) (behind_tag line digits text s) in
    let size = tag_length sender.key (direction sender.node node ++ text) in
    other (sym (front_of tag_digits digits (32 ∷ text) s.count) ∙ ap (take tag_digits) whole ∙ front_of tag_digits (hex_text own) (32 ∷ text) size ∙ ap hex_text (sym is))

module _ (keys : List NodeKey) (node : Node) (line : List ℕ) where
  abbrev text : List ℕ
  text = drop (tag_digits + 1) line

  abbrev opens : Option NodeKey → Option (List ℕ)
  opens o = option_and_then (λ (sender : NodeKey). cond (bytes_eq line (right sender node text)) (Some text) None) o

  pub shut_without_sender : sender_of keys text ≡ None → opened_text keys node line ≡ None
  shut_without_sender none = ap opens none

  pub opened_right : (sender : NodeKey) → sender_of keys text ≡ Some sender → line ≡ right sender node text → opened_text keys node line ≡ Some text
  opened_right sender found same =
      ap opens found ∙ ap (λ (t : Bool). cond t (Some text) None) ((bytes_eq-Decides line (right sender node text)).1 same)

  pub shut_wrong : (sender : NodeKey) → sender_of keys text ≡ Some sender → (line ≡ right sender node text → ⊥) → opened_text keys node line ≡ None
  shut_wrong sender found other =
      ap opens found ∙ ap (λ (t : Bool). cond t (Some text) None) (false_from_ne_true _ (λ h. other ((bytes_eq-Decides line (right sender node text)).0 h)))

  pub shut_without_tag : ((digits rest : List ℕ) → IsSplit line digits rest → ⊥) → opened_text keys node line ≡ None
  shut_without_tag never = go (sender_of keys text) refl
    where
      go : (o : Option NodeKey) → sender_of keys text ≡ o → opened_text keys node line ≡ None
      go None e = shut_without_sender e
      go (Some sender) e = shut_wrong sender e (λ same. never (hex_text (message_tag sender.key sender.node node text)) text (record { whole = same; count = tag_length sender.key (direction sender.node node ++ text) }))

  -- a line that is opened is a text behind the tag of its sender
  pub opened_sender : (t : List ℕ) → opened_text keys node line ≡ Some t → (sender : NodeKey) × (sender_of keys text ≡ Some sender) × (line ≡ right sender node text) × (t ≡ text)
  opened_sender t e = go (sender_of keys text) refl e
    where
      test : (sender : NodeKey) → sender_of keys text ≡ Some sender → (b : Bool) → (b ≡ true → line ≡ right sender node text) → cond b (Some text) None ≡ Some t
          → (sender : NodeKey) × (sender_of keys text ≡ Some sender) × (line ≡ right sender node text) × (t ≡ text)
      test sender found true is e = (sender, found, is refl, cc (e))
      test sender found false is e = absurd (cc (e))

      go : (o : Option NodeKey) → sender_of keys text ≡ o → opens o ≡ Some t → (sender : NodeKey) × (sender_of keys text ≡ Some sender) × (line ≡ right sender node text) × (t ≡ text)
      go None found e = absurd (cc (e))
      go (Some sender) found e = test sender found (bytes_eq line (right sender node text)) (bytes_eq-Decides line (right sender node text)).0 e
