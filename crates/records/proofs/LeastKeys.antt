-- The least key of a message that isn't acknowledged, by the first of a range.
use Rattle.std.proofs.Common.{◌≡◌, ℕ, ◌≤◌, Bool, true, false, List, [], ◌∷◌, length, Option, Some, None, refl, sym, ap, subst, ◌∙◌, arith}
use Rattle.std.specs.BTreeSet.{BTreeSet, contains, IsKeyRangeOf}
use Rattle.std.specs.Ordering.{is_gt}
use Rattle.std.specs.declared.ops.Bound.TheVariants.{Included, Unbounded}
use Rattle.std.proofs.lemmas.Bool.{true≢false, false_from_ne_true}
use Rattle.units.specs.declared.code.Code.{Code}
use Rattle.units.specs.declared.code.Node.{Node}
use Rattle.units.specs.declared.code.Node.TheVariants.{Itl, Registry}
use Rattle.wire.specs.declared.message.Message.{Message}
use Rattle.records.specs.Unacknowledged.{IsLeastFrom, awaits}
use Rattle.records.specs.Awaiting.{peer_of, unacknowledged_cmp, unacknowledged_of}
use Rattle.records.specs.declared.unacknowledged.Unacknowledged.{Unacknowledged}
use Rattle.records.specs.Kept.{AreCounts, IsKept, sent_in}
use Rattle.records.specs.Sending.{Sent, messages, is_key_acknowledged}
use Rattle.records.specs.declared.record.Record.{Record}
use Rattle.records.proofs.KeptTables.{at_unacknowledged}
use Rattle.records.proofs.Sendings.{all_messages}
use Rattle.units.proofs.Same.{code_of_same, same_code-refl}
use Rattle.units.specs.Code.{same_code}
use Rattle.std.specs.Option.{option_eq}
use Rattle.records.proofs.AwaitingMessages.{between_unacknowledged, key_below, keys_go_up, unacknowledged_go_up}

-- what goes to a node, from the first key on
abbrev IsRange : Node → ℕ → BTreeSet Unacknowledged → List Unacknowledged → Type 0
IsRange n from ps r = IsKeyRangeOf unacknowledged_cmp (Included (unacknowledged_of n from)) Unbounded ps r

peer_is : (n : Node) (key : ℕ) → peer_of (unacknowledged_of n key).registry ≡ n
peer_is Itl key = refl
peer_is (Registry c) key = refl

key_is : (n : Node) (key : ℕ) → (unacknowledged_of n key).key ≡ key
key_is Itl key = refl
key_is (Registry c) key = refl

module _ (ps : BTreeSet Unacknowledged) (ms : List Message) (acked : ℕ → Bool) (n : Node) (from : ℕ) (kept : (q : Unacknowledged) → contains unacknowledged_cmp ps q ≡ awaits ms acked (peer_of q.registry) q.key) where
  pub least_none : (r : List Unacknowledged) → IsRange n from ps r → r ≡ [] → IsLeastFrom (awaits ms acked n) from None
  least_none r range nothing = λ k h. sym (at_unacknowledged ps ms acked n k kept) ∙ range.5 nothing (unacknowledged_of n k) (unacknowledged_go_up n from k h, tt)

  -- a message from the first key on isn't below the first one
  above : (first : Unacknowledged) (rest : List Unacknowledged) (k : ℕ) → IsRange n from ps (first ∷ rest) → from ≤ k → awaits ms acked n k ≡ true → is_gt (unacknowledged_cmp first (unacknowledged_of n k)) ≡ false
  above first rest k range h waits = range.2 (unacknowledged_of n k) (unacknowledged_go_up n from k h, tt) (at_unacknowledged ps ms acked n k kept ∙ waits)

  pub least_other : (first : Unacknowledged) (rest : List Unacknowledged) → IsRange n from ps (first ∷ rest) → (first.registry ≡ (unacknowledged_of n from).registry → ⊥) → IsLeastFrom (awaits ms acked n) from None
  least_other first rest range other = λ k h. false_from_ne_true (awaits ms acked n k) (λ waits. other (between_unacknowledged n first from k range.1.0.0 (above first rest k range h waits)))

  pub least_some : (first : Unacknowledged) (rest : List Unacknowledged) → IsRange n from ps (first ∷ rest) → first.registry ≡ (unacknowledged_of n from).registry → IsLeastFrom (awaits ms acked n) from (Some first.key)
  least_some first rest range same = (
    keys_go_up n first from same range.1.0.0,
    subst (λ (m : Node). awaits ms acked m first.key ≡ true) (ap peer_of same ∙ peer_is n from) (sym (kept first) ∙ range.1.1),
    λ k h below. false_from_ne_true (awaits ms acked n k) (λ waits. let up : first.key ≤ k = key_below n first from k same (above first rest k range h waits) in omega arith),
  )

-- by the effect of each record
pub seen : (rs : List Record) (ms : List Message) (S : List Sent) (n : Node) (from : ℕ) (o : Option ℕ) → sent_in 0 rs ms ≡ S → AreCounts 0 rs (length ms)
    → IsLeastFrom (awaits ms (is_key_acknowledged (sent_in 0 rs ms)) n) from o → IsLeastFrom (awaits (messages S) (is_key_acknowledged S) n) from o
seen rs ms S n from o view counted least =
    subst (λ (l : List Sent). IsLeastFrom (awaits (messages l) (is_key_acknowledged l) n) from o) view
    (subst (λ (l : List Message). IsLeastFrom (awaits l (is_key_acknowledged (sent_in 0 rs ms)) n) from o) (sym (all_messages rs ms counted)) least)

-- what the comparison of two messages' registries tells
pub same_registry : (r s : Option Code) → option_eq same_code r s ≡ true → r ≡ s
same_registry None None e = refl
same_registry None (Some d) e = absurd (true≢false (sym e))
same_registry (Some c) None e = absurd (true≢false (sym e))
same_registry (Some c) (Some d) e = ap Some (code_of_same c d e)

pub other_registry : (r s : Option Code) → option_eq same_code r s ≡ false → r ≡ s → ⊥
other_registry None s e same = true≢false (subst (λ (x : Option Code). option_eq same_code None x ≡ false) (sym same) e)
other_registry (Some c) s e same = true≢false (sym (same_code-refl c) ∙ subst (λ (x : Option Code). option_eq same_code (Some c) x ≡ false) (sym same) e)

-- ---- what a range from a message on shows

-- the least key, by what the records did
abbrev pub Least : List Sent → Node → ℕ → Option ℕ → Type 0
Least S n from o = IsLeastFrom (awaits (messages S) (is_key_acknowledged S) n) from o

-- the outbox keeps these tables, and this is the range of its messages from that with the first key on
pub record Ranges (rs : List Record) (ms : List Message) (ps : BTreeSet Unacknowledged) (S : List Sent) (n : Node) (from : ℕ) (p : Unacknowledged) (r : List Unacknowledged) : Type 0 where
  pub view : sent_in 0 rs ms ≡ S
  pub kept : IsKept (sent_in 0 rs ms) rs ms ps
  pub start : p ≡ unacknowledged_of n from
  pub range : IsKeyRangeOf unacknowledged_cmp (Included p) Unbounded ps r

module _ (rs : List Record) (ms : List Message) (ps : BTreeSet Unacknowledged) (S : List Sent) (n : Node) (from : ℕ) (p : Unacknowledged) (r : List Unacknowledged) (h : Ranges rs ms ps S n from p r) where
  from_unacknowledged : IsRange n from ps r
  from_unacknowledged = subst (λ (q : Unacknowledged). IsKeyRangeOf unacknowledged_cmp (Included q) Unbounded ps r) h.start h.range

  pub shown_none : r ≡ [] → Least S n from None
  shown_none nothing = seen rs ms S n from None h.view h.kept.counted (least_none ps ms (is_key_acknowledged (sent_in 0 rs ms)) n from h.kept.awaited r from_unacknowledged nothing)

  pub shown_some : (found : Unacknowledged) (rest : List Unacknowledged) → r ≡ found ∷ rest → option_eq same_code found.registry p.registry ≡ true → Least S n from (Some found.key)
  shown_some found rest first same =
      seen rs ms S n from (Some found.key) h.view h.kept.counted
      (least_some ps ms (is_key_acknowledged (sent_in 0 rs ms)) n from h.kept.awaited found rest (subst (IsRange n from ps) first from_unacknowledged)
      (same_registry found.registry p.registry same ∙ ap (λ (q : Unacknowledged). q.registry) h.start))

  pub shown_other : (found : Unacknowledged) (rest : List Unacknowledged) → r ≡ found ∷ rest → option_eq same_code found.registry p.registry ≡ false → Least S n from None
  shown_other found rest first other =
      seen rs ms S n from None h.view h.kept.counted
      (least_other ps ms (is_key_acknowledged (sent_in 0 rs ms)) n from h.kept.awaited found rest (subst (IsRange n from ps) first from_unacknowledged)
      (λ same. other_registry found.registry p.registry other (same ∙ sym (ap (λ (q : Unacknowledged). q.registry) h.start))))
