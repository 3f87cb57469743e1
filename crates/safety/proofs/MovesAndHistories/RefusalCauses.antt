-- Answers that refuse for a full journal alone, and the causes of a refusal one by one.
use Rattle.status.specs.declared.status.Status.{Status}
use Rattle.status.specs.declared.rows.Row.TheVariants.{Move, Repeat, Late, Refused}
use Rattle.status.specs.declared.rows.Row.{Row}
use Rattle.std.proofs.Common.{◌≡◌, ℕ, List, [], ◌∷◌, Bool, true, false, not, cond, Option, Some, None, ◌⊎◌, inl, inr, refl, sym, ap, subst, ◌∙◌}
use Rattle.std.specs.Prelude.{nat_le, length, is_some}
use Rattle.std.proofs.lemmas.Bool.{cond-true, cond-false, not_from_true}
use Rattle.units.proofs.Same.{same_node-refl}
use Rattle.units.specs.Code.{same_node}
use Rattle.units.specs.RefusalCodes.{journal_full}
use Rattle.units.specs.declared.code.Node.{Node}
use Rattle.status.proofs.Contents.{told}
use Rattle.status.specs.Content.{Content}
use Rattle.status.specs.declared.id.TransactionId.{TransactionId}
use Rattle.scheme.specs.declared.registries.Scheme.{Scheme}
use Rattle.protocol.specs.Checks.{Causes}
use Rattle.protocol.specs.Deciding.{Verdict, IsRecorded, IsRepeat, IsLate, IsRefused, refuse, recorded_if_room, has_other, by_row}
use Rattle.protocol.specs.History.{Transition, Entry, newest, is_known}
use Rattle.protocol.proofs.RefusedBy.{refused_same}
use Rattle.safety.proofs.MovesAndHistories.TableMoves.{NoneStands}

-- a verdict that is no refusal, or `journal_full`
abbrev pub Welcome : Verdict → Type 0
Welcome v = (code : ℕ) → v ≡ IsRefused code → code ≡ journal_full

pub welcome_enters : (scheme : Scheme) (es : List Entry) (xs : List Transition) → Welcome (recorded_if_room scheme es xs)
welcome_enters scheme es xs code h = go (nat_le scheme.records (length es)) h
  where
    go : (b : Bool) → cond b (IsRefused journal_full) (IsRecorded xs) ≡ IsRefused code → code ≡ journal_full
    go true e = sym (refused_same journal_full code e)
    go false e = absurd (cc (e))

pub welcome_repeat : Welcome IsRepeat
welcome_repeat code e = absurd (cc (e))

pub welcome_late : Welcome IsLate
welcome_late code e = absurd (cc (e))

-- where no cause holds, the verdict is as it would be without them
pub refuse_none : (cs : Causes) (v : Verdict) → NoneStands cs → refuse cs v ≡ v
refuse_none [] v n = refl
refuse_none (c ∷ cs) v n = cond-false c.0 (IsRefused c.1) (refuse cs v) n.0 ∙ refuse_none cs v n.1

pub welcome_refuse : (cs : Causes) (v : Verdict) → NoneStands cs → Welcome v → Welcome (refuse cs v)
welcome_refuse cs v n w code h = w code (sym (refuse_none cs v n) ∙ h)

pub welcome_true : (b : Bool) (u v : Verdict) → b ≡ true → Welcome u → Welcome (cond b u v)
welcome_true b u v e w = subst Welcome (sym (cond-true b u v e)) w

pub welcome_false : (b : Bool) (u v : Verdict) → b ≡ false → Welcome v → Welcome (cond b u v)
welcome_false b u v e w = subst Welcome (sym (cond-false b u v e)) w

pub welcome_row : (scheme : Scheme) (es : List Entry) (to : Status → Transition) (row : Row) → (row ≡ Refused → ⊥) → Welcome (by_row scheme es to row)
welcome_row scheme es to (Move new) h = welcome_enters scheme es _
welcome_row scheme es to Repeat h = welcome_repeat
welcome_row scheme es to Late h = welcome_late
welcome_row scheme es to Refused h = absurd (h refl)

-- ---- causes that don't stand

-- the node is the one that it is to be
pub right_node : (n m : Node) → n ≡ m → not (same_node n m) ≡ false
right_node n m e = subst (λ z. not (same_node n z) ≡ false) e (not_from_true (same_node n n) (same_node-refl n))

-- the transaction is known
pub known_by_newest : (xs : List Transition) (t : TransactionId) (x : Transition) → newest xs t ≡ Some x → not (is_known xs t) ≡ false
known_by_newest xs t x h = subst (λ (o : Option Transition). not (is_some o) ≡ false) (sym h) refl

-- a transaction that is unknown, known without content, or known with this one
pub no_other : (o : Option Transition) (k : Content) → ((x : Transition) → o ≡ Some x → (x.content ≡ None) ⊎ (x.content ≡ Some k)) → has_other o k ≡ false
no_other None k h = refl
no_other (Some x) k h =
    elim (h x refl) [
      | inl e ↦ subst (λ c. has_other (Some (record x { content = c })) k ≡ false) (sym e) refl
      | inr e ↦ subst (λ c. has_other (Some (record x { content = c })) k ≡ false) (sym e) (ap not ((told k k).1 refl))
    ]
