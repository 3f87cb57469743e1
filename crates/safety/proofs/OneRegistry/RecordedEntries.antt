-- Histories whose entries were each recorded: such are those of journals that replay, and no cause of a refusal stood
-- for any of their inputs.
use Rattle.protocol.specs.declared.node_core.Stepped.TheVariants as Stepped
use Rattle.std.proofs.Common.{take_all, Bool, List, Ok, [], ap, arith, cond, false, length, refl, subst, suc, sym, take, true, zero, ℕ, ◌++◌, ◌∙◌, ◌∷◌, ◌≡◌, ◌≤◌}
use Rattle.protocol.specs.Checks.{Causes}
use Rattle.units.specs.declared.code.Code.{Code}
use Rattle.protocol.specs.Deciding.{IsRecorded, IsLate, IsRefused, IsRepeat, Verdict, refuse}
use Rattle.protocol.specs.History.{Entry, Transition}
use Rattle.wire.specs.declared.input.Input.{Input}
use Rattle.safety.proofs.MovesAndHistories.NewestTransitions.{Made}
use Rattle.safety.proofs.MovesAndHistories.TableMoves.{NoneStands}
use Rattle.units.specs.declared.code.Node.TheVariants.{Registry}
use Rattle.protocol.specs.Cores.{Replays, answer, answer_of}
use Rattle.scheme.specs.declared.registries.Scheme.{Scheme}
use Rattle.std.proofs.lemmas.Option.{get_or_from_slice_get}
use Rattle.protocol.specs.Verdict.{history, transitions_made, verdict}
use Rattle.protocol.proofs.Histories.{history_snoc}
use Rattle.units.proofs.Lists.Positions.{some_at}
use Rattle.std.proofs.Math.Seq.{take-suc}
use Rattle.protocol.specs.AtRegistry.{registry_verdict}

-- each entry was recorded: the verdict on its input enters its transitions
abbrev pub Entered : Scheme → Code → List Entry → Type 0
Entered scheme c [] = Unit {0}
Entered scheme c (e ∷ es) = (verdict scheme (Registry c) es e.input ≡ IsRecorded e.transitions) × Entered scheme c es

pub entered_made : (scheme : Scheme) (c : Code) (es : List Entry) → Entered scheme c es → Made scheme (Registry c) es
entered_made scheme c [] h = tt
entered_made scheme c (e ∷ es) h = (sym (ap transitions_made h.0), entered_made scheme c es h.1)

-- ---- journals whose records are each recorded

enters_made : (position k : ℕ) (v : Verdict) → answer_of position v ≡ Ok (Stepped.Recorded k) → v ≡ IsRecorded (transitions_made v)
enters_made position k (IsRecorded xs) e = refl
enters_made position k IsRepeat e = absurd (cc (e))
enters_made position k IsLate e = absurd (cc (e))
enters_made position k (IsRefused code) e = absurd (cc (e))

module _ (scheme : Scheme) (c : Code) where
  pub entered_snoc : (journal : List Input) (input : Input) (k : ℕ) → Entered scheme c (history scheme (Registry c) journal) → answer scheme (Registry c) journal input ≡ Ok (Stepped.Recorded k)
      → Entered scheme c (history scheme (Registry c) (journal ++ input ∷ []))
  entered_snoc journal input k h e =
      subst (Entered scheme c) (sym (history_snoc scheme (Registry c) journal input)) (enters_made (length journal) k (verdict scheme (Registry c) (history scheme (Registry c) journal) input) e, h)

  entered_take : (journal : List Input) → Replays scheme (Registry c) journal → (k : ℕ) → k ≤ length journal → Entered scheme c (history scheme (Registry c) (take k journal))
  entered_take journal h zero short = tt
  entered_take journal h (suc k) short =
      let i = some_at journal k (omega arith) in
      let front : take (suc k) journal ≡ take k journal ++ i.0 ∷ [] =
      take-suc journal k i.0 (omega arith) ∙ ap (λ (x : Input). take k journal ++ x ∷ []) (get_or_from_slice_get journal k i.0 i.0 i.1) in
      subst (λ (j : List Input). Entered scheme c (history scheme (Registry c) j)) (sym front) (entered_snoc (take k journal) i.0 k (entered_take journal h k (omega arith)) (h k i.0 i.1))

  pub replays_entered : (journal : List Input) → Replays scheme (Registry c) journal → Entered scheme c (history scheme (Registry c) journal)
  replays_entered journal h = subst (λ (j : List Input). Entered scheme c (history scheme (Registry c) j)) (take_all (length journal) journal (omega arith)) (entered_take journal h (length journal) (omega arith))

pub entered_registry : (scheme : Scheme) (c : Code) (e : Entry) (es : List Entry) → Entered scheme c (e ∷ es) → registry_verdict scheme c es e.input ≡ IsRecorded e.transitions
unfolding verdict
entered_registry scheme c e es h = h.0

-- ---- what was recorded had no cause of a refusal

pub recorded_causes : (cs : Causes) (v : Verdict) (xs : List Transition) → refuse cs v ≡ IsRecorded xs → NoneStands cs
recorded_causes [] v xs h = tt
recorded_causes (r ∷ rs) v xs h = go r.0 r.1 h (recorded_causes rs v xs)
  where
    go : (b : Bool) (n : ℕ) → cond b (IsRefused n) (refuse rs v) ≡ IsRecorded xs → (refuse rs v ≡ IsRecorded xs → NoneStands rs) → (b ≡ false) × NoneStands rs
    go true n e rest = absurd (cc (e))
    go false n e rest = (refl, rest e)
