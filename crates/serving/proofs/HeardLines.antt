-- The lines of a script, heard one after another.
use Rattle.std.proofs.Common.{◌≡◌, ◌∙◌, ◌+◌, ◌⊎◌, ℕ, zero, suc, List, [], ◌∷◌, ◌++◌, length, take, Some, inl, inr, refl, sym, ap, subst, arith, length-append}
use Rattle.std.specs.Prelude.{slice_get}
use Rattle.std.proofs.Math.ListN.{set}
use Rattle.std.proofs.lemmas.Option.{slice_get_within}
use Rattle.protocol.specs.Scheme.{Scheme}
use Rattle.units.proofs.Lists.OneValue.{one_some}
use Rattle.node_state.specs.Views.{SeatView}
use Rattle.node_state.specs.declared.notes.Told.{Told}
use Rattle.input_lines.specs.declared.instruction.Instruction.{Instruction}
use Rattle.input_lines.specs.declared.script_line.ScriptLine.{ScriptLine}
use Rattle.serving.specs.Answers.{asked_by}
use Rattle.serving.specs.Heard.{AllGrow, AreHeard, Grows, HasHeard, IsHeard}
use Rattle.serving.specs.declared.answer.ScriptAnswer.{ScriptAnswer}
use Rattle.serving.specs.declared.answer.ScriptAnswer.TheVariants.{NotPossible, Told as Answered}
use Rattle.serving.proofs.Hearing.{grows_on, heard_on, same_seat}

-- ---- seats that grow

pub grow_none : (seats : List SeatView) → AllGrow seats seats
grow_none seats = λ k old is. (old, is, same_seat old)

pub grow_on : (a b c : List SeatView) → AllGrow a b → AllGrow b c → AllGrow a c
grow_on a b c f g = λ k old is. let mid = f k old is in let new = g k mid.0 mid.1 in (new.0, new.1, grows_on old mid.0 new.0 mid.2 new.2)

pub grow_at : (seats : List SeatView) (at : ℕ) (old new : SeatView) → slice_get seats at ≡ Some old → Grows old new
    → (k : ℕ) (x : SeatView) → slice_get seats k ≡ Some x → (y : SeatView) × (slice_get (set seats at new) k ≡ Some y) × Grows x y
grow_at [] at old new is g k x at_k = (x, at_k, same_seat x)
grow_at (seat ∷ seats) zero old new is g zero x at_k = (new, refl, subst (λ (s : SeatView). Grows s new) (one_some old x (sym is ∙ at_k)) g)
grow_at (seat ∷ seats) zero old new is g (suc k) x at_k = (x, at_k, same_seat x)
grow_at (seat ∷ seats) (suc at) old new is g zero x at_k = (x, at_k, same_seat x)
grow_at (seat ∷ seats) (suc at) old new is g (suc k) x at_k = grow_at seats at old new is g k x at_k

-- ---- one line more

pub heard_line : (l m : Instruction) (seat : SeatView) (told : Told) → l ≡ m → HasHeard seat (asked_by m) told → HasHeard seat (asked_by l) told
heard_line l m seat told is h = subst (λ (x : Instruction). HasHeard seat (asked_by x) told) (sym is) h

pub last_or_before : {X : Type 0} (xs : List X) (x y : X) (k : ℕ) → slice_get (xs ++ x ∷ []) k ≡ Some y → (slice_get xs k ≡ Some y) ⊎ ((k ≡ length xs) × (y ≡ x))
last_or_before [] x y zero e = inr (refl, sym (one_some x y e))
last_or_before [] x y (suc k) e = absurd (cc (e))
last_or_before (z ∷ zs) x y zero e = inl e
last_or_before (z ∷ zs) x y (suc k) e = elim (last_or_before zs x y k e) [ inl before ↦ inl before | inr last ↦ inr (ap suc last.0, last.1) ]

heard_grown : (scheme : Scheme) (olds news : List SeatView) → AllGrow olds news → (l : ScriptLine) (answer : ScriptAnswer) → IsHeard scheme olds l answer → IsHeard scheme news l answer
heard_grown scheme olds news g l NotPossible h = h
heard_grown scheme olds news g l (Answered told) h =
    let new = g h.1.at h.1.seat h.1.is in
    (h.0, record { at = h.1.at; seat = new.0; index = h.1.index; is = new.1; heard = heard_on h.1.seat new.0 (asked_by l.instruction) told new.2 h.1.heard })

pub heard_none : (scheme : Scheme) (seats : List SeatView) → AreHeard scheme seats [] []
heard_none scheme seats = record { count = refl; each = λ k l answer at_l at_a. absurd (cc (at_l)) }

pub heard_more :
    (scheme : Scheme) (olds news : List SeatView) (lines : List ScriptLine) (answers : List ScriptAnswer) (l : ScriptLine) (answer : ScriptAnswer)
    → AllGrow olds news → AreHeard scheme olds lines answers → IsHeard scheme news l answer → AreHeard scheme news (lines ++ l ∷ []) (answers ++ answer ∷ [])
heard_more scheme olds news lines answers l answer g h is = record {
  count = omega (arith, length-append lines (l ∷ []), length-append answers (answer ∷ []), h.count);
  each = λ k line given at_line at_given.
      elim (last_or_before lines l line k at_line) [
        | inl early ↦ elim (last_or_before answers answer given k at_given) [
          | inl before ↦ heard_grown scheme olds news g line given (h.each k line given early before)
          | inr last ↦ let below = slice_get_within lines k line early in absurd (omega (arith, below, last.0, h.count))
        ]
        | inr late ↦ elim (last_or_before answers answer given k at_given) [
          | inl before ↦ let below = slice_get_within answers k given before in absurd (omega (arith, below, late.0, h.count))
          | inr last ↦ subst (λ (x : ScriptLine). IsHeard scheme news x given) (sym late.1) (subst (IsHeard scheme news l) (sym last.1) is)
        ]
      ];
}

pub take_more : {X : Type 0} (k : ℕ) (xs : List X) (x : X) → slice_get xs k ≡ Some x → take (suc k) xs ≡ take k xs ++ x ∷ []
take_more zero [] x is = absurd (cc (is))
take_more (suc k) [] x is = absurd (cc (is))
take_more zero (y ∷ ys) x is = ap (λ (z : _). z ∷ []) (one_some y x is)
take_more (suc k) (y ∷ ys) x is = ap (λ (zs : List _). y ∷ zs) (take_more k ys x is)

pub heard_next :
    (scheme : Scheme) (olds news : List SeatView) (lines : List ScriptLine) (k : ℕ) (answers more : List ScriptAnswer) (l : ScriptLine) (answer : ScriptAnswer)
    → slice_get lines k ≡ Some l → AllGrow olds news → AreHeard scheme olds (take k lines) answers → IsHeard scheme news l answer → more ≡ answers ++ answer ∷ []
    → AreHeard scheme news (take (k + 1) lines) more
heard_next scheme olds news lines k answers more l answer at g h is longer =
    let next : suc k ≡ k + 1 = omega arith in
    let lines_are = sym (take_more k lines l at) ∙ ap (λ (m : ℕ). take m lines) next in
    subst (λ (ls : List ScriptLine). AreHeard scheme news ls more) lines_are
    (subst (AreHeard scheme news (take k lines ++ l ∷ [])) (sym longer) (heard_more scheme olds news (take k lines) answers l answer g h is))
