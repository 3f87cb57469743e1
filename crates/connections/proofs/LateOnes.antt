-- Connections whose wait ends since they are late, one after another.
use Rattle.std.proofs.Common.{◌≡◌, ℕ, ◌+◌, Bool, true, false, List, [], ◌∷◌, ◌++◌, length, drop, None, Some, refl, sym, ap, ◌∙◌, append_assoc, length-append, if◌then◌else◌}
use Rattle.std.specs.List.{AllByRecursion}
use Rattle.std.specs.declared.time.Instant.{Instant}
use Rattle.connections.specs.Waiting.{first_late, first_number, is_late, WereLate}
use Rattle.connections.specs.declared.waiting.Waiter.{Waiter}

tested : (b : Bool) (n m : ℕ) → (if b then Some n else None) ≡ Some m → (b ≡ true) × (n ≡ m)
tested true n m h = (refl, cc)
tested false n m h = absurd (cc (h))

module _ {T : Type 0} where
  pub none_late : (now : Instant) (es : List (ℕ × Waiter T)) → WereLate now [] es es
  none_late now es = (refl, tt)

  all_late : (now : Instant) (e : ℕ × Waiter T) (es : List (ℕ × Waiter T)) → AllByRecursion (λ x. is_late now x.1.since ≡ true) es → is_late now e.1.since ≡ true
      → AllByRecursion (λ x. is_late now x.1.since ≡ true) (es ++ e ∷ [])
  all_late now e [] h late = (late, tt)
  all_late now e (x ∷ xs) h late = (h.0, all_late now e xs h.1 late)

  -- one more, which was the first of those left
  pub late_more : (now : Instant) (number : ℕ) (gone old some new : List (ℕ × Waiter T)) → first_late now some ≡ Some number
      → (first_number some ≡ Some number → new ≡ drop 1 some) → WereLate now gone old some
      → (more : List (ℕ × Waiter T)) × WereLate now more old new × (length more ≡ length gone + 1)
  late_more now number gone old [] new first rest h = absurd (cc (first))
  late_more now number gone old (e ∷ es) new first rest h =
      let late = tested (is_late now e.1.since) e.0 number first in
      let left : new ≡ es = rest (ap (λ n. Some n) late.1) in (
        gone ++ e ∷ [],
        (h.0 ∙ sym (append_assoc gone (e ∷ []) es) ∙ ap (λ s. (gone ++ e ∷ []) ++ s) (sym left), all_late now e gone h.1 late.0),
        length-append gone (e ∷ []),
      )
