-- A journal after more of it was committed.
use Rattle.std.proofs.Common.{◌≡◌, ℕ, ◌+◌, ◌-◌, ◌≤◌, subst, true, List, [], ◌∷◌, ◌++◌, take, drop, length, None, zero, suc, refl, sym, ap, ◌∙◌, arith}
use Rattle.std.specs.Prelude.{nat_le, slice_get}
use Rattle.std.proofs.Math.Seq.{take-append-add}
use Rattle.std.proofs.lemmas.Bool.{cond-true, le-leb}
use Rattle.std.proofs.lemmas.List.{drop-drop, length-drop, length-take-le, take-append-drop}
use Rattle.units.specs.declared.code.Node.{Node}
use Rattle.wire.specs.declared.input.Input.{Input}
use Rattle.scheme.specs.declared.registries.Scheme.{Scheme}
use Rattle.protocol.specs.declared.event.Outcome.TheVariants.{Done}
use Rattle.protocol.specs.World.{commit}

pub take_more : {X : Type 0} (n m : ℕ) (xs : List X) → n ≤ length xs → take (n + m) xs ≡ take n xs ++ take m (drop n xs)
take_more n m xs l =
    ap (take (n + m)) (sym (take-append-drop n xs)) ∙ ap (λ k. take (k + m) (take n xs ++ drop n xs)) (sym (length-take-le n xs l)) ∙ take-append-add (take n xs) (drop n xs) m

pub beyond : {X : Type 0} (xs : List X) (k : ℕ) → length xs ≤ k → slice_get xs k ≡ None
beyond [] k l = refl
beyond (x ∷ xs) zero l = absurd (omega arith)
beyond (x ∷ xs) (suc k) l = beyond xs k (omega arith)

-- more of the tail is committed
pub commit_more : (s : Scheme) (n : Node) (journal : List Input) (committed count : ℕ) → committed ≤ length journal → count ≤ length journal - committed
    → record { station = record { node = n; committed = take (committed + count) journal; tail = drop (committed + count) journal; runs = true }; outcome = Done }
    ≡ commit count (record { node = n; committed = take committed journal; tail = drop committed journal; runs = true })
commit_more s n journal committed count within fits =
    ap (λ js. record { station = record { node = n; committed = js; tail = drop (committed + count) journal; runs = true }; outcome = Done }) (take_more committed count journal within)
    ∙ ap (λ js. record { station = record { node = n; committed = take committed journal ++ take count (drop committed journal); tail = js; runs = true }; outcome = Done }) (sym (drop-drop count committed journal))
    ∙ sym (cond-true (nat_le count (length (drop committed journal))) _ _ (le-leb count (length (drop committed journal)) (subst (λ k. count ≤ k) (sym (length-drop committed journal)) fits)))
