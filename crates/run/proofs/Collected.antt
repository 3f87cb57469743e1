-- The seats of one node after another.
use Rattle.std.proofs.Common.{◌≡◌, ◌∙◌, ◌≤◌, ℕ, zero, suc, List, [], ◌∷◌, ◌++◌, drop, length, map, All, Vec, Global, Option, Some, None, Result, Ok, Err, refl, inl, inr, sym, ap, subst, arith, length-append}
use Rattle.std.specs.Prelude.{IfOk, IfSome, slice_get}
use Rattle.std.specs.Option.{option_to_list}
use Rattle.std.proofs.lemmas.List.{length-map, map-append}
use Rattle.std.proofs.lemmas.Option.{slice_get_within}
use Rattle.units.proofs.Lists.OneValue.{one_some}
use Rattle.units.specs.declared.memory.NoMemory.{NoMemory}
use Rattle.node_state.specs.Views.{SeatView}
use Rattle.protocol.specs.Input.{Input}
use Rattle.sessions.specs.Orders.{AreAll}
use Rattle.run.specs.Gathered.{AreGatheredTo, IsGathered}
use Rattle.serving.proofs.HeardLines.{last_or_before}

drop_at : {X : Type 0} (k : ℕ) (xs : List X) (x : X) (ys : List X) → drop k xs ≡ x ∷ ys → (slice_get xs k ≡ Some x) × (drop (suc k) xs ≡ ys)
drop_at zero [] x ys e = absurd (cc (e))
drop_at (suc k) [] x ys e = absurd (cc (e))
drop_at zero (z ∷ zs) x ys e = (cc (e), cc (e))
drop_at (suc k) (z ∷ zs) x ys e = drop_at k zs x ys e

module _ (Takes : Input → Type 0) {V : Type 0} (f : V → List SeatView) (own : List SeatView) (all : List V) (v : V) (seat : SeatView) (rest next : List SeatView) (left : rest ≡ drop (length all) own) (taken : rest ≡ seat ∷ next) where
  pub own_at : (slice_get own (length all) ≡ Some seat) × (drop (suc (length all)) own ≡ next)
  own_at = drop_at (length all) own seat next (sym left ∙ taken)

  gathered_last : IsGathered Takes (f v) seat → AreGatheredTo Takes (length all) own (map f all) → AreGatheredTo Takes (length (all ++ v ∷ [])) own (map f (all ++ v ∷ []))
  gathered_last among before = λ k s h under at_own at_all.
      elim (last_or_before (map f all) (f v) h k (ap (λ (l : List (List SeatView)). slice_get l k) (sym (map-append f all (v ∷ []))) ∙ at_all)) [
        | inl early ↦ before k s h (omega (arith, slice_get_within (map f all) k h early, length-map all f)) at_own early
        | inr last ↦
            let k_is : k ≡ length all = omega (arith, last.0, length-map all f) in
            let same : seat ≡ s = one_some seat s (sym own_at.0 ∙ ap (slice_get own) (sym k_is) ∙ at_own) in
            subst (IsGathered Takes h) same (subst (λ (x : List SeatView). IsGathered Takes x seat) (sym last.1) among)
      ]

  pub gathered_more : (new : List V) → new ≡ all ++ v ∷ [] → IsGathered Takes (f v) seat → AreGatheredTo Takes (length all) own (map f all) → AreGatheredTo Takes (length new) own (map f new)
  gathered_more new is among before = subst (λ (xs : List V). AreGatheredTo Takes (length xs) own (map f xs)) (sym is) (gathered_last among before)

  pub rest_more : (new : List V) → new ≡ all ++ v ∷ [] → next ≡ drop (length new) own
  rest_more new is =
      let longer : length new ≡ suc (length all) = omega (arith, ap (λ (xs : List V). length xs) is, length-append all (v ∷ [])) in
      sym own_at.1 ∙ ap (λ (n : ℕ). drop n own) (sym longer)

  pub count_more : (new : List V) → new ≡ all ++ v ∷ [] → length new ≤ length own
  count_more new is = omega (arith, ap (λ (xs : List V). length xs) is, length-append all (v ∷ []), slice_get_within own (length all) seat own_at.0)

-- ---- the seats of threads

module _ (IsSuch : SeatView → Type 0) where
  abbrev pub HasSuch : Option (Result (Vec SeatView Global) NoMemory) → Type 0
  HasSuch found = IfSome found (λ ended. IfOk ended (λ seats. All IsSuch seats.items))

  pub has_seats : (seats : Vec SeatView Global) (e : Result (Vec SeatView Global) NoMemory) → e ≡ Ok seats → HasSuch (Some e) → All IsSuch seats.items
  has_seats seats e is such = subst (λ (r : Result (Vec SeatView Global) NoMemory). HasSuch (Some r)) is such

  has_such : (e : Result (Vec SeatView Global) NoMemory) (more : List (Result (Vec SeatView Global) NoMemory)) → AreAll IsSuch (e ∷ more) → HasSuch (Some e)
  has_such (Ok seats) more such = such 0 seats refl
  has_such (Err e) more such = tt

  pub such_left : (old new : List (Result (Vec SeatView Global) NoMemory)) (found : Option (Result (Vec SeatView Global) NoMemory)) → old ≡ option_to_list found ++ new → AreAll IsSuch old → HasSuch found × AreAll IsSuch new
  such_left old new None is such = (tt, subst (AreAll IsSuch) is such)
  such_left old new (Some e) is such =
      let all : AreAll IsSuch (e ∷ new) = subst (AreAll IsSuch) is such in
      (has_such e new all, λ k seats at. all (suc k) seats at)
