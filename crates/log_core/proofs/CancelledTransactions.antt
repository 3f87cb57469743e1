-- Several transactions cancelled one after another.
use Rattle.std.proofs.Common.{◌≡◌, ◌&&◌, ◌||◌, ◌+◌, ◌<◌, ◌++◌, ◌∷◌, [], ℕ, List, Bool, true, false, not, cond, take, get_or, length, Option, Some, None, inl, inr, refl, sym, ap, subst, ◌∙◌}
use Rattle.std.specs.Prelude.{option_map}
use Rattle.std.proofs.Math.Bool.{or-false}
use Rattle.std.proofs.lemmas.Bool.{cases_Bool, false_from_ne_true}
use Rattle.std.proofs.lemmas.List.{take_more}
use Rattle.std.proofs.lemmas.List.Folds.{list_any-append}
use Rattle.units.specs.Intervals.{labels_that}
use Rattle.status.proofs.Ids.{id_of_same, same_id-refl}
use Rattle.status.specs.Id.{same_id}
use Rattle.status.specs.declared.id.TransactionId.{TransactionId}
use Rattle.status.specs.declared.moment.Moment.{Moment}
use Rattle.status.specs.declared.status.Status.TheVariants.{Cancelled}
use Rattle.checks.specs.declared.register.UnderWay.{UnderWay}
use Rattle.units.proofs.Lists.OneValue.{clash}
use Rattle.log_core.specs.Effects.{is_among}
use Rattle.log_core.specs.Transfers.{came_at}
use Rattle.log_core.specs.declared.transfer.LoggedTransfer.{LoggedTransfer}

-- one more of them
among_more : (ids : List TransactionId) (i : ℕ) (id t : TransactionId) → i < length ids → id ≡ get_or ids i id → is_among (take (i + 1) ids) t ≡ (is_among (take i ids) t || same_id id t)
among_more ids i id t lt is =
    ap (λ l. is_among l t) (take_more ids i id lt ∙ ap (λ x. take i ids ++ x ∷ []) (sym is)) ∙ list_any-append (λ u. same_id u t) (take i ids) (id ∷ []) ∙ ap (λ b. is_among (take i ids) t || b) (or-false (same_id id t))

-- ---- a table after one more

changed_more : {X : Type 0} (f : X → X) → ((x : X) → f (f x) ≡ f x) → (before here : Bool) (o : Option X)
    → cond here (option_map f (cond before (option_map f o) o)) (cond before (option_map f o) o) ≡ cond (before || here) (option_map f o) o
changed_more f twice true true None = refl
changed_more f twice true true (Some x) = ap Some (twice x)
changed_more f twice true false o = refl
changed_more f twice false true o = refl
changed_more f twice false false o = refl

labels_more : {M : Type 0} (before here : M → Bool) (o : Option M) → labels_that (λ m. not (here m)) (labels_that (λ m. not (before m)) o) ≡ labels_that (λ m. not (before m || here m)) o
labels_more before here None = refl
labels_more {M} before here (Some m) = go (before m)
  where
    go : (b : Bool) → labels_that (λ n. not (here n)) (cond (not b) (Some m) None) ≡ cond (not (b || here m)) (Some m) None
    go true = refl
    go false = refl

not_more : (before here there : Bool) → (not here && (not before && there)) ≡ (not (before || here) && there)
not_more true true there = refl
not_more true false there = refl
not_more false true there = refl
not_more false false there = refl

pub same_id_sym : (a b : TransactionId) → same_id a b ≡ same_id b a
same_id_sym a b =
    elim (cases_Bool (same_id a b)) [
      | inl y ↦ subst (λ c. same_id a c ≡ same_id c a) (id_of_same a b y) refl
      | inr n ↦ n ∙ sym (false_from_ne_true (same_id b a) (λ y. clash (same_id a b) (subst (λ c. same_id c b ≡ true) (id_of_same b a y) (same_id-refl b)) n))
    ]

labels_alike : {M : Type 0} (f g : M → Bool) (o : Option M) → ((m : M) → f m ≡ g m) → labels_that f o ≡ labels_that g o
labels_alike f g None h = refl
labels_alike f g (Some m) h = ap (λ b. cond b (Some m) None) (h m)

twice_came : (moment : Moment) (x : LoggedTransfer) → came_at Cancelled moment (came_at Cancelled moment x) ≡ came_at Cancelled moment x
twice_came moment x = refl

pub none_labelled_yet : (o : Option UnderWay) → o ≡ labels_that (λ u. not (is_among [] u.id)) o
none_labelled_yet None = refl
none_labelled_yet (Some u) = refl

module _ (ids : List TransactionId) (i : ℕ) (id : TransactionId) (lt : i < length ids) (is : id ≡ get_or ids i id) where
  pub changed_after : (t : TransactionId) (moment : Moment) (old now : Option LoggedTransfer) → now ≡ cond (is_among (take i ids) t) (option_map (came_at Cancelled moment) old) old
      → cond (same_id id t) (option_map (came_at Cancelled moment) now) now ≡ cond (is_among (take (i + 1) ids) t) (option_map (came_at Cancelled moment) old) old
  changed_after t moment old now h =
      ap (λ o. cond (same_id id t) (option_map (came_at Cancelled moment) o) o) h ∙ changed_more (came_at Cancelled moment) (twice_came moment) (is_among (take i ids) t) (same_id id t) old
      ∙ ap (λ b. cond b (option_map (came_at Cancelled moment) old) old) (sym (among_more ids i id t lt is))

  pub labels_after : (old now : Option UnderWay) → now ≡ labels_that (λ u. not (is_among (take i ids) u.id)) old
      → labels_that (λ u. not (same_id u.id id)) now ≡ labels_that (λ u. not (is_among (take (i + 1) ids) u.id)) old
  labels_after old now h =
      ap (λ o. labels_that (λ u. not (same_id u.id id)) o) h
      ∙ labels_more (λ u. is_among (take i ids) u.id) (λ u. same_id u.id id) old
      ∙ labels_alike (λ u. not (is_among (take i ids) u.id || same_id u.id id)) (λ u. not (is_among (take (i + 1) ids) u.id)) old
      (λ u. ap (λ b. not (is_among (take i ids) u.id || b)) (same_id_sym u.id id) ∙ ap not (sym (among_more ids i id u.id lt is)))

  pub entries_after : (t : TransactionId) (old now : Bool) → now ≡ (not (is_among (take i ids) t) && old) → (not (same_id id t) && now) ≡ (not (is_among (take (i + 1) ids) t) && old)
  entries_after t old now h = ap (λ b. not (same_id id t) && b) h ∙ not_more (is_among (take i ids) t) (same_id id t) old ∙ ap (λ b. not b && old) (sym (among_more ids i id t lt is))
