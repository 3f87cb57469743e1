-- Reading the items of an array one after the other, as a loop does.
use Rattle.std.proofs.Common.{◌≡◌, ◌≢◌, ℕ, ◌<◌, List, [], ◌∷◌, ◌++◌, length, get_or, take, sym, ap, subst, ◌∙◌, arith, length-append, Bool, true, false}
use Rattle.std.specs.List.{Contains}
use Rattle.std.proofs.lemmas.List.{get_or_default}
use Rattle.std.specs.List.{list_any}
use Rattle.std.proofs.lemmas.List.Folds.{Any-from_list_any, list_any_at}
use Rattle.std.proofs.Math.ListN.{get_or-append}
use Rattle.std.proofs.Math.Seq.{get_or-append_seam}
use Rattle.serde_json.specs.Data.{Data}
use Rattle.serde_json.specs.View.{view, items_view}
use Rattle.serde_json.specs.declared.value.Value.{Value}
use Rattle.json_fields.specs.Fields.{EachIs}
use Rattle.json_fields.proofs.Lists.{met_at, each_one}
use Rattle.scheme.specs.Grammar.{HasNoTwins}
use Rattle.scheme.proofs.Pairs.{pair_at, pairwise_push, each_contained}

pub in_list : {X : Type 0} (eq : X → X → Bool) (same : (y z : X) → eq y z ≡ true → y ≡ z) (xs : List X) (x : X) → list_any (λ y. eq y x) xs ≡ true → Contains xs x
in_list eq same xs x e =
    let any = Any-from_list_any (λ y. eq y x) xs e in
    let here : any.1 ≡ x = same any.1 x any.4 in
    (any.0, any.2, get_or_default xs any.0 x any.1 any.2 ∙ any.3 ∙ here)

pub not_in_list : {X : Type 0} (eq : X → X → Bool) (same : (y z : X) → y ≡ z → eq y z ≡ true) (xs : List X) (x : X) → list_any (λ y. eq y x) xs ≡ false → Contains xs x → ⊥
not_in_list eq same xs x e has =
    let found : list_any (λ y. eq y x) xs ≡ true = list_any_at (λ y. eq y x) xs has.0 x has.1 (same (get_or xs has.0 x) x has.2) in
    let clash : true ≡ false = sym found ∙ e in
    cc (clash)

-- one more element, other than all before it
pub no_twins_push : {X : Type 0} (xs : List X) (x : X) → HasNoTwins xs → (Contains xs x → ⊥) → HasNoTwins (xs ++ x ∷ [])
no_twins_push xs x apart new = pairwise_push (λ y z. y ≢ z) xs x apart (each_contained (λ y. y ≢ x) xs (λ y has e. new (subst (Contains xs) e has)))

module _ {X : Type 0} (R : Data → X → Type 0) where
  -- each item writes one element
  module _ (one : (d : Data) (x y : X) → R d x → R d y → x ≡ y) where
    -- no list without twins, where the element of the item at i was met before
    pub each_twin : (vs : List Value) (i : ℕ) (v : Value) (xs : List X) (x : X) → i < length vs → v ≡ get_or vs i v → EachIs R (items_view (take i vs)) xs → R (view v) x → Contains xs x
        → (ys : List X) → EachIs R (items_view vs) ys → HasNoTwins ys → ⊥
    each_twin vs i v xs x lt is before here has ys each apart =
        let m = met_at R vs i v ys lt is each in
        let front : m.front ≡ xs = each_one R one (items_view (take i vs)) m.front xs m.before before in
        let same : m.here ≡ x = one (view v) m.here x m.is here in
        let whole : ys ≡ xs ++ x ∷ m.rest = m.whole ∙ ap (λ f. f ++ m.here ∷ m.rest) front ∙ ap (λ h. xs ++ h ∷ m.rest) same in
        twins xs x m.rest has (subst HasNoTwins whole apart)
      where
        twins : (xs : List X) (x : X) (rest : List X) → Contains xs x → HasNoTwins (xs ++ x ∷ rest) → ⊥
        twins xs x rest has apart =
            let lt : has.0 < length xs = has.1 in
            let within : length xs < length (xs ++ x ∷ rest) = omega (arith, length-append xs (x ∷ rest)) in
            pair_at (λ y z. y ≢ z) (xs ++ x ∷ rest) has.0 (length xs) x lt within apart (get_or-append xs (x ∷ rest) x has.0 lt ∙ has.2 ∙ sym (get_or-append_seam xs x rest x))
