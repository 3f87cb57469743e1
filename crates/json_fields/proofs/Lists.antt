-- Reading the items of an array one after the other, as a loop does.
use Rattle.std.proofs.Common.{◌≡◌, ℕ, suc, ◌+◌, ◌<◌, List, [], ◌∷◌, ◌++◌, length, get_or, take, drop, drop-cons, refl, sym, ap, subst, ◌∙◌}
use Rattle.std.proofs.lemmas.List.{take_more, take-append-drop}
use Rattle.serde_json.specs.Data.{Data, Items, item, no_items}
use Rattle.serde_json.specs.View.{view, items_view}
use Rattle.serde_json.specs.declared.value.Value.{Value}
use Rattle.json_fields.specs.Fields.{EachIs}

module _ {X : Type 0} (R : Data → X → Type 0) where
  each_push : (us : List Value) (xs : List X) (v : Value) (x : X) → EachIs R (items_view us) xs → R (view v) x → EachIs R (items_view (us ++ v ∷ [])) (xs ++ x ∷ [])
  each_push [] [] v x each is = (is, tt)
  each_push [] (y ∷ xs) v x each is = absurd each
  each_push (u ∷ us) [] v x each is = absurd each
  each_push (u ∷ us) (y ∷ xs) v x each is = (each.0, each_push us xs v x each.1 is)

  -- the next item writes the next element
  pub each_more : (vs : List Value) (i : ℕ) (xs : List X) (v : Value) (x : X) → i < length vs → v ≡ get_or vs i v
      → EachIs R (items_view (take i vs)) xs → R (view v) x → EachIs R (items_view (take (i + 1) vs)) (xs ++ x ∷ [])
  each_more vs i xs v x lt is each here =
      subst (λ us. EachIs R (items_view us) (xs ++ x ∷ [])) (sym (take_more vs i v lt ∙ ap (λ u. take i vs ++ u ∷ []) (sym is))) (each_push (take i vs) xs v x each here)

  -- the element that the item at i writes, and those before it
  pub record Met (us : List Value) (v : Value) (ys : List X) : Type 0 where
    pub front : List X
    pub here : X
    pub rest : List X
    pub whole : ys ≡ front ++ here ∷ rest
    pub before : EachIs R (items_view us) front
    pub is : R (view v) here

  met : (us : List Value) (v : Value) (ws : List Value) (ys : List X) → EachIs R (items_view (us ++ v ∷ ws)) ys → Met us v ys
  met [] v ws [] each = absurd each
  met [] v ws (y ∷ ys) each = record { front = []; here = y; rest = ys; whole = refl; before = tt; is = each.0 }
  met (u ∷ us) v ws [] each = absurd each
  met (u ∷ us) v ws (y ∷ ys) each =
      let m = met us v ws ys each.1 in
      record { front = y ∷ m.front; here = m.here; rest = m.rest; whole = ap (λ zs. y ∷ zs) m.whole; before = (each.0, m.before); is = m.is }

  pub met_at : (vs : List Value) (i : ℕ) (v : Value) (ys : List X) → i < length vs → v ≡ get_or vs i v → EachIs R (items_view vs) ys → Met (take i vs) v ys
  met_at vs i v ys lt is each =
      let cut : vs ≡ take i vs ++ v ∷ drop (suc i) vs = sym (take-append-drop i vs) ∙ ap (λ us. take i vs ++ us) (drop-cons vs i v lt ∙ ap (λ u. u ∷ drop (suc i) vs) (sym is)) in
      met (take i vs) v (drop (suc i) vs) ys (subst (λ us. EachIs R (items_view us) ys) cut each)

  -- no list, where the item at i writes nothing
  pub each_none : (vs : List Value) (i : ℕ) (v : Value) → i < length vs → v ≡ get_or vs i v → ((x : X) → R (view v) x → ⊥) → (ys : List X) → EachIs R (items_view vs) ys → ⊥
  each_none vs i v lt is none ys each = let m = met_at vs i v ys lt is each in none m.here m.is

  -- each item writes one element
  module _ (one : (d : Data) (x y : X) → R d x → R d y → x ≡ y) where
    pub each_one : (ds : Items) (xs ys : List X) → EachIs R ds xs → EachIs R ds ys → xs ≡ ys
    each_one no_items [] [] p q = refl
    each_one no_items [] (y ∷ ys) p q = absurd q
    each_one no_items (x ∷ xs) ys p q = absurd p
    each_one (item d ds) [] ys p q = absurd p
    each_one (item d ds) (x ∷ xs) [] p q = absurd q
    each_one (item d ds) (x ∷ xs) (y ∷ ys) p q = let h = one d x y p.0 q.0 in let t = each_one ds xs ys p.1 q.1 in cc (h, t)
