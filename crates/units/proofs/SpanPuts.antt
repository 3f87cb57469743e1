-- A map of spans at each key after one or two of them were changed.
use Rattle.std.proofs.Common.{◌≡◌, ◌⊎◌, inl, inr, cond, Option, Some, None, IsSome, refl, sym, ap, ◌∙◌, subst}
use Rattle.std.specs.BTreeMap.{is_at}
use Rattle.std.proofs.lemmas.Bool.{cases_Bool, true≢false}
use Rattle.units.specs.Keys.{unit_cmp}
use Rattle.units.specs.Spans.{Puts}
use Rattle.units.specs.declared.block.Unit.{Unit as Serial}
use Rattle.units.specs.declared.unit_map.Span.{Span}
use Rattle.units.proofs.UnitLines.{at_true, at_self, at_false, at_false_from}

abbrev pub Held : Type 0 → Type 0
Held M = Serial → Option (Span M)

pub one_unit : (k q : Serial) → (k ≡ q) ⊎ (k ≡ q → ⊥)
one_unit k q = elim (cases_Bool (is_at (unit_cmp k) q)) [
  | inl yes' ↦ inl (at_true k q yes')
  | inr no' ↦ inr (at_false k q no')
]

pub not_some : {A : Type 0} (o : Option A) → o ≡ None → IsSome o → ⊥
not_some None e some = true≢false (sym some)
not_some (Some x) e some = cc (e)

module _ {M : Type 0} where
  pub put_here : (k : Serial) (w : Option (Span M)) (old new : Held M) → Puts k w old new → new k ≡ w
  put_here k w old new puts = puts k ∙ ap (λ t. cond t w (old k)) (at_self k)

  pub put_other : (k : Serial) (w : Option (Span M)) (old new : Held M) → Puts k w old new → (q : Serial) → (k ≡ q → ⊥) → new q ≡ old q
  put_other k w old new puts q other = puts q ∙ ap (λ t. cond t w (old q)) (at_false_from k q other)

  pub some_same : (s t : Span M) → Some s ≡ Some t → s ≡ t
  some_same s t e = cc (e)

  pub none_held : (s : Span M) → None ≡ Some s → ⊥
  none_held s e = cc (e)

  -- a property of a key that was given a span, and of those that were there, is one of each
  pub each_put : (P : Serial → Span M → Type 0) (k : Serial) (w : Span M) (old new : Held M) → Puts k (Some w) old new
      → P k w → ((q : Serial) (t : Span M) → (k ≡ q → ⊥) → old q ≡ Some t → P q t)
      → (q : Serial) (t : Span M) → new q ≡ Some t → P q t
  each_put P k w old new puts here others q t e = elim (one_unit k q) [
    | inl same ↦
        let span : w ≡ t = some_same w t (sym (put_here k (Some w) old new puts) ∙ ap new same ∙ e) in
        subst (λ (x : Span M). P q x) span (subst (λ x. P x w) same here)
    | inr other ↦ others q t other (sym (put_other k (Some w) old new puts q other) ∙ e)
  ]

  -- a key that was there still is, after another was given a span
  pub still_there : (k v : Serial) (w : Span M) (old new : Held M) → Puts v (Some w) old new → IsSome (old k) → IsSome (new k)
  still_there k v w old new puts some = elim (one_unit v k) [
    | inl same ↦ subst (λ x. IsSome (new x)) same (subst (λ (o : Option (Span M)). IsSome o) (sym (put_here v (Some w) old new puts)) refl)
    | inr other ↦ subst (λ (o : Option (Span M)). IsSome o) (sym (put_other v (Some w) old new puts k other)) some
  ]

  pub is_some_from : (o : Option (Span M)) (s : Span M) → o ≡ Some s → IsSome o
  is_some_from o s e = subst (λ (x : Option (Span M)). IsSome x) (sym e) refl
