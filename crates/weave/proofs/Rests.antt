-- The rests of journals after the committed records, node by node.
use Rattle.std.proofs.Common.{◌≡◌, ℕ, ◌+◌, ◌<◌, ◌≤◌, All, List, [], ◌∷◌, ◌++◌, Bool, true, false, cond, not, inl, inr, sym, ap, subst, ◌∙◌, filter, length, map, take, arith, append-nil}
use Rattle.std.specs.Prelude.{get_or, nat_le}
use Rattle.std.proofs.lemmas.Bool.{cases_Bool, leb-false, leb-true}
use Rattle.std.proofs.lemmas.List.{map-append, take_more}
use Rattle.std.proofs.lemmas.List.Elements.{All-push, filter-append}
use Rattle.std.proofs.lemmas.Option.{slice_get_within}
use Rattle.units.specs.declared.code.Node.{Node}
use Rattle.protocol.specs.World.{World}
use Rattle.weave.specs.Following.{committed_at}
use Rattle.weave.specs.Left.{IsRest, has_rest}
use Rattle.weave.specs.Steps.{whole_at}
use Rattle.weave.specs.declared.cut.Rest.{Rest}

is_longer : (a b : ℕ) → b < a → not (nat_le a b) ≡ true
is_longer a b h =
    elim (cases_Bool (nat_le a b)) [
      | inl y ↦ let e = leb-true a b y in absurd (omega (arith, h, e))
      | inr n ↦ ap not n
    ]

no_longer : (a b : ℕ) → a ≤ b → not (nat_le a b) ≡ false
no_longer a b h =
    elim (cases_Bool (nat_le a b)) [
      | inl y ↦ ap not y
      | inr n ↦ let e = leb-false a b n in absurd (omega (arith, h, e))
    ]

module _ (w : World) where
  -- of these nodes, each that has records left is there with its rest
  abbrev pub AreRests : List Node → List Rest → Type 0
  AreRests ns rests = (map (λ r. r.node) rests ≡ filter (has_rest w) ns) × All (λ r. IsRest w r.node r) rests

  filter_more : (ns : List Node) (k : ℕ) (n : Node) → k < length ns → n ≡ get_or ns k n → filter (has_rest w) (take (k + 1) ns) ≡ filter (has_rest w) (take k ns) ++ cond (has_rest w n) (n ∷ []) []
  filter_more ns k n below is =
      ap (filter (has_rest w)) (take_more ns k n below)
      ∙ filter-append (has_rest w) (take k ns) (get_or ns k n ∷ [])
      ∙ ap (λ (m : Node). filter (has_rest w) (take k ns) ++ cond (has_rest w m) (m ∷ []) []) (sym is)

  pub with_rest : (ns : List Node) (k : ℕ) (n : Node) (rests : List Rest) (r : Rest) → k < length ns → n ≡ get_or ns k n → IsRest w n r → AreRests (take k ns) rests → AreRests (take (k + 1) ns) (rests ++ r ∷ [])
  with_rest ns k n rests r below is one all =
      let within = slice_get_within (whole_at w n) r.place r.next one.next in
      let longer = is_longer (length (whole_at w n)) (length (committed_at w n)) (omega (arith, within, one.place)) in (
        map-append (λ (x : Rest). x.node) rests (r ∷ [])
            ∙ ap (λ (l : List Node). l ++ r.node ∷ []) all.0
            ∙ ap (λ (m : Node). filter (has_rest w) (take k ns) ++ m ∷ []) one.node
            ∙ ap (λ (b : Bool). filter (has_rest w) (take k ns) ++ cond b (n ∷ []) []) (sym longer)
            ∙ sym (filter_more ns k n below is),
        All-push (λ x. IsRest w x.node x) rests r all.1 (subst (λ z. IsRest w z r) (sym one.node) one),
      )

  pub without_rest : (ns : List Node) (k : ℕ) (n : Node) (rests : List Rest) → k < length ns → n ≡ get_or ns k n → length (whole_at w n) ≤ length (committed_at w n) → AreRests (take k ns) rests → AreRests (take (k + 1) ns) rests
  without_rest ns k n rests below is none all =
      let done = no_longer (length (whole_at w n)) (length (committed_at w n)) none in (
        all.0
            ∙ sym (append-nil (filter (has_rest w) (take k ns)))
            ∙ ap (λ (b : Bool). filter (has_rest w) (take k ns) ++ cond b (n ∷ []) []) (sym done)
            ∙ sym (filter_more ns k n below is),
        all.1,
      )
