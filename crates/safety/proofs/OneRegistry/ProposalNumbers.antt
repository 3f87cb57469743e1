-- The numbers of a registry's own transactions: none is above the number of its propose records, and the next number is
-- therefore new. A transaction of the registry's own gets its first transition from a propose record, with the number
-- of the records until then (`own_number`); each later one names a transaction that was there.
use Rattle.std.proofs.Common.{◌≡◌, ℕ, ◌+◌, ◌≤◌, List, [], ◌∷◌, Bool, true, Option, Some, None, inl, inr, refl, sym, ap, subst, ◌∙◌, arith}
use Rattle.std.proofs.lemmas.Bool.{cases_Bool}
use Rattle.units.proofs.Same.{same_code-refl}
use Rattle.units.specs.Code.{same_code}
use Rattle.units.specs.declared.code.Code.{Code}
use Rattle.units.specs.declared.code.Node.TheVariants.{Registry}
use Rattle.status.proofs.Ids.{id_at-code, id_at-number}
use Rattle.status.specs.declared.id.TransactionId.{TransactionId}
use Rattle.wire.specs.declared.input.Input.{Input}
use Rattle.scheme.specs.declared.registries.Scheme.{Scheme}
use Rattle.protocol.specs.Claims.{NextIsNew}
use Rattle.protocol.specs.History.{Transition, Entry, transitions_of, newest, proposals, is_proposal_order}
use Rattle.units.proofs.Lists.Membership.{In, In_cases}
use Rattle.units.proofs.Lists.OneValue.{clash}
use Rattle.protocol.proofs.CountsInLists.{count_no, count_yes}
use Rattle.safety.proofs.MovesAndHistories.NewestTransitions.{Made, made_registry, newest_id}
use Rattle.safety.proofs.MovesAndHistories.TableMoves.{RegistryMove, proposes, asks, arrives, bares, concludes, finishes}

module _ (scheme : Scheme) (c : Code) where
  abbrev IsNumbered : ℕ → Transition → Type 0
  IsNumbered most x = same_code x.id.code c ≡ true → x.id.number ≤ most

  abbrev AreNumbered : List Entry → Type 0
  AreNumbered es = (x : Transition) → In x (transitions_of es) → IsNumbered (proposals es) x

  is_order : Entry → Bool
  is_order e = is_proposal_order e.input

  -- a record counts once or not at all
  no_fewer : (e : Entry) (es : List Entry) → proposals es ≤ proposals (e ∷ es)
  unfolding is_order
  no_fewer e es = elim (cases_Bool (is_order e)) [
    | inl y ↦ let n = count_yes is_order e es y in omega arith
    | inr n ↦ let m = count_no is_order e es n in omega arith
  ]

  one_more : (e : Entry) (es : List Entry) → is_proposal_order e.input ≡ true → proposals (e ∷ es) ≡ proposals es + 1
  unfolding is_order
  one_more e es h = let n = count_yes is_order e es h in omega arith

  -- a transaction that was there has a number that is no higher
  there : (es : List Entry) (t : TransactionId) (q : Transition) (most : ℕ) → AreNumbered es → proposals es ≤ most → newest (transitions_of es) t ≡ Some q → IsNumbered most q
  there es t q most old le was own = let n = old q (newest_id (transitions_of es) t q was).0 own in omega arith

  own_number : (e : Entry) (es : List Entry) (x : Transition) → AreNumbered es → RegistryMove scheme c es e.input x → IsNumbered (proposals (e ∷ es)) x
  own_number e es x old move = go e.input x move refl
    where
      go : (input : Input) (x : Transition) → RegistryMove scheme c es input x → input ≡ e.input → IsNumbered (proposals (e ∷ es)) x
      go input x (proposes o t none is fresh) same own =
          let n = id_at-number c (proposals es + 1) t is in
          let m = one_more e es (subst (λ i. is_proposal_order i ≡ true) same refl) in
          omega arith
      go input x (asks t q was mine stood) same own = there es t q (proposals (e ∷ es)) old (no_fewer e es) was own
      go input x (arrives p moment found f s is none' foreign mine) same own = clash (same_code p.id.code c) own foreign
      go input x (bares n moment f cancelled none' foreign) same own = clash (same_code n.id.code c) own foreign
      go input x (concludes n moment q new f was mine moves) same own = there es n.id q (proposals (e ∷ es)) old (no_fewer e es) was own
      go input x (finishes n moment q new f was foreign moves none') same own = there es n.id q (proposals (e ∷ es)) old (no_fewer e es) was own

  all_numbered : (es : List Entry) → Made scheme (Registry c) es → AreNumbered es
  all_numbered [] made x h own = absurd h
  all_numbered (e ∷ es) made x h own = elim (In_cases x e.transitions (transitions_of es) h) [
    | inl here ↦ own_number e es x (all_numbered es made.1) (made_registry scheme c e es x made here) own
    | inr later ↦ let n = all_numbered es made.1 x later own in let m = no_fewer e es in omega arith
  ]

  pub next_is_new : (es : List Entry) → Made scheme (Registry c) es → NextIsNew c es
  next_is_new es made t is = go (newest (transitions_of es) t) refl
    where
      go : (o : Option Transition) → newest (transitions_of es) t ≡ o → o ≡ None
      go None e = refl
      go (Some x) e =
          let g = newest_id (transitions_of es) t x e in
          let own : same_code x.id.code c ≡ true = subst (λ z. same_code z c ≡ true) (sym (ap (λ (z : TransactionId). z.code) g.1 ∙ id_at-code c (proposals es + 1) t is)) (same_code-refl c) in
          let n = all_numbered es made x g.0 own in
          let m = id_at-number c (proposals es + 1) t is in
          let same : x.id.number ≡ t.number = ap (λ (z : TransactionId). z.number) g.1 in
          absurd (omega arith)
