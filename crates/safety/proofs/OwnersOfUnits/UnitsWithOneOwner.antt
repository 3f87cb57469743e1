-- A unit that is in one place has one owner.
-- An owner is a registry that holds the unit, or a transfer that owes it. Each owner adds one to a sum over
-- registries, and by `UnitsInOnePlace` the two sums together are one. Two owners would make the sum two, no owner
-- would make it zero, and a unit that is not allotted has the sum zero and so no owner.
use Rattle.std.specs.List.{count_by}
use Rattle.std.proofs.Common.{◌≡◌, ℕ, zero, suc, ◌+◌, ◌≤◌, List, Bool, true, false, not, is_some, Some, inl, inr, refl, sym, ap, subst, ◌∙◌, arith}
use Rattle.std.proofs.lemmas.Bool.{cases_Bool, cond-true, cond-false, and_parts, and_from, not-true, not-false}
use Rattle.units.proofs.Same.{code_of_same, same_code-refl}
use Rattle.units.specs.Code.{same_code}
use Rattle.units.specs.declared.block.Unit.{Unit as Serial}
use Rattle.units.specs.declared.code.Code.{Code}
use Rattle.units.specs.declared.code.Node.{Node}
use Rattle.units.specs.declared.code.Node.TheVariants.{Itl, Registry}
use Rattle.status.proofs.Ids.{id_of_same, same_id-refl}
use Rattle.status.specs.Id.{same_id}
use Rattle.status.specs.declared.id.TransactionId.{TransactionId}
use Rattle.status.specs.declared.status.Status.TheVariants.{Completed}
use Rattle.scheme.specs.declared.members.SchemeRegistry.{SchemeRegistry}
use Rattle.scheme.specs.declared.registries.Scheme.{Scheme}
use Rattle.protocol.specs.Claims.{StandsAt, at_registry, is_received, owes, holders, owed}
use Rattle.protocol.specs.History.{Transition, Entry, newest, gives, holds}
use Rattle.protocol.specs.Owner.{Owner, At, Due, Owing, Owns, OneOwner}
use Rattle.protocol.specs.Registries.{allotted, has_member}
use Rattle.safety.proofs.OneLog.LogHearings.{IsAgreed}
use Rattle.safety.proofs.AgreementOfNodes.CausalHistories.{Causal, completed_agrees}
use Rattle.safety.proofs.AgreementOfNodes.CompletionsAgree.{given, is_given, stands_so}
use Rattle.protocol.proofs.CountsInLists.{number_one, number_some, number_two}
use Rattle.safety.proofs.OneRegistry.TransactionEnds.{ends_last, proposer}
use Rattle.safety.proofs.MovesAndHistories.NewestTransitions.{newest_id}
use Rattle.units.proofs.Lists.Membership.{In}
use Rattle.scheme.proofs.Told.{other_from_test}
use Rattle.safety.proofs.OwnersOfUnits.UnitsInOnePlace.{causal_one_place}
use Rattle.safety.proofs.OwnersOfUnits.SumsOverRegistries.{one_or_none, over_least, over_some, over_two, some_member, is_member}

ids_differ : (t u : TransactionId) → same_id t u ≡ false → t ≡ u → ⊥
ids_differ t u other e = let x : true ≡ false = sym (same_id-refl t) ∙ ap (same_id t) e ∙ other in cc (x)

module _ (scheme : Scheme) (f : Node → List Entry) (causal : Causal scheme f) where
  -- ---- an owner is counted

  abbrev holds_at : Serial → SchemeRegistry → Bool
  holds_at s m = holds scheme m.code (at_registry f m.code) s

  abbrev owed_by : Serial → SchemeRegistry → ℕ
  owed_by s m = count_by (owes f m.code s) (at_registry f m.code)

  -- the transition by which a transfer owes the unit
  record Counted (s : Serial) (t : TransactionId) (x : Transition) : Type 0 where
    inside : In x (at_registry f t.code)
    id : x.id ≡ t
    counts : owes f t.code s x ≡ true
    known : has_member scheme t.code ≡ true

  initiator_is_member : (t : TransactionId) → StandsAt f (Registry t.code) t Completed → has_member scheme t.code ≡ true
  initiator_is_member t h =
      let a = completed_agrees scheme f causal refl (Registry t.code) t h in
      not-false (has_member scheme t.code) (proposer scheme (f Itl) (causal.made Itl) t a.0 a.1 (λ e. subst IsAgreed e a.2)).initiator_known

  counted : (s : Serial) (t : TransactionId) (o : Owing f s t) → Counted s t o.last
  counted s t o =
      let id = newest_id (at_registry f t.code) t o.last o.is in
      let own : same_code o.last.id.code t.code ≡ true = subst (λ (z : TransactionId). same_code z.code t.code ≡ true) (sym id.1) (same_code-refl t.code) in
      record {
        inside = id.0;
        id = id.1;
        counts =
            and_from (gives t.code s o.last) (not (is_received f o.last.id o.last.content)) (is_given t.code s o.last o.new own o.has)
            (ap not (subst (λ z. is_received f z o.last.content ≡ false) (sym id.1) o.waits));
        known = initiator_is_member t (stands_so (at_registry f t.code) t o.last Completed o.is o.new);
      }

  holder_counts : (s : Serial) (c : Code) → Owns scheme f s (At c) → (m : SchemeRegistry) × In m scheme.members × (m.code ≡ c) × (holds_at s m ≡ true)
  holder_counts s c h = let m = some_member scheme c h.0 in (m.0, m.1, m.2, subst (λ z. holds scheme z (at_registry f z) s ≡ true) (sym m.2) h.1)

  one_holder : (s : Serial) (c : Code) → Owns scheme f s (At c) → 1 ≤ holders scheme f s
  one_holder s c h = let m = holder_counts s c h in number_one (holds_at s) scheme.members m.0 m.1 m.3

  ower_counts : (s : Serial) (t : TransactionId) → Owing f s t → (m : SchemeRegistry) × In m scheme.members × (m.code ≡ t.code) × (1 ≤ owed_by s m)
  ower_counts s t o =
      let k = counted s t o in
      let m = some_member scheme t.code k.known in
      (m.0, m.1, m.2, subst (λ z. 1 ≤ count_by (owes f z s) (at_registry f z)) (sym m.2) (number_one (owes f t.code s) (at_registry f t.code) o.last k.inside k.counts))

  one_ower : (s : Serial) (t : TransactionId) → Owing f s t → 1 ≤ owed scheme f s
  one_ower s t o = let m = ower_counts s t o in over_least (owed_by s) scheme.members m.0 1 m.1 m.3

  one_at_most : (s : Serial) → holders scheme f s + owed scheme f s ≤ 1
  one_at_most s = let p = causal_one_place scheme f causal s in let top = one_or_none (is_some (allotted scheme s)) in omega arith

  -- ---- no two owners

  pub held_or_owed : (s : Serial) (c : Code) (t : TransactionId) → Owns scheme f s (At c) → Owing f s t → ⊥
  held_or_owed s c t h o = let a = one_holder s c h in let b = one_ower s t o in let top = one_at_most s in omega arith

  two_holders : (s : Serial) (c d : Code) → Owns scheme f s (At c) → Owns scheme f s (At d) → same_code c d ≡ false → ⊥
  two_holders s c d h k other =
      let m = holder_counts s c h in
      let n = holder_counts s d k in
      let two = number_two (holds_at s) scheme.members m.0 n.0 m.1 n.1 m.3 n.3 (λ e. other_from_test c d other (sym m.2 ∙ ap (λ (z : SchemeRegistry). z.code) e ∙ n.2)) in
      let top = one_at_most s in
      omega arith

  two_owers : (s : Serial) (t u : TransactionId) → Owing f s t → Owing f s u → same_id t u ≡ false → ⊥
  two_owers s t u o p other =
      let m = ower_counts s t o in
      let n = ower_counts s u p in
      let x = counted s t o in
      let y = counted s u p in
      let two : 2 ≤ owed scheme f s = elim (cases_Bool (same_code t.code u.code)) [
        | inl same ↦
            let e = code_of_same t.code u.code same in
            let both =
            number_two (owes f t.code s) (at_registry f t.code) o.last p.last x.inside (subst (λ z. In p.last (at_registry f z)) (sym e) y.inside) x.counts
            (subst (λ z. owes f z s p.last ≡ true) (sym e) y.counts) (λ d. ids_differ t u other (sym x.id ∙ ap (λ (z : Transition). z.id) d ∙ y.id)) in
            over_least (owed_by s) scheme.members m.0 2 m.1 (subst (λ z. 2 ≤ count_by (owes f z s) (at_registry f z)) (sym m.2) both)
        | inr apart ↦ over_two (owed_by s) scheme.members m.0 n.0 m.1 n.1 (λ e. other_from_test t.code u.code apart (sym m.2 ∙ e ∙ n.2)) m.3 n.3
      ] in
      let top = one_at_most s in
      omega arith

  pub one_owner : (s : Serial) (a b : Owner) → Owns scheme f s a → Owns scheme f s b → a ≡ b
  one_owner s (At c) (At d) h k =
      elim (cases_Bool (same_code c d)) [
        | inl y ↦ ap At (code_of_same c d y)
        | inr other ↦ absurd (two_holders s c d h k other)
      ]
  one_owner s (At c) (Due t) h o = absurd (held_or_owed s c t h o)
  one_owner s (Due t) (At c) o h = absurd (held_or_owed s c t h o)
  one_owner s (Due t) (Due u) o p =
      elim (cases_Bool (same_id t u)) [
        | inl y ↦ ap Due (id_of_same t u y)
        | inr other ↦ absurd (two_owers s t u o p other)
      ]

  -- ---- an owner of each allotted unit

  owing_transfer : (s : Serial) (c : Code) (x : Transition) → In x (at_registry f c) → owes f c s x ≡ true → Owing f s x.id
  owing_transfer s c x i h =
      let parts = and_parts (gives c s x) (not (is_received f x.id x.content)) h in
      let out = given c s x parts.0 in
      record {
        last = x;
        is = subst (λ z. newest (at_registry f z) x.id ≡ Some x) (sym (code_of_same x.id.code c out.1)) (ends_last scheme c (f (Registry c)) (causal.made (Registry c)) x i out.0);
        new = out.0;
        has = out.2;
        waits = not-true (is_received f x.id x.content) parts.1;
      }

  some_owner : (s : Serial) → is_some (allotted scheme s) ≡ true → (a : Owner) × Owns scheme f s a
  some_owner s known = go (holders scheme f s) refl
    where
      go : (k : ℕ) → holders scheme f s ≡ k → (a : Owner) × Owns scheme f s a
      go zero e =
          let p = causal_one_place scheme f causal s in
          let top = cond-true {A = ℕ} (is_some (allotted scheme s)) 1 0 known in
          let m = over_some (owed_by s) scheme.members (omega arith) in
          let x = number_some (owes f m.0.code s) (at_registry f m.0.code) m.2 in
          (Due x.0.id, owing_transfer s m.0.code x.0 x.1 x.2)
      go (suc k) e = let m = number_some (holds_at s) scheme.members (omega arith) in (At m.0.code, (is_member scheme m.0 m.1, m.2))

  no_owner : (s : Serial) (a : Owner) → is_some (allotted scheme s) ≡ false → Owns scheme f s a → ⊥
  no_owner s (At c) none h =
      let a = one_holder s c h in
      let p = causal_one_place scheme f causal s in
      let top = cond-false {A = ℕ} (is_some (allotted scheme s)) 1 0 none in
      omega arith
  no_owner s (Due t) none o =
      let b = one_ower s t o in
      let p = causal_one_place scheme f causal s in
      let top = cond-false {A = ℕ} (is_some (allotted scheme s)) 1 0 none in
      omega arith

  pub causal_one_owner : OneOwner scheme f
  causal_one_owner = record { one = one_owner; some = some_owner; none = no_owner }
