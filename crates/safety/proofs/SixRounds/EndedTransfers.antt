-- A transfer that is open nowhere reserves nothing and owes nothing.
use Rattle.units.proofs.Lists.Positions.{In_contains}
use Rattle.safety.proofs.OneRegistry.TransactionEnds.{ends_last}
use Rattle.std.specs.Prelude.{◌&&◌, not, option_map}
use Rattle.safety.specs.Rounds.{HasEnded}
use Rattle.safety.proofs.AgreementOfNodes.CausalHistories.{Causal}
use Rattle.std.proofs.Common.{◌≡◌, List, false, Some, inl, inr, refl, ap, subst, ◌∙◌}
use Rattle.std.proofs.lemmas.Bool.{cases_Bool, and_parts, not-true}
use Rattle.units.specs.Code.{same_code}
use Rattle.units.specs.declared.block.Unit.{Unit as Serial}
use Rattle.units.specs.declared.code.Node.{Node}
use Rattle.units.specs.declared.code.Node.TheVariants.{Registry}
use Rattle.status.specs.declared.id.TransactionId.{TransactionId}
use Rattle.status.specs.declared.status.Status.TheVariants.{Proposed}
use Rattle.scheme.specs.declared.registries.Scheme.{Scheme}
use Rattle.protocol.specs.Claims.{at_registry, is_received, owes}
use Rattle.protocol.specs.History.{Entry, Transition, carries, gives, newest, reserves, stands_at}
use Rattle.protocol.specs.WayOut.{IsOpen}
use Rattle.safety.proofs.AgreementOfNodes.CompletionsAgree.{stood, given}
use Rattle.units.proofs.Lists.Membership.{In}
use Rattle.safety.proofs.OneTransfer.OwedUnits.{owed_open}

pub has_ended : (scheme : Scheme) (f : Node → List Entry) → Causal scheme f → (t : TransactionId) → (IsOpen f t → ⊥) → HasEnded f t
has_ended scheme f causal t closed = record {
  closed = closed;
  free = λ s x i e. (reserved s x e, owed s x (In_contains (at_registry f t.code) x i) e);
}
  where
    xs : List Transition
    xs = at_registry f t.code

    reserved : (s : Serial) (x : Transition) → x.id ≡ t → reserves t.code (at_registry f t.code) s x ≡ false
    reserved s x e =
        elim (cases_Bool (reserves t.code (at_registry f t.code) s x)) [
          | inr n ↦ n
          | inl y ↦
              let p = and_parts (same_code x.id.code t.code) (stands_at (at_registry f t.code) x.id Proposed && carries x s) y in
              let q = stood (newest (at_registry f t.code) x.id) Proposed (and_parts (stands_at (at_registry f t.code) x.id Proposed) (carries x s) p.1).0 in
              absurd (closed (Registry t.code, Proposed, ap (option_map (λ (z : Transition). z.new)) (subst (λ u. newest (at_registry f t.code) u ≡ Some q.0) e q.1) ∙ ap Some q.2, inl refl))
        ]

    owed : (s : Serial) (x : Transition) → In x (at_registry f t.code) → x.id ≡ t → owes f t.code s x ≡ false
    owed s x i e =
        elim (cases_Bool (owes f t.code s x)) [
          | inr n ↦ n
          | inl y ↦
              let p = and_parts (gives t.code s x) (not (is_received f x.id x.content)) y in
              let g = given t.code s x p.0 in
              let last = ends_last scheme t.code (f (Registry t.code)) (causal.made (Registry t.code)) x i g.0 in
              absurd (owed_open scheme f causal t x (subst (λ u. newest (at_registry f t.code) u ≡ Some x) e last) g.0 (subst (λ u. is_received f u x.content ≡ false) e (not-true (is_received f x.id x.content) p.1)) closed)
        ]
