-- Where each received message was sent, a unit is where its last transfer's proposal says, or its allotment.
use Rattle.std.specs.List.{count_by}
use Rattle.std.specs.Prelude.{find, option_map}
use Rattle.std.proofs.Common.{◌≡◌, ◌+◌, List, true, Option, Some, None, inl, inr, refl, sym, ap, subst, ◌∙◌, arith}
use Rattle.std.proofs.lemmas.Bool.{eqb-true}
use Rattle.units.specs.Unit.{has_unit, have_unit}
use Rattle.units.specs.declared.block.RawBlock.{RawBlock}
use Rattle.units.specs.declared.block.Unit.{Unit as Serial}
use Rattle.units.specs.declared.code.Code.{Code}
use Rattle.units.specs.declared.code.Node.{Node}
use Rattle.units.specs.declared.code.Node.TheVariants.{Registry}
use Rattle.status.specs.Content.{Content}
use Rattle.status.specs.declared.status.Status.TheVariants.{Cancelled, Completed}
use Rattle.scheme.specs.declared.members.Holder.{Holder}
use Rattle.scheme.specs.declared.registries.Scheme.{Scheme}
use Rattle.protocol.specs.AtRegistry.{content_of}
use Rattle.protocol.specs.Claims.{at_registry}
use Rattle.protocol.specs.History.{Entry, Position, Transition, at_start, credited_position, credits, gives, has_serial, holds, position, position_in}
use Rattle.protocol.specs.Registries.{allotted}
use Rattle.safety.specs.NextScheme.{IsPlaced}
use Rattle.safety.proofs.AgreementOfNodes.CausalHistories.{Causal}
use Rattle.safety.proofs.AgreementOfNodes.CompletionsAgree.{credited}
use Rattle.safety.proofs.ListLemmas.FirstFound.{mapped}
use Rattle.safety.proofs.OneRegistry.TransactionEnds.{ends_last, known}
use Rattle.safety.proofs.OneRegistry.UnitHoldingsOfUnits.{held_position}
use Rattle.units.proofs.Lists.Membership.{In_find}
use Rattle.units.proofs.Lists.Positions.{contains_in}
use Rattle.unit_laws.specs.Arrivals.{CameSo, HasArrived}
use Rattle.unit_laws.proofs.KnownContents.{known_content}
use Rattle.unit_laws.proofs.NewestCredits.{none_counted, position_by, position_came, starts_here}
use Rattle.unit_laws.proofs.OrderedTransfers.{ordered}

module _ (scheme : Scheme) (f : Node → List Entry) (causal : Causal scheme f) (s : Serial) (c : Code) (h : holds scheme c (at_registry f c) s ≡ true) where
  stayed : find (credits c s) (at_registry f c) ≡ None → IsPlaced scheme s c (position scheme c (at_registry f c) s)
  stayed none =
      let xs = at_registry f c in
      let e = eqb-true (at_start scheme c s + count_by (credits c s) xs) (count_by (gives c s) xs + 1) h in
      let n = none_counted (credits c s) xs none in
      let a = starts_here c (allotted scheme s) (omega arith) in
      record {
        holder = a.0;
        is = a.1;
        registry = a.2;
        there = position_came scheme c s xs ∙ ap (position_by scheme s) none ∙ ap (option_map (λ (h : Holder). record { account = h.account; kind = h.kind })) a.1;
      }

  came : (x : Transition) → find (credits c s) (at_registry f c) ≡ Some x → HasArrived f s c x.id (position scheme c (at_registry f c) s)
  came x found =
      let xs = at_registry f c in
      let g = In_find (credits c s) xs x found in
      let a = credited c s x g.1 in
      elim (known scheme c (f (Registry c)) (causal.made (Registry c)) x.id x (ends_last scheme c (f (Registry c)) (causal.made (Registry c)) x g.0 a.0) a.1) [
        | inl bare ↦ let y : Completed ≡ Cancelled = sym a.0 ∙ bare.0 in absurd (cc (y))
        | inr taken ↦
            let d = x.id.code in
            let p = known_content scheme f causal (Registry c) x taken.content g.0 taken.is in
            let o = ordered scheme d (f (Registry d)) (causal.made (Registry d)) p.proposal p.sent in
            let same : content_of o.order ≡ taken.content = o.content ∙ p.content in
            let q = held_position scheme c s xs h in
            let at : credited_position s taken.content ≡ Some q.0 = sym (position_came scheme c s xs ∙ ap (position_by scheme s) found ∙ ap (position_in s) taken.is) ∙ q.1 in
            let m = mapped (λ (b : RawBlock). record { account = taken.content.to_account; kind = b.kind }) (find (λ (b : RawBlock). has_unit b s) taken.content.units) q.0 at in
            record {
              order = o.order;
              proposed = record { entry = o.entry; among = contains_in (f (Registry d)) o.entry o.among; is = o.is; made = _; only = o.only; about = p.about; new = refl; content = refl };
              has = subst (λ (k : Content). have_unit k.units s ≡ true) (sym same) (subst (λ k. has_serial k s ≡ true) taken.is a.2);
              acquirer = ap (λ (k : Content). k.acquirer) same ∙ taken.here;
              position = q.0;
              is = q.1;
              account = sym (ap (λ (z : Position). z.account) m.2) ∙ ap (λ (k : Content). k.to_account) (sym same);
            }
      ]

  pub arrived : CameSo scheme f s c (find (credits c s) (at_registry f c)) (position scheme c (at_registry f c) s)
  arrived = go (find (credits c s) (at_registry f c)) refl
    where
      go : (o : Option Transition) → find (credits c s) (at_registry f c) ≡ o → CameSo scheme f s c o (position scheme c (at_registry f c) s)
      go None e = stayed e
      go (Some x) e = came x e
