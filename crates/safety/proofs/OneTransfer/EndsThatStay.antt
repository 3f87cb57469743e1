-- What has ended at a node moves no more, however its journal grows.
use Rattle.units.specs.declared.code.Node.{Node}
use Rattle.safety.proofs.MovesAndHistories.TableRows.{initiator_from, acquirer_from}
use Rattle.std.proofs.Common.{◌≡◌, List, [], ◌∷◌, Some, inl, inr, refl, sym, ap, subst, ◌∙◌}
use Rattle.units.specs.declared.code.Node.TheVariants.{Itl, Registry}
use Rattle.status.specs.declared.id.TransactionId.{TransactionId}
use Rattle.scheme.specs.declared.registries.Scheme.{Scheme}
use Rattle.protocol.specs.Claims.{IsEnd}
use Rattle.protocol.specs.History.{Entry, Transition, newest, transitions_of}
use Rattle.safety.proofs.MovesAndHistories.NewestTransitions.{newest_id, Made, made_log, made_registry, newest_append}
use Rattle.units.proofs.Lists.Membership.{In}
use Rattle.units.proofs.Lists.OneValue.{one_some}
use Rattle.safety.proofs.OneRegistry.RegistryHearings.{told}
use Rattle.units.specs.declared.code.Code.{Code}
use Rattle.wire.specs.declared.input.Input.{Input}
use Rattle.protocol.specs.Verdict.{verdict, history_from, extend, transitions_made}
use Rattle.safety.proofs.MovesAndHistories.TableMoves.{RegistryMove, proposes as proposes_move, asks, arrives, bares, concludes, finishes}
use Rattle.safety.proofs.OneLog.OwnersInLog.{log_live, end_not_busy}

module _ (scheme : Scheme) where
  -- what has ended at a registry moves no more
  pub registry_live : (c : Code) (es : List Entry) (input : Input) (x y : Transition) → RegistryMove scheme c es input x → newest (transitions_of es) x.id ≡ Some y → IsEnd y.new → ⊥
  registry_live c es input x y (proposes_move o t none is fresh) h end = let e = sym fresh ∙ h in cc (e)
  registry_live c es input x y (asks t q old mine stood) h end =
      let a : newest (transitions_of es) q.id ≡ Some q = subst (λ z. newest (transitions_of es) z ≡ Some q) (sym (newest_id (transitions_of es) t q old).1) old in
      let same : y ≡ q = one_some y q (sym h ∙ a) in
      subst IsEnd (ap (λ (z : Transition). z.new) same ∙ stood) end
  registry_live c es input x y (arrives p moment found f s is none foreign mine) h end = let e = sym none ∙ h in cc (e)
  registry_live c es input x y (bares n moment f told none foreign) h end = let e = sym none ∙ h in cc (e)
  registry_live c es input x y (concludes n moment q new f old mine move) h end =
      let a : newest (transitions_of es) q.id ≡ Some q = subst (λ z. newest (transitions_of es) z ≡ Some q) (sym (newest_id (transitions_of es) n.id q old).1) old in
      let same : y ≡ q = one_some y q (sym h ∙ a) in
      subst IsEnd (ap (λ (z : Transition). z.new) same ∙ (initiator_from q.new _ new move).0) end
  registry_live c es input x y (finishes n moment q new f old foreign move none) h end =
      let a : newest (transitions_of es) q.id ≡ Some q = subst (λ z. newest (transitions_of es) z ≡ Some q) (sym (newest_id (transitions_of es) n.id q old).1) old in
      let same : y ≡ q = one_some y q (sym h ∙ a) in
      subst IsEnd (ap (λ (z : Transition). z.new) same ∙ (acquirer_from q.new _ new move).0) end

  node_live : (n : Node) (e : Entry) (es : List Entry) (u x : Transition) → Made scheme n (e ∷ es) → In u e.transitions → newest (transitions_of es) u.id ≡ Some x → IsEnd x.new → ⊥
  node_live Itl e es u x made i h end = end_not_busy x.new end (log_live scheme es e.input u x (made_log scheme e es u made i) h)
  node_live (Registry c) e es u x made i h end = registry_live c es e.input u x (made_registry scheme c e es u made i) h end

  pub end_stays : (n : Node) (es : List Entry) (more : List Input) (t : TransactionId) (x : Transition) → Made scheme n es → IsEnd x.new → newest (transitions_of es) t ≡ Some x
      → newest (transitions_of (history_from scheme n es more)) t ≡ Some x
  end_stays n es [] t x made end h = h
  end_stays n es (i ∷ is) t x made end h =
      end_stays n (extend scheme n es i) is t x (refl, made) end
      (elim (newest_append (transitions_made (verdict scheme n es i)) (transitions_of es) t) [
        | inl u ↦ u ∙ h
        | inr u ↦
            absurd (node_live n (record { input = i; transitions = transitions_made (verdict scheme n es i) }) es u.0 x (refl, made) u.1 (subst (λ z. newest (transitions_of es) z ≡ Some x) (sym u.2) h) end)
      ])
