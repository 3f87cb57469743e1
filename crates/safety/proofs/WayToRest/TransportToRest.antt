-- From every world with room, events of transport lead to one at rest. First all nodes are made quiet
-- (`WakingNodes`). Then the open transfers are closed one after another (`ClosingTransfers`), each with at most
-- three records at a node and with no change to the others. At the end no transfer is open, so no unit is reserved
-- or owed, and the owner of each unit is a registry that can spend it.
use Rattle.units.proofs.Lists.Positions.{In_contains}
use Rattle.std.proofs.Common.{◌≡◌, ◌+◌, ◌*◌, ◌≤◌, List, [], ◌∷◌, true, false, Some, inl, inr, refl, sym, ap, subst, ◌∙◌, arith, length, lit≤}
use Rattle.std.specs.Prelude.{◌&&◌, not, option_map}
use Rattle.std.proofs.lemmas.Bool.{cases_Bool, and_parts, and_from}
use Rattle.units.specs.Code.{same_code}
use Rattle.units.specs.declared.block.Unit.{Unit as Serial}
use Rattle.units.specs.declared.code.Code.{Code}
use Rattle.units.specs.declared.code.Node.{Node}
use Rattle.units.specs.declared.code.Node.TheVariants.{Itl, Registry}
use Rattle.status.proofs.Ids.{id_of_same, same_id-refl}
use Rattle.status.specs.Id.{same_id}
use Rattle.status.specs.declared.id.TransactionId.{TransactionId}
use Rattle.status.specs.declared.moment.Moment.{Moment}
use Rattle.status.specs.declared.status.Status.TheVariants.{Proposed}
use Rattle.scheme.specs.declared.registries.Scheme.{Scheme}
use Rattle.protocol.specs.Claims.{at_registry, committed_of, live_of, whole}
use Rattle.protocol.specs.History.{Entry, Transition, carries, holds, newest, reserved, spendable, stands_at, transitions_of}
use Rattle.protocol.specs.Owner.{At, Due, Owner, Owns}
use Rattle.protocol.specs.Registries.{has_member}
use Rattle.protocol.specs.WayOut.{AtRest, IsOpen, WayOut}
use Rattle.protocol.specs.World.{World, run, station}
use Rattle.safety.proofs.WayToRest.ClosingTransfers.{close_one}
use Rattle.safety.proofs.OneTransfer.OwedUnits.{owed_open}
use Rattle.safety.proofs.AgreementOfNodes.CompletionsAgree.{stood}
use Rattle.units.proofs.Lists.SomePass.{list_any_some}
use Rattle.units.proofs.Lists.Membership.{In}
use Rattle.protocol.proofs.Histories.{length_from}
use Rattle.safety.proofs.OwnersOfUnits.UnitsWithOneOwner.{causal_one_owner}
use Rattle.safety.proofs.WorldLemmas.NodesWithStation.{AllPlaced}
use Rattle.safety.proofs.WorldLemmas.QuietWorlds.{Quiet, there}
use Rattle.safety.proofs.WorldLemmas.SchemesKept.{run_scheme}
use Rattle.safety.proofs.WayToRest.SendingMessages.{Calm}
use Rattle.safety.proofs.WorldLemmas.SoundWorlds.{Sound, committed_causal}
use Rattle.safety.proofs.WayToRest.TakenMessages.{Room}
use Rattle.safety.proofs.WayToRest.WakingNodes.{Reaches, quieted, reaches_on}

-- a transaction is open by its newest transitions
open_same : (f g : Node → List Entry) (u : TransactionId) → ((n : Node) → newest (transitions_of (f n)) u ≡ newest (transitions_of (g n)) u) → IsOpen f u → IsOpen g u
open_same f g u h o = (o.0, o.1, sym (ap (option_map (λ (x : Transition). x.new)) (h o.0)) ∙ o.2, o.3)

-- ---- one transfer after another

record AllClosed (scheme : Scheme) (w : World) (ts : List TransactionId) : Type 0 where
  world : World
  reaches : Reaches w world
  calm : Calm scheme world
  left : (u : TransactionId) → IsOpen (committed_of world) u → IsOpen (committed_of w) u × (In u ts → ⊥)

-- messages may come at any moment
some_moment : Moment
some_moment = record { seconds = 0; in_range = lit≤ tt }

module _ (scheme : Scheme) where
  close_all : (ts : List TransactionId) (w : World) → Calm scheme w → Room scheme w (3 * length ts) (3 * length ts) → AllClosed scheme w ts
  close_all [] w calm room = record { world = w; reaches = ([], refl, tt); calm = calm; left = λ u o. (o, λ i. i) }
  close_all (t ∷ ts) w calm room =
      let a = close_one scheme some_moment t w calm ((let x = room.0 in omega arith), λ n. let x = room.1 n in omega arith) in
      let b = close_all ts a.world a.calm ((let x = room.0 in let y = a.log_longer in omega arith), λ n. let x = room.1 n in let y = a.longer n in omega arith) in
      record {
        world = b.world;
        reaches = reaches_on w a.world b.world a.reaches b.reaches;
        calm = b.calm;
        left = λ u o.
            let x = b.left u o in
            elim (cases_Bool (same_id t u)) [
              | inl y ↦ absurd (a.closed (subst (IsOpen (committed_of a.world)) (sym (id_of_same t u y)) x.0))
              | inr other ↦ (
                open_same (committed_of a.world) (committed_of w) u (λ m. a.others m u other) x.0,
                λ i.
                    elim i [
                      | inl e ↦ let z : true ≡ false = sym (subst (λ v. same_id t v ≡ true) e (same_id-refl t)) ∙ other in cc (z)
                      | inr j ↦ x.1 j
                    ],
              )
            ];
      }

-- ---- at rest

module _ (w : World) (quiet : Quiet w) (closed : (t : TransactionId) → IsOpen (committed_of w) t → ⊥) where
  not_reserved : (c : Code) (s : Serial) → reserved c (at_registry (committed_of w) c) s ≡ false
  not_reserved c s =
      elim (cases_Bool (reserved c (at_registry (committed_of w) c) s)) [
        | inl y ↦
            absurd
            (let xs = at_registry (committed_of w) c in
            let x = list_any_some (λ (z : Transition). same_code z.id.code c && (stands_at xs z.id Proposed && carries z s)) xs y in
            let p = and_parts (same_code x.0.id.code c) (stands_at xs x.0.id Proposed && carries x.0 s) x.2 in
            let q = stood (newest xs x.0.id) Proposed (and_parts (stands_at xs x.0.id Proposed) (carries x.0 s) p.1).0 in
            closed x.0.id (Registry c, Proposed, ap (option_map (λ (z : Transition). z.new)) q.1 ∙ ap Some q.2, inl refl))
        | inr n ↦ n
      ]

  -- the owner of a unit is a registry that may spend it
  spends : (s : Serial) (a : Owner) → Owns w.scheme (committed_of w) s a → (c : Code) × (has_member w.scheme c ≡ true) × (spendable w.scheme c (at_registry (committed_of w) c) s ≡ true)
  spends s (At c) h = (
    c,
    h.0,
    and_from (holds w.scheme c (at_registry (committed_of w) c) s) (not (reserved c (at_registry (committed_of w) c) s)) h.1 (ap not (not_reserved c s)),
  )
  spends s (Due t) o = absurd (owed_open w.scheme (committed_of w) (committed_causal w quiet.sound) t o.last o.is o.new o.waits (closed t))

  at_rest : AtRest w
  at_rest = record {
    idle = λ n node. let s = there w quiet n node in let i = quiet.idle n s.0 s.1 in record { at = s.0; is = s.1; runs = i.0; settled = i.1 };
    closed = closed;
    free = λ s known. let o = (causal_one_owner w.scheme (committed_of w) (committed_causal w quiet.sound)).some s known in spends s o.0 o.1;
  }

-- ---- the way out

pub way_out : (w : World) → Sound w → AllPlaced w → WayOut w
way_out w sound all ts listed room =
    let q = quieted w sound all in
    let calm : Calm w.scheme (run w q.events) = record { quiet = q.quiet; same = run_scheme w q.events } in
    let roomy : (n : Node) → length (committed_of (run w q.events) n) + 3 * length ts ≤ w.scheme.records = λ n.
    let x = room n in let y = length_from w.scheme n [] (whole (station w n)) in let z = ap length (q.same n) in omega arith in
    let a = close_all w.scheme ts (run w q.events) calm (roomy Itl, λ c. roomy (Registry c)) in
    let reach = reaches_on w (run w q.events) a.world (q.events, refl, q.transport) a.reaches in
    let closed : (t : TransactionId) → IsOpen (committed_of a.world) t → ⊥ = λ t o.
    let x = a.left t o in
    x.1 (In_contains ts t (listed t (open_same (committed_of (run w q.events)) (live_of w) t (λ n. ap (λ (es : List Entry). newest (transitions_of es) t) (q.same n)) x.0))) in
    (reach.0, reach.2, subst AtRest (sym reach.1) (at_rest a.world a.calm.quiet closed))
