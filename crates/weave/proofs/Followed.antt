-- The invariants while journals are followed, after one record more and after one message more.
use Rattle.std.proofs.Common.{◌≡◌, ℕ, ◌+◌, ◌-◌, ◌<◌, ◌≤◌, List, [], ◌∷◌, ◌++◌, Bool, true, false, cond, Some, inl, inr, refl, sym, ap, subst, ◌∙◌, length, arith, length-append}
use Rattle.std.specs.Prelude.{Contains, if◌then◌else◌, ◌⊎◌}
use Rattle.std.proofs.lemmas.Bool.{cases_Bool, cond-true}
use Rattle.std.proofs.lemmas.List.Elements.{Contains-append_left, Contains-push}
use Rattle.units.proofs.Same.{node_of_same}
use Rattle.units.specs.Code.{same_node}
use Rattle.units.specs.declared.code.Node.{Node}
use Rattle.status.proofs.Ids.{same_id-refl}
use Rattle.status.specs.Id.{same_id}
use Rattle.status.specs.declared.id.TransactionId.{TransactionId}
use Rattle.wire.specs.declared.input.Input.{Input}
use Rattle.wire.specs.declared.message.Message.{Message}
use Rattle.scheme.specs.declared.registries.Scheme.{Scheme}
use Rattle.protocol.specs.Weave.{Gives, IsQuiet}
use Rattle.protocol.specs.World.{World, Station, opening, run, step, was_posted}
use Rattle.protocol.specs.declared.event.Outcome.TheVariants.{Recorded}
use Rattle.protocol.specs.declared.event.Posted.{Posted}
use Rattle.protocol.specs.declared.event.WorldEvent.{WorldEvent}
use Rattle.protocol.specs.declared.event.WorldEvent.TheVariants.{Commit, Post}
use Rattle.units.proofs.Lists.Membership.{In}
use Rattle.safety.proofs.WorldLemmas.NodesWithStation.{AllPlaced, opening_placed, run_placed}
use Rattle.safety.proofs.WorldLemmas.QuietWorlds.{run_append}
use Rattle.weave.specs.Following.{committed_at}
use Rattle.weave.specs.Kept.{left_in}
use Rattle.weave.specs.Steps.{AreAllNumbered, Follows, Waits, left_of, next_message, whole_at, with_message, without_tails}
use Rattle.weave.proofs.Lists.{one_more}
use Rattle.weave.proofs.OneMore.{Advances, advances, committed_elsewhere, committed_here, front_on, sent_more}
use Rattle.weave.proofs.Posting.{posts, waits_more}
use Rattle.weave.proofs.Waiting.{waits_on}

-- ---- one record more

module _ (scheme : Scheme) (journals : Node → List Input) (w : World) (events : List WorldEvent) (numbers : TransactionId → List ℕ) (posted : List ℕ) (pending : List Node) (f : Follows scheme journals w events numbers posted pending) where
  pub all_placed : AllPlaced w
  all_placed = subst AllPlaced (sym f.led) (run_placed (opening scheme) events (opening_placed scheme))

  module _ (n : Node) (input : Input) (rest : List Input) (e : WorldEvent) (place : ℕ) (quiet : IsQuiet w) (left : journals n ≡ committed_at w n ++ input ∷ rest) (gives : Gives w e n input) (recorded : (step w e).outcome ≡ Recorded place) where
    pub taken_advances : Advances w (run w (e ∷ Commit n 1 ∷ [])) n input
    taken_advances = advances w e n input place all_placed quiet gives recorded

    v : World
    v = run w (e ∷ Commit n 1 ∷ [])

    a : Advances w (run w (e ∷ Commit n 1 ∷ [])) n input
    a = advances w e n input place all_placed quiet gives recorded

    waits_still : Contains pending n → (m : Node) → Contains pending m ⊎ Waits (run w (e ∷ Commit n 1 ∷ [])) journals m
    waits_still own m =
        elim (cases_Bool (same_node n m)) [
          | inl y ↦ inl (subst (Contains pending) (node_of_same n m y) own)
          | inr other ↦
              elim (f.waits m) [
                | inl h ↦ inl h
                | inr h ↦
                    inr
                    (waits_on w (run w (e ∷ Commit n 1 ∷ [])) m (record {
                      scheme = a.scheme;
                      at = a.elsewhere m other;
                      marked = λ key. ap (λ (b : List Posted). was_posted (record w { bag = b }) m key) a.bag;
                      bag = λ p i to. subst (In p) a.bag i;
                    }) journals h)
              ]
        ]

    pub follows_taken : Contains pending n → Follows scheme journals (run w (e ∷ Commit n 1 ∷ [])) (events ++ e ∷ Commit n 1 ∷ []) numbers posted pending
    follows_taken own = record {
      led = ap (λ (z : World). run z (e ∷ Commit n 1 ∷ [])) f.led ∙ sym (run_append (opening scheme) events (e ∷ Commit n 1 ∷ []));
      front = front_on w (run w (e ∷ Commit n 1 ∷ [])) n input a journals rest left f.front;
      numbered = subst (AreAllNumbered numbers) (sym a.bag) f.numbered;
      counted = f.counted;
      counts = λ k m is. let few = f.counts k m is in let more = sent_more w (run w (e ∷ Commit n 1 ∷ [])) n input a m in omega arith;
      waits = waits_still own;
    }

-- ---- one message more

numbers_more : (numbers more : TransactionId → List ℕ) (bag : List Posted) (p : Posted) → ((t : TransactionId) → more t ≡ (if same_id p.message.id t then numbers t ++ length bag ∷ [] else numbers t))
    → AreAllNumbered numbers bag → AreAllNumbered more (bag ++ p ∷ [])
numbers_more numbers more bag p put all k q is =
    elim (one_more bag p q k is) [
      | inl old ↦
          let t = q.message.id in
          subst (λ (ks : List ℕ). Contains ks k) (sym (put t)) (pick (same_id p.message.id t) (numbers t) (all k q old.1))
      | inr new ↦
          let t = p.message.id in
          let here : more t ≡ numbers t ++ length bag ∷ [] = put t ∙ cond-true (same_id t t) (numbers t ++ length bag ∷ []) (numbers t) (same_id-refl t) in
          subst (λ (z : Posted). Contains (more z.message.id) k) new.1
          (subst (λ (ks : List ℕ). Contains ks k) (sym here) (subst (Contains (numbers t ++ length bag ∷ [])) (sym new.0) (Contains-push (numbers t) (length bag))))
    ]
  where
    pick : (b : Bool) (ks : List ℕ) → Contains ks k → Contains (cond b (ks ++ length bag ∷ []) ks) k
    pick true ks h = Contains-append_left ks (length bag ∷ []) k h
    pick false ks h = h

pub follows_posted : (scheme : Scheme) (journals : Node → List Input) (w : World) (events : List WorldEvent) (numbers more : TransactionId → List ℕ) (posted : List ℕ) (pending : List Node) (n : Node) (key : ℕ) (m : Message)
    → Follows scheme journals w events numbers posted pending → Contains pending n → next_message w n key ≡ Some m
    → ((t : TransactionId) → more t ≡ (if same_id m.id t then numbers t ++ length w.bag ∷ [] else numbers t))
    → Follows scheme journals (with_message w n key m) (events ++ Post n key ∷ []) more posted (pending ++ m.to ∷ [])
follows_posted scheme journals w events numbers more posted pending n key m f own is put = record {
  led = sym (posts w n key m is) ∙ ap (λ (z : World). run z (Post n key ∷ [])) f.led ∙ sym (run_append (opening scheme) events (Post n key ∷ []));
  front = f.front;
  numbered = numbers_more numbers more w.bag (record { node = n; key = key; message = m }) put f.numbered;
  counted = f.counted;
  counts = f.counts;
  waits = waits_more w n key m journals pending own f.waits;
}

-- ---- what is left

-- in worlds with the same stations
pub left_stations : (w v : World) → v.stations ≡ w.stations → (ns : List Node) → left_in v ns ≡ left_in w ns
left_stations w v same [] = refl
left_stations w v same (n ∷ ns) =
    let first : length (whole_at v n) - length (committed_at (without_tails v) n) ≡ length (whole_at w n) - length (committed_at (without_tails w) n) =
    ap (λ (ss : List Station). length (whole_at (record w { stations = ss }) n) - length (committed_at (without_tails (record w { stations = ss })) n)) same in
    omega (arith, first, left_stations w v same ns)

-- of journals that are the same at each node
pub left_journals : (js ks : Node → List Input) (w : World) → ((n : Node) → ks n ≡ js n) → (ns : List Node) → left_of ks w ns ≡ left_of js w ns
left_journals js ks w same [] = refl
left_journals js ks w same (n ∷ ns) =
    let first : length (ks n) - length (committed_at w n) ≡ length (js n) - length (committed_at w n) = ap (λ (xs : List Input). length xs - length (committed_at w n)) (same n) in
    omega (arith, first, left_journals js ks w same ns)

module _ (journals : Node → List Input) (w v : World) (n : Node) (input : Input) (rest : List Input) (a : Advances w v n input) (left : journals n ≡ committed_at w n ++ input ∷ rest) where
  here : length (committed_at v n) ≡ length (committed_at w n) + 1
  here = ap length (committed_here w v n input a) ∙ length-append (committed_at w n) (input ∷ [])

  room : length (committed_at w n) < length (journals n)
  room = omega (arith, ap length left, length-append (committed_at w n) (input ∷ rest))

  grown : (m : Node) → length (committed_at w m) ≤ length (committed_at v m)
  grown m =
      elim (cases_Bool (same_node n m)) [
        | inl y ↦ subst (λ z. length (committed_at w z) ≤ length (committed_at v z)) (node_of_same n m y) (omega (arith, here))
        | inr other ↦ omega (arith, ap length (committed_elsewhere w v n input a m other))
      ]

  no_more : (ns : List Node) → left_of journals v ns ≤ left_of journals w ns
  no_more [] = omega arith
  no_more (m ∷ ns) = omega (arith, no_more ns, grown m)

  pub fewer : (ns : List Node) → In n ns → left_of journals v ns < left_of journals w ns
  fewer [] i = absurd i
  fewer (m ∷ ns) (inl e) =
      let mine : length (committed_at w m) < length (journals m) = subst (λ z. length (committed_at w z) < length (journals z)) (sym e) room in
      let less : length (committed_at v m) ≡ length (committed_at w m) + 1 = subst (λ z. length (committed_at v z) ≡ length (committed_at w z) + 1) (sym e) here in
      omega (arith, no_more ns, mine, less)
  fewer (m ∷ ns) (inr i) = omega (arith, fewer ns i, grown m)
