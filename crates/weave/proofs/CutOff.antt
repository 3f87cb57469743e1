-- The cut at which following ends, once no node is pending.
use Rattle.std.proofs.Common.{◌≡◌, ℕ, zero, suc, ◌≤◌, All, List, [], ◌∷◌, ◌++◌, Bool, true, false, not, cond, Some, inl, inr, refl, sym, ap, subst, ◌∙◌, filter, length, map, arith, true≢false}
use Rattle.std.specs.Prelude.{get_or, nat_le, slice_get}
use Rattle.std.proofs.lemmas.Bool.{cases_Bool, leb-true}
use Rattle.units.specs.declared.code.Node.{Node}
use Rattle.wire.specs.declared.input.Input.{Input}
use Rattle.scheme.specs.declared.registries.Scheme.{Scheme}
use Rattle.protocol.specs.Claims.{DeliversWelcome, committed_of, live_of}
use Rattle.protocol.specs.Headline.{IsSafe}
use Rattle.protocol.specs.Registries.{is_node, nodes}
use Rattle.protocol.specs.Verdict.{history, verdict}
use Rattle.protocol.specs.WayOut.{WayOut}
use Rattle.protocol.specs.Weave.{ArePrefixes, IsFurthestCut, IsQuiet, IsStuck, Projects, WasSent, committed_by}
use Rattle.protocol.specs.World.{World, opening, run}
use Rattle.safety.proofs.Headline.{safe_live, safe_committed, way_out, welcome}
use Rattle.safety.proofs.JournalWeaves.StuckWorlds.{none_next, stuck_is_furthest}
use Rattle.weave.specs.Cuts.{IsBeyond, IsCut, goes_beyond}
use Rattle.weave.specs.Following.{committed_at, journal_of}
use Rattle.weave.specs.Kept.{IsFollowing, numbers_of}
use Rattle.weave.specs.Left.{AreDoneBelow, IsRest, count_at, has_rest}
use Rattle.weave.specs.Steps.{Follows, whole_at, without_tails}
use Rattle.weave.specs.declared.cut.Cut.{Cut}
use Rattle.weave.specs.declared.cut.Rest.{Rest}
use Rattle.weave.specs.declared.following.Following.{Following}
use Rattle.weave.proofs.Ends.{over, projected, scheme_kept, stuck, world_is}
use Rattle.weave.proofs.Followed.{all_placed}
use Rattle.weave.proofs.NodeIndices.{counted}
use Rattle.weave.proofs.Replayed.{ahead_all}
use Rattle.weave.proofs.Rests.{AreRests}
use Rattle.weave.proofs.Rounds.{next_of}
use Rattle.weave.proofs.Tails.{committed_same, says, whole_none}

-- where none passes a test, the test gives false of each
first_fails : {X : Type 0} (p : X → Bool) (y : X) (ys : List X) → [] ≡ filter p (y ∷ ys) → (p y ≡ false) × ([] ≡ filter p ys)
first_fails p y ys none =
    elim (cases_Bool (p y)) [
      | inl passes ↦ let e = none ∙ ap (λ (b : Bool). cond b (y ∷ filter p ys) (filter p ys)) passes in absurd (cc (e))
      | inr fails ↦ (fails, none ∙ ap (λ (b : Bool). cond b (y ∷ filter p ys) (filter p ys)) fails)
    ]

none_passes : {X : Type 0} (p : X → Bool) (xs : List X) → [] ≡ filter p xs → (k : ℕ) (x : X) → slice_get xs k ≡ Some x → p x ≡ false
none_passes p [] none k x is = absurd (cc (is))
none_passes p (y ∷ ys) none zero x is = let same : y ≡ x = cc (is) in subst (λ z. p z ≡ false) same (first_fails p y ys none).0
none_passes p (y ∷ ys) none (suc k) x is = none_passes p ys (first_fails p y ys none).1 k x is

pub none_there : (rests : List Rest) → length rests ≡ 0 → rests ≡ []
none_there [] e = refl
none_there (r ∷ rs) e = absurd (omega (arith, e))

no_more_left : (a b : ℕ) → not (nat_le a b) ≡ false → a ≤ b
no_more_left a b e =
    elim (cases_Bool (nat_le a b)) [
      | inl y ↦ leb-true a b y
      | inr n ↦ let clash : true ≡ false = ap not (sym n) ∙ e in absurd (true≢false clash)
    ]

module _ (scheme : Scheme) (js : List (List Input)) (f : Following) (i : IsFollowing scheme f) (none_pending : f.pending.items ≡ []) (whole_is : (n : Node) → whole_at f.world n ≡ journal_of scheme js n) (count : length js ≡ length (nodes scheme)) where
  idle : World
  idle = without_tails f.world

  abbrev counts : List ℕ
  counts = map (λ j. length j) js

  follows : Follows scheme (journal_of scheme js) (without_tails f.world) f.events.items (numbers_of f) f.posted.items []
  follows = over scheme js js f i none_pending whole_is (ahead_all scheme js count) counts refl (nodes scheme) refl

  same_scheme : f.world.scheme ≡ scheme
  same_scheme = scheme_kept scheme js js f i none_pending whole_is (ahead_all scheme js count) counts refl (nodes scheme) refl

  is_stuck : IsStuck (without_tails f.world) (journal_of scheme js)
  is_stuck = stuck scheme (journal_of scheme js) (without_tails f.world) f.events.items (numbers_of f) f.posted.items follows i.quiet

  is_furthest : IsFurthestCut scheme (journal_of scheme js) f.events.items
  is_furthest = record {
    within = subst (λ z. ArePrefixes (committed_at z) (journal_of scheme js)) follows.led follows.front;
    furthest = λ others inside.
        subst (λ z. ArePrefixes (committed_by scheme others) (committed_at z)) follows.led
        (subst (λ (z : Scheme). ArePrefixes (committed_by z others) (journal_of scheme js) → ArePrefixes (committed_by z others) (committed_at (without_tails f.world))) same_scheme
        (stuck_is_furthest (without_tails f.world) (journal_of scheme js) i.quiet follows.front is_stuck others) inside);
  }

  -- ---- the records beyond

  module _ (r : Rest) (is : IsRest f.world r.node r) where
    node : is_node f.world.scheme r.node ≡ true
    node =
        elim (cases_Bool (is_node f.world.scheme r.node)) [
          | inl y ↦ y
          | inr outside ↦
              let none = whole_none f.world r.node (all_placed scheme (journal_of scheme js) (without_tails f.world) f.events.items (numbers_of f) f.posted.items [] follows r.node ∙ outside) in
              let nothing = ap (λ (xs : List Input). slice_get xs r.place) (sym none) ∙ is.next in
              absurd (cc (nothing))
        ]

    abbrev unsent_in : (Node → List Input) → Type 0
    unsent_in cut = WasSent scheme cut r.node r.next → ⊥

    unsent : WasSent f.world.scheme (committed_at (without_tails f.world)) r.node r.next → ⊥
    unsent sent =
        let front = follows.front r.node in
        let same = committed_same f.world r.node in
        let recorded = says (length (committed_at f.world r.node)) (verdict f.world.scheme r.node (history f.world.scheme r.node (committed_at f.world r.node)) r.next) (length (committed_at f.world r.node)) is.recorded in
        let placed : slice_get (committed_at (without_tails f.world) r.node ++ front.0) (length (committed_at (without_tails f.world) r.node)) ≡ Some r.next =
        ap (λ k. slice_get (committed_at (without_tails f.world) r.node ++ front.0) k) (ap length same ∙ sym is.place)
        ∙ ap (λ (xs : List Input). slice_get xs r.place) (sym front.1 ∙ sym (whole_is r.node)) ∙ is.next in
        let rest = next_of (committed_at (without_tails f.world) r.node) front.0 r.next placed in
        none_next (without_tails f.world) (journal_of scheme js) i.quiet is_stuck (
          record { node = r.node; input = r.next },
          (
            node,
            (recorded.0, ap (λ xs. verdict f.world.scheme r.node (history f.world.scheme r.node xs) r.next) same ∙ recorded.1),
            sent,
          ),
          (rest.0, front.1 ∙ ap (λ (xs : List Input). committed_at (without_tails f.world) r.node ++ xs) rest.1),
        )

    is_beyond : IsBeyond scheme (journal_of scheme js) (committed_at (without_tails f.world)) r
    is_beyond = record {
      place = is.place ∙ ap length (sym (committed_same f.world r.node));
      count = ap length (sym (whole_is r.node)) ∙ is.count;
      next = ap (λ (xs : List Input). slice_get xs r.place) (sym (whole_is r.node)) ∙ is.next;
      unsent = subst (λ (z : Scheme). WasSent z (committed_at (without_tails f.world)) r.node r.next → ⊥) same_scheme unsent;
    }

  beyond_same : (n : Node) → has_rest f.world n ≡ goes_beyond (journal_of scheme js) (committed_at (without_tails f.world)) n
  beyond_same n =
      ap (λ (xs : List Input). not (nat_le (length xs) (length (committed_at f.world n)))) (whole_is n)
      ∙ ap (λ (xs : List Input). not (nat_le (length (journal_of scheme js n)) (length xs))) (sym (committed_same f.world n))

  -- ---- nothing is left

  done : [] ≡ filter (has_rest f.world) (nodes scheme) → AreDoneBelow f.world (count_at scheme counts) (nodes scheme) (length (nodes scheme))
  done none k n below is =
      let few = no_more_left (length (whole_at f.world n)) (length (committed_at f.world n)) (none_passes (has_rest f.world) (nodes scheme) none k n is) in
      omega (arith, few, counted scheme js n, ap length (whole_is n))

  pub whole_world : [] ≡ filter (has_rest f.world) (nodes scheme) → f.world ≡ run (opening scheme) f.events.items
  whole_world none = world_is scheme js js f i none_pending whole_is (ahead_all scheme js count) counts refl (nodes scheme) refl (done none)

  whole_run : [] ≡ filter (has_rest f.world) (nodes scheme) → Projects scheme f.events.items (journal_of scheme js)
  whole_run none = projected scheme js js f i none_pending whole_is (ahead_all scheme js count) counts refl (nodes scheme) refl (done none)

  -- ---- the cut

  pub is_cut : (c : Cut) → c.events ≡ f.events → c.world ≡ run (opening scheme) f.events.items → AreRests f.world (nodes scheme) c.rests.items → IsCut scheme (journal_of scheme js) c
  is_cut c events world rests =
      let at : without_tails f.world ≡ c.world = follows.led ∙ sym world in
      let run_is : c.world ≡ run (opening scheme) c.events.items = world ∙ ap (λ v. run (opening scheme) v.items) (sym events) in
      record {
        furthest = subst (λ v. IsFurthestCut scheme (journal_of scheme js) v.items) (sym events) is_furthest;
        world = run_is;
        quiet = subst IsQuiet at i.quiet;
        live = subst (λ (w : World). IsSafe scheme (live_of w)) (sym run_is) (safe_live scheme c.events.items);
        committed = subst (λ (w : World). IsSafe scheme (committed_of w)) (sym run_is) (safe_committed scheme c.events.items);
        welcome = subst DeliversWelcome (sym run_is) (welcome scheme c.events.items);
        way_out = subst WayOut (sym run_is) (way_out scheme c.events.items);
        left =
            subst (λ (w : World). map (λ r. r.node) c.rests.items ≡ filter (goes_beyond (journal_of scheme js) (committed_at w)) (nodes scheme)) at
            (rests.0 ∙ ap (λ (p : Node → Bool). filter p (nodes scheme)) (λ z n. beyond_same n z));
        beyond =
            subst (λ (w : World). All (IsBeyond scheme (journal_of scheme js) (committed_at w)) c.rests.items) at
            (λ k d below. is_beyond (get_or c.rests.items k d) (rests.1 k d below));
        whole = λ none. subst (λ v. Projects scheme v.items (journal_of scheme js)) (sym events) (whole_run (sym (ap (map (λ (r : Rest). r.node)) none) ∙ rests.0));
      }
