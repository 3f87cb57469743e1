-- A node's messages are posted one after another: the world after one more, and when none is left.
use Rattle.std.proofs.Common.{◌≡◌, ◌≢◌, ℕ, ◌+◌, ◌<◌, List, [], ◌∷◌, ◌++◌, Bool, true, false, cond, Option, Some, None, inl, inr, refl, sym, ap, subst, ◌∙◌, arith}
use Rattle.std.specs.Prelude.{slice_get, Contains, option_and_then, ◌⊎◌, ◌||◌, ◌&&◌, ◌==◌}
use Rattle.std.specs.List.{list_any}
use Rattle.std.proofs.Math.Bool.{or-false}
use Rattle.std.proofs.lemmas.Bool.{cases_Bool, eqb-true, eqb-false}
use Rattle.std.proofs.lemmas.List.Elements.{Contains-append_left, Contains-push}
use Rattle.std.proofs.lemmas.List.Folds.{list_any-append}
use Rattle.std.proofs.lemmas.Option.{slice_get_within}
use Rattle.units.proofs.Same.{node_of_same, same_node-refl}
use Rattle.units.specs.Code.{same_node}
use Rattle.units.specs.declared.code.Node.{Node}
use Rattle.wire.specs.declared.input.Input.{Input}
use Rattle.wire.specs.declared.message.Message.{Message}
use Rattle.protocol.specs.Claims.{committed_part, committed_of}
use Rattle.protocol.specs.History.{sends}
use Rattle.protocol.specs.Registries.{is_node}
use Rattle.protocol.specs.Verdict.{history}
use Rattle.protocol.specs.WayOut.{IsIdle}
use Rattle.protocol.specs.Weave.{IsQuiet}
use Rattle.protocol.specs.World.{World, Station, station, sent, posted, step}
use Rattle.protocol.specs.declared.event.Posted.{Posted}
use Rattle.protocol.specs.declared.event.WorldEvent.TheVariants.{Post}
use Rattle.units.proofs.Lists.Membership.{In, In_cases}
use Rattle.units.proofs.Lists.OneValue.{one_some, clash}
use Rattle.safety.proofs.WorldLemmas.StationsAfterPut.{found_at_node}
use Rattle.weave.specs.Steps.{IsPostedTo, Waits, next_message, with_message}
use Rattle.weave.proofs.Lists.{past_end}
use Rattle.weave.proofs.Waiting.{IsSameFor, waits_on}

-- ---- one message

pub posts : (w : World) (n : Node) (key : ℕ) (m : Message) → next_message w n key ≡ Some m → (step w (Post n key)).world ≡ with_message w n key m
unfolding step
posts w n key m is = ap (λ o. (posted w n key o).world) is

found : (w : World) (n : Node) (key : ℕ) (o : Option Station) → station w n ≡ o → (m : Message) → option_and_then (sent w.scheme key) o ≡ Some m → slice_get (sends (history w.scheme n (committed_part o))) key ≡ Some m
found w n key None is m e = absurd (cc (e))
found w n key (Some s) is m e =
    subst (λ z. slice_get (sends (history w.scheme z s.committed)) key ≡ Some m) (found_at_node n w.stations s is) (running s.runs (slice_get (sends (history w.scheme s.node s.committed)) key) e)
  where
    running : (b : Bool) (o : Option Message) → cond b o None ≡ Some m → o ≡ Some m
    running true o h = h
    running false o h = absurd (cc (h))

pub is_sent : (w : World) (n : Node) (key : ℕ) (m : Message) → next_message w n key ≡ Some m → slice_get (sends (committed_of w n)) key ≡ Some m
is_sent w n key m is = found w n key (station w n) refl m is

pub none_sent : (w : World) (n : Node) (key : ℕ) → IsIdle w n → next_message w n key ≡ None → slice_get (sends (committed_of w n)) key ≡ None
none_sent w n key idle none =
    let s = idle.at in
    let own : s.node ≡ n = found_at_node n w.stations s idle.is in
    let here : cond s.runs (slice_get (sends (history w.scheme s.node s.committed)) key) None ≡ None = sym (ap (option_and_then (sent w.scheme key)) idle.is) ∙ none in
    ap (λ o. slice_get (sends (history w.scheme n (committed_part o))) key) idle.is
    ∙ subst (λ z. slice_get (sends (history w.scheme z s.committed)) key ≡ None) own (running s.runs (slice_get (sends (history w.scheme s.node s.committed)) key) idle.runs here)
  where
    running : (b : Bool) (o : Option Message) → b ≡ true → cond b o None ≡ None → o ≡ None
    running true o h e = e
    running false o h e = absurd (cc (h))

-- ---- one message more

pub posted_more : (w : World) (n : Node) (key : ℕ) (m : Message) → next_message w n key ≡ Some m → IsPostedTo w n key → IsPostedTo (with_message w n key m) n (key + 1)
posted_more w n key m is all = record {
  idle = λ k node. let i = all.idle k node in record { at = i.at; is = i.is; runs = i.runs; settled = i.settled };
  own = λ k x below at.
      elim (below_cases k key below) [
        | inl less ↦ Contains-append_left w.bag (p ∷ []) (record { node = n; key = k; message = x }) (all.own k x less at)
        | inr same ↦
            let here : Some m ≡ Some x = sym (is_sent w n key m is) ∙ subst (λ z. slice_get (sends (committed_of w n)) z ≡ Some x) same at in
            subst (λ z. Contains (w.bag ++ p ∷ []) (record { node = n; key = z; message = x })) (sym same)
            (subst (λ z. Contains (w.bag ++ p ∷ []) (record { node = n; key = key; message = z })) (one_some m x here) (Contains-push w.bag p))
      ];
  others = λ k i x other at. Contains-append_left w.bag (p ∷ []) (record { node = k; key = i; message = x }) (all.others k i x other at);
}
  where
    p : Posted
    p = record { node = n; key = key; message = m }

    below_cases : (k key : ℕ) → k < key + 1 → (k < key) ⊎ (k ≡ key)
    below_cases k key below = elim (cases_Bool (k == key)) [
      | inl y ↦ inr (eqb-true k key y)
      | inr d ↦ inl (let ne : k ≢ key = eqb-false k key d in omega arith)
    ]

-- none is left
pub all_posted : (w : World) (n : Node) (key : ℕ) → is_node w.scheme n ≡ true → IsPostedTo w n key → next_message w n key ≡ None → IsQuiet w
all_posted w n key node all none = record {
  idle = all.idle;
  posted = λ m k x is.
      elim (cases_Bool (same_node n m)) [
        | inl y ↦
            let same : n ≡ m = node_of_same n m y in
            subst (λ z. Contains w.bag (record { node = z; key = k; message = x })) same
            (all.own k x (below k x (subst (λ z. slice_get (sends (committed_of w z)) k ≡ Some x) (sym same) is)) (subst (λ z. slice_get (sends (committed_of w z)) k ≡ Some x) (sym same) is))
        | inr other ↦ all.others m k x other is
      ];
}
  where
    end : slice_get (sends (committed_of w n)) key ≡ None
    end = none_sent w n key (all.idle n node) none

    below : (k : ℕ) (x : Message) → slice_get (sends (committed_of w n)) k ≡ Some x → k < key
    below k x is = omega (arith, slice_get_within (sends (committed_of w n)) k x is, past_end (sends (committed_of w n)) key end)

-- ---- the nodes that go on waiting

same_for : (w : World) (n : Node) (key : ℕ) (m : Message) (k : Node) → same_node n k ≡ false → same_node m.to k ≡ false → IsSameFor w (with_message w n key m) k
same_for w n key m k other_sender other_receiver = record {
  scheme = refl;
  at = refl;
  marked = λ i.
      let q : Posted → Bool = λ p. same_node p.node k && (p.key == i) in
      list_any-append q w.bag (record { node = n; key = key; message = m } ∷ [])
      ∙ ap (λ b. list_any q w.bag || ((b && (key == i)) || false)) other_sender ∙ or-false (list_any q w.bag);
  bag = λ p i to.
      elim (In_cases p w.bag (record { node = n; key = key; message = m } ∷ []) i) [
        | inl old ↦ old
        | inr new ↦ absurd (only p new to)
      ];
}
  where
    only : (p : Posted) → In p (record { node = n; key = key; message = m } ∷ []) → p.message.to ≡ k → ⊥
    only p (inl e) to =
        let here : m.to ≡ k = ap (λ (z : Posted). z.message.to) e ∙ to in
        clash (same_node m.to k) (subst (λ z. same_node m.to z ≡ true) here (same_node-refl m.to)) other_receiver
    only p (inr h) to = absurd h

-- the receiver is pending now
pub waits_more : (w : World) (n : Node) (key : ℕ) (m : Message) (journals : Node → List Input) (pending : List Node) → Contains pending n → ((k : Node) → Contains pending k ⊎ Waits w journals k)
    → (k : Node) → Contains (pending ++ m.to ∷ []) k ⊎ Waits (with_message w n key m) journals k
waits_more w n key m journals pending own waits k =
    elim (cases_Bool (same_node n k)) [
      | inl y ↦ inl (Contains-append_left pending (m.to ∷ []) k (subst (Contains pending) (node_of_same n k y) own))
      | inr other ↦
          elim (cases_Bool (same_node m.to k)) [
            | inl z ↦ inl (subst (Contains (pending ++ m.to ∷ [])) (node_of_same m.to k z) (Contains-push pending m.to))
            | inr apart ↦
                elim (waits k) [
                  | inl h ↦ inl (Contains-append_left pending (m.to ∷ []) k h)
                  | inr h ↦ inr (waits_on w (with_message w n key m) k (same_for w n key m k other apart) journals h)
                ]
          ]
    ]
