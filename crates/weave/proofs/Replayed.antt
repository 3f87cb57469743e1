-- Cores that record the first records of journals, made one after another.
use Rattle.std.proofs.Common.{◌≡◌, ℕ, ◌+◌, ◌-◌, List, [], ◌∷◌, ◌++◌, Some, Bor, inl, inr, refl, sym, ap, subst, ◌∙◌, length, map, take, drop, append-nil, arith}
use Rattle.std.specs.Prelude.{slice_get}
use Rattle.std.proofs.lemmas.List.{map-append, take-append-drop, take_more}
use Rattle.std.proofs.lemmas.Option.{get_or_from_slice_get, slice_get_within}
use Rattle.units.specs.declared.code.Node.{Node}
use Rattle.wire.specs.declared.input.Input.{Input}
use Rattle.scheme.specs.declared.registries.Scheme.{Scheme}
use Rattle.protocol.specs.Registries.{nodes}
use Rattle.protocol.specs.Cores.{HasFault, IsAt, IsFirstNotRecorded}
use Rattle.protocol.specs.declared.replay_fault.ReplayFault.{ReplayFault}
use Rattle.protocol.specs.declared.replay_fault.ReplayFault.TheVariants.{NotRecorded}
use Rattle.units.proofs.Lists.OneValue.{one_some}
use Rattle.world.specs.Cores.{journal_of, node_of}
use Rattle.world.specs.declared.any_core.Core.{Core}
use Rattle.weave.specs.Ahead.{AreAhead, IsAhead}
use Rattle.weave.proofs.Lists.{one_more}

-- ---- one journal

pub ahead_whole : (scheme : Scheme) (n : Node) (journal recorded : List Input) → recorded ≡ journal → IsAhead scheme n journal recorded
ahead_whole scheme n journal recorded is = record { rest = []; is = sym is ∙ sym (append-nil recorded); ends = inl refl }

pub ahead_first : (scheme : Scheme) (n : Node) (journal recorded : List Input) (k : ℕ) → recorded ≡ take (length recorded) journal → IsFirstNotRecorded scheme n journal k → k ≡ length recorded → IsAhead scheme n journal recorded
ahead_first scheme n journal recorded k front first at = record {
  rest = drop (length recorded) journal;
  is = sym (take-append-drop (length recorded) journal) ∙ ap (λ (xs : List Input). xs ++ drop (length recorded) journal) (sym front);
  ends = inr (subst (IsFirstNotRecorded scheme n journal) at first);
}

-- the core that resuming an empty one leaves, where it stops
pub resumed_first : (scheme s : Scheme) (n m : Node) (old journal recorded : List Input) (fault : ReplayFault) (k : ℕ) → s ≡ scheme → m ≡ n → old ≡ [] → fault ≡ NotRecorded k → recorded ≡ old ++ take (length recorded - length old) journal
    → HasFault s m (old ++ journal) fault → IsAt (length recorded) fault → IsAhead scheme n journal recorded
resumed_first scheme s n m old journal recorded fault k is_scheme is_node none stops prefix has at =
    let all : length recorded - 0 ≡ length recorded = omega arith in
    let front : recorded ≡ take (length recorded) journal = prefix ∙ ap (λ (xs : List Input). xs ++ take (length recorded - length xs) journal) none ∙ ap (λ i. take i journal) all in
    ahead_first scheme n journal recorded k front
    (subst (λ (z : Scheme). HasFault z n journal (NotRecorded k)) is_scheme
    (subst (λ (z : Node). HasFault s z journal (NotRecorded k)) is_node
    (subst (λ (xs : List Input). HasFault s m (xs ++ journal) (NotRecorded k)) none (subst (HasFault s m (old ++ journal)) stops has))))
    (subst (IsAt (length recorded)) stops at)

-- ---- one after another

-- the journals so far, by their indices
abbrev pub AreAheadSoFar : Scheme → (journals recorded : List (List Input)) → Type 0
AreAheadSoFar scheme journals recorded =
    (k : ℕ) (n : Node) (long short : List Input) → slice_get (nodes scheme) k ≡ Some n → slice_get journals k ≡ Some long → slice_get recorded k ≡ Some short → IsAhead scheme n long short

pub ahead_more : (scheme : Scheme) (js shorts : List (List Input)) (at : ℕ) (n : Node) (j short : List Input) → length shorts ≡ at → slice_get (nodes scheme) at ≡ Some n → slice_get js at ≡ Some j → IsAhead scheme n j short
    → AreAheadSoFar scheme js shorts → AreAheadSoFar scheme js (shorts ++ short ∷ [])
ahead_more scheme js shorts at n j short count isn isj one all k m long last ism isl iss =
    elim (one_more shorts short last k iss) [
      | inl old ↦ all k m long last ism isl old.1
      | inr new ↦
          let index : k ≡ at = new.0 ∙ count in
          let node : Some n ≡ Some m = sym isn ∙ subst (λ z. slice_get (nodes scheme) z ≡ Some m) index ism in
          let journal : Some j ≡ Some long = sym isj ∙ subst (λ z. slice_get js z ≡ Some long) index isl in
          subst (λ z. IsAhead scheme z long last) (one_some n m node)
          (subst (λ z. IsAhead scheme n z last) (one_some j long journal) (subst (IsAhead scheme n j) new.1 one))
    ]

pub nodes_more : (cores : List Core) (core : Core) (ns : List Node) (at : ℕ) (n : Node) → map node_of cores ≡ take at ns → node_of core ≡ n → slice_get ns at ≡ Some n → map node_of (cores ++ core ∷ []) ≡ take (at + 1) ns
nodes_more cores core ns at n first here is =
    let within = slice_get_within ns at n is in
    map-append node_of cores (core ∷ [])
    ∙ ap (λ (l : List Node). l ++ node_of core ∷ []) first
    ∙ ap (λ (z : Node). take at ns ++ z ∷ []) (here ∙ sym (get_or_from_slice_get ns at n n is))
    ∙ sym (take_more ns at n within)

pub ahead_all : (scheme : Scheme) (js : List (List Input)) → length js ≡ length (nodes scheme) → AreAhead scheme js js
ahead_all scheme js count = record {
  each = λ k n long short ism isl iss. ahead_whole scheme n long short (one_some short long (sym iss ∙ isl));
  journals_count = count;
  recorded_count = count;
}

-- ---- the lengths of journals

pub lengths_twice : (js : List (Bor (List Input))) → map (λ (j : Bor (List Input)). length j.now) js ≡ map (λ (j : List Input). length j) (map (λ (j : Bor (List Input)). j.now) js)
lengths_twice [] = refl
lengths_twice (j ∷ js) = ap (λ (l : List ℕ). length j.now ∷ l) (lengths_twice js)

pub counts_twice : (cores : List Core) → map (λ (core : Core). length (journal_of core)) cores ≡ map (λ (j : List Input). length j) (map journal_of cores)
counts_twice [] = refl
counts_twice (c ∷ cs) = ap (λ (l : List ℕ). length (journal_of c) ∷ l) (counts_twice cs)
