-- The next record of a node's tail, and the event that gives it.
use Rattle.std.proofs.Common.{◌≡◌, ℕ, List, ◌++◌, Bor, Option, Some, None, Result, Ok, Err, sym, ap, subst, ◌∙◌, length, take}
use Rattle.std.specs.Prelude.{IfNone, IfOk, IfSome, option_copied, option_map, slice_get}
use Rattle.units.specs.declared.code.Node.{Node}
use Rattle.wire.specs.declared.input.Input.{Input}
use Rattle.protocol.specs.Claims.{committed_part}
use Rattle.protocol.specs.Cores.{Replays, answer}
use Rattle.protocol.specs.World.{World, Station, journal, station}
use Rattle.protocol.specs.declared.event.WorldEvent.{WorldEvent}
use Rattle.protocol.specs.declared.node_core.Stepped.TheVariants as stepped
use Rattle.weave.specs.Following.{committed_at}
use Rattle.weave.specs.Steps.{Fits, IsNextBy, IsNotRecorded, Waits, whole_at, without_tails}
use Rattle.weave.proofs.Lists.{take_front}
use Rattle.weave.proofs.Rounds.{waits_end, waits_for}
use Rattle.weave.proofs.Tails.{committed_same}

-- ---- the next record

begins : (o : Option Station) (j : List Input) → Some j ≡ option_map journal o → (rest : List Input) × (j ≡ committed_part o ++ rest)
begins None j e = absurd (cc (e))
begins (Some s) j e = (s.tail, one_list j (journal s) e)
  where
    one_list : (a b : List Input) → Some a ≡ Some b → a ≡ b
    one_list a b h = cc (h)

pub next_recorded : (w : World) (n : Node) (j : List Input) (count : ℕ) (o : Option (Bor Input)) → Some j ≡ option_map journal (station w n) → Replays w.scheme n j → count ≡ length (committed_at w n) → option_copied o ≡ slice_get j count
    → IfSome o (λ input. answer w.scheme n (committed_at w n) input.now ≡ Ok (stepped.Recorded (length (committed_at w n))))
next_recorded w n j count None value replays counted is = tt
next_recorded w n j count (Some input) value replays counted is =
    let front = begins (station w n) j value in
    let first : take (length (committed_at w n)) j ≡ committed_at w n = ap (take (length (committed_at w n))) front.1 ∙ take_front (committed_at w n) front.0 in
    subst (λ (xs : List Input). answer w.scheme n xs input.now ≡ Ok (stepped.Recorded (length (committed_at w n)))) first
    (subst (λ k. answer w.scheme n (take k j) input.now ≡ Ok (stepped.Recorded k)) counted (replays count input.now (sym is)))

-- ---- the event

module _ (w : World) (n : Node) where
  pub waits_none : slice_get (whole_at w n) (length (committed_at w n)) ≡ None → Waits (without_tails w) (whole_at w) n
  waits_none none = waits_end (without_tails w) (whole_at w) n (ap (λ (xs : List Input). slice_get (whole_at w n) (length xs)) (committed_same w n) ∙ none)

  module _ {E : Type 0} (input : Input) (next : slice_get (whole_at w n) (length (committed_at w n)) ≡ Some input) where
    pub some_next : answer w.scheme n (committed_at w n) input ≡ Ok (stepped.Recorded (length (committed_at w n))) → (r : Result (Option WorldEvent) E) → IfOk r (λ o. IfSome o (λ e. Fits w e n input)) → IfOk r (λ o. IfSome o (IsNextBy w n))
    some_next recorded (Ok (Some e)) fits = record { input = input; next = next; recorded = recorded; fits = fits }
    some_next recorded (Ok None) fits = tt
    some_next recorded (Err fault) fits = tt

    pub none_next : (r : Result (Option WorldEvent) E) → IfOk r (λ o. IfNone o (IsNotRecorded (without_tails w) n input)) → IfOk r (λ o. IfNone o (Waits (without_tails w) (whole_at w) n))
    none_next (Ok (Some e)) none = tt
    none_next (Ok None) none = waits_for (without_tails w) (whole_at w) n input (ap (λ (xs : List Input). slice_get (whole_at w n) (length xs)) (committed_same w n) ∙ next) none
    none_next (Err fault) none = tt
