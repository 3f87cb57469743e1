-- Nodes that are settled one after another.
use Rattle.std.proofs.Common.{◌≡◌, ◌∙◌, ◌<◌, ◌+◌, ◌++◌, ◌∷◌, [], ℕ, List, get_or, length, map, take, Some, inl, inr, sym, ap, subst, arith}
use Rattle.std.specs.Prelude.{slice_get}
use Rattle.std.proofs.lemmas.Bool.{cases_lt}
use Rattle.std.proofs.lemmas.List.{map-append, take_more}
use Rattle.std.proofs.lemmas.Option.{slice_get-get_or}
use Rattle.units.specs.declared.code.Node.{Node}
use Rattle.protocol.specs.Scheme.{Scheme}
use Rattle.units.proofs.Lists.OneValue.{one_some}
use Rattle.protocol.specs.Registries.{nodes}
use Rattle.settling.specs.Settling.{IsSettled}
use Rattle.node_state.specs.Views.{StateView, SeatView, committed_records}
use Rattle.protocol.specs.Input.{Input as Record}
use Rattle.world.specs.Cores.{journal_of}
use Rattle.world.specs.declared.any_core.Core.{Core}
use Rattle.command_faults.specs.declared.fault.OpFault.{OpFault}
use Rattle.command_faults.specs.declared.fault.OpFault.TheVariants.{Input, Read, Write, Store, Stuck, Unsettled, Setup, Undone, NoMemory}
use Rattle.weave.proofs.Lists.{image_at}
use Rattle.loading.specs.Runs.{FailsToWeave}
use Rattle.ended_nodes.specs.Reported.{IsTableFault, committed_by_all}
use Rattle.ended_nodes.specs.Settled.{AreSettled, AreSettledTo, FailsToSettle, FailsToSettleAt}

same_at : {X : Type 0} (xs : List X) (k at : ℕ) (x y : X) → k ≡ at → slice_get xs at ≡ Some x → slice_get xs k ≡ Some y → x ≡ y
same_at xs k at x y same is_x is_y = one_some x y (sym is_x ∙ ap (slice_get xs) (sym same) ∙ is_y)

pub found_at : {X : Type 0} (xs ys : List X) (k : ℕ) (x : X) → xs ≡ ys → x ≡ get_or xs k x → k < length xs → slice_get ys k ≡ Some x
found_at xs ys k x same is below = ap (λ (l : List _). slice_get l k) (sym same) ∙ slice_get-get_or xs k x below ∙ ap (λ (y : _). Some y) (sym is)

pub image_found : {X Y : Type 0} (f : X → Y) (xs : List X) (k : ℕ) (x : X) → x ≡ get_or xs k x → k < length xs → slice_get (map f xs) k ≡ Some (f x)
image_found f xs k x is below = image_at f xs k x below ∙ ap (λ (y : _). Some (f y)) (sym is)

module _ (scheme : Scheme) (helds : List StateView) (seats : List (List SeatView)) where
  pub settled_more : (at : ℕ) (n : Node) (held : StateView) (heard : List SeatView) → slice_get (nodes scheme) at ≡ Some n → slice_get helds at ≡ Some held → slice_get seats at ≡ Some heard
      → IsSettled scheme n held heard → AreSettledTo at scheme helds seats → AreSettledTo (at + 1) scheme helds seats
  settled_more at n held heard is_n is_held is_heard settled before = λ k m h s under at_m at_h at_s.
      elim (cases_lt k at) [
        | inl below ↦ before k m h s below at_m at_h at_s
        | inr from ↦
            let same : k ≡ at = omega (arith, under, from) in
            subst (λ (x : Node). IsSettled scheme x h s) (same_at (nodes scheme) k at n m same is_n at_m)
            (subst (λ (x : StateView). IsSettled scheme n x s) (same_at helds k at held h same is_held at_h)
            (subst (λ (x : List SeatView). IsSettled scheme n held x) (same_at seats k at heard s same is_heard at_s) settled))
      ]

  pub settled_none : AreSettledTo 0 scheme helds seats
  settled_none = λ k m h s under. absurd (omega (arith, under))

  pub fails_at : (at : ℕ) (n : Node) (held : StateView) (heard : List SeatView) (e : OpFault) → slice_get (nodes scheme) at ≡ Some n → slice_get helds at ≡ Some held → slice_get seats at ≡ Some heard
      → AreSettledTo at scheme helds seats → FailsToSettleAt scheme n held heard e → FailsToSettle scheme helds seats e
  fails_at at n held heard (Unsettled told) is_n is_held is_heard before cause =
      let same : told ≡ n = cause.0 in
      record {
        at = at;
        held = held;
        heard = heard;
        is = is_n ∙ ap (λ (x : Node). Some x) (sym same);
        state = is_held;
        threads = is_heard;
        before = before;
        cause = subst (λ (x : Node). FailsToSettleAt scheme x held heard (Unsettled told)) (sym same) cause;
      }
  fails_at at n held heard NoMemory is_n is_held is_heard before cause = tt
  fails_at at n held heard (Input line cause) is_n is_held is_heard before none = none
  fails_at at n held heard Read is_n is_held is_heard before none = none
  fails_at at n held heard (Write count) is_n is_held is_heard before none = none
  fails_at at n held heard (Store told fault) is_n is_held is_heard before none = none
  fails_at at n held heard (Stuck told place) is_n is_held is_heard before none = none
  fails_at at n held heard (Setup fault) is_n is_held is_heard before none = none
  fails_at at n held heard (Undone line) is_n is_held is_heard before none = none

  pub of_settling : (e : OpFault) → FailsToSettle scheme helds seats e → IsTableFault scheme helds seats e
  of_settling (Unsettled told) h = h
  of_settling NoMemory h = h
  of_settling (Input line cause) h = absurd h
  of_settling Read h = absurd h
  of_settling (Write count) h = absurd h
  of_settling (Store told fault) h = absurd h
  of_settling (Stuck told place) h = absurd h
  of_settling (Setup fault) h = absurd h
  of_settling (Undone line) h = absurd h

  pub of_weaving : (e : OpFault) → AreSettled scheme helds seats → FailsToWeave scheme (committed_by_all helds) e → IsTableFault scheme helds seats e
  of_weaving (Stuck n place) settled h = record { settled = settled; fault = h }
  of_weaving NoMemory settled h = tt
  of_weaving (Unsettled told) settled h = absurd h
  of_weaving (Input line cause) settled h = absurd h
  of_weaving Read settled h = absurd h
  of_weaving (Write count) settled h = absurd h
  of_weaving (Store told fault) settled h = absurd h
  of_weaving (Setup fault) settled h = absurd h
  of_weaving (Undone line) settled h = absurd h

-- the core of one node more has its committed records
pub journals_more : (cores : List Core) (core : Core) (helds : List StateView) (at : ℕ) (held : StateView) → at < length helds → held ≡ get_or helds at held → map journal_of cores ≡ map committed_records (take at helds) → journal_of core ≡ committed_records held
    → map journal_of (cores ++ core ∷ []) ≡ map committed_records (take (at + 1) helds)
journals_more cores core helds at held below is first here =
    map-append journal_of cores (core ∷ [])
    ∙ ap (λ (l : List (List Record)). l ++ journal_of core ∷ []) first
    ∙ ap (λ (js : List Record). map committed_records (take at helds) ++ js ∷ []) (here ∙ ap committed_records is)
    ∙ sym (map-append committed_records (take at helds) (get_or helds at held ∷ []))
    ∙ ap (map committed_records) (sym (take_more helds at held below))
