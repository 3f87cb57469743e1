-- Nodes that were loaded, at the beginning of a run and at its end.
use Rattle.std.proofs.Common.{◌≡◌, ◌∙◌, ◌++◌, ℕ, zero, suc, List, [], ◌∷◌, Some, refl, sym, ap, length, map, take, arith, length-append}
use Rattle.std.specs.Prelude.{All, slice_get}
use Rattle.std.proofs.lemmas.List.{take_all}
use Rattle.std.proofs.lemmas.List.Elements.{All-cons, All-contains, All-nil}
use Rattle.std.proofs.lemmas.Option.{slice_get_within, get_or_from_slice_get}
use Rattle.run.proofs.Wired.{part_more}
use Rattle.units.specs.declared.code.Node.{Node}
use Rattle.protocol.specs.Input.{Input}
use Rattle.protocol.specs.Scheme.{Scheme}
use Rattle.units.proofs.Lists.Membership.{In_slice_get}
use Rattle.units.proofs.Lists.Positions.{contains_in}
use Rattle.desk.specs.NodeStore.{Ghosts}
use Rattle.desk.specs.Keeping.{StoredView, MayOpen}
use Rattle.node_state.specs.Views.{StateView, opened_with}
use Rattle.run.specs.Runs.{IsLoadedAmong}

all_placed : {X : Type 0} (P : X → Type 0) (xs : List X) → ((k : ℕ) (x : X) → slice_get xs k ≡ Some x → P x) → All P xs
all_placed P [] each = All-nil P
all_placed P (x ∷ xs) each = All-cons P x xs (each zero x refl) (all_placed P xs (λ k y is. each (suc k) y is))

module _ {S : Type 0} (g : Ghosts S) (scheme : Scheme) (loaded : List (StoredView S)) where
  abbrev IsOpened : StoredView S → Type 0
  IsOpened s = s.state ≡ opened_with scheme s.state.node s.state.journal

  -- each of them is one of them
  pub may_open : All IsOpened loaded → All (MayOpen g (IsLoadedAmong g scheme loaded)) loaded
  may_open opened = all_placed (MayOpen g (IsLoadedAmong g scheme loaded)) loaded (λ k s is.
      let as_opened : IsOpened s = All-contains IsOpened loaded s opened (contains_in loaded s (In_slice_get loaded k s is)) in
      let whole : s.state.opening ≡ length s.state.journal = ap (λ (h : StateView). h.opening) as_opened in
      record {
        begins = record {
          scheme_is = ap (λ (h : StateView). h.scheme) as_opened;
          at = k;
          old = s;
          is = is;
          node_is = refl;
          journal_is = take_all s.state.opening s.state.journal (omega (arith, whole));
          faults_are = refl;
        };
        runs = ap (λ (h : StateView). h.runs) as_opened;
      })

-- one more element of a list, whose names are the first of those names
pub names_more : {X Y : Type 0} (f : X → Y) (xs : List X) (x : X) (zs : List X) (ys : List Y) → zs ≡ xs ++ x ∷ [] → slice_get ys (length xs) ≡ Some (f x) → map f xs ≡ take (length xs) ys → map f zs ≡ take (length zs) ys
names_more {X} {Y} f xs x zs ys more at same =
    part_more f xs x zs ys (length xs) more (slice_get_within ys (length xs) (f x) at) same (sym (get_or_from_slice_get ys (length xs) (f x) (f x) at))
    ∙ ap (λ n. take n ys) (sym (ap (λ (l : List X). length l) more ∙ length-append xs (x ∷ [])))
