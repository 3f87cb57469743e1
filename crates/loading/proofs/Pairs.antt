-- A core whose records were read from a store, beside that store.
use Rattle.std.proofs.Common.{◌≡◌, ◌∙◌, ◌<◌, ◌++◌, ℕ, zero, suc, false, List, [], ◌∷◌, Some, refl, sym, ap, subst, length, map, take, drop, arith, append-nil, append_assoc}
use Rattle.std.specs.Prelude.{All, slice_get}
use Rattle.std.proofs.lemmas.List.{drop_all, map-append, take_all}
use Rattle.std.proofs.lemmas.List.Elements.{All-cons, All-contains, All-head, All-nil, All-tail}
use Rattle.std.proofs.lemmas.Option.{slice_get_within}
use Rattle.units.specs.declared.code.Node.{Node}
use Rattle.protocol.specs.Input.{Input}
use Rattle.protocol.specs.Scheme.{Scheme}
use Rattle.units.proofs.Lists.Membership.{In_slice_get}
use Rattle.units.proofs.Lists.OneValue.{one_some}
use Rattle.units.proofs.Lists.Positions.{contains_in, some_at}
use Rattle.protocol.specs.Registries.{nodes}
use Rattle.stores.specs.declared.node_store.NodeStore.{Ghosts}
use Rattle.desk.specs.Keeping.{IsKept, StoredView}
use Rattle.node_state.specs.Views.{StateView, opened_with}
use Rattle.desk.proofs.Keepings.{kept_loaded}
use Rattle.world.specs.Cores.{journal_of, node_of, scheme_of}
use Rattle.world.specs.declared.any_core.Core.{Core}
use Rattle.command_faults.specs.declared.fault.OpFault.{OpFault}
use Rattle.command_faults.specs.declared.fault.OpFault.TheVariants.{Input as Line, Read, Write, Store, Stuck, Unsettled, Setup, Undone, NoMemory}
use Rattle.loading.specs.Runs.{FailsToFindRun, FailsToWeave}
use Rattle.loading.specs.Opened.{opened_core}
use Rattle.loading.specs.Stores.{AreLoaded, AreUnwritten, FailsToLoad}

pub image_there : {X Y : Type 0} (f : X → Y) (xs : List X) (k : ℕ) (x : X) → slice_get xs k ≡ Some x → slice_get (map f xs) k ≡ Some (f x)
image_there f [] k x is = absurd (cc (is))
image_there f (y ∷ ys) zero x is = ap (λ z. Some (f z)) (one_some y x is)
image_there f (y ∷ ys) (suc k) x is = image_there f ys k x is

-- ---- lists that are gone through together

-- one more element of the first list is done, with that result
pub both_moved : {X Y Z : Type 0} (f : X → Y) (h : Z → Y) (xs : List X) (x : X) (zs : List X) (z : Z) (old new : List Z) (ys : List Y) → zs ≡ xs ++ x ∷ [] → old ≡ z ∷ new → f x ≡ h z
    → map f xs ++ map h old ≡ ys → map f zs ++ map h new ≡ ys
both_moved {X} {Y} {Z} f h xs x zs z old new ys more step fx same =
    ap (λ (l : List X). map f l ++ map h new) more ∙ ap (λ (l : List Y). l ++ map h new) (map-append f xs (x ∷ []))
    ∙ append_assoc (map f xs) (f x ∷ []) (map h new)
    ∙ ap (λ (y : Y). map f xs ++ y ∷ map h new) fx
    ∙ ap (λ (l : List Z). map f xs ++ map h l) (sym step) ∙ same

pub one_moved : {X Y : Type 0} (f : X → Y) (xs : List X) (x : X) (zs : List X) (y : Y) (old new ys : List Y) → zs ≡ xs ++ x ∷ [] → old ≡ y ∷ new → f x ≡ y → map f xs ++ old ≡ ys → map f zs ++ new ≡ ys
one_moved {X} {Y} f xs x zs y old new ys more step fx same =
    ap (λ (l : List X). map f l ++ new) more ∙ ap (λ (l : List Y). l ++ new) (map-append f xs (x ∷ []))
    ∙ append_assoc (map f xs) (f x ∷ []) new
    ∙ ap (λ (v : Y). map f xs ++ v ∷ new) fx
    ∙ ap (λ (l : List Y). map f xs ++ l) (sym step) ∙ same

-- a list that was written to a slice of the whole list is that list
pub written_back : {X : Type 0} (len : ℕ) (new items : List X) → length new ≡ length items → length items ≡ len → take len (new ++ drop (length new) items) ≡ new
written_back {X} len new items same whole =
    ap (λ (l : List X). take len (new ++ l)) (drop_all (length new) items (omega (arith, same))) ∙ (ap (take len) (append-nil new) ∙ take_all len new (omega (arith, same, whole)))

-- ---- faults

module _ {S : Type 0} (g : Ghosts S) (scheme : Scheme) (olds news : List S) where
  pub load_fault : (e : OpFault) → FailsToLoad g scheme (nodes scheme) olds news e → FailsToFindRun g e scheme olds news
  load_fault (Store told fault) h = h
  load_fault NoMemory h = tt
  load_fault (Line line cause) h = absurd h
  load_fault Read h = absurd h
  load_fault (Write count) h = absurd h
  load_fault (Stuck n place) h = absurd h
  load_fault (Unsettled n) h = absurd h
  load_fault (Setup told) h = absurd h
  load_fault (Undone line) h = absurd h

  pub run_fault : (journals : List (List Input)) → AreLoaded g scheme (nodes scheme) olds news journals → (e : OpFault) → FailsToWeave scheme journals e
      → FailsToFindRun g e scheme olds news
  run_fault journals loaded (Stuck n place) h = record { journals = journals; loaded = loaded; fault = h }
  run_fault journals loaded NoMemory h = tt
  run_fault journals loaded (Store told fault) h = absurd h
  run_fault journals loaded (Line line cause) h = absurd h
  run_fault journals loaded Read h = absurd h
  run_fault journals loaded (Write count) h = absurd h
  run_fault journals loaded (Unsettled n) h = absurd h
  run_fault journals loaded (Setup told) h = absurd h
  run_fault journals loaded (Undone line) h = absurd h

-- ---- a core beside its store

module _ {S : Type 0} (g : Ghosts S) (scheme : Scheme) (olds news : List S) (before after : List Core) where
  abbrev IsOwn : S → Type 0
  IsOwn s = g.is_honest s → g.must_reopen s ≡ false → g.is_own s

  pub paired : AreLoaded g scheme (nodes scheme) olds news (map journal_of before) → AreUnwritten g olds news
      → map node_of after ≡ nodes scheme → All (λ core. scheme_of core ≡ scheme) after → map journal_of after ≡ map journal_of before
      → map g.whose olds ≡ nodes scheme → All IsOwn olds → length news ≡ length olds
      → (k : ℕ) (core : Core) (store : S) → slice_get after k ≡ Some core → slice_get news k ≡ Some store → IsKept g (record { state = opened_core core; store = store })
  paired loaded unwritten named schemes same whose own count k core store at_core at_store =
      let below : k < length olds = omega (arith, slice_get_within news k store at_store, count) in
      let old = some_at olds k below in
      let n = node_of core in
      let at_node : slice_get (nodes scheme) k ≡ Some n = ap (λ l. slice_get l k) (sym named) ∙ image_there node_of after k core at_core in
      let at_journal : slice_get (map journal_of before) k ≡ Some (journal_of core) = ap (λ l. slice_get l k) (sym same) ∙ image_there journal_of after k core at_core in
      let read = loaded.each k n old.0 store (journal_of core) below at_node old.1 at_store at_journal in
      let still = unwritten k old.0 store old.1 at_store in
      let belongs : g.whose old.0 ≡ n = one_some (g.whose old.0) n (sym (image_there g.whose olds k old.0 old.1) ∙ (ap (λ l. slice_get l k) whose ∙ at_node)) in
      let owned = All-contains IsOwn olds old.0 own (contains_in olds old.0 (In_slice_get olds k old.0 old.1)) in
      let goes_by : scheme_of core ≡ scheme = All-contains (λ (c : Core). scheme_of c ≡ scheme) after core schemes (contains_in after core (In_slice_get after k core at_core)) in
      subst (λ (s : Scheme). IsKept g (record { state = opened_with s n (journal_of core); store = store })) (sym goes_by)
      (kept_loaded g scheme n (journal_of core) old.0 store read.1 still.whose still.own belongs owned)

-- ---- the pairs, by their cores

module _ {S : Type 0} (scheme : Scheme) (cores : List Core) (pairs : List (StoredView S)) (are : map (λ p. p.state) pairs ≡ map opened_core cores) where
  images : {Y : Type 0} (f : StateView → Y) (h : Core → Y) → ((c : Core) → f (opened_core c) ≡ h c) → (ps : List (StoredView S)) (cs : List Core) → map (λ p. p.state) ps ≡ map opened_core cs → map (λ p. f p.state) ps ≡ map h cs
  images f h same [] [] is = refl
  images f h same [] (c ∷ cs) is = absurd (cc (is))
  images f h same (p ∷ ps) [] is = absurd (cc (is))
  images {Y} f h same (p ∷ ps) (c ∷ cs) is =
      let first : p.state ≡ opened_core c = cc (is) in
      let rest : map (λ q. q.state) ps ≡ map opened_core cs = cc (is) in
      ap (λ (y : Y). y ∷ map (λ q. f q.state) ps) (ap f first ∙ same c) ∙ ap (λ (l : List Y). h c ∷ l) (images f h same ps cs rest)

  pub nodes_paired : map (λ p. p.state.node) pairs ≡ map node_of cores
  nodes_paired = images (λ h. h.node) node_of (λ c. refl) pairs cores are

  pub journals_paired : map (λ p. p.state.journal) pairs ≡ map journal_of cores
  journals_paired = images (λ h. h.journal) journal_of (λ c. refl) pairs cores are

  abbrev IsOpened : StateView → Type 0
  IsOpened h = h ≡ opened_with scheme h.node h.journal

  each_opened : (ps : List (StoredView S)) (cs : List Core) → map (λ p. p.state) ps ≡ map opened_core cs → All (λ core. scheme_of core ≡ scheme) cs → All (λ p. IsOpened p.state) ps
  each_opened [] cs is all = All-nil (λ (p : StoredView S). IsOpened p.state)
  each_opened (p ∷ ps) [] is all = absurd (cc (is))
  each_opened (p ∷ ps) (c ∷ cs) is all =
      let first : p.state ≡ opened_core c = cc (is) in
      let rest : map (λ q. q.state) ps ≡ map opened_core cs = cc (is) in
      let goes_by = All-head (λ (k : Core). scheme_of k ≡ scheme) c cs all in
      let here : IsOpened p.state = subst IsOpened (sym first) (ap (λ (s : Scheme). opened_with s (node_of c) (journal_of c)) goes_by) in
      All-cons (λ (q : StoredView S). IsOpened q.state) p ps here (each_opened ps cs rest (All-tail (λ (k : Core). scheme_of k ≡ scheme) c cs all))

  pub opened_paired : All (λ core. scheme_of core ≡ scheme) cores → All (λ p. IsOpened p.state) pairs
  opened_paired all = each_opened pairs cores are all
