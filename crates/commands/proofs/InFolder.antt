-- The stores of nodes in a folder, one after another.
use Rattle.std.proofs.Common.{◌≡◌, ◌∙◌, ◌<◌, ◌≤◌, ◌+◌, ℕ, suc, false, All, List, [], ◌∷◌, ◌++◌, length, map, take, get_or, Some, refl, sym, ap, subst, arith}
use Rattle.std.specs.Prelude.{slice_get}
use Rattle.std.proofs.lemmas.List.{take_more}
use Rattle.std.proofs.lemmas.List.Elements.{All-cons, All-nil}
use Rattle.std.proofs.lemmas.Option.{slice_get-get_or}
use Rattle.units.specs.declared.code.Node.{Node}
use Rattle.stores.specs.declared.node_store.NodeStore.{Ghosts as StoreGhosts}
use Rattle.protocol.specs.Scheme.{Scheme}
use Rattle.protocol.specs.Registries.{nodes}
use Rattle.command_faults.specs.declared.fault.OpFault.{OpFault}
use Rattle.commands.specs.Opened.{AreFirstIn, AreStoresIn, IsShut, IsStoreIn}
use Rattle.commands.specs.declared.archive.Archive.{Ghosts}

module _ {A F S : Type 0} (g : Ghosts A F S) (archive : A) (of : StoreGhosts S) (folder : List ℕ) where
  one_more : (ns : List Node) (ss : List S) (n : Node) (s : S) → AreStoresIn g archive of folder ns ss → IsStoreIn g archive of folder n s → AreStoresIn g archive of folder (ns ++ n ∷ []) (ss ++ s ∷ [])
  one_more [] [] n s are is = (is, tt)
  one_more [] (t ∷ ss) n s are is = absurd are
  one_more (m ∷ ns) [] n s are is = absurd are
  one_more (m ∷ ns) (t ∷ ss) n s are is = (are.0, one_more ns ss n s are.1 is)

  pub count_of : (ns : List Node) (ss : List S) → AreStoresIn g archive of folder ns ss → length ss ≡ length ns
  count_of [] [] are = refl
  count_of [] (t ∷ ss) are = absurd are
  count_of (m ∷ ns) [] are = absurd are
  count_of (m ∷ ns) (t ∷ ss) are = ap suc (count_of ns ss are.1)

  pub whose_are : (ns : List Node) (ss : List S) → AreStoresIn g archive of folder ns ss → map of.whose ss ≡ ns
  whose_are [] [] are = refl
  whose_are [] (t ∷ ss) are = absurd are
  whose_are (m ∷ ns) [] are = absurd are
  whose_are (m ∷ ns) (t ∷ ss) are = ap (λ (n : Node). n ∷ map of.whose ss) are.0.whose ∙ ap (λ (ms : List Node). m ∷ ms) (whose_are ns ss are.1)

  abbrev IsOwn : S → Type 0
  IsOwn s = of.is_honest s → of.must_reopen s ≡ false → of.is_own s

  pub own_are : (ns : List Node) (ss : List S) → AreStoresIn g archive of folder ns ss → All IsOwn ss
  own_are [] [] are = All-nil IsOwn
  own_are [] (t ∷ ss) are = absurd are
  own_are (m ∷ ns) [] are = absurd are
  own_are (m ∷ ns) (t ∷ ss) are = All-cons IsOwn t ss are.0.own (own_are ns ss are.1)

  pub next_in : (ns : List Node) (ss : List S) (at : ℕ) (n d : Node) (s : S) → AreStoresIn g archive of folder (take at ns) ss → at < length ns → n ≡ get_or ns at d → IsStoreIn g archive of folder n s
      → AreStoresIn g archive of folder (take (at + 1) ns) (ss ++ s ∷ [])
  next_in ns ss at n d s are low named is =
      subst (λ (ms : List Node). AreStoresIn g archive of folder ms (ss ++ s ∷ [])) (sym (take_more ns at d low))
      (one_more (take at ns) ss (get_or ns at d) s are (subst (λ (m : Node). IsStoreIn g archive of folder m s) named is))

  -- the store after the first ones can't be opened
  pub first_in : (scheme : Scheme) (names : List Node) (ss : List S) (at : ℕ) (n d : Node) (fault : OpFault) → names ≡ nodes scheme → AreStoresIn g archive of folder (take at names) ss → at < length names → n ≡ get_or names at d → IsShut g archive folder n fault
      → AreFirstIn g archive of folder scheme ss fault
  first_in scheme names ss at n d fault same are low is shut = record {
    at = at;
    n = n;
    firsts = subst (λ (ns : List Node). AreStoresIn g archive of folder (take at ns) ss) same are;
    next = ap (λ (ns : List Node). slice_get ns at) (sym same) ∙ (slice_get-get_or names at d low ∙ ap Some (sym is));
    shut = shut;
  }
