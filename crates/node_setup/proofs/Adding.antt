-- The peers of words, one after another.
use Rattle.std.proofs.Common.{◌≡◌, ◌≢◌, ◌∙◌, ◌<◌, ◌+◌, ℕ, Bool, true, false, cond, List, [], ◌∷◌, ◌++◌, None, Some, length, take, get_or, ap, refl, subst, sym}
use Rattle.std.specs.Prelude.{slice_get}
use Rattle.std.specs.List.{AllByRecursion, AllZip, find}
use Rattle.std.specs.Option.{option_map}
use Rattle.std.proofs.lemmas.List.{take_more}
use Rattle.std.proofs.lemmas.Option.{slice_get-get_or}
use Rattle.units.specs.Apart.{Pairwise}
use Rattle.units.specs.Code.{same_node}
use Rattle.units.specs.declared.code.Node.{Node}
use Rattle.units.proofs.Same.{same_node-refl}
use Rattle.protocol.specs.Scheme.{Scheme}
use Rattle.command_faults.specs.declared.fault.OpFault.{OpFault}
use Rattle.sockets.specs.Addresses.{NodeAddress, address_of}
use Rattle.node_setup.specs.Peers.{AddsPeer, ArePeers, FailsToAdd, HasWrongPeer, WritesPeer}
use Rattle.node_setup.specs.declared.peers.Guard.{Guard}

-- no peer without an address is one of those that have one
unnamed : (peers : List NodeAddress) (n : Node) → address_of peers n ≡ None → AllByRecursion (λ q. q.0 ≢ n) peers
unnamed [] n none = tt
unnamed (q ∷ qs) n none = first (same_node q.0 n) refl none (λ later. unnamed qs n later)
  where
    first : (b : Bool) → same_node q.0 n ≡ b → option_map (λ (p : NodeAddress). p.1) (cond b (Some q) (find (λ (p : NodeAddress). same_node p.0 n) qs)) ≡ None → (address_of qs n ≡ None → AllByRecursion (λ p. p.0 ≢ n) qs) → AllByRecursion (λ p. p.0 ≢ n) (q ∷ qs)
    first true is none others = absurd (cc (none))
    first false is none others = ((λ same. absurd (cc (is, subst (λ (m : Node). same_node m n ≡ true) (sym same) (same_node-refl n)))), others none)

all_more : {X : Type 0} (P : X → Type 0) (xs : List X) (x : X) → AllByRecursion P xs → P x → AllByRecursion P (xs ++ x ∷ [])
all_more P [] x all is = (is, tt)
all_more P (y ∷ ys) x all is = (all.0, all_more P ys x all.1 is)

pairwise_more : {X : Type 0} (R : X → X → Type 0) (xs : List X) (x : X) → Pairwise R xs → AllByRecursion (λ y. R y x) xs → Pairwise R (xs ++ x ∷ [])
pairwise_more R [] x pairs all = (tt, tt)
pairwise_more R (y ∷ ys) x pairs all = (all_more (R y) ys x pairs.0 all.0, pairwise_more R ys x pairs.1 all.1)

zip_more : {X Y : Type 0} (R : X → Y → Type 0) (xs : List X) (ys : List Y) (x : X) (y : Y) → AllZip R xs ys → R x y → AllZip R (xs ++ x ∷ []) (ys ++ y ∷ [])
zip_more R [] [] x y all is = (is, tt)
zip_more R [] (z ∷ zs) x y all is = absurd all
zip_more R (w ∷ ws) [] x y all is = absurd all
zip_more R (w ∷ ws) (z ∷ zs) x y all is = (all.0, zip_more R ws zs x y all.1 is)

module _ (scheme : Scheme) (node : Node) (guard : Guard) where
  one_more : (old new : List NodeAddress) (words : List (List ℕ)) (word : List ℕ) → ArePeers scheme node guard words old → AddsPeer scheme node guard old word new → ArePeers scheme node guard (words ++ word ∷ []) new
  one_more old new words word are adds = subst (λ (peers : List NodeAddress). ArePeers scheme node guard (words ++ word ∷ []) peers) (sym adds.added) (record {
    each = zip_more (WritesPeer scheme node guard) words old word adds.peer are.each adds.writes;
    once = pairwise_more (λ (p q : NodeAddress). p.0 ≢ q.0) old adds.peer are.once (unnamed old adds.peer.0 adds.unlike);
  })

  pub next_peer : (words : List (List ℕ)) (at : ℕ) (word d : List ℕ) (old new : List NodeAddress) → ArePeers scheme node guard (take at words) old → at < length words → word ≡ get_or words at d → AddsPeer scheme node guard old word new
      → ArePeers scheme node guard (take (at + 1) words) new
  next_peer words at word d old new are low is adds =
      subst (λ (ws : List (List ℕ)). ArePeers scheme node guard ws new) (sym (take_more words at d low))
      (one_more old new (take at words) (get_or words at d) are (subst (λ (w : List ℕ). AddsPeer scheme node guard old w new) is adds))

  pub wrong_peer : (words : List (List ℕ)) (at : ℕ) (word d : List ℕ) (peers : List NodeAddress) (fault : OpFault) → ArePeers scheme node guard (take at words) peers → at < length words → word ≡ get_or words at d → FailsToAdd scheme node guard peers word fault
      → HasWrongPeer scheme node guard words fault
  wrong_peer words at word d peers fault are low is fails = record {
    at = at;
    word = word;
    is = slice_get-get_or words at d low ∙ ap Some (sym is);
    peers = peers;
    before = are;
    fails = fails;
  }
