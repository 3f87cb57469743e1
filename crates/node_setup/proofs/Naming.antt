-- A word of a peer is cut in one way.
use Rattle.std.proofs.Common.{◌≡◌, ◌∷◌, ◌++◌, ◌∙◌, ℕ, List, Option, None, Some, IfNone, arith, sym}
use Rattle.units.specs.Code.{node_text}
use Rattle.units.specs.Text.{IsFreeOf}
use Rattle.units.specs.declared.code.Node.{Node}
use Rattle.units.specs.declared.code.Node.TheVariants.{Itl, Registry}
use Rattle.units.proofs.Cuts.{cut_once}
use Rattle.sockets.specs.Addresses.{NodeAddress}
use Rattle.node_setup.specs.Words.{IsPeerWord}

-- an equals sign is no letter
node_free : (n : Node) → IsFreeOf 61 (node_text n)
node_free Itl = ((λ e. absurd (omega (arith, e))), ((λ e. absurd (omega (arith, e))), ((λ e. absurd (omega (arith, e))), tt)))
node_free (Registry c) = let l = c.letters in ((λ e. absurd (omega (arith, e, l))), ((λ e. absurd (omega (arith, e, l))), tt))

pub name_of : (name text word : List ℕ) (peer : NodeAddress) → word ≡ name ++ 61 ∷ text → IsFreeOf 61 name → IsPeerWord word peer → name ≡ node_text peer.0
name_of name text word peer is free named = (cut_once 61 name text (node_text peer.0) named.text free (node_free peer.0) (sym is ∙ named.is)).0

pub none_of : {X P : Type 0} (o : Option X) → P → IfNone o P
none_of None p = p
none_of (Some x) p = tt
