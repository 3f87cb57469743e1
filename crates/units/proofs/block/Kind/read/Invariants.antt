use Rattle.std.proofs.Common.{◌≡◌, ◌<◌, ℕ, get_or}
use Rattle.units.specs.declared.block.Kind.TheVariants.{Aau}
use Rattle.units.specs.Block.{kind_text}
use Rattle.units.proofs.block.Kind.read.Given as goal

-- none of the kinds so far has this text
abbrev pub invariant-loop-kind : goal.invariant-loop-kind
invariant-loop-kind l = (n : ℕ) → n < l.kind-index → l.text ≡ kind_text (get_or l.kind-items n Aau) → ⊥
