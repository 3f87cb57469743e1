-- The node of a line, and whether the line is possible there.
use Rattle.std.proofs.Common.{◌≡◌, ◌∙◌, ◌<◌, ℕ, length, Bool, true, false, Option, Some, None, refl, sym, ap, IfSome, IfNone}
use Rattle.std.specs.Prelude.{◌&&◌, is_some}
use Rattle.units.specs.declared.code.Node.{Node}
use Rattle.protocol.specs.Scheme.{Scheme}
use Rattle.protocol.specs.Registries.{is_node, nodes, index_of}
use Rattle.protocol.proofs.NodeIndices.{node_there, index_within}
use Rattle.input_lines.specs.declared.instruction.Instruction.{Instruction}
use Rattle.serving.specs.Answers.{is_possible, takes}

both : (a b : Bool) → a ≡ true → b ≡ true → (a && b) ≡ true
both true b e f = f
both false b e f = absurd (cc (e))

first_not : (a b : Bool) → a ≡ false → (a && b) ≡ false
first_not true b e = absurd (cc (e))
first_not false b e = refl

second_not : (a b : Bool) → b ≡ false → (a && b) ≡ false
second_not true b e = e
second_not false b e = refl

module _ (scheme : Scheme) (n : Node) (i : Instruction) where
  pub placed : (o : Option ℕ) → o ≡ index_of scheme n → takes scheme n i ≡ true → IfSome o (λ at. (index_of scheme n ≡ Some at) × (at < length (nodes scheme)) × (is_possible scheme n i ≡ true))
  placed None e taken = tt
  placed (Some at) e taken = (sym e, index_within scheme n at (sym e), both (is_node scheme n) (takes scheme n i) (sym (node_there scheme n) ∙ ap is_some (sym e)) taken)

  pub nowhere : (o : Option ℕ) → o ≡ index_of scheme n → IfNone o (is_possible scheme n i ≡ false)
  nowhere None e = first_not (is_node scheme n) (takes scheme n i) (sym (node_there scheme n) ∙ ap is_some (sym e))
  nowhere (Some at) e = tt

  pub untaken : takes scheme n i ≡ false → is_possible scheme n i ≡ false
  untaken none = second_not (is_node scheme n) (takes scheme n i) none
