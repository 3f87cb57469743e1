-- The orders that a node takes.
use Rattle.std.proofs.Common.{◌≡◌, ◌∙◌, ◌&&◌, Bool, true, ap, sym}
use Rattle.units.specs.declared.code.Node.{Node}
use Rattle.units.specs.declared.code.Node.TheVariants.{Itl}
use Rattle.protocol.specs.Input.TheVariants.{CleanUp}
use Rattle.protocol.specs.Moment.{Moment}
use Rattle.protocol.specs.Registries.{is_node}
use Rattle.protocol.specs.Scheme.{Scheme}
use Rattle.input_lines.specs.declared.instruction.Instruction.{Instruction}
use Rattle.input_lines.specs.declared.instruction.Instruction.TheVariants.{Order}
use Rattle.serving.specs.Answers.{is_possible, takes}

-- a node of the scheme takes what nodes of its kind take
pub possible : (scheme : Scheme) (n : Node) (i : Instruction) (b : Bool) → is_node scheme n ≡ true → b ≡ takes scheme n i → is_possible scheme n i ≡ b
possible scheme n i b member is = ap (λ (m : Bool). m && takes scheme n i) member ∙ sym is

-- a clean-up at the log
pub clean_up_possible : (scheme : Scheme) (n : Node) (moment : Moment) → n ≡ Itl → is_node scheme n ≡ true → is_possible scheme n (Order (CleanUp moment)) ≡ true
clean_up_possible scheme n moment log member =
    ap (λ (m : Node). is_possible scheme m (Order (CleanUp moment))) log
    ∙ ap (λ (m : Bool). m && takes scheme Itl (Order (CleanUp moment))) (ap (is_node scheme) (sym log) ∙ member)
