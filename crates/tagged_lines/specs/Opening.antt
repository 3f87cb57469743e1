-- The bytes that a reader that opens lines with tags has left, and how a read changes them.
use Rattle.std.specs.Prelude.{◌≡◌, ℕ, ◌≤◌, List, ◌++◌, length, drop, Option, None, Some, option_map}
use Rattle.std.specs.Io.KnownBytes.{Keeps}
use Rattle.streams.specs.Lines.{IsWithin}
use Rattle.units.specs.Code.{node_text}
use Rattle.units.specs.declared.code.Node.{Node}
use Rattle.tags.specs.Keys.{NodeKey}
use Rattle.tagged_lines.specs.Opened.{longest_tagged, opened, opened_line, sender_text}
use Rattle.tagged_lines.specs.Views.{OpeningView}
use Rattle.tagged_lines.specs.declared.opening_reader.Stage.{Stage}
use Rattle.tagged_lines.specs.declared.opening_reader.Stage.TheVariants.{Reading, Whole, Giving}

-- the bytes that are returned for the line that was read, and for the bytes that are left
abbrev pub given_out : List NodeKey → Node → List ℕ → Stage → List ℕ → List ℕ
given_out keys node line Reading left = opened keys node (line ++ left)
given_out keys node line Whole left = opened_line keys node line
given_out keys node line (Giving at) left = drop at line

-- the bytes that a reader returns from here on, if those of its inner reader are known
abbrev pub opening_remaining : {R : Type 0} → (R → Option (List ℕ)) → OpeningView R → Option (List ℕ)
opening_remaining remaining r = option_map (λ left. given_out r.keys r.node r.line r.stage left) (remaining r.inner)

-- ---- what the code follows; no public contract cites what stands below

-- how the line that was read fits the stage
abbrev pub FitsStage : Stage → List ℕ → Type 0
FitsStage Reading line = IsWithin longest_tagged line
FitsStage Whole line = IsWithin longest_tagged line
FitsStage (Giving at) line = at ≤ length line

-- the node is the one that the text names as its sender, or the text has no node's name
abbrev pub IsSenderOf : List ℕ → Option Node → Type 0
IsSenderOf text (Some node) = sender_text text ≡ Some (node_text node)
IsSenderOf text None = (node : Node) → sender_text text ≡ Some (node_text node) → ⊥

-- the new line and the stage return the bytes that are to be returned for the old line and these bytes
abbrev pub GoesOnWith : List ℕ → List ℕ → List ℕ → Stage → Type 0
GoesOnWith old bytes new stage = (keys : List NodeKey) (node : Node) (left : List ℕ) → given_out keys node new stage left ≡ opened keys node (old ++ bytes ++ left)

-- one read of the inner reader leaves the bytes to be returned as they were
abbrev pub Fills : Option (List ℕ) → Option (List ℕ) → List ℕ → List ℕ → Stage → Type 0
Fills old new line line' stage =
    (keys : List NodeKey) (node : Node) → Keeps (option_map (λ left. opened keys node (line ++ left)) old) (option_map (λ left. given_out keys node line' stage left) new)
