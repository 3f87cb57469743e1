-- Messages with their keys, and readers and writers, as contracts see them.
use Rattle.std.specs.Prelude.{ℕ, List}
use Rattle.units.specs.declared.code.Node.{Node}
use Rattle.tags.specs.Keys.{NodeKey}
use Rattle.tagged_lines.specs.declared.opening_reader.Stage.{Stage}

-- a message from one node to another, with the key that they share
pub record MessageView : Type 0 where
  pub key : List ℕ
  pub from : Node
  pub to : Node
  pub text : List ℕ

-- a reader, the part of a line that it has read, and how far it is
pub record OpeningView (R : Type 0) : Type 0 where
  pub inner : R
  pub keys : List NodeKey
  pub node : Node
  pub line : List ℕ
  pub stage : Stage

-- a writer, and the key, the sender and the receiver of the message that it sends
pub record MessageWriterView (W : Type 0) : Type 0 where
  pub inner : W
  pub key : List ℕ
  pub from : Node
  pub to : Node
