-- Arrays of numbers and of blocks, and objects by their keys and values.
use Rattle.std.specs.Prelude.{ℕ, List}
use Rattle.serde_json.specs.Data.{Data, string, Items}
use Rattle.json_fields.specs.Objects.{array_with, items_with}
use Rattle.units.specs.Block.{raw_text}
use Rattle.units.specs.declared.block.RawBlock.{RawBlock}
pub use Rattle.json_fields.specs.Objects.{Field, HasFields, HasExactly, members_of, object_of, whole}

-- numbers as items of an array; no public contract cites it
abbrev pub whole_items : List ℕ → Items
whole_items ns = items_with whole ns

abbrev pub numbers : List ℕ → Data
numbers ns = array_with whole ns

-- the text of a block as a value
abbrev pub block_data : RawBlock → Data
block_data b = string (raw_text b)

-- the texts of blocks as items of an array; no public contract cites it
abbrev pub block_items : List RawBlock → Items
block_items bs = items_with block_data bs

-- the texts of blocks
abbrev pub blocks : List RawBlock → Data
blocks bs = array_with block_data bs
