-- What tests of sameness say of codes, statuses and messages, a label for all units of blocks, what is found first in a list,
-- sums over lists, and blocks that have equally many units.
-- Counts in lists and the units of blocks are in the crate `protocol`, what is general in `units`, in `Lists`.
pub mod TestsOfSameness
pub mod SameMessages
pub mod LabelledBlocks
pub mod FirstFound
pub mod SumsOfLists
pub mod UnitsOneByOne
pub mod EquallyLong
