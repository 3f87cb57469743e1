-- Facts about lists, about maps as lists, and about comparisons. No function uses them, and the proofs of several
-- crates do.
pub mod Membership
pub mod OneValue
pub mod Positions
pub mod SomePass
pub mod Comparisons
pub mod NoRepeats
pub mod Permutations
pub mod OrderedMaps
pub mod FirstIndices
