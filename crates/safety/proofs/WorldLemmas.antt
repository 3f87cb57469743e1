-- Worlds and their stations: what one event changes, and what all the worlds that events lead to have in common.
pub mod StationsAfterPut
pub mod SchemesKept
pub mod NodesWithStation
pub mod CommittingEvents
pub mod SoundWorlds
pub mod ReachedWorlds
pub mod QuietWorlds
