-- Orders of the records of journals: from events, to events, the longest one, and journals that have none.
pub mod RecordOrders
pub mod EventsFromOrders
pub mod OrdersFromEvents
pub mod StuckWorlds
pub mod FurthestCuts
pub mod WaitingJournals
