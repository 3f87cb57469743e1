-- After six rounds a transfer that was proposed before them has ended for good.
pub mod SettledMessages
pub mod SettledTransfers
pub mod EndedTransfers
pub mod RoundsOfFamilies
pub mod RoundsLeft
pub mod RoundsOfWorlds
pub mod FiveRounds
pub mod DecidedMessages
pub mod ReceivedMessages
pub mod WaitingTransfers
