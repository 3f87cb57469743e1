-- What trusted nodes keep, whatever strangers send.
pub mod WholeBooks
pub mod BookMoves
pub mod SafeWorlds
