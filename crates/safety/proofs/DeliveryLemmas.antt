-- The deliveries that a node refuses, and the findings of the log in a proposal.
pub mod WelcomeAtLog
pub mod WelcomeAtRegistry
pub mod WelcomeMessages
pub mod WelcomeDeliveries
pub mod KindsOfOffers
pub mod FindingsInProposals
pub mod TerminatedTransfers
