pub mod MigratingTexts
pub mod Rewritten
pub mod Rewriting
pub mod MigratingSteps
