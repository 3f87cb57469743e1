pub mod Migrating
