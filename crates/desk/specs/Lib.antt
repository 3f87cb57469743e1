pub mod Desks
pub mod Keeping
pub use Rattle.stores.specs.declared.fault.StoreFault
pub use Rattle.stores.specs.declared.node_store.NodeStore
