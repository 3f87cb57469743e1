pub mod Show
pub mod Pages
