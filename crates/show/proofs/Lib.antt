pub mod RecordLines
pub mod Pages
pub mod ShownPages
pub mod ShowFaults
