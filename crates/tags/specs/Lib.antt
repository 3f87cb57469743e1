pub mod Hmac
pub mod Tags
pub mod Keys
pub mod KeysText
