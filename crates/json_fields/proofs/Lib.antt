pub mod Lists
pub mod Parts
pub mod OneAtKey
pub mod BlockTexts
pub mod Written
pub mod ReadBack
pub mod OneLine
