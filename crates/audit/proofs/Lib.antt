pub mod CutTexts
mod Objects
