pub mod ModelTexts
