pub mod Digits
pub mod LogNumbers
pub mod Literals
pub mod FractionTexts
pub mod NumberForms
