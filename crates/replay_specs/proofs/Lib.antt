pub mod IntegerTexts
pub mod RunTextLines
pub mod RunTextsApart
pub mod RunTextGoesOn
pub mod CheckLemmas
pub mod RunCheckLemmas
