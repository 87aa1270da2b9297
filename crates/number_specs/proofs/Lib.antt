pub mod LogNumberLemmas
pub mod NumeralLemmas
pub mod LiteralLemmas
pub mod TextLemmas
pub mod ExampleTexts
pub mod FormLemmas
pub mod ScanLemmas
