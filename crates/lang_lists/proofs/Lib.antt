pub mod BoxLaws
pub mod NameLaws
pub mod SixLaws
