pub mod EachBelow
