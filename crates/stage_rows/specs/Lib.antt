pub mod Projecting
