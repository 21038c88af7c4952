pub mod Kind
pub mod Whole
pub mod Erasure
