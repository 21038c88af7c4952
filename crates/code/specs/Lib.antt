pub mod Faults
pub mod Spans
pub mod Transform
pub mod Orders
pub mod Encode
pub mod Looks
