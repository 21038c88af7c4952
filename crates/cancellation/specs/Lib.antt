pub mod Rows
pub mod Cancel
pub mod Rules
pub mod Cost
pub mod Settle
pub mod Promises
pub mod Sizes
