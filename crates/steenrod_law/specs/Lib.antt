pub mod Words
pub mod Values
pub mod Operations
pub mod Laws
pub mod Names
