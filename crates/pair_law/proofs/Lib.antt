pub mod Extensions
pub mod PairMaps
pub mod Exactness
pub mod Inclusions
pub mod OperationMaps
pub mod RelativeOperations
pub mod MatrixEntries
pub mod Certificates
