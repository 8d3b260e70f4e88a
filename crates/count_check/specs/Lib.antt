pub mod Columns
pub mod LineGroups
pub mod Totals
