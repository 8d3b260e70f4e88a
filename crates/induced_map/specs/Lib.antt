pub mod Induced
