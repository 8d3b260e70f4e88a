pub mod ListedChains
