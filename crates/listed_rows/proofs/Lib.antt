pub mod ChainLemmas
pub mod ValueLemmas
pub mod CountLemmas
