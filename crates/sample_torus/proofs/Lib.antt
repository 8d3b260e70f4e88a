pub mod TorusLemmas
pub mod SampleLemmas
