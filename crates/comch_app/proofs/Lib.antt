pub mod CommandLineLemmas
pub mod Endings
pub mod Printed
pub mod ElementAnswers
pub mod JobAnswered
pub mod Verdicts
pub mod SampleLemmas
