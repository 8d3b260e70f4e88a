pub mod BinomialSteps
