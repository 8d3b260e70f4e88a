use Rattle.std.proofs.Common.{arith}
use Rattle.surjection_law.{specs.Names.IsSurjection, proofs.SurjectionTerms.arity-le}
use Rattle.surjection.proofs.surj.SurjSignedBasis.degree.Goals as goal

pub overflow_sub-result : goal.overflow_sub-result
overflow_sub-result c =
    let valid : IsSurjection c.as_slice-values.result.now = rw c.as_slice-values.ensures c.self.invariant in
    omega (arith, c.from.ensures, c.greatest.ensures, arity-le c.as_slice-values.result.now valid)
