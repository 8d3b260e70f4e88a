use Rattle.std.proofs.{Common.{◌≡◌, ◌∙◌, ◌*ℤ◌, ◌&&◌, ap, sym, subst, IsTrue, w64, to_z, of_z}, lemmas.Int.to_z-of_z}
use Rattle.signed_sum.{proofs.Names.both-true, specs.Names.{IsSign, pair_turn}}
use Rattle.operad_law.proofs.TurnSums.{fits_sign, product_of_signs}
use Rattle.operad_law.proofs.pair.PairCyclicModel.turn.Goals as goal

pub returns : goal.returns
returns g c =
    let x = c.self.inside.left in
    let y = c.self.inside.right in
    let l = c.in_ok-left.ensures in
    let r = c.in_ok-right.ensures in
    let fit = both-true (g.A.CyclicModel.fits x) (g.B.CyclicModel.fits y) (subst (λ p. IsTrue (g.A.CyclicModel.fits p.0 && g.B.CyclicModel.fits p.1)) (sym c.self.view_is) c.requires) in
    let valid = subst (λ p. g.A.SignedBasis.is_valid p.0 × g.B.SignedBasis.is_valid p.1) (sym c.self.view_is) c.degree-degrees.ensures.valid in
    let s : IsSign c.in_ok-left.sign = rw (ap (λ v. v.1) l) (g.met.A.CyclicModel.turn_sign x valid.0 fit.0) in
    let t : IsSign c.in_ok-right.other = rw (ap (λ v. v.1) r) (g.met.B.CyclicModel.turn_sign y valid.1 fit.1) in
    let product : to_z w64 (of_z w64 (to_z w64 (of_z w64 c.in_ok-left.sign) *ℤ to_z w64 (of_z w64 c.in_ok-right.other))) ≡ c.in_ok-left.sign *ℤ c.in_ok-right.other =
    rw (to_z-of_z w64 c.in_ok-left.sign (fits_sign c.in_ok-left.sign s)) (product_of_signs c.in_ok-left.sign c.in_ok-right.other s t) in
    (λ i. (c.new.ensures i, product i))
    ∙ (λ i. (((l i).0, (r i).0), (l i).1 *ℤ (r i).1))
    ∙ ap (pair_turn g.A.CyclicModel.turn g.B.CyclicModel.turn) c.self.view_is
