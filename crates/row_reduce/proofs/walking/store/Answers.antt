use Rattle.std.proofs.Common.{ℕ, List, ◌+◌, ◌*◌, ◌%◌, get_or, refl, sym, ap, ◌∙◌, subst, arith, mod-eq_of_lt}
use Rattle.row_reduce.{proofs.Below.{Congruent, negated, Congruent_add, Congruent_from, Congruent_mod, Congruent_of, Congruent_trans, add-negated, served_large}, specs.Names.{Stored, IsStoredFrom}, proofs.SumLemmas.read_at, proofs.StoredLemmas.stored_from}
use Rattle.row_reduce.proofs.walking.store.Goals as goal

pub returns : goal.returns
returns g c =
    let p = g.row.P in
    let large = served_large p c.requires.prime in
    let t = c.args.left.0 in
    let old = c.args.sum.now in
    let inverse = c.inv.result in
    let read = read_at old t c.index-sum-lead.result c.index-sum-lead.is c.requires.inside in
    let product : Congruent p (get_or old t 0 * inverse) 1 = record { same = ap (λ n. (n * inverse) % p) (sym read) ∙ c.inv.ensures ∙ sym (mod-eq_of_lt large) } in
    let cancels : Congruent p (c.neg-factor.result + inverse) 0 =
    Congruent_from (Congruent_add (Congruent_trans (Congruent_of c.neg-factor.ensures) (Congruent_mod p (negated p inverse))) (add-negated p inverse large)) (omega arith) in
    let i : Stored p = record { place = t; factor = c.neg-factor.result; row = c.in_ok-row.row; source = c.args.source; history = c.in_ok-history.history } in
    subst (λ (hs : List (ℕ × ℕ)). IsStoredFrom p old c.take_left.new.sum t c.args.source hs i) (c.in_ok-history.ensures ∙ c.as_slice-2.ensures.value)
    (stored_from p old c.take_left.new.sum t inverse i c.in_ok-row.ensures c.requires.inside c.requires.before product cancels refl)
