use Rattle.std.proofs.Common.{length, set, List, arith, sym, subst, ℕ, Option, Some}
use Rattle.row_reduce.{specs.Names.{Stored, Owns}, proofs.StoredLemmas.owns_more}
use Rattle.row_reduce.proofs.walking.append.Goals as goal

pub returns-clause-owns : goal.returns-clause-owns
returns-clause-owns g c =
    let width = length c.args.pivots.now in
    let s = owns_more width c.args.stored.now.items c.args.pivots.now c.args.row c.len.result (omega arith) c.requires.inside c.requires.owns in
    subst (λ (ps : List (Option ℕ)). Owns width c.push.new.self.items ps) (sym c.insert.ensures) (subst (λ (x : List (Stored g.row.P)). Owns width x (set c.args.pivots.now c.args.row.place (Some c.len.result))) (sym c.in_ok-push.ensures.items) s)
