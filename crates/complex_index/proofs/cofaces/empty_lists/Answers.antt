use Rattle.std.proofs.Common.{◌≡◌, [], arith, subst, sym, List, Vec, Global}
use Rattle.complex_index.{specs.Names.{list_at, Coface}, proofs.FacePlaces.rows_push}
use Rattle.complex_index.proofs.cofaces.empty_lists.Goals as goal

pub loop-preserved : goal.loop-preserved
loop-preserved c = record {
  len = omega (arith, c.in_ok-push.ensures.len, c.loop.invariant.len);
  empty = λ x. subst (λ (vs : List (Vec Coface Global)). list_at vs x ≡ []) (sym c.in_ok-push.ensures.items) (rows_push c.loop.all.items c.new.result c.loop.invariant.empty c.new.ensures.items x);
}
