use Rattle.std.proofs.Common.{arith, length, take}
use Rattle.interval_cut.proofs.ProductLemmas.{product_end, product_start, product_step, product_zero}
use Rattle.interval_cut.proofs.values.product.Goals as goal

pub loop-k-init : goal.loop-k-init
loop-k-init g c u p t = product_start g.row.P c.args.most c.args.mask c.new-product.result (g.V.Values.value_of c.args.alpha.now) (g.V.Values.value_of c.args.gamma.now) u p c.args.simplex.now c.new-product.ensures

pub returns-then-is_zero : goal.returns-then-is_zero
returns-then-is_zero g c u p t =
    product_zero g.row.P c.mul-product.result _ _ (c.is_zero.ensures.zero.0 c.if-is_zero.true)
    (product_step g.row.P c.args.most c.loop-k.k c.loop-k.left c.loop-k.product c.value_at.result c.mul-product.result (g.V.Values.value_of c.args.alpha.now) (g.V.Values.value_of c.args.gamma.now) u p c.args.simplex.now
    c.face-face.result.now (take (length c.face-face.result.now) c.write_vertices.new.vertices) _ c.loop-k-test.true (c.face-face.ensures.value u p t) c.write_vertices.ensures c.value_at.ensures c.mul-product.ensures (c.loop-k.invariant u p t))

pub loop-k-preserved : goal.loop-k-preserved
loop-k-preserved g c u p t =
    product_step g.row.P c.args.most c.loop-k.k c.loop-k.left c.loop-k.product c.value_at.result c.mul-product.result (g.V.Values.value_of c.args.alpha.now) (g.V.Values.value_of c.args.gamma.now) u p c.args.simplex.now
    c.face-face.result.now (take (length c.face-face.result.now) c.write_vertices.new.vertices) _ c.loop-k-test.true (c.face-face.ensures.value u p t) c.write_vertices.ensures c.value_at.ensures c.mul-product.ensures (c.loop-k.invariant u p t)

pub returns : goal.returns
returns g c u p t = product_end g.row.P c.args.most c.loop-k.k c.loop-k.left c.loop-k.product (g.V.Values.value_of c.args.alpha.now) (g.V.Values.value_of c.args.gamma.now) u p c.args.simplex.now _ (omega (arith, c.loop-k-test.false)) (c.loop-k.invariant u p t)
