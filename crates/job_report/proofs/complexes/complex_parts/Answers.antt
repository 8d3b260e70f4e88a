use Rattle.std.{proofs.Common.{◌≡◌, ◌≤◌, ℕ, arith, get_or, length, lit<, rules, subst, sym, true}, proofs.lemmas.Slice.Zip.{zip_end, zip_turn}, specs.Iterator.Adapters.{zip_first, zip_second}, specs.Slice.Iter.iter_rest}
use Rattle.linear_law.proofs.Names.{each_get_or, length_alike, length_push}
use Rattle.report_law.specs.{Types.{ComplexBlock, ComplexPart}, Names.{classes_of, IsComplexPart}}
use Rattle.job_report.{specs.declared.known.Known.Known, specs.Jobs.{CanBeIndexed, HasStored, IsKnown}, proofs.PartLemmas.all-listed, proofs.Zips.{all-items, zip-get, zip-turn-plain}}
use Rattle.class_matrices.specs.Names.{listed_classes}
use Rattle.job_report.proofs.complexes.complex_parts.Goals as goal

pub complex_part-requires : goal.complex_part-requires
complex_part-requires g c =
    let first : iter_rest (zip_first c.into_iter-block-iterator.result) ≡ c.args.blocks.now = search rules in
    let second : iter_rest (zip_second c.into_iter-block-iterator.result) ≡ c.args.known.now = search rules in
    let t = zip_turn c.args.blocks.now c.args.known.now c.loop-block.yielded c.into_iter-block-iterator.result c.loop-block.block-iterator c.next.new.self c.next.result first second c.loop-block.yielded_by (c.in-Some.block, c.in-Some.known) c.in-Some.is c.next.ensures.steps in
    let k : ℕ = length c.loop-block.yielded in
    let here = sym (t.2 c.in-Some.block.now) in (
      lit< tt,
      (
        c.requires.prime,
        (
          subst (λ (b : ComplexBlock). CanBeIndexed b.facets) here (each_get_or (λ (b : ComplexBlock). CanBeIndexed b.facets) c.args.blocks.now k c.in-Some.block.now t.0 c.requires.complexes),
          (
            subst (λ b. IsKnown g.B.Basis.is_of b c.in-Some.known.now) here (subst (λ x. IsKnown g.B.Basis.is_of (get_or c.args.blocks.now k c.in-Some.block.now) x) (sym (t.3 c.in-Some.known.now))
                (zip-get (IsKnown g.B.Basis.is_of) c.args.blocks.now c.args.known.now k c.in-Some.block.now c.in-Some.known.now t.0 c.requires.known)),
            subst (HasStored g.row.P c.args.table.now) here (each_get_or (HasStored g.row.P c.args.table.now) c.args.blocks.now k c.in-Some.block.now t.0 c.requires.stored),
          ),
        ),
      ),
    )

pub loop-block-preserved : goal.loop-block-preserved
loop-block-preserved g c =
    let first : iter_rest (zip_first c.into_iter-block-iterator.result) ≡ c.args.blocks.now = search rules in
    let second : iter_rest (zip_second c.into_iter-block-iterator.result) ≡ c.args.known.now = search rules in
    let t = zip_turn c.args.blocks.now c.args.known.now c.loop-block.yielded c.into_iter-block-iterator.result c.loop-block.block-iterator c.next.new.self c.next.result first second c.loop-block.yielded_by (c.in-Some.block, c.in-Some.known) c.in-Some.is c.next.ensures.steps in
    let k : ℕ = length c.loop-block.yielded in
    let more = length_push c.loop-block.yielded (c.in-Some.block, c.in-Some.known) in
    record {
      parts = zip-turn-plain (IsComplexPart true g.B.Basis.keeps g.row.P) c.args.blocks.now k _ c.loop-block.parts.items c.push.new.self.items c.in-Some.block.now _ t.0 more (t.2 c.in-Some.block.now)
          c.loop-block.invariant.parts c.in_ok-complex_part.ensures.part c.in_ok-push.ensures.items;
      classes = zip-turn-plain (λ (x : Known _) (p : ComplexPart). classes_of p ≡ listed_classes {p = g.row.P} x.index (g.B.Basis.classes x.basis)) c.args.known.now k _ c.loop-block.parts.items c.push.new.self.items c.in-Some.known.now _ t.1 more (t.3 c.in-Some.known.now)
          c.loop-block.invariant.classes c.in_ok-complex_part.ensures.classes c.in_ok-push.ensures.items;
    }

pub returns : goal.returns
returns g c =
    let first : iter_rest (zip_first c.into_iter-block-iterator.result) ≡ c.args.blocks.now = search rules in
    let second : iter_rest (zip_second c.into_iter-block-iterator.result) ≡ c.args.known.now = search rules in
    let t = zip_end c.args.blocks.now c.args.known.now c.loop-block.yielded c.into_iter-block-iterator.result c.loop-block.block-iterator c.next.new.self c.next.result first second c.loop-block.yielded_by c.in-None.is c.next.ensures.steps in
    let k : ℕ = length c.loop-block.yielded in
    let same = length_alike (IsKnown g.B.Basis.is_of) c.args.blocks.now c.args.known.now c.requires.known in
    let done : length c.args.blocks.now ≤ k = omega (arith, t, same) in
    let all : length c.args.known.now ≤ k = omega (arith, t, same) in
    record {
      parts = all-items (IsComplexPart true g.B.Basis.keeps g.row.P) c.args.blocks.now c.args.blocks.now c.loop-block.parts.items _ k done (λ i. c.args.blocks.now) c.loop-block.invariant.parts c.from.ensures;
      classes = all-listed {p = g.row.P} g.B.Basis.classes c.args.known.now _
          (all-items (λ (x : Known _) (p : ComplexPart). classes_of p ≡ listed_classes {p = g.row.P} x.index (g.B.Basis.classes x.basis)) c.args.known.now c.args.known.now c.loop-block.parts.items _ k all (λ i. c.args.known.now) c.loop-block.invariant.classes c.from.ensures);
    }
