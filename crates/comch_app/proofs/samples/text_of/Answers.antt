use Rattle.std.proofs.Common.{◌≡◌, ◌∙◌, ◌++◌, ℕ, List, [], ◌∷◌, ap, codes}
use Rattle.comch_app.{specs.Names.{number_line, sample_text}, proofs.SampleLemmas.five_parts}
use Rattle.comch_app.proofs.samples.text_of.Goals as goal

pub returns : goal.returns
returns c =
    let s = c.args.sample.now in
    let text : c.extend.new.self ≡ sample_text c.args.number c.args.prime s =
    five_parts (number_line (codes "sample") (c.args.number ∷ c.args.prime ∷ [])) (number_line (codes "simplices") s.sizes.simplices) (number_line (codes "ranks") s.sizes.ranks) (number_line (codes "terms") (s.terms ∷ []))
    (codes "check yes\ndone\n") c.new-text.result c.add_line.new.text c.add_line-2.new.text c.add_line-3.new.text c.add_terms.new.text c.extend.new.self
    c.new-text.ensures c.in_ok-add_line.ensures (c.in_ok-add_line-2.ensures ∙ ap (λ (ns : List ℕ). c.add_line.new.text ++ number_line (codes "simplices") ns) c.as_slice.ensures)
    (c.in_ok-add_line-3.ensures ∙ ap (λ (ns : List ℕ). c.add_line-2.new.text ++ number_line (codes "ranks") ns) c.as_slice-2.ensures) c.in_ok-add_terms.ensures c.in_ok-extend.ensures.ok in
    text
