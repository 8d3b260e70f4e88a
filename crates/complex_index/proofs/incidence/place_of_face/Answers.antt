use Rattle.std.proofs.Common.{◌∙◌, sym, subst, List, ℕ}
use Rattle.linear_law.specs.Names.{Among}
use Rattle.complex_index.proofs.FacePlaces.{face_joined}
use Rattle.complex_index.proofs.incidence.place_of_face.Goals as goal

pub unreachable-requires : goal.unreachable-requires
unreachable-requires c = c.in-None.ensures (subst (λ (t : List ℕ). Among t c.args.lower.now) (sym (face_joined c.args.simplex.now c.args.at c.requires.inside)) c.requires.present)

pub returns-clause-same : goal.returns-clause-same
returns-clause-same c = c.in-Some.ensures.1 ∙ face_joined c.args.simplex.now c.args.at c.requires.inside
