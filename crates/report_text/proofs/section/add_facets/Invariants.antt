use Rattle.std.proofs.Common.{◌≡◌, ◌++◌, take, map}
use Rattle.report_text_law.specs.{Names.printed, declared.line.Line.TheVariants.{Facet as facet_line}}
use Rattle.report_text.proofs.section.add_facets.Given as goal

abbrev pub invariant-loop-facet : goal.invariant-loop-facet
invariant-loop-facet l = l.text ≡ l.initial.text ++ printed l.form (map facet_line (take l.facet-index l.facets))
