use Rattle.std.proofs.Common.{◌∙◌, subst, sym, refl, lit<, []}
use Rattle.linear_law.specs.Names.{Each}
use Rattle.certificate_law.specs.Names.{finish}
use Rattle.term_total.specs.Names.{IsPart}
use Rattle.count_check.proofs.TotalLemmas.{none_passes, parts_of}
use Rattle.count_check.proofs.totals.total_fault.Goals as goal

pub total-requires : goal.total-requires
total-requires g c =
    (lit< tt, (c.requires.prime, (subst (Each IsPart) (sym (c.deref.ensures.value ∙ c.in_ok-sizes.ensures)) (parts_of c.args.indexes.now c.args.parts.now c.requires.parts), c.new-terms.ensures.used)))

pub returns-in-Err-TooManyTerms-clause-walk : goal.returns-in-Err-TooManyTerms-clause-walk
returns-in-Err-TooManyTerms-clause-walk g c =
    let over = c.in-Err-TooManyTerms.field-0-0 in
    let q = c.total.ensures.passes over cc in
    record {
      number = 1;
      line_is = refl;
      fails = record {
        before = [];
        at = finish c.args.parts.now;
        behind = [];
        split = refl;
        number_is = refl;
        holds = tt;
        fails = none_passes g.row.P c.new-terms.result.limit c.deref.result.now c.args.parts.now over.count c.new-terms.ensures.limit (c.deref.ensures.value ∙ c.in_ok-sizes.ensures) q.0;
      };
    }
