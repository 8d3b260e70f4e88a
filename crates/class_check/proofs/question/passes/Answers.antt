use Rattle.std.proofs.Common.{[], ◌∷◌, sym, subst}
use Rattle.fp_field.proofs.ServedLemmas.{served_large}
use Rattle.complex_index.specs.Names.{level}
use Rattle.class_check.{specs.declared.question.Question.Question, specs.Questions.{AreLeads, AreReady, IsAnswerOf, others_of, stands_in}, proofs.LeadLemmas.{below_answer, class_answer}}
use Rattle.class_check.proofs.question.passes.Goals as goal

pub returns-in_ok-coboundary_of-in-Below-clause-told : goal.returns-in_ok-coboundary_of-in-Below-clause-told
returns-in_ok-coboundary_of-in-Below-clause-told g c = λ part before index ready leads.
    let levels = c.args.index.now in
    let n = c.args.n in
    let chain = c.args.chain.now in
    let old = c.args.leads.now.items in
    let new = c.is_new.new.leads.items in
    let Answer : Question → Type 0 = λ q. AreLeads part.facets n g.row.P (level levels n) (others_of g.row.P q part n before) old → IsAnswerOf g.row.P q part n (level levels n) before chain new c.is_new.result in
    subst Answer (sym c.in-Below.is)
    (λ h. below_answer g.row.P (served_large g.row.P c.requires.prime) part levels index n before chain old new c.is_new.result c.in_ok-coboundary_of-in-Below.field-0 c.in_ok-coboundary_of-in-Below.ensures h c.is_new.ensures.taken) leads

pub returns-in_ok-row_of-in-Class-clause-told : goal.returns-in_ok-row_of-in-Class-clause-told
returns-in_ok-row_of-in-Class-clause-told g c = λ part before index ready leads.
    let levels = c.args.index.now in
    let n = c.args.n in
    let chain = c.args.chain.now in
    let old = c.args.leads.now.items in
    let new = c.is_new-in-Class.new.leads.items in
    let Answer : Question → Type 0 = λ q. AreReady g.row.P q (stands_in q part n before chain ∷ []) → AreLeads part.facets n g.row.P (level levels n) (others_of g.row.P q part n before) old → IsAnswerOf g.row.P q part n (level levels n) before chain new c.is_new-in-Class.result in
    subst Answer (sym c.in-Class.is)
    (λ known h. class_answer g.row.P (served_large g.row.P c.requires.prime) part levels index n before chain old new c.is_new-in-Class.result c.in_ok-row_of-in-Class.field-0 c.in_ok-row_of-in-Class.ensures known h c.is_new-in-Class.ensures.taken) ready leads
