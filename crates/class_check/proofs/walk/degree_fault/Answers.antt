use Rattle.std.proofs.Common.{◌+◌, ap, sym, subst, Ok}
use Rattle.complex_index.specs.Names.{level}
use Rattle.certificate_law.specs.Names.{Asks, degree_stated}
use Rattle.certificate_walk.{specs.Names.IsWalk, proofs.Names.walk_passed}
use Rattle.class_check.{specs.declared.question.Question.Question, specs.Questions.{AreReady, condition_of}, proofs.LeadLemmas.no_leads, proofs.WalkLemmas.{belows_end, belows_stop, classes_end, classes_ready, classes_stop, cocycles_end, degree_formed, marks_first}}
use Rattle.class_check.proofs.walk.degree_fault.Goals as goal

pub chains_fault-requires-clause-listed : goal.chains_fault-requires-clause-listed
chains_fault-requires-clause-listed g c = (degree_formed g.row.P c.args.n c.args.degree.now c.requires.well_formed).below

pub chains_fault-requires-in-Cocycle-clause-listed : goal.chains_fault-requires-in-Cocycle-clause-listed
chains_fault-requires-in-Cocycle-clause-listed g c = (degree_formed g.row.P c.args.n c.args.degree.now c.requires.well_formed).classes

pub chains_fault-requires-in-Class-clause-listed : goal.chains_fault-requires-in-Class-clause-listed
chains_fault-requires-in-Class-clause-listed g c = (degree_formed g.row.P c.args.n c.args.degree.now c.requires.well_formed).below

pub chains_fault-requires-in-Class-2-clause-listed : goal.chains_fault-requires-in-Class-2-clause-listed
chains_fault-requires-in-Class-2-clause-listed g c = (degree_formed g.row.P c.args.n c.args.degree.now c.requires.well_formed).classes

pub returns-in_err-at-in-Below-clause-walk : goal.returns-in_err-at-in-Below-clause-walk
returns-in_err-at-in-Below-clause-walk g c = λ part index same ready.
    let p = g.row.P in
    let n = c.args.n in
    let d = c.args.degree.now in
    subst (λ (q : Question). AreReady p q (degree_stated part n d) → IsWalk (Asks p (condition_of q)) c.args.before (degree_stated part n d) c.from_residual-in_err-at-in-Below.result) (sym c.in-Below.is)
    (λ known. walk_passed (Asks p 2) c.args.before (degree_stated part n d) c.in_err-at-in-Below.field-0.0 c.from_residual-in_err-at-in-Below.result c.from_residual-in_err-at-in-Below.ensures.1
    (belows_stop p part n d c.args.before c.in_err-at-in-Below.field-0.0 (c.in_err-at-in-Below.ensures.walk part index tt (no_leads part.facets n p (level c.args.index.now n) c.in_ok-leads.leads.items c.count.result (c.in_ok-leads.ensures.items_if_clones_equal (λ y e. e)) c.count.ensures)))) ready

pub returns-in-Below-clause-walk : goal.returns-in-Below-clause-walk
returns-in-Below-clause-walk g c = λ part index same ready.
    let p = g.row.P in
    let n = c.args.n in
    let d = c.args.degree.now in
    subst (λ (q : Question). AreReady p q (degree_stated part n d) → IsWalk (Asks p (condition_of q)) c.args.before (degree_stated part n d) (Ok (c.in_ok-at-in-Below.at + c.len.result))) (sym c.in-Below.is)
    (λ known. belows_end p part n d c.args.before c.in_ok-at-in-Below.at (c.in_ok-at-in-Below.at + c.len.result) (ap (λ m. c.in_ok-at-in-Below.at + m) c.len.ensures) (c.in_ok-at-in-Below.ensures.walk part index tt (no_leads part.facets n p (level c.args.index.now n) c.in_ok-leads.leads.items c.count.result (c.in_ok-leads.ensures.items_if_clones_equal (λ y e. e)) c.count.ensures))) ready

pub returns-in-Cocycle-clause-walk : goal.returns-in-Cocycle-clause-walk
returns-in-Cocycle-clause-walk g c = λ part index same ready.
    let p = g.row.P in
    let n = c.args.n in
    let d = c.args.degree.now in
    subst (λ (q : Question). AreReady p q (degree_stated part n d) → IsWalk (Asks p (condition_of q)) c.args.before (degree_stated part n d) c.chains_fault-in-Cocycle.result) (sym c.in-Cocycle.is)
    (λ known. cocycles_end p part n d c.args.before (c.args.before + 1 + c.len-in-Cocycle.result) c.chains_fault-in-Cocycle.result (ap (λ m. c.args.before + 1 + m) c.len-in-Cocycle.ensures) (c.chains_fault-in-Cocycle.ensures.walk part index tt (no_leads part.facets n p (level c.args.index.now n) c.in_ok-leads.leads.items c.count.result (c.in_ok-leads.ensures.items_if_clones_equal (λ y e. e)) c.count.ensures))) ready

pub returns-in_err-at-in-Class-clause-walk : goal.returns-in_err-at-in-Class-clause-walk
returns-in_err-at-in-Class-clause-walk g c = λ part index same ready.
    let p = g.row.P in
    let n = c.args.n in
    let d = c.args.degree.now in
    subst (λ (q : Question). AreReady p q (degree_stated part n d) → IsWalk (Asks p (condition_of q)) c.args.before (degree_stated part n d) c.from_residual-in_err-at-in-Class.result) (sym c.in-Class.is)
    (λ known. walk_passed (Asks p 4) c.args.before (degree_stated part n d) c.in_err-at-in-Class.field-0.0 c.from_residual-in_err-at-in-Class.result c.from_residual-in_err-at-in-Class.ensures.1
    (classes_stop p part n d c.args.before c.in_err-at-in-Class.field-0.0 known (c.in_err-at-in-Class.ensures.walk part index tt (no_leads part.facets n p (level c.args.index.now n) c.in_ok-leads.leads.items c.count.result (c.in_ok-leads.ensures.items_if_clones_equal (λ y e. e)) c.count.ensures)))) ready

pub returns-clause-walk : goal.returns-clause-walk
returns-clause-walk g c = λ part index same ready.
    let p = g.row.P in
    let n = c.args.n in
    let d = c.args.degree.now in
    subst (λ (q : Question). AreReady p q (degree_stated part n d) → IsWalk (Asks p (condition_of q)) c.args.before (degree_stated part n d) c.chains_fault-in-Class-2.result) (sym c.in-Class.is)
    (λ known. classes_end p part n d c.args.before c.in_ok-at-in-Class.at c.chains_fault-in-Class-2.result c.in_ok-at-in-Class.ensures.count
    (c.chains_fault-in-Class-2.ensures.walk part index (classes_ready p part n d c.args.before known)
    (marks_first p part n d c.args.before (level c.args.index.now n) c.chains_fault-in-Class.new.leads.items same (c.in_ok-at-in-Class.ensures.leads part index tt (no_leads part.facets n p (level c.args.index.now n) c.in_ok-leads.leads.items c.count.result (c.in_ok-leads.ensures.items_if_clones_equal (λ y e. e)) c.count.ensures))))) ready
