use Rattle.std.proofs.{Common.{◌≡◌, ◌<◌, arith, ◌∙◌, true, false, not, inr, refl, sym, ap, subst, length, get_or, MatchOption, slice_set}, lemmas.List.get_or_default}
use Rattle.sparse_rows.specs.Rows.{IsBelow, IsRow}
use Rattle.class_check.{specs.Questions.IsLeadTaken, proofs.LeadLemmas.first_inside}
use Rattle.class_check.proofs.question.is_new.Goals as goal

pub index-requires : goal.index-requires
index-requires g c =
    let inside = first_inside (length c.args.leads.now.items) c.in-Some.row c.in-Some-lead.place
    (subst (λ o. MatchOption o (Unit {0}) (IsBelow (length c.args.leads.now.items))) c.in-Some.is c.requires) c.in-Some-lead.ensures in
    omega arith

pub index_mut-requires : goal.index_mut-requires
index_mut-requires g c =
    let inside = first_inside (length c.args.leads.now.items) c.in-Some.row c.in-Some-lead.place
    (subst (λ o. MatchOption o (Unit {0}) (IsBelow (length c.args.leads.now.items))) c.in-Some.is c.requires) c.in-Some-lead.ensures in
    omega arith

pub returns-clause-taken : goal.returns-clause-taken
returns-clause-taken g c =
    let old = c.args.leads.now.items in
    let k = c.in-Some-lead.place in
    let inside : k < length old = first_inside (length old) c.in-Some.row k (subst (λ o. MatchOption o (Unit {0}) (IsBelow (length old))) c.in-Some.is c.requires) c.in-Some-lead.ensures in
    let read : c.index.result.now ≡ get_or old k false = c.index.ensures ∙ get_or_default old k c.index.result.now false inside in
    subst (λ o. IsLeadTaken g.row.P old o (slice_set old k true) (not c.index.result.now)) (sym c.in-Some.is)
    (subst (IsRow g.row.P) c.row.view_is c.row.invariant, inr (k, c.in-Some-lead.ensures, ap not read, refl))
