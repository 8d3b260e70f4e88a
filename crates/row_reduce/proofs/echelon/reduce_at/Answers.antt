use Rattle.std.proofs.Common.{◌≡◌, ◌+◌, ◌∷◌, reverse, length, List, sym, ap, ◌∙◌, subst, lit<, []}
use Rattle.row_reduce.{proofs.Below.{reverse-append, served_field}, specs.Names.{EchelonRow, Stored, IsLeadIn, AreEchelon, IsMadeFrom}, proofs.SumLemmas.named, proofs.StoredLemmas.some_none, proofs.EchelonLemmas.{echelon_more, echelon_past, history_wide}}
use Rattle.row_reduce.proofs.echelon.reduce_at.Goals as goal

pub canonical_row-requires : goal.canonical_row-requires
canonical_row-requires g c =
    let images = c.args.images.now in
    let n = named (length c.args.pivots.now) images c.args.pivots.now c.args.at c.in-Some.row c.index-images-row.result c.requires.owns (sym c.row_of.ensures ∙ c.in-Some.is) c.index-images-row.is in
    (lit< tt, (lit< tt, (c.requires.prime, (c.requires.older, history_wide g.row.P images c.in-Some.row c.index-images-row.result c.requires.older n.0 c.index-images-row.is))))

pub returns-in_ok-push : goal.returns-in_ok-push
returns-in_ok-push g c = λ width rows skip solutions given h.
    let p = g.row.P in
    let images = c.args.images.now in
    let pivots = c.args.pivots.now in
    let at = c.args.at in
    let k = c.in-Some.row in
    let s : Stored p = c.index-images-row.result in
    let e : EchelonRow p = c.in_ok-canonical.canonical in
    let forward = c.args.done.now.items in
    let found = sym c.row_of.ensures ∙ c.in-Some.is in
    let n = named (length pivots) images pivots at k s c.requires.owns found c.index-images-row.is in
    let made : IsMadeFrom p images s forward e = subst (λ (ds : List (EchelonRow p)). IsMadeFrom p images s ds e) c.as_slice.ensures.value c.in_ok-canonical.ensures in
    let q : e.pivot ≡ at = made.pivot ∙ n.1 in
    let own : IsLeadIn pivots at = λ z. some_none k (sym found ∙ z) in
    let K = given.solved.kernel in
    let more = echelon_more p width (served_field p c.requires.prime) rows skip solutions pivots images given k s e forward n.0 c.index-images-row.is
    (subst (IsLeadIn pivots) (sym q) own) made (subst (λ n. AreEchelon p width rows skip K pivots (n + 1) (reverse forward)) (sym q) h) in
    subst (λ (ds : List (EchelonRow p)). AreEchelon p width rows skip K pivots at ds) (sym (reverse-append forward (e ∷ [])) ∙ ap reverse (sym c.in_ok-push.ensures.items))
    (subst (λ n. AreEchelon p width rows skip K pivots n (e ∷ reverse forward)) q more)

pub returns-in_default : goal.returns-in_default
returns-in_default g c = λ width rows skip solutions given h.
    echelon_past g.row.P width (served_field g.row.P c.requires.prime) rows skip solutions c.args.pivots.now c.args.images.now given c.args.at (reverse c.args.done.now.items) (sym c.row_of.ensures ∙ c.in_default.is) h
