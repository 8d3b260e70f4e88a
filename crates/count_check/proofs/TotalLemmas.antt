-- The sizes of complexes.
use Rattle.std.{proofs.Common.{◌≡◌, ℕ, zero, suc, ◌+◌, ◌^◌, ◌<◌, refl, sym, ◌∙◌, ap, ap₂, subst, arith, List, [], ◌∷◌, ◌++◌, length, map, get_or, take, Some, None}, specs.List.AllZip, proofs.lemmas.List.{length-map, map-append, take_more}}
use Rattle.signed_sum.specs.Names.{numbers_from}
use Rattle.linear_law.specs.Names.{Each, IsAscending}
use Rattle.simplicial_law.specs.{Names.of_degree, ListedSimplices.simplices}
use Rattle.complex_index.specs.Names.{IsIndexOf, level}
use Rattle.report.specs.declared.{complex.ComplexPart.ComplexPart, complex.DegreePart.DegreePart, plan.Sizes.Sizes}
use Rattle.report_law.specs.Names.{ranks, passing_sum, simplex_counts, sizes_of}
use Rattle.listed_rows.proofs.CountLemmas.{simplices_counted}
use Rattle.term_total.specs.Names.{IsPart}
use Rattle.count_check.{specs.Totals.{IsCountable, job_sizes}, proofs.PlaceLemmas.numbers_length}

pub zip_get : {X Z : Type 0} (R : X → Z → Type 0) (xs : List X) (zs : List Z) (i : ℕ) (x : X) (z : Z) → AllZip R xs zs → i < length zs → x ≡ get_or xs i x → z ≡ get_or zs i z → R x z
zip_get R [] [] i x z h b e f = absurd (omega arith)
zip_get R [] (w ∷ zs) i x z h b e f = absurd h
zip_get R (y ∷ xs) [] i x z h b e f = absurd h
zip_get R (y ∷ xs) (w ∷ zs) zero x z h b e f = subst (λ (q : _). R q z) (sym e) (subst (R y) (sym f) h.0)
zip_get R (y ∷ xs) (w ∷ zs) (suc i) x z h b e f = zip_get R xs zs i x z h.1 (omega arith) e f

pub sizes_more : (cs : List ComplexPart) (i : ℕ) (c : ComplexPart) (all : List Sizes) (z : Sizes) → i < length cs → c ≡ get_or cs i c → all ≡ job_sizes (take i cs) → z ≡ sizes_of c.facets c → all ++ z ∷ [] ≡ job_sizes (take (i + 1) cs)
sizes_more cs i c all z b e h f =
    ap₂ (λ zs y. zs ++ y ∷ []) h f ∙ sym (map-append (λ (x : ComplexPart). sizes_of x.facets x) (take i cs) (c ∷ [])) ∙ ap (λ x. job_sizes (take i cs ++ x ∷ [])) e ∙ ap job_sizes (sym (take_more cs i c b))

pub counts_are : (facets : List (List ℕ)) (levels : List (List (List ℕ))) (k : ℕ) → IsIndexOf facets levels → Each IsAscending facets → map (λ n. length (level levels n)) (numbers_from 0 k) ≡ simplex_counts facets k
counts_are facets levels k index ascending i = map (λ n. sym (simplices_counted facets levels index ascending n) i) (numbers_from 0 k)

pub ranks_are : (ds : List DegreePart) → map (λ (d : DegreePart). length d.classes) ds ≡ ranks (map (λ d. d.classes) ds)
ranks_are [] = refl
ranks_are (d ∷ ds) = ap (λ rs. length d.classes ∷ rs) (ranks_are ds)

part_of : (levels : List (List (List ℕ))) (c : ComplexPart) → IsCountable levels c → IsPart (sizes_of c.facets c)
part_of levels c h =
    let m = length-map (numbers_from 0 (length c.degrees)) (λ n. length (of_degree n (simplices c.facets))) in
    let n = numbers_length 0 (length c.degrees) in
    let r = ap length (sym (ranks_are c.degrees)) in
    let s = length-map c.degrees (λ (d : DegreePart). length d.classes) in
    let l = h.indexed.low in
    record { same = omega (arith, m, n, r, s); few = omega (arith, r, s, l) }

pub parts_of : (indexes : List (List (List (List ℕ)))) (cs : List ComplexPart) → AllZip IsCountable indexes cs → Each IsPart (job_sizes cs)
parts_of [] [] h = tt
parts_of [] (c ∷ cs) h = absurd h
parts_of (x ∷ xs) [] h = absurd h
parts_of (x ∷ xs) (c ∷ cs) h = (part_of x c h.0, parts_of xs cs h.1)

pub none_passes : (p limit : ℕ) (zs : List Sizes) (cs : List ComplexPart) (count : ℕ) → limit ≡ 10 ^ 12 → zs ≡ job_sizes cs → passing_sum p limit zs ≡ Some count → passing_sum p (10 ^ 12) (job_sizes cs) ≡ None → ⊥
none_passes p limit zs cs count e f h n =
    let q : Some count ≡ None = sym h ∙ ap₂ (passing_sum p) e f ∙ n in
    cc
