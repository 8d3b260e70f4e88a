-- The live products of a complex.
use Rattle.std.proofs.{Common.{◌≡◌, ℕ, ◌+◌, ◌&&◌, true, List, length, map, arith, refl}, lemmas.Bool.and_from}
use Rattle.linear_law.{specs.Names.Among, proofs.Names.among_map}
use Rattle.report.specs.declared.plan.Product.{Product}
use Rattle.report_law.{specs.Names.{degrees, has_class, products}, proofs.Names.{has-degree, in-filter, in-flat_map, in-numbers}}

pub in-products : (ranks : List ℕ) (a b : ℕ) → has_class ranks a ≡ true → has_class ranks b ≡ true → has_class ranks (a + b) ≡ true → Among (record { a = a; b = b }) (products ranks)
in-products ranks a b h k l =
    let x : Product = record { a = a; b = b } in
    let among = λ (n : ℕ) (c : has_class ranks n ≡ true). in-numbers n 0 (length ranks) (omega arith) (let i = has-degree ranks n c in omega (arith, i)) in
    in-filter (λ (y : Product). has_class ranks y.a && (has_class ranks y.b && has_class ranks (y.a + y.b))) _ x
    (in-flat_map (λ a. map (λ b. record { a = a; b = b }) (degrees ranks)) (degrees ranks) a x (among a h)
    (among_map (λ (b : ℕ). record { a = a; b = b }) b x (degrees ranks) (among b k) refl))
    (and_from (has_class ranks a) _ h (and_from (has_class ranks b) (has_class ranks (a + b)) k l))
