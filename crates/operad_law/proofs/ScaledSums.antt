-- Sums of scaled sums, and of boundaries, term by term.
use Rattle.std.proofs.{Common.{◌≡◌, ℕ, ◌+◌, ◌*◌, ◌≤◌, List, [], ◌∷◌, ◌++◌, take, drop, ap, arith, ℤ, pos, ◌*ℤ◌, nat_abs, take-append-drop}, lemmas.Int.{ints, unsigned_abs-mul}, Math.Nat.mul-le-mul_left}
use Rattle.signed_sum.{proofs.Names.{one-mul, value_at-append, weight_of-append}, specs.Names.{value_at, weight_of}}
use Rattle.operad_law.specs.FormalSums.{IsPlusScaled, IsSameSum, SumsBoundaries}

pub abs-mul : (a b : ℤ) → nat_abs (a *ℤ b) ≡ nat_abs a * nat_abs b
abs-mul a b = unsigned_abs-mul a b

pub SumsBoundaries-one : {X : Type 0} (boundary : X → List (X × ℤ)) (x : X) (by : ℤ) (none faces new : List (X × ℤ)) → none ≡ [] → IsSameSum faces (boundary x) → weight_of faces ≤ 255 → IsPlusScaled none faces by new → SumsBoundaries boundary ((x, by) ∷ []) new
SumsBoundaries-one boundary x by none faces new z same w n = record {
  sums = λ phi. omega (arith, ints, n.sums phi, ap (value_at phi) z, ap (λ v. by *ℤ v) (same.at phi));
  light = omega (arith, n.grows, ap weight_of z, mul-le-mul_left (nat_abs by) w);
}

pub SumsBoundaries-both : {X : Type 0} (boundary : X → List (X × ℤ)) (ts : List (X × ℤ)) (k : ℕ) (first other new : List (X × ℤ)) → SumsBoundaries boundary (take k ts) first → SumsBoundaries boundary (drop k ts) other → IsPlusScaled first other (pos 1) new → SumsBoundaries boundary ts new
SumsBoundaries-both boundary ts k first other new a b n = record {
  sums = λ phi. omega (
    arith,
    ints,
    n.sums phi,
    a.sums phi,
    b.sums phi,
    one-mul (value_at phi other),
    ap (value_at (λ x. value_at phi (boundary x))) (take-append-drop k ts),
    value_at-append (λ x. value_at phi (boundary x)) (take k ts) (drop k ts),
  );
  light = omega (arith, n.grows, a.light, b.light, ap weight_of (take-append-drop k ts), weight_of-append (take k ts) (drop k ts));
}

pub weight_of-halves : {X : Type 0} (ts : List (X × ℤ)) (k : ℕ) → weight_of (take k ts) + weight_of (drop k ts) ≡ weight_of ts
weight_of-halves ts k = omega (arith, ap weight_of (take-append-drop k ts), weight_of-append (take k ts) (drop k ts))

pub front_fits : {X : Type 0} (ts front : List (X × ℤ)) (k m : ℕ) → 255 * weight_of ts ≤ m → front ≡ take k ts → 255 * weight_of front ≤ m
front_fits ts front k m h e = omega (arith, ap weight_of e, weight_of-halves ts k)

pub back_fits : {X : Type 0} (ts back : List (X × ℤ)) (k m : ℕ) → 255 * weight_of ts ≤ m → back ≡ drop k ts → 255 * weight_of back ≤ m
back_fits ts back k m h e = omega (arith, ap weight_of e, weight_of-halves ts k)
