-- Terms of pairs, added to a sum one after the other.
use Rattle.std.{proofs.Common.{◌≡◌, ℕ, ◌+◌, ◌*◌, ◌<◌, ◌≤◌, List, [], ◌∷◌, ◌++◌, length, take, get_or, map, sym, ◌∙◌, ap, arith, Ordering, Equal, ℤ, pos, ◌+ℤ◌, ◌*ℤ◌, nat_abs, ◌^◌, ◌%◌, ◌==◌, Bool, true, false, eqb-true, w64, FitsSigned}, specs.Ordering.ordering_then, proofs.lemmas.Int.ints, proofs.lemmas.Bool.eqb-false, proofs.lemmas.List.{map-append, take_more}}
use Rattle.signed_sum.{proofs.Names.{one-mul, signed-parity, value_at-append, value_at-before, value_at-behind, value_at-pair, weight_of-append}, specs.Names.{signed, value_at, weight_of, pair_boundary, paired_before, paired_behind, parity}}
use Rattle.operad_law.{specs.FormalSums.{IsPlusScaled, IsSameSum, plus_term}, proofs.PlusTerm.{value_at-plus_term, weight_of-plus_term}, proofs.ScaledSums.weight_of-halves}

-- pairs are ordered by their first and then by their second
abbrev pub pair_order : {X Y : Type 0} → (X → X → Ordering) → (Y → Y → Ordering) → X × Y → X × Y → Ordering
pair_order cmp other p q = ordering_then (cmp p.0 q.0) (other p.1 q.1)

one_more : {X Y : Type 0} (f : X × ℤ → Y × ℤ) (ts : List (X × ℤ)) (k : ℕ) (t : X × ℤ) → k < length ts → t ≡ get_or ts k t → map f (take (k + 1) ts) ≡ map f (take k ts) ++ (f t ∷ [])
one_more f ts k t h e = ap (map f) (take_more ts k t h ∙ ap (λ u. take k ts ++ (u ∷ [])) (sym e)) ∙ map-append f (take k ts) (t ∷ [])

-- a sum, to which the images of the first k terms were added, and then that of the next
pub plus-next : {X Y : Type 0} (cmp : Y → Y → Ordering) (same : (x y : Y) → cmp x y ≡ Equal → x ≡ y) (f : X × ℤ → Y × ℤ) (ts : List (X × ℤ)) (k : ℕ) (t : X × ℤ) (old mid new : List (Y × ℤ)) →
    k < length ts → t ≡ get_or ts k t → IsPlusScaled old (map f (take k ts)) (pos 1) mid → new ≡ plus_term cmp mid (f t).0 (f t).1 → IsPlusScaled old (map f (take (k + 1) ts)) (pos 1) new
plus-next cmp same f ts k t old mid new h e p q =
    let front = map f (take k ts) in
    let m = one_more f ts k t h e in
    record {
      sums = λ phi. let a = ap (value_at phi) q in
          let b = value_at-plus_term cmp same phi mid (f t).0 (f t).1 in
          let c = p.sums phi in
          let d = ap (value_at phi) m ∙ value_at-append phi front (f t ∷ []) in
          let u = one-mul (value_at phi front) in
          let v = one-mul (value_at phi (map f (take (k + 1) ts))) in
          omega (arith, ints);
      grows = let a = ap weight_of q in
          let b = weight_of-plus_term cmp mid (f t).0 (f t).1 in
          let c = p.grows in
          let d = ap weight_of m ∙ weight_of-append front (f t ∷ []) in
          omega arith;
    }

-- the room that the next term needs
pub room-next : {X Y : Type 0} (f : X × ℤ → Y × ℤ) (ts : List (X × ℤ)) (k : ℕ) (t : X × ℤ) (old mid : List (Y × ℤ)) (most : ℕ) →
    k < length ts → t ≡ get_or ts k t → weight_of (map f (take k ts)) ≡ weight_of (take k ts) → weight_of old + weight_of ts ≤ most → IsPlusScaled old (map f (take k ts)) (pos 1) mid → weight_of mid + nat_abs t.1 ≤ most
room-next f ts k t old mid most h e w r p =
    let a = p.grows in
    let b = weight_of-halves ts (k + 1) in
    let c : weight_of (take (k + 1) ts) ≡ weight_of (take k ts) + weight_of (t ∷ []) = ap weight_of (take_more ts k t h ∙ ap (λ u. take k ts ++ (u ∷ [])) (sym e)) ∙ weight_of-append (take k ts) (t ∷ []) in
    omega arith

pub fits_count : (z : ℤ) (m : ℕ) → m + nat_abs z ≤ 10 ^ 18 → FitsSigned w64 z
fits_count z m h = omega (arith, ints)

parity-mod : (d : ℕ) (b : Bool) → (d % 2 == 1) ≡ b → parity b % 2 ≡ d % 2
parity-mod d false e = let o = eqb-false (d % 2) 1 e in omega arith
parity-mod d true e = let o = eqb-true (d % 2) 1 e in omega arith

-- the boundary of a pair, from sums that are the boundaries of its two
pub pair-sum : {X Y : Type 0} (degree : X → ℕ) (boundary : X → List (X × ℤ)) (other : Y → List (Y × ℤ)) (x : X) (y : Y) (lefts : List (X × ℤ)) (rights : List (Y × ℤ)) (odd : Bool) (none mid new : List ((X × Y) × ℤ)) →
    IsSameSum lefts (boundary x) → IsSameSum rights (other y) → odd ≡ (degree x % 2 == 1) → none ≡ [] → IsPlusScaled none (paired_before y lefts) (pos 1) mid → IsPlusScaled mid (paired_behind (parity odd) x rights) (pos 1) new →
    IsSameSum new (pair_boundary degree boundary other (x, y))
pair-sum degree boundary other x y lefts rights odd none mid new f g o n p q = record {
  at = λ phi. let a = p.sums phi in
      let b = q.sums phi in
      let u = one-mul (value_at phi (paired_before y lefts)) in
      let v = one-mul (value_at phi (paired_behind (parity odd) x rights)) in
      let m = ap (value_at phi) n in
      let k = value_at-before phi y lefts ∙ f.at (λ z. phi (z, y)) in
      let l = value_at-behind phi (parity odd) x rights
      ∙ signed-parity (parity odd) (degree x) (value_at (λ z. phi (x, z)) rights) (parity-mod (degree x) odd (sym o))
      ∙ ap (signed (degree x)) (g.at (λ z. phi (x, z))) in
      let w = value_at-pair degree boundary other phi x y in
      omega (arith, ints);
}
