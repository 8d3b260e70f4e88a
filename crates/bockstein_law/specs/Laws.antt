-- The laws of the Bockstein.
use Rattle.std.specs.Prelude.{◌≡◌, ℕ, ◌+◌, ◌*◌, ◌-◌, cond, List, [], ◌∷◌, length, map, ℤ, pos, ◌*ℤ◌}
use Rattle.signed_sum.specs.Names.{is_same_list}
use Rattle.linear_law.specs.Names.{CarriesCoordinates, IsField, IsMatrixOf, negated, Each, copies, matrix_times, combination}
use Rattle.simplicial_law.specs.Names.{IsSimplex, Cochain, HasCoordinates, IsCoboundary, IsCocycle, IsCohomologyBasis, CongruentInt, integral_coboundary}
use Rattle.steenrod_law.specs.Names.{IsBocksteinPower, IsPower, residue}
use Rattle.bockstein_law.specs.Bockstein.{bockstein}

-- The Bockstein on classes.
pub record ClassLaw : Type 0 where
  -- the Bockstein of a cocycle is a cocycle
  pub closed : (facets : List (List ℕ)) (p q : ℕ) (z : Cochain) → IsField p → IsCocycle facets q p z → IsCocycle facets (q + 1) p (bockstein p z)
  -- Each lift gives the same class: where the cochain a with whole values is congruent to z, and its coboundary is p times b,
  -- the Bockstein of z and the residues of b differ by a coboundary.
  pub each_lift : (facets : List (List ℕ)) (p q : ℕ) (z : Cochain) (a b : List ℕ → ℤ) → IsField p →
      ((t : List ℕ) → IsSimplex facets q t → CongruentInt p (a t) (pos (z t))) →
      ((s : List ℕ) → IsSimplex facets (q + 1) s → integral_coboundary a s ≡ pos p *ℤ b s) →
      IsCoboundary facets (q + 1) p (λ s. bockstein p z s + negated p (residue p (b s)))
  -- It is linear, whichever cocycles stand for classes: for each z that is the combination of the cocycles zs plus a
  -- coboundary, the Bockstein of z is the combination of the Bocksteins of zs plus a coboundary.
  pub linear : (facets : List (List ℕ)) (p q : ℕ) (zs : List Cochain) (z : Cochain) (cs : List ℕ) → IsField p →
      Each (IsCocycle facets q p) zs → HasCoordinates facets q p zs z cs →
      IsCoboundary facets (q + 1) p (λ s. bockstein p z s + negated p (combination cs (map (bockstein p) zs) s))
  -- its matrix carries the coordinates of each cocycle to those of its Bockstein
  pub matrix : (facets : List (List ℕ)) (p q : ℕ) → IsField p →
      CarriesCoordinates p (IsCocycle facets q p) (IsCoboundary facets q p) (IsCoboundary facets (q + 1) p) (bockstein p)

-- Bockstein powers are Bocksteins of powers, for a cocycle z of degree q, where p is odd and 2 * s is below q.
pub record PowerLaw : Type 0 where
  -- the Bockstein of P^s is bP^s, up to a coboundary
  pub bockstein_of_power : (facets : List (List ℕ)) (p s q : ℕ) (z b c : Cochain) → IsField p → IsCocycle facets q p z →
      IsPower facets p s q z b → IsBocksteinPower facets p s q z c →
      IsCoboundary facets (q + 2 * s * (p - 1) + 1) p (λ t. bockstein p b t + negated p (c t))
  -- The matrix of bP^s is the matrix of the Bockstein times the matrix of P^s, column by column: z has the coordinates
  -- `power` of P^s z for the cocycles us, and `both` of bP^s z for the basis vs, and each of us has a column of
  -- `bocksteins`, the coordinates of its Bockstein for vs.
  pub product : (facets : List (List ℕ)) (p s q : ℕ) (us vs : List Cochain) (bocksteins : List (List ℕ)) → IsField p →
      Each (IsCocycle facets (q + 2 * s * (p - 1)) p) us → IsCohomologyBasis facets (q + 2 * s * (p - 1) + 1) p vs →
      IsMatrixOf p (IsCoboundary facets (q + 2 * s * (p - 1) + 1) p) (bockstein p) us vs bocksteins →
      (z b c : Cochain) (power both : List ℕ) → IsCocycle facets q p z → IsPower facets p s q z b → IsBocksteinPower facets p s q z c →
      HasCoordinates facets (q + 2 * s * (p - 1)) p us b power → HasCoordinates facets (q + 2 * s * (p - 1) + 1) p vs c both →
      both ≡ matrix_times p (length vs) bocksteins power
  -- where all cocycles in the degree of P^s are coboundaries, the column of bP^s is zero
  pub nothing_between : (facets : List (List ℕ)) (p s q : ℕ) (vs : List Cochain) → IsField p →
      IsCohomologyBasis facets (q + 2 * s * (p - 1)) p [] → IsCohomologyBasis facets (q + 2 * s * (p - 1) + 1) p vs →
      (z c : Cochain) (both : List ℕ) → IsCocycle facets q p z → IsBocksteinPower facets p s q z c →
      HasCoordinates facets (q + 2 * s * (p - 1) + 1) p vs c both → both ≡ copies (length vs) 0

-- worked rows at 3: the lift of a cocycle on a triangle has coboundary 3 or 0; on a 3-simplex it is -3 and
-- its quotient -1 has the residue 2
pub record BocksteinRows : Type 0 where
  pub one : bockstein 3 (λ t. cond (is_same_list t (0 ∷ 2 ∷ [])) 0 (cond (is_same_list t (0 ∷ 1 ∷ [])) 1 2)) (0 ∷ 1 ∷ 2 ∷ []) ≡ 1
  pub none : bockstein 3 (λ t. cond (is_same_list t (1 ∷ 2 ∷ [])) 0 5) (0 ∷ 1 ∷ 2 ∷ []) ≡ 0
  pub minus : bockstein 3 (λ t. cond (is_same_list t (1 ∷ 2 ∷ 3 ∷ [])) 0 (cond (is_same_list t (0 ∷ 1 ∷ 3 ∷ [])) 0 (cond (is_same_list t (0 ∷ 1 ∷ 2 ∷ [])) 2 1))) (0 ∷ 1 ∷ 2 ∷ 3 ∷ []) ≡ 2
