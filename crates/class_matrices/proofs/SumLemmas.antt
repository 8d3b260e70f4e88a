-- Sums of columns, in any order and by parts.
use Rattle.std.proofs.{Common.{◌≡◌, Bool, true, false, cond, ℕ, zero, suc, ◌+◌, ◌*◌, ◌%◌, ◌<◌, ◌≤◌, ◌⊎◌, inl, inr, List, [], ◌∷◌, ◌++◌, map, length, take, drop, get_or, arith, refl, sym, ap, ap₂, subst, ◌∙◌, mod-lt}, Math.Nat.mod-eq_of_lt, lemmas.List.{drop_more, length-map}}
use Rattle.linear_law.{specs.Names.{Congruent, Each, copies, matrix_times, plus_scaled}, proofs.Names.{Congruent_add, Congruent_mod, Congruent_mul, Congruent_of, Congruent_refl, Congruent_sym, Congruent_trans, each_get_or, each_take}}
use Rattle.steenrod_law.specs.Names.{coefficient_products}
use Rattle.class_matrices.{specs.Names.{Fits, sum_onto}, proofs.ListLemmas.mapped-at}

module _ (p : ℕ) where
  -- ---- one column

  plus_scaled-length : (c : ℕ) (xs ys : List ℕ) → length xs ≡ length ys → length (plus_scaled p c xs ys) ≡ length ys
  plus_scaled-length c [] ys e = e
  plus_scaled-length c (x ∷ xs) [] e = absurd (omega (arith, e))
  plus_scaled-length c (x ∷ xs) (y ∷ ys) e = ap suc (plus_scaled-length c xs ys (omega (arith, e)))

  plus_scaled-small : (c : ℕ) (xs ys : List ℕ) → 1 < p → Each (λ z. z < p) (plus_scaled p c xs ys)
  plus_scaled-small c [] ys large = tt
  plus_scaled-small c (x ∷ xs) [] large = tt
  plus_scaled-small c (x ∷ xs) (y ∷ ys) large = (mod-lt (c * x + y) (omega (arith, large)), plus_scaled-small c xs ys large)

  -- a coefficient counts modulo p
  pub plus_scaled-mod : (c d : ℕ) (xs ys : List ℕ) → Congruent p c d → plus_scaled p c xs ys ≡ plus_scaled p d xs ys
  plus_scaled-mod c d [] ys e = refl
  plus_scaled-mod c d (x ∷ xs) [] e = refl
  plus_scaled-mod c d (x ∷ xs) (y ∷ ys) e = ap₂ ◌∷◌ (Congruent_add (Congruent_mul e (Congruent_refl x)) (Congruent_refl y)).same (plus_scaled-mod c d xs ys e)

  plus_scaled-none : (xs ys : List ℕ) → length xs ≡ length ys → Each (λ z. z < p) ys → plus_scaled p 0 xs ys ≡ ys
  plus_scaled-none [] [] e h = refl
  plus_scaled-none [] (y ∷ ys) e h = absurd (omega (arith, e))
  plus_scaled-none (x ∷ xs) [] e h = absurd (omega (arith, e))
  plus_scaled-none (x ∷ xs) (y ∷ ys) e h = ap₂ ◌∷◌ (small y h.0) (plus_scaled-none xs ys (omega (arith, e)) h.1)
    where
      small : (z : ℕ) → z < p → (0 * x + z) % p ≡ z
      small z l = grind arith

  nothing : (c : ℕ) (xs : List ℕ) → plus_scaled p c xs [] ≡ []
  nothing c [] = refl
  nothing c (x ∷ xs) = refl

  exchange : (c x d y z : ℕ) → (c * x + (d * y + z) % p) % p ≡ (d * y + (c * x + z) % p) % p
  exchange c x d y z =
      (Congruent_trans (Congruent_add (Congruent_refl (c * x)) (Congruent_mod p (d * y + z)))
      (Congruent_trans (Congruent_of (omega arith)) (Congruent_sym (Congruent_add (Congruent_refl (d * y)) (Congruent_mod p (c * x + z)))))).same

  commute : (c : ℕ) (xs : List ℕ) (d : ℕ) (ys zs : List ℕ) → plus_scaled p c xs (plus_scaled p d ys zs) ≡ plus_scaled p d ys (plus_scaled p c xs zs)
  commute c [] d ys zs = sym (nothing d ys)
  commute c (x ∷ xs) d [] zs = refl
  commute c (x ∷ xs) d (y ∷ ys) [] = refl
  commute c (x ∷ xs) d (y ∷ ys) (z ∷ zs) = ap₂ ◌∷◌ (exchange c x d y z) (commute c xs d ys zs)

  plus_scaled-step : (c : ℕ) (xs ys : List ℕ) (i : ℕ) → i < length xs → i < length ys → plus_scaled p c (take (suc i) xs) (take (suc i) ys) ≡ plus_scaled p c (take i xs) (take i ys) ++ ((c * get_or xs i 0 + get_or ys i 0) % p) ∷ []
  plus_scaled-step c [] ys i a b = absurd (omega (arith, a))
  plus_scaled-step c (x ∷ xs) [] i a b = absurd (omega (arith, b))
  plus_scaled-step c (x ∷ xs) (y ∷ ys) zero a b = refl
  plus_scaled-step c (x ∷ xs) (y ∷ ys) (suc i) a b = ap (λ (zs : List ℕ). ((c * x + y) % p) ∷ zs) (plus_scaled-step c xs ys i (omega (arith, a)) (omega (arith, b)))

  -- one place more, with a value that counts modulo p
  pub plus_scaled-more : (c : ℕ) (xs ys : List ℕ) (i : ℕ) (old new : List ℕ) (v : ℕ) → i < length xs → i < length ys → old ≡ plus_scaled p c (take i xs) (take i ys) → v ≡ ((c * get_or xs i 0) % p + get_or ys i 0) % p → new ≡ old ++ v ∷ []
      → new ≡ plus_scaled p c (take (i + 1) xs) (take (i + 1) ys)
  plus_scaled-more c xs ys i old new v a b h is e =
      let s : suc i ≡ i + 1 = omega arith in
      let here = is ∙ (Congruent_add (Congruent_mod p (c * get_or xs i 0)) (Congruent_refl (get_or ys i 0))).same in
      subst (λ (n : ℕ). new ≡ plus_scaled p c (take n xs) (take n ys)) s (e ∙ ap₂ (λ (zs : List ℕ) (z : ℕ). zs ++ z ∷ []) h here ∙ sym (plus_scaled-step c xs ys i a b))

  -- no more places than there are of both count
  pub plus_scaled-all : (c : ℕ) (xs ys : List ℕ) (i : ℕ) → (length xs ≤ i) ⊎ (length ys ≤ i) → plus_scaled p c (take i xs) (take i ys) ≡ plus_scaled p c xs ys
  plus_scaled-all c [] ys zero l = refl
  plus_scaled-all c [] ys (suc i) l = refl
  plus_scaled-all c (x ∷ xs) [] zero l = refl
  plus_scaled-all c (x ∷ xs) [] (suc i) l = refl
  plus_scaled-all c (x ∷ xs) (y ∷ ys) zero l = absurd (elim l [ inl a ↦ omega (arith, a) | inr a ↦ omega (arith, a) ])
  plus_scaled-all c (x ∷ xs) (y ∷ ys) (suc i) l = ap (λ (zs : List ℕ). ((c * x + y) % p) ∷ zs) (plus_scaled-all c xs ys i (elim l [ inl a ↦ inl (omega (arith, a)) | inr a ↦ inr (omega (arith, a)) ]))

  -- ---- sums of columns

  -- from nothing, a sum is the matrix times the coefficients
  pub sum-matrix : (h : ℕ) (columns : List (List ℕ)) (cs : List ℕ) → sum_onto p (copies h 0) columns cs ≡ matrix_times p h columns cs
  sum-matrix h [] cs = refl
  sum-matrix h (column ∷ columns) [] = refl
  sum-matrix h (column ∷ columns) (c ∷ cs) = ap (plus_scaled p c column) (sum-matrix h columns cs)

  -- what is added to a sum was added before
  sum-in : (c : ℕ) (column sum : List ℕ) (columns : List (List ℕ)) (cs : List ℕ) → plus_scaled p c column (sum_onto p sum columns cs) ≡ sum_onto p (plus_scaled p c column sum) columns cs
  sum-in c column sum [] cs = refl
  sum-in c column sum (x ∷ xs) [] = refl
  sum-in c column sum (x ∷ xs) (d ∷ ds) = commute c column d x (sum_onto p sum xs ds) ∙ ap (plus_scaled p d x) (sum-in c column sum xs ds)

  pub sum-fits : (large : 1 < p) (sum : List ℕ) (columns : List (List ℕ)) (cs : List ℕ) → Fits p columns sum → (length (sum_onto p sum columns cs) ≡ length sum) × Each (λ x. x < p) (sum_onto p sum columns cs)
  sum-fits large sum [] cs h = (refl, h.small)
  sum-fits large sum (x ∷ xs) [] h = (refl, h.small)
  sum-fits large sum (x ∷ xs) (c ∷ cs) h =
      let r = sum-fits large sum xs cs (record { even = h.even.1; small = h.small }) in
      (plus_scaled-length c x (sum_onto p sum xs cs) (h.even.0 ∙ sym r.0) ∙ r.0, plus_scaled-small c x (sum_onto p sum xs cs) large)

  step : (sum : List ℕ) (columns : List (List ℕ)) (cs : List ℕ) (i : ℕ) → i < length columns → i < length cs
      → sum_onto p sum (take (suc i) columns) (take (suc i) cs) ≡ plus_scaled p (get_or cs i 0) (get_or columns i []) (sum_onto p sum (take i columns) (take i cs))
  step sum [] cs i a b = absurd (omega (arith, a))
  step sum (x ∷ xs) [] i a b = absurd (omega (arith, b))
  step sum (x ∷ xs) (c ∷ cs) zero a b = refl
  step sum (x ∷ xs) (c ∷ cs) (suc i) a b =
      ap (plus_scaled p c x) (step sum xs cs i (omega (arith, a)) (omega (arith, b)))
      ∙ commute c x (get_or cs i 0) (get_or xs i []) (sum_onto p sum (take i xs) (take i cs))

  -- one column more
  pub sum-more : (sum : List ℕ) (columns : List (List ℕ)) (cs : List ℕ) (i : ℕ) → i < length columns → i < length cs
      → sum_onto p sum (take (i + 1) columns) (take (i + 1) cs) ≡ plus_scaled p (get_or cs i 0) (get_or columns i []) (sum_onto p sum (take i columns) (take i cs))
  sum-more sum columns cs i a b = let e : suc i ≡ i + 1 = omega arith in subst (λ (n : ℕ). sum_onto p sum (take n columns) (take n cs) ≡ plus_scaled p (get_or cs i 0) (get_or columns i []) (sum_onto p sum (take i columns) (take i cs))) e (step sum columns cs i a b)

  -- no more than there are of both count
  pub sum-all : (sum : List ℕ) (columns : List (List ℕ)) (cs : List ℕ) (i : ℕ) → (length columns ≤ i) ⊎ (length cs ≤ i) → sum_onto p sum (take i columns) (take i cs) ≡ sum_onto p sum columns cs
  sum-all sum [] cs zero l = refl
  sum-all sum [] cs (suc i) l = refl
  sum-all sum (x ∷ xs) [] zero l = refl
  sum-all sum (x ∷ xs) [] (suc i) l = refl
  sum-all sum (x ∷ xs) (c ∷ cs) zero l = absurd (elim l [ inl a ↦ omega (arith, a) | inr a ↦ omega (arith, a) ])
  sum-all sum (x ∷ xs) (c ∷ cs) (suc i) l = ap (plus_scaled p c x) (sum-all sum xs cs i (elim l [ inl a ↦ inl (omega (arith, a)) | inr a ↦ inr (omega (arith, a)) ]))

  -- zeros add nothing
  pub sum-none : (large : 1 < p) (sum : List ℕ) (columns : List (List ℕ)) (cs : List ℕ) → Fits p columns sum → sum_onto p sum columns (map (λ c. 0 * c) cs) ≡ sum
  sum-none large sum [] cs h = refl
  sum-none large sum (x ∷ xs) [] h = refl
  sum-none large sum (x ∷ xs) (c ∷ cs) h =
      let rest : Fits p xs sum = record { even = h.even.1; small = h.small } in
      let n : 0 * c ≡ 0 = omega arith in
      ap₂ (λ (d : ℕ) (s : List ℕ). plus_scaled p d x s) n (sum-none large sum xs cs rest) ∙ plus_scaled-none x sum h.even.0 h.small

  -- first the later columns, then the first ones
  pub sum-parts : (sum : List ℕ) (columns : List (List ℕ)) (cs ds : List ℕ) → sum_onto p sum columns (cs ++ ds) ≡ sum_onto p (sum_onto p sum (take (length cs) columns) cs) (drop (length cs) columns) ds
  sum-parts sum columns [] ds = refl
  sum-parts sum [] (c ∷ cs) ds = refl
  sum-parts sum (x ∷ xs) (c ∷ cs) ds =
      ap (plus_scaled p c x) (sum-parts sum xs cs ds)
      ∙ sum-in c x (sum_onto p sum (take (length cs) xs) cs) (drop (length cs) xs) ds

  pub sum-no-more : (sum : List ℕ) (columns : List (List ℕ)) → sum_onto p sum columns [] ≡ sum
  sum-no-more sum [] = refl
  sum-no-more sum (x ∷ xs) = refl

  -- one column more, in its turn
  pub column-more : (large : 1 < p) (by : ℕ) (sum old new column : List ℕ) (columns : List (List ℕ)) (cs : List ℕ) (i k : ℕ) → i < length columns → i < length cs → column ≡ get_or columns i [] → k ≡ (by * get_or cs i 0) % p
      → Fits p columns sum → old ≡ sum_onto p sum (take i columns) (take i (map (λ c. by * c) cs)) → (length column ≡ length old → Each (λ x. x < p) old → new ≡ plus_scaled p k column old)
      → new ≡ sum_onto p sum (take (i + 1) columns) (take (i + 1) (map (λ c. by * c) cs))
  column-more large by sum old new column columns cs i k l m at is fits h made =
      let es : List ℕ = map (λ c. by * c) cs in
      let count = length-map cs (λ c. by * c) in
      let f = sum-fits large sum (take i columns) (take i es) (record { even = each_take (λ x. length x ≡ length sum) columns i fits.even; small = fits.small }) in
      let long : length column ≡ length old = ap length at ∙ each_get_or (λ x. length x ≡ length sum) columns i [] l fits.even ∙ sym (ap length h ∙ f.0) in
      made long (subst (Each (λ x. x < p)) (sym h) f.1)
      ∙ plus_scaled-mod k (get_or es i 0) column old (Congruent_trans (Congruent_of is) (Congruent_trans (Congruent_mod p (by * get_or cs i 0)) (Congruent_of (sym (mapped-at (λ c. by * c) cs i 0 0 m)))))
      ∙ ap₂ (λ (x y : List ℕ). plus_scaled p (get_or es i 0) x y) at h ∙ sym (sum-more sum columns es i l (omega (arith, m, count)))

  -- a column times nothing, and columns times nothing
  pub column-none : (by : ℕ) (column sum : List ℕ) → by ≡ 0 → length column ≡ length sum → Each (λ x. x < p) sum → sum ≡ plus_scaled p by column sum
  column-none by column sum e l h = sym (ap (λ (c : ℕ). plus_scaled p c column sum) e ∙ plus_scaled-none column sum l h)

  pub columns-none : (large : 1 < p) (by : ℕ) (sum : List ℕ) (columns : List (List ℕ)) (cs : List ℕ) → by ≡ 0 → Fits p columns sum → sum ≡ sum_onto p sum columns (map (λ c. by * c) cs)
  columns-none large by sum columns cs e h = sym (ap (λ (b : ℕ). sum_onto p sum columns (map (λ c. b * c) cs)) e ∙ sum-none large sum columns cs h)

  -- ---- rows of products

  each_drop : {X : Type 0} (P : X → Type 0) (xs : List X) (i : ℕ) → Each P xs → Each P (drop i xs)
  each_drop P [] zero h = tt
  each_drop P [] (suc i) h = tt
  each_drop P (x ∷ xs) zero h = h
  each_drop P (x ∷ xs) (suc i) h = each_drop P xs i h.1

  -- what is left to add: the products of these coefficients
  pub record IsRest (total sum : List ℕ) (rest : List (List ℕ)) (cs ds : List ℕ) : Type 0 where
    pub fits : Fits p rest sum
    pub same : sum_onto p sum rest (coefficient_products cs ds) ≡ total

  -- one row more
  pub row-more : (large : 1 < p) (total sum new : List ℕ) (rest row others : List (List ℕ)) (first second : List ℕ) (i c : ℕ) → i < length first → c ≡ get_or first i c
      → row ≡ take (length second) rest → others ≡ drop (length second) rest → (Fits p row sum → new ≡ sum_onto p sum row (map (λ d. c * d) second))
      → IsRest total sum rest (drop i first) second → IsRest total new others (drop (i + 1) first) second
  row-more large total sum new rest row others first second i c l at is others_are made h =
      let n : ℕ = length second in
      let es : List ℕ = map (λ d. c * d) second in
      let count : length es ≡ n = length-map second (λ d. c * d) in
      let fits : Fits p row sum = record { even = subst (Each (λ column. length column ≡ length sum)) (sym is) (each_take (λ column. length column ≡ length sum) rest n h.fits.even); small = h.fits.small } in
      let new_is = made fits in
      let k = sum-fits large sum row es fits in
      let left : drop i first ≡ c ∷ drop (i + 1) first = drop_more first i c l ∙ ap (λ (x : ℕ). x ∷ drop (i + 1) first) (sym at) in
      let parts = sum-parts sum rest es (coefficient_products (drop (i + 1) first) second)
      ∙ ap (λ (m : ℕ). sum_onto p (sum_onto p sum (take m rest) es) (drop m rest) (coefficient_products (drop (i + 1) first) second)) count in
      record {
        fits = record {
          even = subst (Each (λ column. length column ≡ length new)) (sym others_are)
              (subst (λ (m : ℕ). Each (λ column. length column ≡ m) (drop n rest)) (sym (ap length new_is ∙ k.0)) (each_drop (λ column. length column ≡ length sum) rest n h.fits.even));
          small = subst (Each (λ x. x < p)) (sym new_is) k.1;
        };
        same = ap₂ (λ (s : List ℕ) (cs : List (List ℕ)). sum_onto p s cs (coefficient_products (drop (i + 1) first) second)) (new_is ∙ ap (λ (r : List (List ℕ)). sum_onto p sum r es) is) others_are
            ∙ sym parts ∙ ap (λ (xs : List ℕ). sum_onto p sum rest (coefficient_products xs second)) (sym left) ∙ h.same;
      }

-- a bit is its own remainder
pub bit-mod : (p : ℕ) → 1 < p → (b : Bool) → cond b 1 0 % p ≡ cond b 1 0
bit-mod p large true = mod-eq_of_lt large
bit-mod p large false = mod-eq_of_lt (omega (arith, large))
