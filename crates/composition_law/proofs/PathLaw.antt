-- The boundary of a sum over lattice paths.
use Rattle.std.proofs.{Common.{List, [], ap, arith, length, refl, suc, sym, ℕ, ◌∙◌, ◌∷◌, ◌≡◌, neg_ℤ, pos, pred, ℤ, ◌+ℤ◌}, lemmas.Int.ints}
use Rattle.composition_law.specs.Tuples.{inserted, at_end, path_sum}
use Rattle.signed_sum.{proofs.Names.{signed-+, signed-neg, signed-zero, without_one-sum, without_one-zero}, specs.Names.{signed, without_one}}

module _ (k : ℕ) where
  at_end-sum : (ws : List (List ℕ)) (vs : List (List ℕ)) (a b : ℤ) → at_end ws vs (a +ℤ b) ≡ at_end ws vs a +ℤ at_end ws vs b
  at_end-sum [] [] a b = refl
  at_end-sum [] (v ∷ vs) a b = refl
  at_end-sum (w ∷ ws) vs a b = refl

  at_end-none : (ws : List (List ℕ)) (vs : List (List ℕ)) → at_end ws vs (pos 0) ≡ pos 0
  at_end-none ws vs = let s = at_end-sum ws vs (pos 0) (pos 0) in omega (arith, ints)

  path_sum-sum : (ws : List (List ℕ)) (vs : List (List ℕ)) (f g : List (List ℕ) → ℤ) → path_sum k ws vs (λ r. f r +ℤ g r) ≡ path_sum k ws vs f +ℤ path_sum k ws vs g
  path_sum-sum [] vs f g = refl
  path_sum-sum (w ∷ ws) [] f g = refl
  path_sum-sum (w ∷ ws) (v ∷ vs) f g =
      let a = at_end-sum ws vs (f (inserted k w v ∷ [])) (g (inserted k w v ∷ [])) in
      let b = path_sum-sum ws (v ∷ vs) (λ r. f (inserted k w v ∷ r)) (λ r. g (inserted k w v ∷ r)) in
      let c = ap (λ j. signed (length ws) j) (path_sum-sum (w ∷ ws) vs (λ r. f (inserted k w v ∷ r)) (λ r. g (inserted k w v ∷ r)))
      ∙ signed-+ (length ws) (path_sum k (w ∷ ws) vs (λ r. f (inserted k w v ∷ r))) (path_sum k (w ∷ ws) vs (λ r. g (inserted k w v ∷ r))) in
      omega (arith, ints)

  pub path_sum-zero : (ws : List (List ℕ)) (vs : List (List ℕ)) → path_sum k ws vs (λ r. pos 0) ≡ pos 0
  path_sum-zero ws vs =
      let s : path_sum k ws vs (λ r. pos 0) ≡ path_sum k ws vs (λ r. pos 0) +ℤ path_sum k ws vs (λ r. pos 0) = path_sum-sum ws vs (λ r. pos 0) (λ r. pos 0) in omega (arith, ints)

  path_sum-neg : (ws : List (List ℕ)) (vs : List (List ℕ)) (f : List (List ℕ) → ℤ) → path_sum k ws vs (λ r. neg_ℤ (f r)) ≡ neg_ℤ (path_sum k ws vs f)
  path_sum-neg ws vs f =
      let z : path_sum k ws vs (λ r. f r +ℤ neg_ℤ (f r)) ≡ pos 0 = (λ i. path_sum k ws vs (λ r. (let e : f r +ℤ neg_ℤ (f r) ≡ pos 0 = omega (arith, ints) in e) i)) ∙ path_sum-zero ws vs in
      omega (arith, ints, z, path_sum-sum ws vs f (λ r. neg_ℤ (f r)))

  path_sum-right : (ws : List (List ℕ)) (h : List (List ℕ) → ℤ) → path_sum k ws [] h ≡ pos 0
  path_sum-right [] h = refl
  path_sum-right (w ∷ ws) h = refl

  -- z where both lists have one entry
  abbrev pub ones : List (List ℕ) → List (List ℕ) → ℤ → ℤ
  ones [] vs z = pos 0
  ones (w ∷ ws) [] z = pos 0
  ones (w ∷ ws) (v ∷ vs) z = at_end ws vs z

  at_end-more : (ws : List (List ℕ)) (v : List ℕ) (vs : List (List ℕ)) (z : ℤ) → at_end ws (v ∷ vs) z ≡ pos 0
  at_end-more [] v vs z = refl
  at_end-more (w ∷ ws) v vs z = refl

  end-left : (ws : List (List ℕ)) (v : List ℕ) (vs : List (List ℕ)) (z : ℤ) → without_one ws (λ us. at_end us vs z) ≡ ones ws (v ∷ vs) z
  end-left [] v vs z = refl
  end-left (w ∷ ws) v vs z = let a = without_one-zero ws in omega (arith, ints)

  end-right : (w : List ℕ) (ws : List (List ℕ)) (vs : List (List ℕ)) (z : ℤ) → without_one vs (λ us. at_end ws us z) ≡ ones (w ∷ ws) vs z
  end-right w ws [] z = refl
  end-right w ws (v ∷ vs) z =
      let b : without_one vs (λ us. at_end ws (v ∷ us) z) ≡ pos 0 = ap (λ g. without_one vs g) (λ i us. at_end-more ws v us z i) ∙ without_one-zero vs in
      omega (arith, ints)

  -- ---- the law

  -- one step less has the other sign; where no step is left the sum is nothing
  flip-more : (ws : List (List ℕ)) (v : List ℕ) (vs : List (List ℕ)) (f : List (List ℕ) → ℤ) →
      signed (pred (length ws)) (path_sum k ws vs f +ℤ neg_ℤ (without_one vs (λ us. path_sum k ws (v ∷ us) f))) ≡ neg_ℤ (signed (length ws) (path_sum k ws vs f +ℤ neg_ℤ (without_one vs (λ us. path_sum k ws (v ∷ us) f))))
  flip-more [] v vs f = let a = without_one-zero vs in omega (arith, ints)
  flip-more (w ∷ ws) v vs f = omega (arith, ints)

  pub paths-law : (ws : List (List ℕ)) (vs : List (List ℕ)) (h : List (List ℕ) → ℤ) →
      path_sum k ws vs (λ t. without_one t h)
      ≡ without_one ws (λ us. path_sum k us vs h) +ℤ (signed (pred (length ws)) (without_one vs (λ us. path_sum k ws us h)) +ℤ ones ws vs (h []))
  paths-law [] vs h = let a = without_one-zero vs in omega (arith, ints)
  paths-law (w ∷ ws) [] h =
      let a : without_one ws (λ us. path_sum k (w ∷ us) [] h) ≡ pos 0 = without_one-zero ws in
      let c = path_sum-right ws h in
      let b = signed-zero (length ws) in
      omega (arith, ints)
  paths-law (w ∷ ws) (v ∷ vs) h =
      let f : List (List ℕ) → ℤ = λ r. h (inserted k w v ∷ r) in
      let n : ℕ = length ws in
      let X : ℤ = path_sum k ws (v ∷ vs) h in
      let Y : ℤ = path_sum k (w ∷ ws) vs h in
      let A1 : ℤ = without_one ws (λ us. path_sum k us (v ∷ vs) f) in
      let M : ℤ = path_sum k ws vs f in
      let Q : ℤ = without_one vs (λ us. path_sum k ws (v ∷ us) f) in
      let O1 : ℤ = ones ws (v ∷ vs) (f []) in
      let N : ℤ = without_one ws (λ us. path_sum k (w ∷ us) vs f) in
      let B1 : ℤ = without_one vs (λ us. path_sum k (w ∷ ws) us f) in
      let O2 : ℤ = ones (w ∷ ws) vs (f []) in
      let i1 = paths-law ws (v ∷ vs) f in
      let i2 = paths-law (w ∷ ws) vs f in
      -- the left side
      let x1 = path_sum-sum ws (v ∷ vs) h (λ r. neg_ℤ (without_one r f)) in
      let x2 = path_sum-neg ws (v ∷ vs) (λ r. without_one r f) in
      let y1 : signed n (path_sum k (w ∷ ws) vs (λ r. h r +ℤ neg_ℤ (without_one r f))) ≡ signed n Y +ℤ neg_ℤ (signed n (path_sum k (w ∷ ws) vs (λ r. without_one r f))) =
      ap (λ j. signed n j) (path_sum-sum (w ∷ ws) vs h (λ r. neg_ℤ (without_one r f)) ∙ ap (λ j. Y +ℤ j) (path_sum-neg (w ∷ ws) vs (λ r. without_one r f)))
      ∙ signed-+ n Y (neg_ℤ (path_sum k (w ∷ ws) vs (λ r. without_one r f))) ∙ ap (λ j. signed n Y +ℤ j) (signed-neg n (path_sum k (w ∷ ws) vs (λ r. without_one r f))) in
      let y2 : signed n (path_sum k (w ∷ ws) vs (λ r. without_one r f)) ≡ signed n (M +ℤ neg_ℤ N) +ℤ (signed n (signed n B1) +ℤ signed n O2) =
      ap (λ j. signed n j) i2 ∙ signed-+ n (M +ℤ neg_ℤ N) (signed n B1 +ℤ O2) ∙ ap (λ j. signed n (M +ℤ neg_ℤ N) +ℤ j) (signed-+ n (signed n B1) O2) in
      let y3 = signed-+ n M (neg_ℤ N) in
      let y4 = signed-neg n N in
      let l0 = at_end-sum ws vs (h []) (neg_ℤ (pos 0)) in
      let l1 : at_end ws vs (neg_ℤ (pos 0)) ≡ pos 0 = at_end-none ws vs in
      -- the first sum on the right
      let r1 : without_one ws (λ us. path_sum k (w ∷ us) (v ∷ vs) h) ≡ O1 +ℤ (A1 +ℤ signed (pred n) N) =
      without_one-same ws (λ us. path_sum k (w ∷ us) (v ∷ vs) h) (λ us. at_end us vs (f []) +ℤ (path_sum k us (v ∷ vs) f +ℤ signed (pred n) (path_sum k (w ∷ us) vs f)))
      (λ us e. ap (λ j. at_end us vs (f []) +ℤ (path_sum k us (v ∷ vs) f +ℤ signed j (path_sum k (w ∷ us) vs f))) (ap pred e))
      ∙ without_one-sum ws (λ us. at_end us vs (f [])) (λ us. path_sum k us (v ∷ vs) f +ℤ signed (pred n) (path_sum k (w ∷ us) vs f))
      ∙ (λ i. end-left ws v vs (f []) i +ℤ without_one-sum ws (λ us. path_sum k us (v ∷ vs) f) (λ us. signed (pred n) (path_sum k (w ∷ us) vs f)) i)
      ∙ ap (λ j. O1 +ℤ (A1 +ℤ j)) (without_one-signed (pred n) ws (λ us. path_sum k (w ∷ us) vs f)) in
      -- the second sum on the right
      let r2 : without_one vs (λ us. path_sum k (w ∷ ws) (v ∷ us) h) ≡ O2 +ℤ (Q +ℤ signed n B1) =
      without_one-sum vs (λ us. at_end ws us (f [])) (λ us. path_sum k ws (v ∷ us) f +ℤ signed n (path_sum k (w ∷ ws) us f))
      ∙ (λ i. end-right w ws vs (f []) i +ℤ without_one-sum vs (λ us. path_sum k ws (v ∷ us) f) (λ us. signed n (path_sum k (w ∷ ws) us f)) i)
      ∙ ap (λ j. O2 +ℤ (Q +ℤ j)) (without_one-signed n vs (λ us. path_sum k (w ∷ ws) us f)) in
      let r3 : signed n (Y +ℤ neg_ℤ (without_one vs (λ us. path_sum k (w ∷ ws) (v ∷ us) h))) ≡ signed n Y +ℤ neg_ℤ (signed n O2 +ℤ (signed n Q +ℤ signed n (signed n B1))) =
      signed-+ n Y (neg_ℤ (without_one vs (λ us. path_sum k (w ∷ ws) (v ∷ us) h)))
      ∙ ap (λ j. signed n Y +ℤ j) (signed-neg n (without_one vs (λ us. path_sum k (w ∷ ws) (v ∷ us) h)) ∙ ap neg_ℤ (ap (λ j. signed n j) r2 ∙ signed-+ n O2 (Q +ℤ signed n B1) ∙ ap (λ j. signed n O2 +ℤ j) (signed-+ n Q (signed n B1)))) in
      -- signs of one step
      let s1 = flip-more ws v vs f in
      let s2 = signed-+ n M (neg_ℤ Q) in
      let s3 = signed-neg n Q in
      let s4 : signed (pred n) N ≡ neg_ℤ (signed n N) = flip-left ws vs f w in
      omega (arith, ints)
    where
      without_one-same : (ws : List (List ℕ)) (f g : List (List ℕ) → ℤ) → ((us : List (List ℕ)) → suc (length us) ≡ length ws → f us ≡ g us) → without_one ws f ≡ without_one ws g
      without_one-same [] f g e = refl
      without_one-same (w ∷ ws) f g e =
          let a = e ws refl in
          let b = without_one-same ws (λ us. f (w ∷ us)) (λ us. g (w ∷ us)) (λ us q. e (w ∷ us) (ap suc q)) in
          omega (arith, ints)

      without_one-signed : {D : Type 0} (n : ℕ) (ws : List D) (g : List D → ℤ) → without_one ws (λ us. signed n (g us)) ≡ signed n (without_one ws g)
      without_one-signed n [] g = sym (signed-zero n)
      without_one-signed n (w ∷ ws) g =
          let a = without_one-signed n ws (λ us. g (w ∷ us)) in
          let b = signed-+ n (g ws) (neg_ℤ (without_one ws (λ us. g (w ∷ us)))) in
          let c = signed-neg n (without_one ws (λ us. g (w ∷ us))) in
          omega (arith, ints)

      flip-left : (ws : List (List ℕ)) (vs : List (List ℕ)) (f : List (List ℕ) → ℤ) (w : List ℕ) → signed (pred (length ws)) (without_one ws (λ us. path_sum k (w ∷ us) vs f)) ≡ neg_ℤ (signed (length ws) (without_one ws (λ us. path_sum k (w ∷ us) vs f)))
      flip-left [] vs f w = refl
      flip-left (x ∷ ws) vs f w = omega (arith, ints)

  -- each list begins with the entry of the first two
  path_sum-begins : (ws : List (List ℕ)) (vs : List (List ℕ)) (w : List ℕ) (v : List ℕ) (h : List (List ℕ) → ℤ) → ((r : List (List ℕ)) → h (inserted k w v ∷ r) ≡ pos 0) → path_sum k (w ∷ ws) (v ∷ vs) h ≡ pos 0
  path_sum-begins ws vs w v h z =
      let a = ap (λ j. at_end ws vs j) (z []) ∙ at_end-none ws vs in
      let b = ap (λ g. path_sum k ws (v ∷ vs) g) (λ i r. z r i) ∙ path_sum-zero ws (v ∷ vs) in
      let c = ap (λ g. signed (length ws) (path_sum k (w ∷ ws) vs g)) (λ i r. z r i) ∙ ap (λ j. signed (length ws) j) (path_sum-zero (w ∷ ws) vs) ∙ signed-zero (length ws) in
      omega (arith, ints)

-- two equal neighbours
pub data Twins : List (List ℕ) → Type 0 where
  here : {x : List ℕ} {f : List (List ℕ)} → Twins (x ∷ x ∷ f)
  there : {x : List ℕ} {f : List (List ℕ)} → Twins f → Twins (x ∷ f)

module _ (k : ℕ) where
  pub twins-left : (ws : List (List ℕ)) (vs : List (List ℕ)) (h : List (List ℕ) → ℤ) → ((t : List (List ℕ)) → Twins t → h t ≡ pos 0) → Twins ws → path_sum k ws vs h ≡ pos 0
  twins-left ws [] h n t = path_sum-right k ws h
  twins-left _ (v ∷ vs) h n (here {x = w} {f = ws}) =
      let a = path_sum-begins k ws vs w v (λ r. h (inserted k w v ∷ r)) (λ r. n (inserted k w v ∷ inserted k w v ∷ r) here) in
      let b = ap (λ j. signed (suc (length ws)) j) (twins-left (w ∷ w ∷ ws) vs (λ r. h (inserted k w v ∷ r)) (λ t q. n (inserted k w v ∷ t) (there q)) here) ∙ signed-zero (suc (length ws)) in
      omega (arith, ints)
  twins-left _ (v ∷ vs) h n (there {x = w} {f = ws} t) =
      let l = at_end-twins ws vs (h (inserted k w v ∷ [])) t in
      let a = twins-left ws (v ∷ vs) (λ r. h (inserted k w v ∷ r)) (λ t q. n (inserted k w v ∷ t) (there q)) t in
      let b = ap (λ j. signed (length ws) j) (twins-left (w ∷ ws) vs (λ r. h (inserted k w v ∷ r)) (λ t q. n (inserted k w v ∷ t) (there q)) (there t)) ∙ signed-zero (length ws) in
      omega (arith, ints)
    where
      at_end-twins : (ws : List (List ℕ)) (vs : List (List ℕ)) (z : ℤ) → Twins ws → at_end ws vs z ≡ pos 0
      at_end-twins _ vs z (here {x = x} {f = f}) = refl
      at_end-twins _ vs z (there {x = x} {f = f} t) = refl

  pub twins-right : (ws : List (List ℕ)) (vs : List (List ℕ)) (h : List (List ℕ) → ℤ) → ((t : List (List ℕ)) → Twins t → h t ≡ pos 0) → Twins vs → path_sum k ws vs h ≡ pos 0
  twins-right [] vs h n t = refl
  twins-right (w ∷ ws) _ h n (here {x = v} {f = vs}) =
      let l = at_end-more k ws v vs (h (inserted k w v ∷ [])) in
      let a = twins-right ws (v ∷ v ∷ vs) (λ r. h (inserted k w v ∷ r)) (λ t q. n (inserted k w v ∷ t) (there q)) here in
      let b = ap (λ j. signed (length ws) j) (path_sum-begins k ws vs w v (λ r. h (inserted k w v ∷ r)) (λ r. n (inserted k w v ∷ inserted k w v ∷ r) here)) ∙ signed-zero (length ws) in
      omega (arith, ints)
  twins-right (w ∷ ws) _ h n (there {x = v} {f = vs} t) =
      let l = at_end-twins ws vs (h (inserted k w v ∷ [])) t in
      let a = twins-right ws (v ∷ vs) (λ r. h (inserted k w v ∷ r)) (λ t q. n (inserted k w v ∷ t) (there q)) (there t) in
      let b = ap (λ j. signed (length ws) j) (twins-right (w ∷ ws) vs (λ r. h (inserted k w v ∷ r)) (λ t q. n (inserted k w v ∷ t) (there q)) t) ∙ signed-zero (length ws) in
      omega (arith, ints)
    where
      at_end-twins : (ws : List (List ℕ)) (vs : List (List ℕ)) (z : ℤ) → Twins vs → at_end ws vs z ≡ pos 0
      at_end-twins [] _ z (here {x = x} {f = f}) = refl
      at_end-twins [] _ z (there {x = x} {f = f} t) = refl
      at_end-twins (w ∷ ws) vs z t = refl
