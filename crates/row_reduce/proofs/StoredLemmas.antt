-- What is left in a sum, and the table of the leads.
use Rattle.std.proofs.Common.{◌≡◌, ℕ, ◌+◌, ◌*◌, ◌-◌, ◌<◌, ◌≤◌, ◌≢◌, ◌⊎◌, List, [], ◌∷◌, ◌++◌, map, take, length, get_or, set, arith, refl, sym, ◌∙◌, ap, subst, inl, inr, get_or-set_other, get_or-set_same, length-set, Option, None, Some}
use Rattle.row_reduce.{proofs.Below.{cases_eq, cases_lt, get_or_past, Congruent, Among, StartsAt, IsBelow, value_in, Congruent_refl, Congruent_of, Congruent_sym, Congruent_trans, Congruent_add, Congruent_mul, Congruent_scale, Congruent_from, add-negated, each_push, get_before, get_last, length_push, put_sum, sum_take}, specs.Names.{Stored, IsClear, IsRest, IsStoredFrom, Owns, stored_place}, proofs.SumLemmas.{entry_at, entry_away, entry_here}}

-- while the rest is taken: what is before `at` has moved
pub record Taking (p : ℕ) (old sum : List ℕ) (rest : List (ℕ × ℕ)) (at : ℕ) : Type 0 where
  pub gone : StartsAt p at (λ y. get_or sum y 0)
  pub left : (y : ℕ) → at ≤ y → get_or sum y 0 ≡ get_or old y 0
  pub fits : IsBelow (length old) rest
  pub moved : (y : ℕ) → y < at → Congruent p (value_in rest y) (get_or old y 0)
  pub nothing : (y : ℕ) → at ≤ y → value_in rest y ≡ 0

pub first_step : (row : List (ℕ × ℕ)) (i first new : ℕ) (e : ℕ × ℕ) → e ≡ get_or row i e → i < length row → new ≤ first → new ≤ e.0
    → ((y : ℕ) → y < first → value_in (take i row) y ≡ 0) → (y : ℕ) → y < new → value_in (take (i + 1) row) y ≡ 0
first_step row i first new e is b low here h y c =
    let more : value_in (take (i + 1) row) y ≡ value_in (take i row) y + entry_at e y =
    sum_take (λ (f : ℕ × ℕ). entry_at f y) row i e b ∙ ap (λ (f : ℕ × ℕ). value_in (take i row) y + entry_at f y) (sym is) in
    let n : y ≢ e.0 = omega arith in
    more ∙ omega (arith, h y (omega arith), entry_away e y n)

pub taking_step : (p : ℕ) (old sum : List ℕ) (rest : List (ℕ × ℕ)) (at value : ℕ) → value ≡ get_or sum at 0 → at < length sum → length sum ≡ length old → Taking p old sum rest at
    → Taking p old (set sum at 0) (rest ++ ((at, value) ∷ [])) (at + 1)
taking_step p old sum rest at value is inside full h =
    let same : value ≡ get_or old at 0 = is ∙ h.left at (omega arith) in
    record {
      gone = record {
        before = λ y b. elim (cases_eq y at) [
          | inl e ↦ Congruent_of (ap (λ z. get_or (set sum at 0) z 0) e ∙ get_or-set_same sum at 0 0 inside)
          | inr n ↦ rw get_or-set_other (h.gone.before y (omega arith))
        ];
      };
      left = λ y b. let n : y ≢ at = omega arith in rw get_or-set_other (h.left y (omega arith));
      fits = each_push (λ (e : ℕ × ℕ). e.0 < length old) rest (at, value) h.fits (omega arith);
      moved = λ y b. Congruent_trans (Congruent_of (put_sum rest at value y)) (elim (cases_eq y at) [
        | inl e ↦ Congruent_of (omega (arith, h.nothing y (omega arith), entry_here (at, value) y e, same, ap (λ z. get_or old z 0) e))
        | inr n ↦ let away = entry_away (at, value) y n in Congruent_from (h.moved y (omega arith)) (omega (arith, away))
      ]);
      nothing = λ y b. let n : y ≢ at = omega arith in
          put_sum rest at value y ∙ omega (arith, h.nothing y (omega arith), entry_away (at, value) y n);
    }

pub taking_past : (p : ℕ) (old sum : List ℕ) (rest : List (ℕ × ℕ)) (at : ℕ) → get_or sum at 0 ≡ 0 → Taking p old sum rest at → Taking p old sum rest (at + 1)
taking_past p old sum rest at zero_at h = record {
  gone = record { before = λ y b. elim (cases_eq y at) [ inl e ↦ Congruent_of (ap (λ z. get_or sum z 0) e ∙ zero_at) | inr n ↦ h.gone.before y (omega arith) ] };
  left = λ y b. h.left y (omega arith);
  fits = h.fits;
  moved = λ y b. elim (cases_eq y at) [
    | inl e ↦ Congruent_of (h.nothing y (omega arith) ∙ sym zero_at ∙ h.left at (omega arith) ∙ ap (λ z. get_or old z 0) (sym e))
    | inr n ↦ h.moved y (omega arith)
  ];
  nothing = λ y b. h.nothing y (omega arith);
}

pub taking_start : (p : ℕ) (sum : List ℕ) (start : ℕ) → StartsAt p start (λ y. get_or sum y 0) → Taking p sum sum [] start
taking_start p sum start h = record { gone = h; left = λ y b. refl; fits = tt; moved = λ y b. Congruent_sym (h.before y b); nothing = λ y b. refl }

-- nothing is left past the end
pub all_clear : (p : ℕ) (sum : List ℕ) (at : ℕ) → length sum ≤ at → StartsAt p at (λ y. get_or sum y 0) → IsClear p sum
all_clear p sum at b h = record { zero = λ y. elim (cases_lt y at) [ inl c ↦ h.before y c | inr c ↦ Congruent_of (get_or_past sum y 0 (omega arith)) ] }

pub stored_from : (p : ℕ) (old new : List ℕ) (t inv : ℕ) (i : Stored p) → IsRest p old new i.row → t < length old → StartsAt p t (λ y. get_or old y 0)
    → Congruent p (get_or old t 0 * inv) 1 → Congruent p (i.factor + inv) 0 → i.place ≡ t → IsStoredFrom p old new t i.source i.history i
stored_from p old new t inv i rest inside before product cancels at = record {
  clear = rest.clear;
  fits = record {
    inside = omega arith;
    entries = rest.fits;
    factor =
        let v = get_or old t 0 in
        let e : Congruent p (value_in i.row i.place) v = Congruent_trans (Congruent_of (ap (value_in i.row) at)) (rest.row t) in
        Congruent_from (Congruent_add (Congruent_mul e (Congruent_refl i.factor)) (Congruent_add (Congruent_scale v cancels) (Congruent_sym product))) (omega arith);
    leads = record { before = λ y b. Congruent_trans (rest.row y) (before.before y (omega arith)) };
  };
  place = at;
  source_is = refl;
  history_is = refl;
  row = rest.row;
}

-- ---- one more row at the end

among_push : {X : Type 0} (f : X → ℕ) (xs : List X) (x : X) (y : ℕ) → Among y (map f (xs ++ (x ∷ []))) → Among y (map f xs) ⊎ (f x ≡ y)
among_push f [] x y m = elim m [ inl e ↦ inr e | inr k ↦ elim k [ ] ]
among_push f (z ∷ xs) x y m = elim m [ inl e ↦ inl (inl e) | inr k ↦ elim (among_push f xs x y k) [ inl a ↦ inl (inr a) | inr e ↦ inr e ] ]

pub some_is : (a b : ℕ) → Some a ≡ Some b → a ≡ b
some_is a b e = ap (λ (o : Option ℕ). elim o [ None ↦ a | Some x ↦ x ]) e

pub some_none : (a : ℕ) → Some a ≡ None → ⊥
some_none a e = grind arith

pub owns_more : {p : ℕ} (width : ℕ) (images : List (Stored p)) (pivots : List (Option ℕ)) (i : Stored p) (n : ℕ) → n ≡ length images → i.place < width → Owns width images pivots
    → Owns width (images ++ (i ∷ [])) (set pivots i.place (Some n))
owns_more {p} width images pivots i n count inside h =
    let b : i.place < length pivots = let f = h.full in omega arith in
    let here : get_or (set pivots i.place (Some n)) i.place None ≡ Some n = get_or-set_same pivots i.place (Some n) None b in
    record {
      full = length-set pivots i.place (Some n) ∙ h.full;
      some = λ y k e. elim (cases_eq y i.place) [
        | inl q ↦
            let f : n ≡ k = some_is n k (sym here ∙ ap (λ z. get_or (set pivots i.place (Some n)) z None) (sym q) ∙ e) in (
              let l = length_push images i in omega arith,
              λ d. ap (λ z. (get_or (images ++ (i ∷ [])) z d).place) (sym f ∙ count) ∙ ap (λ (s : Stored p). s.place) (get_last images i d) ∙ sym q,
            )
        | inr m ↦
            let o = h.some y k (sym (get_or-set_other pivots i.place y (Some n) None m) ∙ e) in (
              let l = length_push images i in let c = o.0 in omega arith,
              λ d. ap (λ (s : Stored p). s.place) (get_before images i k d o.0) ∙ o.1 d,
            )
      ];
      none = λ y c e m. elim (cases_eq y i.place) [
        | inl q ↦ some_none n (sym here ∙ ap (λ z. get_or (set pivots i.place (Some n)) z None) (sym q) ∙ e)
        | inr o ↦ elim (among_push stored_place images i y m) [ inl a ↦ h.none y c (sym (get_or-set_other pivots i.place y (Some n) None o) ∙ e) a | inr q ↦ o (sym q) ]
      ];
    }

-- a row that was not reduced is what was given, and is cleared by taking it away
pub given_rest : (p : ℕ) (old new : List ℕ) (row rest : List (ℕ × ℕ)) → 1 < p → IsBelow (length old) row → rest ≡ row
    → ((y : ℕ) → Congruent p (get_or old y 0) (value_in row y)) → ((y : ℕ) → Congruent p (get_or new y 0) (get_or old y 0 + (p - 1) * value_in row y)) → IsRest p old new rest
given_rest p old new row rest large fits is same taken = record {
  clear = record { zero = λ y. Congruent_from (Congruent_add (taken y) (Congruent_add (same y) (add-negated p (value_in row y) large))) (omega arith) };
  fits = subst (IsBelow (length old)) (sym is) fits;
  row = λ y. Congruent_trans (Congruent_of (ap (λ (r : List (ℕ × ℕ)). value_in r y) is)) (Congruent_sym (same y));
}
