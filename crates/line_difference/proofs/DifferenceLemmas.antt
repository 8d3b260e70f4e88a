-- The two sides of a line and their difference, from rows by place.
use Rattle.std.proofs.{Common.{◌≡◌, ℕ, ◌+◌, ◌*◌, Bool, ◌-◌, ◌%◌, ◌≤◌, ◌&&◌, true, List, [], ◌∷◌, ◌++◌, map, length, arith, refl, sym, ap, subst, ◌∙◌, IsTrue, Result, Ok, Err, IfOk, leb-true}, lemmas.Bool.and_parts}
use Rattle.fp_field.{specs.Served.served, proofs.ServedLemmas.{for_served, served_field}}
use Rattle.linear_law.{specs.Names.{Congruent, negated, Each}, proofs.Names.{Congruent_add, Congruent_mod, Congruent_mul, Congruent_of, Congruent_refl, Congruent_scale, Congruent_trans, each_zip, zip_push, sum_append}}
use Rattle.signed_sum.specs.Names.{numbers_from}
use Rattle.simplicial_law.{specs.Names.{AgreesOnSimplices, Cochain as SimplexCochain}, proofs.Names.{cocycles, CongruentInt_sym, CongruentInt_trans}}
use Rattle.steenrod_law.{specs.Names.{cup_product, extended}, proofs.Complexes.weak_of_simplex, proofs.OperationLaws.{operation-faces, to_residues, value-same, vertices}}
use Rattle.sparse_rows.specs.Rows.{IsBelow, IsRow, value_in}
use Rattle.complex_index.specs.{declared.indexed.Cochain.Cochain, Names.{IsIndexOf, level}}
use Rattle.may_steenrod.specs.Cochains.{HasValues, IsClosed, cochain_in}
use Rattle.report.specs.declared.plan.{Line.Line, Op.Op}
use Rattle.report_law.{specs.Names.{IsCartanProduct, IsOperation, cartan_op, cartan_pairs, element_degree, is_defined, target_degree, line_degree}, proofs.Names.{agrees-trans, each-of, of-filter, of-map, of-numbers, scaled, extended-alike}}
use Rattle.line_difference.{specs.Differences.{IsLess, IsLinePair, IsPart, IsPlacedIn}, specs.Elements.HasElements, proofs.RowSums.{sum-agrees, sum-below}}

-- ---- what holds of an answer in parts

pub of-three : {X Y : Type 0} (r : Result X Y) (P Q R S : X → Type 0) → ((x : X) → P x → Q x → R x → S x) → IfOk r P → IfOk r Q → IfOk r R → IfOk r S
of-three (Ok x) P Q R S f a b c = f x a b c
of-three (Err e) P Q R S f a b c = tt

pub of-four : {X Y : Type 0} (r : Result X Y) (P Q R S T : X → Type 0) → ((x : X) → P x → Q x → R x → S x → T x) → IfOk r P → IfOk r Q → IfOk r R → IfOk r S → IfOk r T
of-four (Ok x) P Q R S T f a b c d = f x a b c d
of-four (Err e) P Q R S T f a b c d = tt

-- ---- degrees

-- operations on degrees up to 15 end below 256
pub target-low : (p n q : ℕ) → IsTrue (served p) → q ≤ 15 → is_defined p q (cartan_op p n) ≡ true → target_degree p q (cartan_op p n) ≤ 255
target-low p n q is_served = for_served (λ (m : ℕ). q ≤ 15 → is_defined m q (cartan_op m n) ≡ true → target_degree m q (cartan_op m n) ≤ 255) p
    (λ l h. let k = leb-true n q h in omega (arith, l, k)) (λ l h. let k = leb-true (2 * n) q h in omega (arith, l, k)) (λ l h. let k = leb-true (2 * n) q h in omega (arith, l, k)) is_served

-- the degrees of the operations of a pair add up to that of the line
pub targets-add : (p a b i j : ℕ) → IsTrue (served p) → target_degree p a (cartan_op p i) + target_degree p b (cartan_op p j) ≡ target_degree p (a + b) (cartan_op p (i + j))
targets-add p a b i j is_served = for_served (λ (m : ℕ). target_degree m a (cartan_op m i) + target_degree m b (cartan_op m j) ≡ target_degree m (a + b) (cartan_op m (i + j))) p
    (omega arith) (omega arith) (omega arith) is_served

-- ---- operations on cochains that agree

operation-alike : (facets : List (List ℕ)) (p q : ℕ) (op : Op) (z w b : SimplexCochain) → IsTrue (served p) → is_defined p q op ≡ true → AgreesOnSimplices facets q p z w → IsOperation facets p op q z b → IsOperation facets p op q w b
operation-alike facets p q op z w b is_served defined same h =
    let field = served_field p is_served in
    let form = scaled p op q is_served defined in
    let d : ℕ = element_degree p q op in
    form.back facets w b (agrees-trans (form.there facets z b h) (record {
      at = λ s on.
          let v = vertices p field facets (target_degree p q op) s on in
          Congruent_scale form.scale (to_residues p field
          (CongruentInt_trans (value-same p field d q z s v)
          (CongruentInt_trans (operation-faces p field d facets (extended q z) (extended q w) s (weak_of_simplex facets (target_degree p q op) s on) v (extended-alike facets p field q z w same))
          (CongruentInt_sym (value-same p field d q w s v)))));
    }))

-- ---- what calls tell, at the degrees of the line

-- out is the row of a product
pub record IsProductRow (p : ℕ) (levels : List (List (List ℕ))) (q k : ℕ) (first second out : List (ℕ × ℕ)) : Type 0 where
  pub values : HasValues p levels (q + k) (cup_product p q k (cochain_in levels q first) (cochain_in levels k second)) out
  pub closed : IsClosed p levels q first → IsClosed p levels k second → IsClosed p levels (q + k) out

-- out is the row of a result of the operation
pub record IsResultRow (p : ℕ) (levels : List (List (List ℕ))) (op : Op) (q : ℕ) (row out : List (ℕ × ℕ)) : Type 0 where
  pub inside : IsBelow (length (level levels (target_degree p q op))) out
  pub operation : (facets : List (List ℕ)) → IsIndexOf facets levels → IsOperation facets p op q (cochain_in levels q row) (cochain_in levels (target_degree p q op) out)
  pub closed : IsClosed p levels q row → IsClosed p levels (target_degree p q op) out

product-at : (p : ℕ) (levels : List (List (List ℕ))) (q k a b : ℕ) (first second out : List (ℕ × ℕ)) → q ≡ a → k ≡ b → IsProductRow p levels q k first second out → IsProductRow p levels a b first second out
product-at p levels q k a b first second out e f h =
    subst (λ (m : ℕ). IsProductRow p levels a m first second out) f (subst (λ (m : ℕ). IsProductRow p levels m k first second out) e h)

result-at : (p : ℕ) (levels : List (List (List ℕ))) (op : Op) (q a : ℕ) (row out : List (ℕ × ℕ)) → q ≡ a → IsResultRow p levels op q row out → IsResultRow p levels op a row out
result-at p levels op q a row out e h = subst (λ (m : ℕ). IsResultRow p levels op m row out) e h

module _ (p : ℕ) (is_served : IsTrue (served p)) (levels : List (List (List ℕ))) (line : Line) (x y : Cochain p) (first : IsPlacedIn p levels line.a x) (second : IsPlacedIn p levels line.b y) where
  abbrev n : ℕ
  n = line_degree p line

  abbrev a_class : SimplexCochain
  a_class = cochain_in levels line.a x.row

  abbrev b_class : SimplexCochain
  b_class = cochain_in levels line.b y.row

  abbrev IsProductOf : List (List ℕ) → ℕ × ℕ → SimplexCochain → Type 0
  IsProductOf facets pair w = IsCartanProduct facets p line.a line.b a_class b_class pair.0 pair.1 w

  pub whole-side : (z r : Cochain p) → is_defined p (line.a + line.b) (cartan_op p line.n) ≡ true → z.degree ≡ x.degree + y.degree → IsProductRow p levels x.degree y.degree x.row y.row z.row
      → r.degree ≡ target_degree p z.degree (cartan_op p line.n) → IsResultRow p levels (cartan_op p line.n) z.degree z.row r.row → IsLess {p = p} levels line x y [] r
  whole-side z r defined degree product end result =
      let here : z.degree ≡ line.a + line.b = degree ∙ (λ i. first.degree i + second.degree i) in
      let of_pair = product-at p levels x.degree y.degree line.a line.b x.row y.row z.row first.degree second.degree product in
      let made = result-at p levels (cartan_op p line.n) z.degree (line.a + line.b) z.row r.row here result in
      record {
        placed = record { degree = end ∙ ap (λ (m : ℕ). target_degree p m (cartan_op p line.n)) here; inside = made.inside };
        closed = λ u v. made.closed (of_pair.closed u v);
        whole = cochain_in levels n r.row;
        is_whole = λ facets is. operation-alike facets p (line.a + line.b) (cartan_op p line.n) (cochain_in levels (line.a + line.b) z.row) (cup_product p line.a line.b a_class b_class) (cochain_in levels n r.row)
            is_served defined (of_pair.values.values facets is) (made.operation facets is);
        parts = [];
        are_parts = λ facets is. tt;
        difference = λ facets is. record { at = λ s on. Congruent_of (omega arith) };
      }

  pub part-side : (table : _) (pair : ℕ × ℕ) (left right r : Cochain p) → IsLinePair p table line pair → left.degree ≡ target_degree p x.degree (cartan_op p pair.0) → IsResultRow p levels (cartan_op p pair.0) x.degree x.row left.row
      → right.degree ≡ target_degree p y.degree (cartan_op p pair.1) → IsResultRow p levels (cartan_op p pair.1) y.degree y.row right.row
      → IsProductRow p levels left.degree right.degree left.row right.row r.row → IsPart {p = p} levels line x y pair r
  part-side table pair left right r pairs left_end left_result right_end right_result product =
      let q : ℕ = target_degree p line.a (cartan_op p pair.0) in
      let k : ℕ = target_degree p line.b (cartan_op p pair.1) in
      let lefts = result-at p levels (cartan_op p pair.0) x.degree line.a x.row left.row first.degree left_result in
      let rights = result-at p levels (cartan_op p pair.1) y.degree line.b y.row right.row second.degree right_result in
      let made = product-at p levels left.degree right.degree q k left.row right.row r.row (left_end ∙ ap (λ (m : ℕ). target_degree p m (cartan_op p pair.0)) first.degree) (right_end ∙ ap (λ (m : ℕ). target_degree p m (cartan_op p pair.1)) second.degree) product in
      let e : q + k ≡ n = targets-add p line.a line.b pair.0 pair.1 is_served ∙ ap (λ (m : ℕ). target_degree p (line.a + line.b) (cartan_op p m)) pairs.sum in
      let w : SimplexCochain = cup_product p q k (cochain_in levels q left.row) (cochain_in levels k right.row) in
      record {
        product = w;
        is_product = λ facets is. record { left = cochain_in levels q left.row; right = cochain_in levels k right.row; is_left = lefts.operation facets is; is_right = rights.operation facets is; product = refl };
        same = λ facets is. subst (λ (m : ℕ). AgreesOnSimplices facets m p (cochain_in levels m r.row) w) e (made.values.values facets is);
        inside = subst (λ (m : ℕ). IsBelow (length (level levels m)) r.row) e made.values.inside;
        closed = λ u v. subst (λ (m : ℕ). IsClosed p levels m r.row) e (made.closed (lefts.closed u) (rights.closed v));
      }

  -- the row with another taken away
  less : (facets : List (List ℕ)) → IsIndexOf facets levels → (old part new : List (ℕ × ℕ)) (by : ℕ) → by ≡ negated p (1 % p) % p → ((k : ℕ) → value_in new k ≡ (value_in old k + by * value_in part k) % p)
      → AgreesOnSimplices facets n p (cochain_in levels n new) (λ s. cochain_in levels n old s + negated p (cochain_in levels n part s))
  less facets is old part new by by_is sum =
      let minus : Congruent p by (p - 1) = Congruent_trans (Congruent_of by_is) (Congruent_trans (Congruent_mod p (negated p (1 % p)))
      (Congruent_trans (Congruent_scale (p - 1) (Congruent_mod p 1)) (Congruent_of (omega arith)))) in
      agrees-trans (sum-agrees p by old part new sum facets levels n is)
      (record { at = λ s on. Congruent_add (Congruent_refl (cochain_in levels n old s)) (Congruent_mul minus (Congruent_refl (cochain_in levels n part s))) })

  pub one-less : (pairs : List (ℕ × ℕ)) (pair : ℕ × ℕ) (old part new : Cochain p) (by : ℕ) → by ≡ negated p (1 % p) % p → IsLess {p = p} levels line x y pairs old → IsPart {p = p} levels line x y pair part
      → new.degree ≡ old.degree → IsRow p new.row → ((k : ℕ) → value_in new.row k ≡ (value_in old.row k + by * value_in part.row k) % p) → IsLess {p = p} levels line x y (pairs ++ pair ∷ []) new
  one-less pairs pair old part new by by_is h k degree row sum =
      let large = (served_field p is_served).large in
      let f : SimplexCochain = cochain_in levels n old.row in
      let g : SimplexCochain = cochain_in levels n part.row in
      record {
        placed = record { degree = degree ∙ h.placed.degree; inside = sum-below p by old.row part.row new.row sum row (length (level levels n)) h.placed.inside k.inside };
        closed = λ u v facets is. (let m = cocycles facets n p large in
            m.alike (cochain_in levels n new.row) (λ s. f s + negated p (g s)) (less facets is old.row part.row new.row by by_is sum) (m.plus (p - 1) f g (h.closed u v facets is) (k.closed u v facets is)));
        whole = h.whole;
        is_whole = h.is_whole;
        parts = h.parts ++ k.product ∷ [];
        are_parts = λ facets is. zip_push (IsProductOf facets) pairs h.parts pair k.product (h.are_parts facets is) (k.is_product facets is);
        difference = λ facets is. agrees-trans (less facets is old.row part.row new.row by by_is sum) (record {
          at = λ s on.
              let more = sum_append (λ (w : SimplexCochain). w s) h.parts (k.product ∷ []) in
              Congruent_trans (Congruent_add ((h.difference facets is).at s on) (Congruent_scale (p - 1) ((k.same facets is).at s on)))
              (Congruent_of (omega arith ∙ ap (λ (v : ℕ). h.whole s + negated p v) (sym more)));
        });
      }

-- the operations of a pair with the sum n are defined on degrees a and b
pub record IsDefinedPair (p a b n : ℕ) (pair : ℕ × ℕ) : Type 0 where
  pub sum : pair.0 + pair.1 ≡ n
  pub first : is_defined p a (cartan_op p pair.0) ≡ true
  pub second : is_defined p b (cartan_op p pair.1) ≡ true

pub defined-pairs : (p a b n : ℕ) → Each (IsDefinedPair p a b n) (cartan_pairs p a b n)
defined-pairs p a b n =
    let test : ℕ × ℕ → Bool = λ e. is_defined p a (cartan_op p e.0) && is_defined p b (cartan_op p e.1) in
    let all : List (ℕ × ℕ) = map (λ i. (i, n - i)) (numbers_from 0 (n + 1)) in
    each-of (IsDefinedPair p a b n) (cartan_pairs p a b n)
    (λ e m.
    let on = of-filter test all e m in
    let i = of-map (λ (i : ℕ). (i, n - i)) (numbers_from 0 (n + 1)) e on.0 in
    let low = (of-numbers i.0 0 (n + 1) i.1).1 in
    let here : i.0 + (n - i.0) ≡ n = omega (arith, low) in
    let defined = and_parts (is_defined p a (cartan_op p e.0)) (is_defined p b (cartan_op p e.1)) on.1 in
    record { sum = subst (λ (x : ℕ × ℕ). x.0 + x.1 ≡ n) i.2 here; first = defined.0; second = defined.1 })

-- the pairs of a line for which May elements are stored
pub line-pairs : (p : ℕ) (table : _) (line : Line) → HasElements p table line → Each (IsLinePair p table line) (cartan_pairs p line.a line.b line.n)
line-pairs p table line stored =
    each_zip (λ e d k. record { sum = d.sum; first_defined = d.first; second_defined = d.second; first_stored = k.0; second_stored = k.1 }) (cartan_pairs p line.a line.b line.n)
    (defined-pairs p line.a line.b line.n) stored.parts
