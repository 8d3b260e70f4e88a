-- What is known of the operations of rows.
use Rattle.std.{proofs.Common.{◌≡◌, ℕ, zero, suc, ◌+◌, ◌-◌, ◌*◌, ◌<◌, ◌≤◌, ◌^◌, ◌==◌, arith, inl, inr, lit≤, refl, sym, ◌∙◌, ap, subst, List, [], ◌∷◌, ◌++◌, Bool, true, false, cond, not, leb, map, get_or, length, if◌then◌else◌, flat_map, ◌&&◌, IsTrue, leb-true, ltb-true}, specs.List.filter, proofs.lemmas.Bool.and_parts}
use Rattle.fp_field.{specs.Served.served, proofs.ServedLemmas.{for_served, served_large}}
use Rattle.signed_sum.specs.Names.{numbers_from}
use Rattle.linear_law.{specs.Names.{Among, Each}, proofs.Names.{each_append, each_get_or, each_itself, each_map, each_of_map}}
use Rattle.table_reduction_law.specs.Names.{candidate_count}
use Rattle.may_elements.specs.Counted.{cut_off}
use Rattle.report.specs.declared.plan.{Block.Block, Line.Line, Op.Op, Op.TheVariants.{Square, Power, BocksteinPower}, Product.Product, Sizes.Sizes}
use Rattle.report_law.specs.Names.{block_on, blocks, cartan_op, cartan_pairs, degrees, element_degree, has_class, is_defined, lines_of_pair, operations, target_degree}
use Rattle.term_total.{specs.Names.{AreCounted, AreReady, CanBeMade, IsBlock, IsLine, IsPair, IsPart, IsReady, applied_to, block_addend, class_pairs, elements_in, line_addend, live_total, pair_lines, pair_operations, pair_row, part_rows, plan, row_elements, is_class_pair, is_live_block, is_live_line, product_of, Counted, Addend, Applied, Row}, proofs.KeyLemmas.among-split}

-- what stands for an item where there is none
abbrev pub no_block : Block
no_block = record { op = Square 0; from = 0; to = 0 }

abbrev pub no_applied : Applied
no_applied = record { element = 0; degree = 0; simplices = 0 }

abbrev pub no_line : Line
no_line = record { a = 0; i = 0; b = 0; j = 0; n = 0 }

abbrev pub no_product : Product
no_product = record { a = 0; b = 0 }

-- ---- each item of a list

pub each-passed : {X : Type 0} (Q P : X → Type 0) (test : X → Bool) (xs : List X) → ((x : X) → Q x → test x ≡ true → P x) → Each Q xs → Each P (filter test xs)
each-passed Q P test [] h k = tt
each-passed Q P test (x ∷ xs) h k = go (test x) refl (each-passed Q P test xs h k.1)
  where
    go : (t : Bool) → test x ≡ t → Each P (filter test xs) → Each P (cond t (x ∷ filter test xs) (filter test xs))
    go true e r = (h x k.0 e, r)
    go false e r = r

pub each-flat : {X Y : Type 0} (Q : X → Type 0) (P : Y → Type 0) (f : X → List Y) (xs : List X) → ((x : X) → Q x → Each P (f x)) → Each Q xs → Each P (flat_map f xs)
each-flat Q P f [] h k = tt
each-flat Q P f (x ∷ xs) h k = each_append P (f x) (flat_map f xs) (h x k.0) (each-flat Q P f xs h k.1)

each-first : {X : Type 0} (P : X → Type 0) (xs ys : List X) → Each P (xs ++ ys) → Each P xs × Each P ys
each-first P [] ys h = (tt, h)
each-first P (x ∷ xs) ys h = (let r = each-first P xs ys h.1 in ((h.0, r.0), r.1))

each-below : (s k : ℕ) → Each (λ q. q < s + k) (numbers_from s k)
each-below s zero = tt
each-below s (suc k) = (omega arith, each_map (λ q l. omega arith) (numbers_from (suc s) k) (each-below (suc s) k))

-- ---- where there are classes

in-range : (n : ℕ) (ranks : List ℕ) → has_class ranks n ≡ true → n < length ranks
in-range n ranks e = go n ranks (ltb-true 0 (get_or ranks n 0) e)
  where
    go : (n : ℕ) (xs : List ℕ) → 0 < get_or xs n 0 → n < length xs
    go zero [] h = absurd (omega arith)
    go (suc n) [] h = absurd (omega arith)
    go zero (x ∷ xs) h = omega arith
    go (suc n) (x ∷ xs) h = let r = go n xs h in omega arith

cartan-target : (p q n : ℕ) → q ≤ target_degree p q (cartan_op p n)
cartan-target p q n = go (p == 2)
  where
    go : (t : Bool) → q ≤ target_degree p q (if t then Square n else Power n)
    go true = omega arith
    go false = (let z : 0 ≤ 2 * n * (p - 1) = omega arith in omega arith)

module _ (p : ℕ) (ranks : List ℕ) (few : length ranks ≤ 16) where
  pub each-block : Each (IsBlock p) (blocks p ranks)
  each-block =
      let on : ℕ → List Block = λ q. map (block_on p q) (operations p q) in
      each-passed (IsBlock p) (IsBlock p) (is_live_block ranks) (flat_map on (degrees ranks)) (λ x h e. h)
      (each-flat (λ q. q < 0 + length ranks) (IsBlock p) on (degrees ranks)
      (λ q l.
      let all : List Op = flat_map (λ k. Square k ∷ Power k ∷ BocksteinPower k ∷ []) (numbers_from 0 (q + 1)) in
      each_of_map (IsBlock p) (block_on p q) (operations p q)
      (each-passed (λ op. Among op all) (λ op. IsBlock p (block_on p q op)) (is_defined p q) all (λ op m e. record { defined = e; low = omega (arith, few, l) }) (each_itself all)))
      (each-below 0 (length ranks)))

  pub each-line : (x : Product) → Each (IsLine p) (pair_lines p ranks x)
  each-line x =
      let all : List Line = lines_of_pair x.a x.b 1 1 in
      each-passed (λ l. Among l all) (IsLine p) (is_live_line p ranks) all
      (λ l m e.
      let both = and_parts (is_defined p (l.a + l.b) (cartan_op p l.n)) (has_class ranks (target_degree p (l.a + l.b) (cartan_op p l.n))) e in
      let t = cartan-target p (l.a + l.b) l.n in
      let r = in-range (target_degree p (l.a + l.b) (cartan_op p l.n)) ranks both.1 in
      record { defined = both.0; low = omega (arith, t, r, few) })
      (each_itself all)

  pub each-pair : Each (λ (x : Product). x.a + x.b ≤ 30) (class_pairs ranks)
  each-pair =
      let all : List Product = flat_map (λ a. map (product_of a) (degrees ranks)) (degrees ranks) in
      each-passed (λ (x : Product). Among x all) (λ (x : Product). x.a + x.b ≤ 30) (is_class_pair ranks) all
      (λ x m e.
      let both = and_parts (has_class ranks x.a) (has_class ranks x.b) e in
      let a = in-range x.a ranks both.0 in
      let b = in-range x.b ranks both.1 in
      omega (arith, a, b, few))
      (each_itself all)

pub each-defined : (p a b n : ℕ) → Each (IsPair p a b) (cartan_pairs p a b n)
each-defined p a b n =
    let all : List (ℕ × ℕ) = map (λ i. (i, n - i)) (numbers_from 0 (n + 1)) in
    each-passed (λ e. Among e all) (IsPair p a b) (λ e. is_defined p a (cartan_op p e.0) && is_defined p b (cartan_op p e.1)) all
    (λ e m t. and_parts (is_defined p a (cartan_op p e.0)) (is_defined p b (cartan_op p e.1)) t) (each_itself all)

pub pair-at : (p a b n i : ℕ) (xs ys : List (ℕ × ℕ)) → i < length xs → xs ≡ ys → ys ≡ cartan_pairs p a b n → IsPair p a b (get_or xs i (0, 0))
pair-at p a b n i xs ys here e f = each_get_or (IsPair p a b) xs i (0, 0) here (subst (Each (IsPair p a b)) (sym (e ∙ f)) (each-defined p a b n))

-- the number of a line
pub line-low : (p : ℕ) (l : Line) → IsLine p l → l.n ≤ 15
line-low p x h = go x.n (p == 2) (x.a + x.b) h.defined h.low
  where
    go : (n : ℕ) (t : Bool) (q : ℕ) → IsTrue (is_defined p q (if t then Square n else Power n)) → q ≤ 15 → n ≤ 15
    go n true q d l = (let k = leb-true n q (and_parts (p == 2) (leb n q) d).1 in omega arith)
    go n false q d l = (let k = leb-true (2 * n) q (and_parts (not (p == 2)) (leb (2 * n) q) d).1 in omega arith)

-- a count more
counted-more : (p : ℕ) (cs ds : List Counted) (c : Counted) → AreCounted p cs → c.count ≡ cut_off (live_total p c.element c.degree) → ds ≡ cs ++ c ∷ [] → AreCounted p ds
counted-more p cs ds c h k e x m = elim (among-split x cs (c ∷ []) (subst (Among x) e m)) [
  | inl l ↦ h x l
  | inr r ↦ elim r [ inl s ↦ subst (λ (y : Counted). y.count ≡ cut_off (live_total p y.element y.degree)) s k | inr n ↦ absurd n ]
]

-- where memory for it may be missing
pub counted-pushed : (p : ℕ) (cs ds : List Counted) (c : Counted) (pushed : Bool) → AreCounted p cs → c.count ≡ cut_off (live_total p c.element c.degree) → ds ≡ (if pushed then cs ++ c ∷ [] else cs) → AreCounted p ds
counted-pushed p cs ds c true h k e = counted-more p cs ds c h k e
counted-pushed p cs ds c false h k e = subst (AreCounted p) (sym e) h

-- ---- degrees of May elements

times-le : (a b c d : ℕ) → a ≤ b → c ≤ d → a * c ≤ b * d
times-le a b zero d h k = omega arith
times-le a b (suc c) zero h k = absurd (omega arith)
times-le a b (suc c) (suc d) h k = let r = times-le a b c d h (omega arith) in omega (arith, r)

module _ (p : ℕ) (prime : IsTrue (served p)) where
  -- so low that it can be made
  abbrev IsLow : ℕ → ℕ → Type 0
  IsLow d q = d ≤ 60

  element-within : (op : Op) (q : ℕ) → element_degree p q op ≤ q * (p - 1) + q
  element-within (Square k) q = omega arith
  element-within (Power s) q = (let r = times-le (q - 2 * s) q (p - 1) (p - 1) (omega arith) (omega arith) in omega (arith, r))
  element-within (BocksteinPower s) q = (let r = times-le (q - 2 * s) q (p - 1) (p - 1) (omega arith) (omega arith) in omega (arith, r))

  element-most : (op : Op) (q : ℕ) → element_degree p q op ≤ p * q
  element-most op q = (let w = element-within op q in let l = served_large p prime in let e = products p q (omega arith) in omega (arith, w, e))
    where
      products : (p q : ℕ) → 1 ≤ p → q * (p - 1) + q ≡ p * q
      products zero q h = absurd (omega arith)
      products (suc r) q h = (let e : suc r - 1 ≡ r = omega arith in ap (λ m. q * m + q) e ∙ (let f : q * r + q ≡ suc r * q = omega arith in f))

  element-low : (op : Op) (q : ℕ) → q ≤ 15 → IsLow (element_degree p q op) q
  element-low op q l = go op
    where
      four : p - 1 ≤ 4
      four = for_served (λ n. n - 1 ≤ 4) p (lit≤ tt) (lit≤ tt) (lit≤ tt) prime

      go : (op : Op) → element_degree p q op ≤ 60
      go (Square k) = omega arith
      go (Power s) = (let r = times-le (q - 2 * s) 15 (p - 1) 4 (omega arith) four in omega (arith, r))
      go (BocksteinPower s) = (let r = times-le (q - 2 * s) 15 (p - 1) 4 (omega arith) four in omega (arith, r))

  applied-ready : (simplices : List ℕ) (op : Op) (q : ℕ) → q ≤ 15 → IsReady p IsLow (applied_to p simplices op q)
  applied-ready simplices op q l = record { low = l; most = element-most op q; there = element-low op q l }

  part-ready : (z : Sizes) → IsPart z → Each (AreReady p IsLow) (part_rows p z)
  part-ready z h = (
    each_of_map (λ (y : Addend). Each (IsReady p IsLow) y.operations) (block_addend p z) (blocks p z.ranks)
        (each_map (λ (x : Block) (b : IsBlock p x). (applied-ready z.simplices x.op x.from b.low, tt)) (blocks p z.ranks) (each-block p z.ranks h.few)),
    each_of_map (AreReady p IsLow) (pair_row p z) (class_pairs z.ranks)
        (each_map (λ (x : Product) (m : Among x (class_pairs z.ranks)).
        each_of_map (λ (y : Addend). Each (IsReady p IsLow) y.operations) (line_addend p z.simplices) (pair_lines p z.ranks x)
        (each_map (line-ready z) (pair_lines p z.ranks x) (each-line p z.ranks h.few x))) (class_pairs z.ranks) (each_itself (class_pairs z.ranks))),
  )
    where
      line-ready : (z : Sizes) (l : Line) → IsLine p l → Each (IsReady p IsLow) (line_addend p z.simplices l).operations
      line-ready z l k = (let low = k.low in (
        applied-ready z.simplices (cartan_op p l.n) (l.a + l.b) low,
        each-flat (IsPair p l.a l.b) (IsReady p IsLow) (pair_operations p z.simplices l) (cartan_pairs p l.a l.b l.n)
            (λ e d. (applied-ready z.simplices (cartan_op p e.0) l.a (omega (arith, low)), (applied-ready z.simplices (cartan_op p e.1) l.b (omega (arith, low)), tt)))
            (each-defined p l.a l.b l.n),
      ))

  plan-ready : (zs : List Sizes) → Each IsPart zs → Each (AreReady p IsLow) (plan p zs)
  plan-ready zs h = each-flat IsPart (AreReady p IsLow) (part_rows p) zs part-ready h

  pub plan-low : (zs : List Sizes) → Each IsPart zs → Each (λ d. d ≤ 60) (elements_in (plan p zs))
  plan-low zs h = each-flat (AreReady p IsLow) (λ d. d ≤ 60) row_elements (plan p zs)
      (λ r k. each-flat (λ (y : Addend). Each (IsReady p IsLow) y.operations) (λ d. d ≤ 60) (λ (y : Addend). map (λ (x : Applied). x.element) y.operations) r.addends
      (λ y m. each_of_map (λ d. d ≤ 60) (λ (x : Applied). x.element) y.operations (each_map (λ x i. i.there) y.operations m)) k) (plan-ready zs h)

  -- where no May element of the rows has too many candidates
  operations-made : (xs : List Applied) → Each (IsReady p IsLow) xs → Each (λ d. candidate_count p d ≤ 10 ^ 12) (map (λ (x : Applied). x.element) xs) → Each (IsReady p (λ d q. CanBeMade p d)) xs
  operations-made [] h k = tt
  operations-made (x ∷ xs) h k = (let i = h.0 in (record { low = i.low; most = i.most; there = (i.there, k.0) }, operations-made xs h.1 k.1))

  addends-made : (ys : List Addend) → Each (λ (y : Addend). Each (IsReady p IsLow) y.operations) ys → Each (λ d. candidate_count p d ≤ 10 ^ 12) (flat_map (λ (y : Addend). map (λ (x : Applied). x.element) y.operations) ys)
      → Each (λ (y : Addend). Each (IsReady p (λ d q. CanBeMade p d)) y.operations) ys
  addends-made [] h k = tt
  addends-made (y ∷ ys) h k =
      let both = each-first (λ d. candidate_count p d ≤ 10 ^ 12) (map (λ (x : Applied). x.element) y.operations) (flat_map (λ (y : Addend). map (λ (x : Applied). x.element) y.operations) ys) k in
      (operations-made y.operations h.0 both.0, addends-made ys h.1 both.1)

  rows-made : (rs : List Row) → Each (AreReady p IsLow) rs → Each (λ d. candidate_count p d ≤ 10 ^ 12) (elements_in rs) → Each (AreReady p (λ d q. CanBeMade p d)) rs
  rows-made [] h k = tt
  rows-made (r ∷ rs) h k = (let both = each-first (λ d. candidate_count p d ≤ 10 ^ 12) (row_elements r) (elements_in rs) k in (addends-made r.addends h.0 both.0, rows-made rs h.1 both.1))

  pub plan-made : (zs : List Sizes) → Each IsPart zs → Each (λ d. candidate_count p d ≤ 10 ^ 12) (elements_in (plan p zs)) → Each (AreReady p (λ d q. CanBeMade p d)) (plan p zs)
  plan-made zs h k = rows-made (plan p zs) (plan-ready zs h) k
