-- What the listed blocks are, and the matrices of those that are not listed.
use Rattle.std.proofs.{Common.{◌≡◌, ℕ, suc, ◌+◌, ◌*◌, ◌<◌, ◌≤◌, ◌⊎◌, inl, inr, ◌&&◌, ◌==◌, Bool, true, not, cond, List, [], ◌∷◌, map, length, get_or, arith, refl, sym, ap, subst, ◌∙◌, flat_map, nat_le, nat_lt, eqb-true, leb-true, ltb-true, lt-ltb, true≢false}, lemmas.Bool.{and_from, and_parts, cases_Bool, cases_lt}}
use Rattle.signed_sum.specs.Names.{numbers_from}
use Rattle.linear_law.{specs.Names.Among, proofs.Names.among_map}
use Rattle.simplicial_law.specs.Names.{Chain}
use Rattle.report_law.{specs.Types.{OperationPart, InducedPart, Block, Op, Square, Power, BocksteinPower}, specs.Names.{block_on, blocks, degrees, has_class, induced_degrees, is_defined, operations, target_degree, Classes, classes_in, ranks, block_of, induced_matrix_among, is_same_op, matrix_of, op_of, operation_matrix_among}, proofs.Lists.{get_or-past, in-filter, in-flat_map, in-numbers, of-filter, of-flat_map, of-map}}

-- ---- live blocks

-- a live block is of an operation that is defined, with its target
pub record IsLiveBlock (p : ℕ) (x : Block) : Type 0 where
  pub defined : is_defined p x.from x.op ≡ true
  pub target : x.to ≡ target_degree p x.from x.op

pub of-blocks : (p : ℕ) (ranks : List ℕ) (x : Block) → Among x (blocks p ranks) → IsLiveBlock p x
of-blocks p ranks x m =
    let a = of-filter (λ (y : Block). has_class ranks y.from && has_class ranks y.to) (flat_map (λ q. map (block_on p q) (operations p q)) (degrees ranks)) x m in
    let b = of-flat_map (λ q. map (block_on p q) (operations p q)) (degrees ranks) x a.0 in
    let c = of-map (block_on p b.0) (operations p b.0) x b.2 in
    let d = of-filter (is_defined p b.0) (flat_map (λ k. Square k ∷ Power k ∷ BocksteinPower k ∷ []) (numbers_from 0 (b.0 + 1))) c.0 c.1 in
    subst (IsLiveBlock p) c.2 (record { defined = d.1; target = refl })

-- an operation that is defined stands among those of its degree
candidate : (p q : ℕ) (op : Op) → is_defined p q op ≡ true → Among op (flat_map (λ k. Square k ∷ Power k ∷ BocksteinPower k ∷ []) (numbers_from 0 (q + 1)))
candidate p q (Square k) h =
    let l : k ≤ q = leb-true k q (and_parts (p == 2) (nat_le k q) h).1 in
    in-flat_map (λ k. Square k ∷ Power k ∷ BocksteinPower k ∷ []) (numbers_from 0 (q + 1)) k (Square k) (in-numbers k 0 (q + 1) (omega arith) (omega (arith, l))) (inl refl)
candidate p q (Power s) h =
    let l : 2 * s ≤ q = leb-true (2 * s) q (and_parts (not (p == 2)) (nat_le (2 * s) q) h).1 in
    in-flat_map (λ k. Square k ∷ Power k ∷ BocksteinPower k ∷ []) (numbers_from 0 (q + 1)) s (Power s) (in-numbers s 0 (q + 1) (omega arith) (omega (arith, l))) (inr (inl refl))
candidate p q (BocksteinPower s) h =
    let l : 2 * s < q = ltb-true (2 * s) q (and_parts (not (p == 2)) (nat_lt (2 * s) q) h).1 in
    in-flat_map (λ k. Square k ∷ Power k ∷ BocksteinPower k ∷ []) (numbers_from 0 (q + 1)) s (BocksteinPower s) (in-numbers s 0 (q + 1) (omega arith) (omega (arith, l))) (inr (inr (inl refl)))

-- a degree with a class is one of the degrees
pub has-degree : (ranks : List ℕ) (n : ℕ) → has_class ranks n ≡ true → n < length ranks
has-degree ranks n h =
    let l : 0 < get_or ranks n 0 = ltb-true 0 (get_or ranks n 0) h in
    elim (cases_lt n (length ranks)) [
      | inl b ↦ b
      | inr b ↦ (let e = get_or-past ranks n 0 b in absurd (omega (arith, l, e)))
    ]

pub in-blocks : (p : ℕ) (ranks : List ℕ) (q : ℕ) (op : Op) → is_defined p q op ≡ true → has_class ranks q ≡ true → has_class ranks (target_degree p q op) ≡ true → Among (block_on p q op) (blocks p ranks)
in-blocks p ranks q op h a b =
    in-filter (λ (y : Block). has_class ranks y.from && has_class ranks y.to) (flat_map (λ q. map (block_on p q) (operations p q)) (degrees ranks)) (block_on p q op)
    (in-flat_map (λ q. map (block_on p q) (operations p q)) (degrees ranks) q (block_on p q op) (in-numbers q 0 (length ranks) (omega arith) (let l = has-degree ranks q a in omega (arith, l)))
    (among_map (block_on p q) op (block_on p q op) (operations p q) (in-filter (is_defined p q) (flat_map (λ k. Square k ∷ Power k ∷ BocksteinPower k ∷ []) (numbers_from 0 (q + 1))) op (candidate p q op h) h) refl))
    (and_from (has_class ranks q) (has_class ranks (target_degree p q op)) a b)

-- the number of classes of a degree is its rank
pub rank-of : (c : Classes) (n : ℕ) → get_or (ranks c) n 0 ≡ length (classes_in c n)
rank-of c n = go c n
  where
    go : (ds : List (List Chain)) (n : ℕ) → get_or (ranks ds) n 0 ≡ length (get_or ds n [])
    go (d ∷ ds) (suc n) = go ds n
    go _ _ = refl

-- a degree has classes or not
pub rank-or-none : (c : Classes) (n : ℕ) → (has_class (ranks c) n ≡ true) ⊎ (classes_in c n ≡ [])
rank-or-none c n = go (classes_in c n) refl
  where
    go : (cs : List Chain) → classes_in c n ≡ cs → (has_class (ranks c) n ≡ true) ⊎ (classes_in c n ≡ [])
    go [] e = inr e
    go (x ∷ xs) e = inl (let r = rank-of c n in let l = ap length e in lt-ltb 0 (get_or (ranks c) n 0) (omega (arith, r, l)))

-- ---- the matrix of an operation among blocks

pub same-op : (a b : Op) → is_same_op a b ≡ true → a ≡ b
same-op (Square j) (Square k) h = ap Square (eqb-true j k h)
same-op (Power j) (Power k) h = ap Power (eqb-true j k h)
same-op (BocksteinPower j) (BocksteinPower k) h = ap BocksteinPower (eqb-true j k h)
same-op _ _ h = absurd cc

eqb-itself : (k : ℕ) → (k == k) ≡ true
eqb-itself k = grind arith

op-itself : (op : Op) → is_same_op op op ≡ true
op-itself (Square k) = eqb-itself k
op-itself (Power s) = eqb-itself s
op-itself (BocksteinPower s) = eqb-itself s

-- the block that is found
pub record IsFound (op : Op) (q : ℕ) (os : List OperationPart) (matrix : List (List ℕ)) : Type 0 where
  pub block : OperationPart
  pub listed : Among block os
  pub from : block.from ≡ q
  pub op_is : op ≡ op_of block
  pub matrix_is : matrix ≡ matrix_of block.columns

-- a matrix is found, or no block is the one that was looked for
pub matrix-found : (p : ℕ) (none : List (List ℕ)) (op : Op) (q : ℕ) (os : List OperationPart)
    → IsFound op q os (operation_matrix_among none op q os) ⊎ ((operation_matrix_among none op q os ≡ none) × (Among (block_on p q op) (map block_of os) → ⊥))
matrix-found p none op q [] = inr (refl, λ m. m)
matrix-found p none op q (o ∷ os) = elim (cases_Bool (o.from == q && is_same_op op (op_of o))) [
  | inl t ↦
      let parts = and_parts (o.from == q) (is_same_op op (op_of o)) t in
      inl (record {
        block = o;
        listed = inl refl;
        from = eqb-true o.from q parts.0;
        op_is = same-op op (op_of o) parts.1;
        matrix_is = ap (λ (b : Bool). cond b (matrix_of o.columns) (operation_matrix_among none op q os)) t;
      })
  | inr f ↦
      let here = ap (λ (b : Bool). cond b (matrix_of o.columns) (operation_matrix_among none op q os)) f in
      elim (matrix-found p none op q os) [
        | inl g ↦ inl (record { block = g.block; listed = inr g.listed; from = g.from; op_is = g.op_is; matrix_is = here ∙ g.matrix_is })
        | inr n ↦ inr (
          here ∙ n.0,
          λ m. elim m [
            | inl e ↦
                let same : (o.from == q && is_same_op op (op_of o)) ≡ true =
                and_from (o.from == q) (is_same_op op (op_of o)) (ap (λ (x : Block). x.from == q) e ∙ eqb-itself q) (ap (λ (x : Block). is_same_op op x.op) e ∙ op-itself op) in
                absurd (true≢false (sym same ∙ f))
            | inr k ↦ n.1 k
          ],
        )
      ]
]

-- ---- the matrix of a map in one degree

pub record IsFoundIn (q : ℕ) (xs : List InducedPart) (matrix : List (List ℕ)) : Type 0 where
  pub block : InducedPart
  pub listed : Among block xs
  pub degree : block.q ≡ q
  pub matrix_is : matrix ≡ matrix_of block.columns

pub induced-found : (none : List (List ℕ)) (q : ℕ) (xs : List InducedPart)
    → IsFoundIn q xs (induced_matrix_among none q xs) ⊎ ((induced_matrix_among none q xs ≡ none) × (Among q (map (λ x. x.q) xs) → ⊥))
induced-found none q [] = inr (refl, λ m. m)
induced-found none q (x ∷ xs) = elim (cases_Bool (x.q == q)) [
  | inl t ↦ inl (record {
    block = x;
    listed = inl refl;
    degree = eqb-true x.q q t;
    matrix_is = ap (λ (b : Bool). cond b (matrix_of x.columns) (induced_matrix_among none q xs)) t;
  })
  | inr f ↦
      let here = ap (λ (b : Bool). cond b (matrix_of x.columns) (induced_matrix_among none q xs)) f in
      elim (induced-found none q xs) [
        | inl g ↦ inl (record { block = g.block; listed = inr g.listed; degree = g.degree; matrix_is = here ∙ g.matrix_is })
        | inr n ↦ inr (
          here ∙ n.0,
          λ m. elim m [
            | inl e ↦ absurd (true≢false (sym (ap (λ (k : ℕ). k == q) e ∙ eqb-itself q) ∙ f))
            | inr k ↦ n.1 k
          ],
        )
      ]
]

pub in-induced : (from to : List ℕ) (q : ℕ) → has_class from q ≡ true → has_class to q ≡ true → Among q (induced_degrees from to)
in-induced from to q a b =
    in-filter (λ q. has_class from q && has_class to q) (degrees from) q (in-numbers q 0 (length from) (omega arith) (let l = has-degree from q a in omega (arith, l))) (and_from (has_class from q) (has_class to q) a b)
