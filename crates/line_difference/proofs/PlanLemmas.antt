-- The live products, blocks and lines of a complex, and what is stored for them.
use Rattle.std.{proofs.Common.{◌≡◌, ◌∙◌, ℕ, ◌+◌, ◌≤◌, ◌&&◌, inl, inr, Bool, true, List, [], ◌∷◌, length, map, get_or, arith, refl, sym, ap, subst, IsSome, flat_map, if◌then◌else◌, None, Some, unwrap_or}, specs.declared.option.Option.Option, proofs.lemmas.Bool.and_parts}
use Rattle.signed_sum.specs.Names.{numbers_from}
use Rattle.linear_law.{specs.Names.{Among, Each}, proofs.Names.{among_left, among_map, among_right, each_among}}
use Rattle.may_elements.specs.Stored.{Parts, stored_at}
use Rattle.report.specs.declared.plan.{Block.Block, Line.Line, Op.Op, Op.TheVariants.{Square, Power, BocksteinPower}, Product.Product, Sizes.Sizes}
use Rattle.report_law.{specs.Names.{all_lines, blocks, cartan_op, cartan_pairs, class_numbers, degrees, has_class, is_defined, lines, products, target, target_degree}, proofs.Names.{has-degree, each-of, in-flat_map, of-filter, of-flat_map, of-map, of-numbers, of-lines}}
use Rattle.term_total.specs.Names.{complex_uses, line_uses, use_of, uses}
use Rattle.line_difference.specs.Elements.{AreStored, HasElement, HasElements}

module _ (ranks : List ℕ) (few : length ranks ≤ 16) where
  pub product-low : (x : Product) → Among x (products ranks) → (x.a ≤ 15) × (x.b ≤ 15)
  product-low x m =
      let h = (of-filter (λ (y : Product). has_class ranks y.a && (has_class ranks y.b && has_class ranks (y.a + y.b))) _ x m).1 in
      let k = and_parts (has_class ranks x.a) _ h in
      let a = has-degree ranks x.a k.0 in
      let b = has-degree ranks x.b (and_parts (has_class ranks x.b) _ k.1).0 in
      (omega (arith, a, few), omega (arith, b, few))

  pub block-low : (p : ℕ) (x : Block) → Among x (blocks p ranks) → x.from ≤ 15
  block-low p x m =
      let h = (of-filter (λ (y : Block). has_class ranks y.from && has_class ranks y.to) _ x m).1 in
      let a = has-degree ranks x.from (and_parts (has_class ranks x.from) _ h).0 in
      omega (arith, a, few)

  pub line-low : (p : ℕ) (l : Line) → Among l (lines p ranks) → l.a + l.b ≤ 15
  line-low p l m =
      let t = has-degree ranks (target_degree p (l.a + l.b) (cartan_op p l.n)) (of-lines p ranks l m).1 in
      let u = at-least (cartan_op p l.n) in
      omega (arith, t, u, few)
    where
      at-least : (op : Op) → l.a + l.b ≤ target_degree p (l.a + l.b) op
      at-least (Square k) = omega arith
      at-least (Power s) = omega arith
      at-least (BocksteinPower s) = omega arith

-- the numbers of the classes of a line
pub record HasClasses (ranks : List ℕ) (l : Line) : Type 0 where
  pub first : (1 ≤ l.i) × (l.i ≤ get_or ranks l.a 0)
  pub second : (1 ≤ l.j) × (l.j ≤ get_or ranks l.b 0)

pub line-classes : (p : ℕ) (ranks : List ℕ) (l : Line) → Among l (lines p ranks) → HasClasses ranks l
line-classes p ranks l m =
    let k = (of-filter (λ (y : Line). is_defined p (y.a + y.b) (cartan_op p y.n) && has_class ranks (target_degree p (y.a + y.b) (cartan_op p y.n))) (all_lines ranks) l m).0 in
    let a = of-flat_map _ (degrees ranks) l k in
    let b = of-flat_map _ (degrees ranks) l a.2 in
    let i = of-flat_map _ (class_numbers ranks a.0) l b.2 in
    let j = of-flat_map _ (class_numbers ranks b.0) l i.2 in
    let n = of-map _ (numbers_from 0 (a.0 + b.0 + 1)) l j.2 in
    let h = of-numbers i.0 1 (get_or ranks a.0 0) i.1 in
    let g = of-numbers j.0 1 (get_or ranks b.0 0) j.1 in
    subst (HasClasses ranks) n.2 (record { first = (h.0, let u = h.1 in omega (arith, u)); second = (g.0, let v = g.1 in omega (arith, v)) })

-- the target degree of the operation of a line
pub target-is : (p q n d : ℕ) (op : Op) → op ≡ cartan_op p n → is_defined p q (cartan_op p n) ≡ true → target p op q ≡ Some d → d ≡ target_degree p q (cartan_op p n)
target-is p q n d op e h k = the-some d (target_degree p q (cartan_op p n)) (sym k ∙ ap (λ (o : Op). target p o q) e ∙ ap (λ (b : Bool). if b then Some (target_degree p q (cartan_op p n)) else None) h)
  where
    the-some : (a b : ℕ) → ◌≡◌ {A = Option ℕ} (Some a) (Some b) → a ≡ b
    the-some a b s = ap (λ (o : Option ℕ). unwrap_or o a) s

-- ---- what is stored

module _ (p : ℕ) (table : Parts) (ranks : List ℕ) (stored : AreStored p table ranks) where
  abbrev sizes : Sizes
  sizes = record { simplices = []; ranks = ranks }

  abbrev block_use : Block → ℕ × ℕ
  block_use x = use_of p x.op x.from

  at : (u : ℕ × ℕ) → Among u (complex_uses p sizes) → IsSome (stored_at u.0 u.1 table)
  at u m = each_among (λ v. IsSome (stored_at v.0 v.1 table)) u (complex_uses p sizes) stored m

  pub block-stored : (x : Block) → Among x (blocks p ranks) → HasElement p table x.from x.op
  block-stored x m = inr (at (block_use x) (among_left _ (map block_use (blocks p ranks)) (flat_map (line_uses p) (lines p ranks)) (among_map block_use x _ (blocks p ranks) m refl)))

  pub line-stored : (l : Line) → Among l (lines p ranks) → HasElements p table l
  line-stored l m = record {
    whole = inr (of (use_of p (cartan_op p l.n) (l.a + l.b)) (inl refl));
    parts = each-of _ (cartan_pairs p l.a l.b l.n) (λ e k. (
      inr (of (use_of p (cartan_op p e.0) l.a) (inr (in-flat_map pair (cartan_pairs p l.a l.b l.n) e _ k (inl refl)))),
      inr (of (use_of p (cartan_op p e.1) l.b) (inr (in-flat_map pair (cartan_pairs p l.a l.b l.n) e _ k (inr (inl refl))))),
    ));
  }
    where
      pair : ℕ × ℕ → List (ℕ × ℕ)
      pair e = use_of p (cartan_op p e.0) l.a ∷ use_of p (cartan_op p e.1) l.b ∷ []

      of : (u : ℕ × ℕ) → Among u (line_uses p l) → IsSome (stored_at u.0 u.1 table)
      of u n = at u (among_right u (map block_use (blocks p ranks)) (flat_map (line_uses p) (lines p ranks)) (in-flat_map (line_uses p) (lines p ranks) l u m n))

-- ---- what is stored for a job is stored for each of its complexes

pub each-stored : (p : ℕ) (table : Parts) (zs : List Sizes) → Each (λ u. IsSome (stored_at u.0 u.1 table)) (uses p zs) → Each (λ z. AreStored p table z.ranks) zs
each-stored p table zs h = each-of (λ z. AreStored p table z.ranks) zs (λ z m. each-of (λ u. IsSome (stored_at u.0 u.1 table)) (complex_uses p z) (λ u n.
    each_among (λ v. IsSome (stored_at v.0 v.1 table)) u (uses p zs) h (in-flat_map (complex_uses p) zs z u m n)))
