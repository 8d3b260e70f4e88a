-- What is stored for operations, one after the other.
use Rattle.std.{proofs.Common.{◌≡◌, ◌≢◌, ℕ, ◌+◌, ◌<◌, inl, inr, sym, ◌∙◌, ap, subst, List, [], ◌∷◌, ◌++◌, take, length, get_or, is_some, IsSome}, proofs.lemmas.Bool.cases_eq, proofs.lemmas.List.take_more}
use Rattle.linear_law.{specs.Names.Each, proofs.Names.{each_map, each_push}}
use Rattle.may_elements.specs.Stored.{Parts, stored_at}
use Rattle.term_total.specs.Names.{AreReady, IsReady, IsThere, Keeps, Addend, Applied, Row}

-- one item more is done, where what held of those before holds still
pub done-more : {X : Type 0} (P Q : X → Type 0) (xs : List X) (i : ℕ) (x : X) → i < length xs → x ≡ get_or xs i x → ((y : X) → P y → Q y) → Q x → Each P (take i xs) → Each Q (take (i + 1) xs)
done-more P Q xs i x here is still one done = subst (Each Q) (sym (take_more xs i x here ∙ ap (λ y. take i xs ++ y ∷ []) (sym is))) (each_push Q (take i xs) x (each_map still (take i xs) done) one)

pub keeps-store : (old new : Parts) (d q : ℕ) → IsSome (stored_at d q new) → ((k r : ℕ) → (k ≡ d → r ≢ q) → stored_at k r new ≡ stored_at k r old) → Keeps old new
keeps-store old new d q s others k r h = elim (cases_eq k d) [
  | inl e ↦ elim (cases_eq r q) [
    | inl f ↦ subst (λ m. IsThere new m r) (sym e) (subst (λ m. IsThere new d m) (sym f) s)
    | inr n ↦ ap is_some (others k r (λ e. n)) ∙ h
  ]
  | inr n ↦ ap is_some (others k r (λ e. absurd (n e))) ∙ h
]

module _ (p : ℕ) (old new : Parts) (keeps : Keeps old new) where
  pub ready-kept : (x : Applied) → IsReady p (IsThere old) x → IsReady p (IsThere new) x
  ready-kept x h = record { low = h.low; most = h.most; there = keeps x.element x.degree h.there }

  pub addend-kept : (y : Addend) → Each (IsReady p (IsThere old)) y.operations → Each (IsReady p (IsThere new)) y.operations
  addend-kept y h = each_map ready-kept y.operations h

  pub row-kept : (r : Row) → AreReady p (IsThere old) r → AreReady p (IsThere new) r
  row-kept r h = each_map addend-kept r.addends h
