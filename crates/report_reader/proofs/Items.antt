-- The items of which a part follows their first line.
use Rattle.std.{proofs.Common.{◌≡◌, ◌∙◌, ℕ, ◌+◌, Bool, cond, List, [], ◌∷◌, ◌++◌, length, ap, refl, arith, Some, None, true, false, Result, ◌==◌, eq-eqb}, specs.declared.option.Option.Option}
use Rattle.report.specs.declared.{columns.CartanAnswer.TheVariants.{Yes as answers_yes, No as answers_no}, columns.Column.Column, columns.OpWord.OpWord, columns.OperationPart.OperationPart, columns.PairColumn.PairColumn, columns.ProductPart.ProductPart, complex.ComplexPart.ComplexPart, complex.DegreePart.DegreePart, map.InducedPart.InducedPart, map.MapPart.MapPart}
use Rattle.report_text_law.specs.{Names.{Chain, ◌>>=◌, move, with_column, with_complex, with_induced_column, with_pair}, declared.line.Line.TheVariants.{Complex as complex_line, Map as map_line, End as end_line, With as with_line, Column as column_line, Cycle as cycle_line, CartanYes as cartan_yes, CartanNo as cartan_no, Induced as induced_line, Degree as degree_line, Pair as pair_line, Product as product_line, Operation as operation_line}, declared.state.ComplexStage.TheVariants.{Facets, Values, Yes, No, Cartans, Degree, Product, Pair, Operation}, declared.state.Finding.Finding, declared.state.Graded.Graded, declared.state.Judged.Judged, declared.state.MapHead.MapHead, declared.state.MapStage.MapStage, declared.state.MapStage.TheVariants.{Sends, InducedValues, Induced}, declared.state.Multiplied.Multiplied, declared.state.Operated.Operated, declared.state.State.State, declared.state.State.TheVariants.{Between, InComplex, BetweenMaps, InMap}, declared.line.Line.Line}
use Rattle.report_reader.{specs.Names.{AreItems, IsOpen, Place, Reads, any, counted, HasColumns, cartans, columns, complexes, cycle_only, degrees, facets, induced_blocks, maps, operations, pairs, products, sends, with_only, within_degrees, within_induced, within_operations, ReadRefused}, proofs.Steps.Opens}

cond_true : {A : Type 0} (a b : A) (t : Bool) → t ≡ true → cond t a b ≡ a
cond_true a b t e = ap (λ (u : Bool). cond u a b) e

-- ---- a degree

pub degree_opens : (prime rank number n : ℕ) (start new : Place) (part : Result DegreePart ReadRefused) → n ≡ number
    → ((f : Finding) (g : Graded) → f.prime ≡ prime → Reads (move (InComplex f (Degree g rank [] []))) (λ d. within_degrees f g.block (g.degrees ++ d ∷ [])) start new part)
    → Opens (degrees prime) (counted number) prime (degree_line n rank) (λ d. d) start new part
degree_opens prime rank number n start new part e h = record {
  state = λ i xs. InComplex i.0 (Degree (record { block = i.1; degrees = xs }) rank [] []);
  takes = λ i xs fits here. ap (λ (o : Option _). o >>= λ s. Some (InComplex i.0 s)) (cond_true (Some (Degree (record { block = i.1; degrees = xs }) rank [] [])) None (n == length xs) (eq-eqb n (length xs) (e ∙ here)));
  is_open = λ i xs fits. record { at_prime = fits; unfinished = refl };
  reads = λ i xs fits. h i.0 (record { block = i.1; degrees = xs }) fits;
}

-- ---- a product

pair_waits : (f : Finding) (m : Multiplied) (x : ProductPart) (i j : ℕ) (vs : List ℕ) (l : Line) → move (InComplex f (Pair m x i j vs)) l ≡ with_only (λ ts. InComplex f (Product m (with_pair x (record { i = i; j = j; values = vs; primitive = ts })))) l
pair_waits f m x i j vs (with_line ts) = refl
pair_waits f m x i j vs _ = refl

-- what a call that reads a chain under a line promises
abbrev pub ReadsWith : ℕ → Place → Place → Result Chain ReadRefused → Type 0
ReadsWith prime start new part = (taken : Line → Option State) (to : Chain → State) → ((l : Line) → taken l ≡ with_only to l) → ((ts : Chain) → IsOpen prime (to ts)) → Reads taken (λ ts. move (to ts)) start new part

abbrev pub ReadsCycle : ℕ → Place → Place → Result Chain ReadRefused → Type 0
ReadsCycle prime start new part = (taken : Line → Option State) (to : Chain → State) → ((l : Line) → taken l ≡ cycle_only to l) → ((ts : Chain) → IsOpen prime (to ts)) → Reads taken (λ ts. move (to ts)) start new part

pub pair_opens : (prime i j : ℕ) (vs : List ℕ) (start new : Place) (part : Result Chain ReadRefused) → ReadsWith prime start new part
    → Opens (pairs prime) any prime (pair_line i j vs) (λ ts. record { i = i; j = j; values = vs; primitive = ts }) start new part
pair_opens prime i j vs start new part h = record {
  state = λ k xs. InComplex k.0 (Pair k.1 (record { a = k.2; b = k.3; columns = xs }) i j vs);
  takes = λ k xs fits here. refl;
  is_open = λ k xs fits. record { at_prime = fits; unfinished = refl };
  reads = λ k xs fits.
      h (move (InComplex k.0 (Pair k.1 (record { a = k.2; b = k.3; columns = xs }) i j vs))) (λ ts. InComplex k.0 (Product k.1 (with_pair (record { a = k.2; b = k.3; columns = xs }) (record { i = i; j = j; values = vs; primitive = ts }))))
      (pair_waits k.0 k.1 (record { a = k.2; b = k.3; columns = xs }) i j vs) (λ ts. record { at_prime = fits; unfinished = refl });
}

pub product_opens : (prime a b : ℕ) (start new : Place) (part : Result (List PairColumn) ReadRefused) → AreItems (pairs prime) start new part
    → Opens (products prime) any prime (product_line a b) (λ us. record { a = a; b = b; columns = us }) start new part
product_opens prime a b start new part h = record {
  state = λ i xs. InComplex i.0 (Product (record { graded = i.1; products = xs }) (record { a = a; b = b; columns = [] }));
  takes = λ i xs fits here. refl;
  is_open = λ i xs fits. record { at_prime = fits; unfinished = refl };
  reads = λ i xs fits. h.reads (i.0, record { graded = i.1; products = xs }, a, b) fits;
}

-- ---- a column

pub column_opens : (prime count j : ℕ) (vs : List ℕ) (start new : Place) (part : Result Chain ReadRefused) → j ≡ count + 1 → ReadsWith prime start new part
    → Opens (columns prime) (counted count) prime (column_line j vs) (λ ts. record { values = vs; primitive = ts }) start new part
column_opens prime count j vs start new part e h = record {
  state = λ i xs. i.1 xs vs;
  takes = λ i xs has here. has.opens xs j vs ∙ cond_true (Some (i.1 xs vs)) None (j == length xs + 1) (eq-eqb j (length xs + 1) (omega (arith, e, here)));
  is_open = λ i xs has. has.waits_at xs vs;
  reads = λ i xs has. h (move (i.1 xs vs)) (λ ts. i.0 (xs ++ record { values = vs; primitive = ts } ∷ [])) (has.closes xs vs) (λ ts. has.open_at (xs ++ record { values = vs; primitive = ts } ∷ []));
}

-- ---- an operation

operation_columns : (prime : ℕ) (f : Finding) (o : Operated) (w : OpWord) (k q n : ℕ) → f.prime ≡ prime
    → HasColumns prime (λ cs. InComplex f (Operation o (record { word = w; number = k; from = q; to = n; columns = cs })), λ cs vs. InComplex f (Values o (record { word = w; number = k; from = q; to = n; columns = cs }) vs), λ cs. within_operations f o.multiplied (o.operations ++ record { word = w; number = k; from = q; to = n; columns = cs } ∷ []))
operation_columns prime f o w k q n fits = record {
  opens = λ xs j vs. tested (j == length xs + 1) (Values o (record { word = w; number = k; from = q; to = n; columns = xs }) vs);
  closes = λ xs vs. waits (record { word = w; number = k; from = q; to = n; columns = xs }) vs;
  ends = λ xs. ended (record { word = w; number = k; from = q; to = n; columns = xs });
  open_at = λ xs. record { at_prime = fits; unfinished = refl };
  waits_at = λ xs vs. record { at_prime = fits; unfinished = refl };
}
  where
    tested : (b : Bool) (s : _) → (cond b (Some s) None >>= λ t. Some (InComplex f t)) ≡ cond b (Some (InComplex f s)) None
    tested true s = refl
    tested false s = refl

    waits : (x : OperationPart) (vs : List ℕ) (l : Line) → move (InComplex f (Values o x vs)) l ≡ with_only (λ ts. InComplex f (Operation o (with_column x (record { values = vs; primitive = ts })))) l
    waits x vs (with_line ts) = refl
    waits x vs _ = refl

    ended : (x : OperationPart) (l : Line) → ((j : ℕ) (vs : List ℕ) → l ≡ column_line j vs → ⊥) → move (InComplex f (Operation o x)) l ≡ within_operations f o.multiplied (o.operations ++ x ∷ []) l
    ended x (column_line j vs) h = absurd (h j vs refl)
    ended x (operation_line a b c d) h = refl
    ended x _ h = refl

pub operation_opens : (prime : ℕ) (w : OpWord) (k q n : ℕ) (start new : Place) (part : Result (List Column) ReadRefused) → AreItems (columns prime) start new part
    → Opens (operations prime) any prime (operation_line w k q n) (λ us. record { word = w; number = k; from = q; to = n; columns = us }) start new part
operation_opens prime w k q n start new part h = record {
  state = λ i xs. InComplex i.0 (Operation (record { multiplied = i.1; operations = xs }) (record { word = w; number = k; from = q; to = n; columns = [] }));
  takes = λ i xs fits here. refl;
  is_open = λ i xs fits. record { at_prime = fits; unfinished = refl };
  reads = λ i xs fits. h.reads _ (operation_columns prime i.0 (record { multiplied = i.1; operations = xs }) w k q n fits);
}

-- ---- a Cartan line

yes_waits : (f : Finding) (c : Judged) (a i b j n : ℕ) (l : Line) → move (InComplex f (Yes c a i b j n)) l ≡ with_only (λ ts. InComplex f (Cartans (record { operated = c.operated; cartans = c.cartans ++ record { a = a; i = i; b = b; j = j; n = n; answer = answers_yes ts } ∷ [] }))) l
yes_waits f c a i b j n (with_line ts) = refl
yes_waits f c a i b j n _ = refl

no_waits : (f : Finding) (c : Judged) (a i b j n v : ℕ) (l : Line) → move (InComplex f (No c a i b j n v)) l ≡ cycle_only (λ ts. InComplex f (Cartans (record { operated = c.operated; cartans = c.cartans ++ record { a = a; i = i; b = b; j = j; n = n; answer = answers_no v ts } ∷ [] }))) l
no_waits f c a i b j n v (cycle_line ts) = refl
no_waits f c a i b j n v _ = refl

pub yes_opens : (prime a i b j n : ℕ) (start new : Place) (part : Result Chain ReadRefused) → ReadsWith prime start new part
    → Opens (cartans prime) any prime (cartan_yes a i b j n) (λ ts. record { a = a; i = i; b = b; j = j; n = n; answer = answers_yes ts }) start new part
yes_opens prime a i b j n start new part h = record {
  state = λ k xs. InComplex k.0 (Yes (record { operated = k.1; cartans = xs }) a i b j n);
  takes = λ k xs fits here. refl;
  is_open = λ k xs fits. record { at_prime = fits; unfinished = refl };
  reads = λ k xs fits. h (move (InComplex k.0 (Yes (record { operated = k.1; cartans = xs }) a i b j n))) (λ ts. InComplex k.0 (Cartans (record { operated = k.1; cartans = xs ++ record { a = a; i = i; b = b; j = j; n = n; answer = answers_yes ts } ∷ [] }))) (yes_waits k.0 (record { operated = k.1; cartans = xs }) a i b j n) (λ ts. record { at_prime = fits; unfinished = refl });
}

pub no_opens : (prime a i b j n v : ℕ) (start new : Place) (part : Result Chain ReadRefused) → ReadsCycle prime start new part
    → Opens (cartans prime) any prime (cartan_no a i b j n v) (λ ts. record { a = a; i = i; b = b; j = j; n = n; answer = answers_no v ts }) start new part
no_opens prime a i b j n v start new part h = record {
  state = λ k xs. InComplex k.0 (No (record { operated = k.1; cartans = xs }) a i b j n v);
  takes = λ k xs fits here. refl;
  is_open = λ k xs fits. record { at_prime = fits; unfinished = refl };
  reads = λ k xs fits. h (move (InComplex k.0 (No (record { operated = k.1; cartans = xs }) a i b j n v))) (λ ts. InComplex k.0 (Cartans (record { operated = k.1; cartans = xs ++ record { a = a; i = i; b = b; j = j; n = n; answer = answers_no v ts } ∷ [] }))) (no_waits k.0 (record { operated = k.1; cartans = xs }) a i b j n v) (λ ts. record { at_prime = fits; unfinished = refl });
}

-- ---- a complex

pub complex_opens : (prime : ℕ) (name : List ℕ) (start new : Place) (part : Result ComplexPart ReadRefused)
    → ((f : Finding) → f.prime ≡ prime → Reads ((facets prime).within (f, name) []) (λ c. move (Between (with_complex f c))) start new part)
    → Opens (complexes prime) any prime (complex_line name) (λ c. c) start new part
complex_opens prime name start new part h = record {
  state = λ i xs. InComplex (record { prime = prime; complexes = xs }) (Facets (record { name = name; facets = [] }));
  takes = λ i xs fits here. refl;
  is_open = λ i xs fits. record { at_prime = refl; unfinished = refl };
  reads = λ i xs fits. h (record { prime = prime; complexes = xs }) refl;
}

-- ---- a block of a map

induced_columns : (prime : ℕ) (f : Finding) (ms : List MapPart) (h : MapHead) (bs : List InducedPart) (q : ℕ) → f.prime ≡ prime
    → HasColumns prime (λ cs. InMap f ms (Induced (record { head = h; induced = bs }) (record { q = q; columns = cs })), λ cs vs. InMap f ms (InducedValues (record { head = h; induced = bs }) (record { q = q; columns = cs }) vs), λ cs. within_induced f ms h (bs ++ record { q = q; columns = cs } ∷ []))
induced_columns prime f ms h bs q fits = record {
  opens = λ xs j vs. tested (j == length xs + 1) (InducedValues (record { head = h; induced = bs }) (record { q = q; columns = xs }) vs);
  closes = λ xs vs. waits (record { q = q; columns = xs }) vs;
  ends = λ xs. ended (record { q = q; columns = xs });
  open_at = λ xs. record { at_prime = fits; unfinished = refl };
  waits_at = λ xs vs. record { at_prime = fits; unfinished = refl };
}
  where
    tested : (b : Bool) (s : MapStage) → (cond b (Some s) None >>= λ t. Some (InMap f ms t)) ≡ cond b (Some (InMap f ms s)) None
    tested true s = refl
    tested false s = refl

    waits : (x : InducedPart) (vs : List ℕ) (l : Line) → move (InMap f ms (InducedValues (record { head = h; induced = bs }) x vs)) l ≡ with_only (λ ts. InMap f ms (Induced (record { head = h; induced = bs }) (with_induced_column x (record { values = vs; primitive = ts })))) l
    waits x vs (with_line ts) = refl
    waits x vs _ = refl

    ended : (x : InducedPart) (l : Line) → ((j : ℕ) (vs : List ℕ) → l ≡ column_line j vs → ⊥) → move (InMap f ms (Induced (record { head = h; induced = bs }) x)) l ≡ within_induced f ms h (bs ++ x ∷ []) l
    ended x (column_line j vs) k = absurd (k j vs refl)
    ended x (induced_line a) k = refl
    ended x end_line k = refl
    ended x _ k = refl

pub induced_opens : (prime q : ℕ) (start new : Place) (part : Result (List Column) ReadRefused) → AreItems (columns prime) start new part
    → Opens (induced_blocks prime) any prime (induced_line q) (λ us. record { q = q; columns = us }) start new part
induced_opens prime q start new part h = record {
  state = λ i xs. InMap i.0 i.1 (Induced (record { head = i.2; induced = xs }) (record { q = q; columns = [] }));
  takes = λ i xs fits here. refl;
  is_open = λ i xs fits. record { at_prime = fits; unfinished = refl };
  reads = λ i xs fits. h.reads _ (induced_columns prime i.0 i.1 i.2 xs q fits);
}

-- ---- a map

pub map_opens : (prime : ℕ) (name from to : List ℕ) (start new : Place) (part : Result MapPart ReadRefused)
    → ((f : Finding) (ms : List MapPart) → f.prime ≡ prime → Reads ((sends prime).within (f, ms, name, from, to) []) (λ m. move (BetweenMaps f (ms ++ m ∷ []))) start new part)
    → Opens (maps prime) any prime (map_line name from to) (λ m. m) start new part
map_opens prime name from to start new part h = record {
  state = λ f xs. InMap f xs (Sends (record { name = name; from = from; to = to; sends = [] }));
  takes = λ f xs fits here. refl;
  is_open = λ f xs fits. record { at_prime = fits; unfinished = refl };
  reads = λ f xs fits. h f xs fits;
}
