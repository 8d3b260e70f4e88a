-- The names of blocks.
use Rattle.std.{proofs.Common.{◌≡◌, ◌∙◌, ◌+◌, ◌||◌, List, [], ◌∷◌, ℕ, suc, Bool, true, false, Some, None, cond, not, is_some, length, map, ap, sym, refl, arith, nat_lt}, proofs.lemmas.List.Folds.list_any-append, proofs.lemmas.Bool.Decides.nat_tests, specs.List.{list_any, position, position_or_len}, specs.Str.bytes_eq, specs.declared.option.Option.Option}
use Rattle.complex_file.specs.Names.{ComplexBlock, MapBlock, block_names, has_name, place_of_name}

any-map : {X Y : Type 0} (f : X → Y) (p : Y → Bool) (xs : List X) → list_any (λ x. p (f x)) xs ≡ list_any p (map f xs)
any-map f p [] = refl
any-map f p (x ∷ xs) = ap (λ (b : Bool). p (f x) || b) (any-map f p xs)

-- a name is that of a complex or that of a map
named : (cs : List ComplexBlock) (ms : List MapBlock) (name : List ℕ)
    → has_name (block_names cs ms) name ≡ (list_any (λ (c : ComplexBlock). bytes_eq name c.name) cs || list_any (λ (m : MapBlock). bytes_eq name m.name) ms)
named cs ms name =
    list_any-append (bytes_eq name) (map (λ (c : ComplexBlock). c.name) cs) (map (λ (m : MapBlock). m.name) ms)
    ∙ λ i. (sym (any-map (λ (c : ComplexBlock). c.name) (bytes_eq name) cs) i) || (sym (any-map (λ (m : MapBlock). m.name) (bytes_eq name) ms) i)

first_below : {X : Type 0} (p : X → Bool) (xs : List X) → nat_lt (position_or_len p xs) (length xs) ≡ list_any p xs
first_below p [] = refl
first_below p (x ∷ xs) = step (p x) (position_or_len p xs) (length xs) (list_any p xs) (first_below p xs)
  where
    step : (b : Bool) (k n : ℕ) (a : Bool) → nat_lt k n ≡ a → nat_lt (cond (not b) (1 + k) 0) (suc n) ≡ (b || a)
    step true k n a h = grind (arith, nat_tests)
    step false k n a h = grind (arith, nat_tests)

-- what passes a test has a place
place_tells : {X : Type 0} (p : X → Bool) (xs : List X) → is_some (position p xs) ≡ list_any p xs
place_tells p xs = made (nat_lt (position_or_len p xs) (length xs)) (position_or_len p xs) ∙ first_below p xs
  where
    made : (b : Bool) (k : ℕ) → is_some (cond b (Some k) None) ≡ b
    made true k = refl
    made false k = refl

complex_named : (cs : List ComplexBlock) (name : List ℕ) (o : Option ℕ) (a : Bool) → o ≡ place_of_name cs name → a ≡ is_some o
    → a ≡ list_any (λ (c : ComplexBlock). bytes_eq name c.name) cs
complex_named cs name o a place is = is ∙ ap (is_some {T = ℕ}) place ∙ place_tells (λ (c : ComplexBlock). bytes_eq name c.name) cs

pub named_first : (cs : List ComplexBlock) (ms : List MapBlock) (name : List ℕ) (o : Option ℕ) (a : Bool)
    → o ≡ place_of_name cs name → a ≡ is_some o → a ≡ true → a ≡ has_name (block_names cs ms) name
named_first cs ms name o a place is there =
    there ∙ sym (named cs ms name ∙ ap (λ (b : Bool). b || list_any (λ (m : MapBlock). bytes_eq name m.name) ms) (sym (complex_named cs name o a place is) ∙ there))

pub named_second : (cs : List ComplexBlock) (ms : List MapBlock) (name : List ℕ) (o : Option ℕ) (a b : Bool)
    → o ≡ place_of_name cs name → a ≡ is_some o → a ≡ false → b ≡ list_any (λ (m : MapBlock). bytes_eq name m.name) ms
    → b ≡ has_name (block_names cs ms) name
named_second cs ms name o a b place is absent other =
    other ∙ sym (named cs ms name ∙ ap (λ (d : Bool). d || list_any (λ (m : MapBlock). bytes_eq name m.name) ms) (sym (complex_named cs name o a place is) ∙ absent))
