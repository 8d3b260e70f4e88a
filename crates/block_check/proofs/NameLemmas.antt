-- The names of blocks, and the complex with a name.
use Rattle.std.{proofs.Common.{◌≡◌, ℕ, ◌+◌, ◌<◌, ◌≤◌, refl, sym, ◌∙◌, ap, ap₂, arith, ◌↔◌, IsTrue, Bool, true, false, not, cond, ◌||◌, List, [], ◌∷◌, ◌++◌, length, map, get_or, drop}, specs.List.list_any, specs.Str.bytes_eq, proofs.lemmas.List.{at_drop_more, drop_all, get_or-map, length-map}, proofs.lemmas.List.Folds.list_any-append}
use Rattle.complex_file.specs.Names.{has_name}
use Rattle.certificate_law.specs.{Types.{ComplexBlock, ComplexPart, MapPart}, Names.{IsNewComplex, complex_names, map_names, complex_named, itself}}
use Rattle.block_check.specs.Blocks.{IsNewName}

any_map : {X Y : Type 0} (f : X → Y) (t : Y → Bool) (xs : List X) → list_any (λ x. t (f x)) xs ≡ list_any t (map f xs)
any_map f t [] = refl
any_map f t (x ∷ xs) = ap (λ (b : Bool). t (f x) || b) (any_map f t xs)

not_true : (b : Bool) → IsTrue (not b) → b ≡ false
not_true true h = sym h
not_true false h = refl

-- a test that a name is free
free : (b taken : Bool) → b ≡ taken → IsTrue (not b) ↔ (taken ≡ false)
free b taken e = (λ t. sym e ∙ not_true b t, λ q. ap not (e ∙ q))

in_complexes : (cs : List ComplexPart) (name : List ℕ) → list_any (λ (c : ComplexPart). bytes_eq name c.name) cs ≡ has_name (complex_names cs) name
in_complexes cs name = any_map (λ (c : ComplexPart). c.name) (bytes_eq name) cs

pub new_complex : (earlier : List ComplexPart) (c : ComplexPart) (name : List ℕ) (b : Bool) → length earlier < 8 → b ≡ list_any (λ (x : ComplexPart). bytes_eq name x.name) earlier → name ≡ c.name → IsTrue (not b) ↔ IsNewComplex earlier c
new_complex earlier c name b few e n =
    let f = free b (has_name (complex_names earlier) c.name) (e ∙ in_complexes earlier name ∙ ap (has_name (complex_names earlier)) n) in
    (λ t. record { few = few; new = f.0 t }, λ q. f.1 q.new)

pub new_map : (cs : List ComplexPart) (earlier : List MapPart) (m : MapPart) (name : List ℕ) (b : Bool) → length earlier < 8 → b ≡ has_name (complex_names cs ++ map_names earlier) name → name ≡ m.name → IsTrue (not b) ↔ IsNewName cs earlier m
new_map cs earlier m name b few e n =
    let f = free b (has_name (complex_names cs ++ map_names earlier) m.name) (e ∙ ap (has_name (complex_names cs ++ map_names earlier)) n) in
    (λ t. record { few = few; new = f.0 t }, λ q. f.1 q.new)

taken : (cs : List ComplexPart) (ms : List MapPart) (name : List ℕ) → has_name (complex_names cs ++ map_names ms) name ≡ (list_any (λ (c : ComplexPart). bytes_eq name c.name) cs || list_any (λ (m : MapPart). bytes_eq name m.name) ms)
taken cs ms name =
    list_any-append (bytes_eq name) (complex_names cs) (map_names ms)
    ∙ ap₂ (λ (a b : Bool). a || b) (sym (in_complexes cs name)) (sym (any_map (λ (m : MapPart). m.name) (bytes_eq name) ms))

pub taken_first : (cs : List ComplexPart) (ms : List MapPart) (name : List ℕ) (a : Bool) → a ≡ list_any (λ (c : ComplexPart). bytes_eq name c.name) cs → a ≡ true → a ≡ has_name (complex_names cs ++ map_names ms) name
taken_first cs ms name a is there = there ∙ sym (taken cs ms name ∙ ap (λ (b : Bool). b || list_any (λ (m : MapPart). bytes_eq name m.name) ms) (sym is ∙ there))

pub taken_second : (cs : List ComplexPart) (ms : List MapPart) (name : List ℕ) (a b : Bool) → a ≡ list_any (λ (c : ComplexPart). bytes_eq name c.name) cs → a ≡ false → b ≡ list_any (λ (m : MapPart). bytes_eq name m.name) ms →
    b ≡ has_name (complex_names cs ++ map_names ms) name
taken_second cs ms name a b is absent other = other ∙ sym (taken cs ms name ∙ ap (λ (d : Bool). d || list_any (λ (m : MapPart). bytes_eq name m.name) ms) (sym is ∙ absent))

-- ---- the complex with a name

-- Of the complexes before a place none has the name.
pub record IsBehind (cs : List ComplexPart) (name : List ℕ) (k : ℕ) : Type 0 where
  pub names : has_name (complex_names cs) name ≡ has_name (complex_names (drop k cs)) name
  pub named : complex_named cs name ≡ complex_named (drop k cs) name

pub record IsFound (cs : List ComplexPart) (name : List ℕ) (b : ComplexBlock) : Type 0 where
  pub there : has_name (complex_names cs) name ≡ true
  pub same : b ≡ itself (complex_named cs name)

same_block : (cs : List ComplexPart) (blocks : List ComplexBlock) (k : ℕ) (b : ComplexBlock) (name : List ℕ) → map itself cs ≡ blocks → k < length blocks → b ≡ get_or blocks k b → (k < length cs) × (b ≡ itself (get_or cs k (complex_named [] name)))
same_block cs blocks k b name e l is =
    let n = length-map cs itself in
    let m = ap length e in
    let inside : k < length cs = omega (arith, n, m, l) in
    (inside, is ∙ ap (λ bs. get_or bs k b) (sym e) ∙ get_or-map itself cs k (complex_named [] name) b inside)

pub found_block : (cs : List ComplexPart) (blocks : List ComplexBlock) (k : ℕ) (b : ComplexBlock) (name : List ℕ) → map itself cs ≡ blocks → k < length blocks → b ≡ get_or blocks k b → bytes_eq name b.name ≡ true → IsBehind cs name k → IsFound cs name b
found_block cs blocks k b name e l is t h =
    let s = same_block cs blocks k b name e l is in
    let x = get_or cs k (complex_named [] name) in
    let u : bytes_eq name x.name ≡ true = ap (λ (y : ComplexBlock). bytes_eq name y.name) (sym s.1) ∙ t in
    record {
      there = h.names ∙ at_drop_more (λ ys. has_name (complex_names ys) name) cs k (complex_named [] name) s.0 ∙ ap (λ (v : Bool). v || has_name (complex_names (drop (k + 1) cs)) name) u;
      same = s.1 ∙ ap itself (sym (h.named ∙ at_drop_more (λ ys. complex_named ys name) cs k (complex_named [] name) s.0 ∙ ap (λ (v : Bool). cond v x (complex_named (drop (k + 1) cs) name)) u));
    }

pub not_yet : (cs : List ComplexPart) (blocks : List ComplexBlock) (k : ℕ) (b : ComplexBlock) (name : List ℕ) → map itself cs ≡ blocks → k < length blocks → b ≡ get_or blocks k b → bytes_eq name b.name ≡ false → IsBehind cs name k → IsBehind cs name (k + 1)
not_yet cs blocks k b name e l is t h =
    let s = same_block cs blocks k b name e l is in
    let x = get_or cs k (complex_named [] name) in
    let u : bytes_eq name x.name ≡ false = ap (λ (y : ComplexBlock). bytes_eq name y.name) (sym s.1) ∙ t in
    record {
      names = h.names ∙ at_drop_more (λ ys. has_name (complex_names ys) name) cs k (complex_named [] name) s.0 ∙ ap (λ (v : Bool). v || has_name (complex_names (drop (k + 1) cs)) name) u;
      named = h.named ∙ at_drop_more (λ ys. complex_named ys name) cs k (complex_named [] name) s.0 ∙ ap (λ (v : Bool). cond v x (complex_named (drop (k + 1) cs) name)) u;
    }

pub not_there : (cs : List ComplexPart) (blocks : List ComplexBlock) (k : ℕ) (name : List ℕ) → map itself cs ≡ blocks → length blocks ≤ k → IsBehind cs name k → has_name (complex_names cs) name ≡ false
not_there cs blocks k name e l h =
    let n = length-map cs itself in
    let m = ap length e in
    h.names ∙ ap (λ ys. has_name (complex_names ys) name) (drop_all k cs (omega (arith, n, m, l)))
