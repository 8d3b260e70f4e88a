-- What stands at a place of a list of rows that are equally long.
use Rattle.std.proofs.{Common.{◌≡◌, ℕ, zero, suc, ◌+◌, ◌*◌, ◌/◌, ◌%◌, ◌-◌, ◌<◌, ◌≤◌, refl, sym, ◌∙◌, ap, ap₂, subst, arith, leb, ◌↔◌, IsTrue, List, [], ◌∷◌, ◌++◌, length, map, flat_map, get_or, drop, slice_get, option_map, Some, None, vec_len, le-leb, leb-true, length-append, div-add-mod'}, lemmas.List.{at_drop_more, length-map}, lemmas.Nat.div_below, lemmas.Option.{slice_get-map, slice_get-get_or, slice_get_past}, Math.Nat.mod-lt}
use Rattle.signed_sum.specs.Names.{numbers_from}
use Rattle.report.specs.declared.plan.Line.{Line}
use Rattle.report_law.specs.Names.{number_pairs}
use Rattle.count_check.specs.{declared.lines.LineGroup.LineGroup, LineGroups.{group_lines, line_with}}

pub slice_left : {X : Type 0} (xs ys : List X) (k : ℕ) → k < length xs → slice_get (xs ++ ys) k ≡ slice_get xs k
slice_left [] ys k b = absurd (omega arith)
slice_left (x ∷ xs) ys zero b = refl
slice_left (x ∷ xs) ys (suc k) b = slice_left xs ys k (omega arith)

pub slice_right : {X : Type 0} (xs ys : List X) (k : ℕ) → slice_get (xs ++ ys) (length xs + k) ≡ slice_get ys k
slice_right [] ys k = let e : 0 + k ≡ k = omega arith in ap (slice_get ys) e
slice_right (x ∷ xs) ys k = let e : length (x ∷ xs) + k ≡ suc (length xs + k) = omega arith in ap (slice_get (x ∷ (xs ++ ys))) e ∙ slice_right xs ys k

pub number_at : (a m k : ℕ) → k < m → slice_get (numbers_from a m) k ≡ Some (a + k)
number_at a zero k b = absurd (omega arith)
number_at a (suc m) zero b = let e : a ≡ a + 0 = omega arith in ap Some e
number_at a (suc m) (suc k) b = let e : suc a + k ≡ a + suc k = omega arith in number_at (suc a) m k (omega arith) ∙ ap Some e

pub numbers_length : (a m : ℕ) → length (numbers_from a m) ≡ m
numbers_length a zero = refl
numbers_length a (suc m) = ap suc (numbers_length (suc a) m)

-- rows of one length

pub rows_length : {X : Type 0} (f : ℕ → List X) (n s c : ℕ) → ((i : ℕ) → length (f i) ≡ n) → length (flat_map f (numbers_from s c)) ≡ c * n
rows_length f n s zero h = omega arith
rows_length f n s (suc c) h =
    let a = length-append (f s) (flat_map f (numbers_from (suc s) c)) in
    let b = h s in
    let r = rows_length f n (suc s) c h in
    omega (arith, a, b, r)

pub row_at : {X : Type 0} (f : ℕ → List X) (n s c q r : ℕ) → ((i : ℕ) → length (f i) ≡ n) → r < n → q < c → slice_get (flat_map f (numbers_from s c)) (q * n + r) ≡ slice_get (f (s + q)) r
row_at f n s zero q r h b l = absurd (omega arith)
row_at f n s (suc c) zero r h b l =
    let e : zero * n + r ≡ r = omega arith in
    let z : s ≡ s + zero = omega arith in
    let m = h s in
    ap (slice_get (f s ++ flat_map f (numbers_from (suc s) c))) e ∙ slice_left (f s) (flat_map f (numbers_from (suc s) c)) r (omega (arith, m, b)) ∙ ap (λ i. slice_get (f i) r) z
row_at f n s (suc c) (suc q) r h b l =
    let m = h s in
    let e : suc q * n + r ≡ length (f s) + (q * n + r) = omega (arith, m) in
    let z : suc s + q ≡ s + suc q = omega arith in
    ap (slice_get (f s ++ flat_map f (numbers_from (suc s) c))) e ∙ slice_right (f s) (flat_map f (numbers_from (suc s) c)) (q * n + r) ∙ row_at f n (suc s) c q r h b (omega arith) ∙ ap (λ i. slice_get (f i) r) z

pub at_place : {X : Type 0} (f : ℕ → List X) (n s c k : ℕ) → ((i : ℕ) → length (f i) ≡ n) → 0 < n → k < c * n → slice_get (flat_map f (numbers_from s c)) k ≡ slice_get (f (s + k / n)) (k % n)
at_place f n s c k h pos b =
    ap (slice_get (flat_map f (numbers_from s c))) (sym (div-add-mod' k n)) ∙ row_at f n s c (k / n) (k % n) h (mod-lt k pos) (div_below k n c pos b)

pub positive_right : (c n k : ℕ) → k < c * n → 0 < n
positive_right c zero k b = absurd (omega arith)
positive_right c (suc n) k b = omega arith

-- ---- pairs of numbers

abbrev row_of : ℕ → ℕ → List (ℕ × ℕ)
row_of k i = map (λ j. (i, j)) (numbers_from 1 k)

pair_row : (k i : ℕ) → length (row_of k i) ≡ k
pair_row k i = length-map {B = ℕ × ℕ} (numbers_from 1 k) (λ j. (i, j)) ∙ numbers_length 1 k

pub pairs_length : (h k : ℕ) → length (number_pairs h k) ≡ h * k
pairs_length h k = rows_length (row_of k) k 1 h (pair_row k)

in_pairs : (h k place : ℕ) → place < h * k → Some (place / k + 1, place % k + 1) ≡ slice_get (number_pairs h k) place
in_pairs h k place b =
    let pos = positive_right h k place b in
    let i : 1 + place / k ≡ place / k + 1 = omega arith in
    let j : 1 + place % k ≡ place % k + 1 = omega arith in
    sym (at_place (row_of k) k 1 h place (pair_row k) pos b
    ∙ slice_get-map (λ (j : ℕ). (1 + place / k, j)) (numbers_from 1 k) (place % k)
    ∙ ap (λ o. option_map (λ (j : ℕ). (1 + place / k, j)) o) (number_at 1 k (place % k) (mod-lt place pos))
    ∙ ap₂ (λ a c. Some (a, c)) i j)

pub pair_place : (h k place x y : ℕ) → x ≡ h → y ≡ k → place < x * y → Some (place / y + 1, place % y + 1) ≡ slice_get (number_pairs h k) place
pair_place h k place x y e f l =
    subst (λ (w : ℕ). Some (place / w + 1, place % w + 1) ≡ slice_get (number_pairs h k) place) (sym f)
    (in_pairs h k place (subst (λ (w : ℕ). place < w * k) e (subst (λ (w : ℕ). place < x * w) f l)))

pub pair_past : (h k place x y : ℕ) → x ≡ h → y ≡ k → x * y ≤ place → None ≡ slice_get (number_pairs h k) place
pair_past h k place x y e f b =
    let l = pairs_length h k in
    let m : h * k ≤ place = subst (λ (w : ℕ). w * k ≤ place) e (subst (λ (w : ℕ). x * w ≤ place) f b) in
    sym (slice_get_past (number_pairs h k) place (omega (arith, l, m)))

pub pairs_there : (h k x y n len : ℕ) → x ≡ h → y ≡ k → len ≡ n → IsTrue (leb (x * y) len) ↔ (length (number_pairs h k) ≤ n)
pairs_there h k x y n len e f g =
    let l = pairs_length h k in
    let q : x * y ≡ h * k = ap₂ (λ u v. u * v) e f in
    (λ t. let b = leb-true (x * y) len t in omega (arith, l, q, b, g), λ b. le-leb (x * y) len (omega (arith, l, q, b, g)))

-- ---- lines of two degrees

abbrev pub lines_by : ℕ → ℕ → List ℕ → ℕ → ℕ → List Line
lines_by a b ns h k = flat_map (λ i. flat_map (λ j. map (line_with a b i j) ns) (numbers_from 1 k)) (numbers_from 1 h)

line_row : (a b : ℕ) (ns : List ℕ) (k i : ℕ) → length (flat_map (λ j. map (line_with a b i j) ns) (numbers_from 1 k)) ≡ k * length ns
line_row a b ns k i = rows_length (λ j. map (line_with a b i j) ns) (length ns) 1 k (λ j. length-map ns (line_with a b i j))

pub lines_length : (a b : ℕ) (ns : List ℕ) (h k : ℕ) → length (lines_by a b ns h k) ≡ h * (k * length ns)
lines_length a b ns h k = rows_length (λ i. flat_map (λ j. map (line_with a b i j) ns) (numbers_from 1 k)) (k * length ns) 1 h (line_row a b ns k)

pub line_place : (a b : ℕ) (ns : List ℕ) (h k place d : ℕ) → place < h * (k * length ns) →
    slice_get (lines_by a b ns h k) place ≡ Some (line_with a b (place / (k * length ns) + 1) ((place % (k * length ns)) / length ns + 1) (get_or ns ((place % (k * length ns)) % length ns) d))
line_place a b ns h k place d l =
    let m = length ns in
    let row = k * m in
    let pos : 0 < row = positive_right h row place l in
    let rest = place % row in
    let inside : rest < k * m = mod-lt place pos in
    let some : 0 < m = positive_right k m rest inside in
    let i = 1 + place / row in
    let j = 1 + rest / m in
    let ei : i ≡ place / row + 1 = omega arith in
    let ej : j ≡ rest / m + 1 = omega arith in
    at_place (λ i. flat_map (λ j. map (line_with a b i j) ns) (numbers_from 1 k)) row 1 h place (line_row a b ns k) pos l
    ∙ at_place (λ j. map (line_with a b i j) ns) m 1 k rest (λ j. length-map ns (line_with a b i j)) some inside
    ∙ slice_get-map (line_with a b i j) ns (rest % m)
    ∙ ap (λ o. option_map (line_with a b i j) o) (slice_get-get_or ns (rest % m) d (mod-lt rest some))
    ∙ ap₂ (λ x y. Some (line_with a b x y (get_or ns (rest % m) d))) ei ej

pub count_is : (g : LineGroup) (m : ℕ) → m ≡ vec_len g.numbers → m ≡ length g.numbers.items
count_is g m e = let o = g.numbers.ok.0 in omega (arith, e, o)

pub size_is : (a b c h k m l : ℕ) → a ≡ h → b ≡ k → c ≡ m → l ≡ h * (k * m) → a * b * c ≡ l
size_is a b c h k m l x y z e = ap₂ (λ u v. u * v * c) x y ∙ ap (λ w. h * k * w) z ∙ (let q : h * k * m ≡ h * (k * m) = omega arith in q) ∙ sym e

-- the parts of a place: y and m are the numbers of second classes and of numbers n
pub record LineParts (place y m h k : ℕ) : Type 0 where
  pub row : 0 < y * m
  pub count : 0 < m
  pub i : place / (y * m) < h
  pub j : place % (y * m) / m < k
  pub n : place % (y * m) % m < m

line_parts : (h k m place : ℕ) → place < h * (k * m) → LineParts place k m h k
line_parts h k m place l =
    let row : 0 < k * m = positive_right h (k * m) place l in
    let inside : place % (k * m) < k * m = mod-lt place row in
    let count : 0 < m = positive_right k m (place % (k * m)) inside in
    record { row = row; count = count; i = div_below place (k * m) h row l; j = div_below (place % (k * m)) m k count inside; n = mod-lt (place % (k * m)) count }

in_lines : (g : LineGroup) (place : ℕ) → place < length (group_lines g) → place < g.first * (g.second * length g.numbers.items)
in_lines g place b = let l = lines_length g.a g.b g.numbers.items g.first g.second in omega (arith, l, b)

pub parts_in : (g : LineGroup) (place y m : ℕ) → y ≡ g.second → m ≡ length g.numbers.items → place < length (group_lines g) → LineParts place y m g.first g.second
parts_in g place y m e f b =
    subst (λ (w : ℕ). LineParts place w m g.first g.second) (sym e)
    (subst (λ (w : ℕ). LineParts place g.second w g.first g.second) (sym f) (line_parts g.first g.second (length g.numbers.items) place (in_lines g place b)))

pub line_found : (g : LineGroup) (place y m n : ℕ) → y ≡ g.second → m ≡ length g.numbers.items → n ≡ get_or g.numbers.items (place % (y * m) % m) n → place < length (group_lines g) →
    slice_get (group_lines g) place ≡ Some (line_with g.a g.b (place / (y * m) + 1) (place % (y * m) / m + 1) n)
line_found g place y m n e f h b =
    let Found : ℕ → ℕ → Type 0 = λ w v. n ≡ get_or g.numbers.items (place % (w * v) % v) n → slice_get (group_lines g) place ≡ Some (line_with g.a g.b (place / (w * v) + 1) (place % (w * v) / v + 1) n) in
    subst (λ (w : ℕ). Found w m) (sym e) (subst (λ (v : ℕ). Found g.second v) (sym f)
    (λ q. line_place g.a g.b g.numbers.items g.first g.second place n (in_lines g place b)
    ∙ ap (λ x. Some (line_with g.a g.b (place / (g.second * length g.numbers.items) + 1) (place % (g.second * length g.numbers.items) / length g.numbers.items + 1) x)) (sym q))) h

-- ---- a place in the lists of several items

pub found_here : {X Y : Type 0} (f : X → List Y) (xs : List X) (i : ℕ) (x : X) (place left : ℕ) (y : Y) → i < length xs → x ≡ get_or xs i x → slice_get (flat_map f xs) place ≡ slice_get (flat_map f (drop i xs)) left → left < length (f x) →
    slice_get (f x) left ≡ Some y → Some y ≡ slice_get (flat_map f xs) place
found_here f xs i x place left y b e h l g =
    let q = at_drop_more (flat_map f) xs i x b ∙ ap (λ z. f z ++ flat_map f (drop (i + 1) xs)) (sym e) in
    sym (h ∙ ap (λ zs. slice_get zs left) q ∙ slice_left (f x) (flat_map f (drop (i + 1) xs)) left l ∙ g)

pub found_later : {X Y : Type 0} (f : X → List Y) (xs : List X) (i : ℕ) (x : X) (place left size : ℕ) → i < length xs → x ≡ get_or xs i x → slice_get (flat_map f xs) place ≡ slice_get (flat_map f (drop i xs)) left → size ≡ length (f x) → size ≤ left →
    slice_get (flat_map f xs) place ≡ slice_get (flat_map f (drop (i + 1) xs)) (left - size)
found_later f xs i x place left size b e h s l =
    let q = at_drop_more (flat_map f) xs i x b ∙ ap (λ z. f z ++ flat_map f (drop (i + 1) xs)) (sym e) in
    let m : left ≡ length (f x) + (left - size) = omega (arith, s, l) in
    h ∙ ap (λ zs. slice_get zs left) q ∙ ap (slice_get (f x ++ flat_map f (drop (i + 1) xs))) m ∙ slice_right (f x) (flat_map f (drop (i + 1) xs)) (left - size)
