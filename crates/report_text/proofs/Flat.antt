-- One more item of a text that is written item by item.
use Rattle.std.proofs.{Common.{◌≡◌, ◌∙◌, ℕ, ◌+◌, ◌<◌, List, [], ◌∷◌, ◌++◌, length, take, get_or, ap, refl, sym, arith, append_assoc, flat_map, map, append-nil, length-take}, lemmas.List.{take_more, map-append}, lemmas.Grind.flat_map-append}
use Rattle.report.specs.declared.{columns.Column.Column, complex.DegreePart.DegreePart, form.Form.Form}
use Rattle.report_text_law.{specs.declared.line.Line.Line, specs.Names.{columns_from, degrees_from, degree_lines, shown}, specs.declared.line.Line.TheVariants.{Column as column_line, With as with_line}, proofs.Written.{columns_apart, degrees_apart}}

pub flat_more : {X Y : Type 0} (f : X → List Y) (xs : List X) (i : ℕ) (d : X) → i < length xs → flat_map f (take (i + 1) xs) ≡ flat_map f (take i xs) ++ f (get_or xs i d)
flat_more {Y = Y} f xs i d lt = ap (flat_map f) (take_more xs i d lt) ∙ flat_map-append f (take i xs) (get_or xs i d ∷ []) ∙ ap (λ (t : List Y). flat_map f (take i xs) ++ t) (append-nil (f (get_or xs i d)))

pub flat_more_map : {X Y Z : Type 0} (f : Y → List Z) (g : X → Y) (xs : List X) (i : ℕ) (d : X) → i < length xs → flat_map f (map g (take (i + 1) xs)) ≡ flat_map f (map g (take i xs)) ++ f (g (get_or xs i d))
flat_more_map {Z = Z} f g xs i d lt =
    ap (λ (t : List _). flat_map f (map g t)) (take_more xs i d lt)
    ∙ ap (flat_map f) (map-append g (take i xs) (get_or xs i d ∷ []))
    ∙ flat_map-append f (map g (take i xs)) (g (get_or xs i d) ∷ [])
    ∙ ap (λ (t : List Z). flat_map f (map g (take i xs)) ++ t) (append-nil (f (g (get_or xs i d))))

pub flat_more_flat : {X Y Z : Type 0} (f : Y → List Z) (g : X → List Y) (xs : List X) (i : ℕ) (d : X) → i < length xs → flat_map f (flat_map g (take (i + 1) xs)) ≡ flat_map f (flat_map g (take i xs)) ++ flat_map f (g (get_or xs i d))
flat_more_flat f g xs i d lt = ap (flat_map f) (flat_more g xs i d lt) ∙ flat_map-append f (flat_map g (take i xs)) (g (get_or xs i d))

-- the text of some lines and more
pub flat_map_two : {X Y : Type 0} (f : X → List Y) (xs ys : List X) → flat_map f (xs ++ ys) ≡ flat_map f xs ++ flat_map f ys
flat_map_two f xs ys = flat_map-append f xs ys

pub columns_more : (f : Form) (xs : List Column) (i : ℕ) (d : Column) → i < length xs
    → flat_map (shown f) (columns_from 1 (take (i + 1) xs)) ≡ flat_map (shown f) (columns_from 1 (take i xs)) ++ (shown f (column_line (i + 1) (get_or xs i d).values) ++ shown f (with_line (get_or xs i d).primitive))
columns_more f xs i d lt =
    let len : 1 + length (take i xs) ≡ i + 1 = omega (arith, length-take i xs) in
    ap (λ (t : List Column). flat_map (shown f) (columns_from 1 t)) (take_more xs i d lt)
    ∙ ap (flat_map (shown f)) (columns_apart 1 (take i xs) (get_or xs i d ∷ []))
    ∙ flat_map-append (shown f) (columns_from 1 (take i xs)) (columns_from (1 + length (take i xs)) (get_or xs i d ∷ []))
    ∙ ap (λ (k : ℕ). flat_map (shown f) (columns_from 1 (take i xs)) ++ flat_map (shown f) (columns_from k (get_or xs i d ∷ []))) len
    ∙ ap (λ (t : List ℕ). flat_map (shown f) (columns_from 1 (take i xs)) ++ (shown f (column_line (i + 1) (get_or xs i d).values) ++ t)) (append-nil (shown f (with_line (get_or xs i d).primitive)))

pub degrees_more : (f : Form) (xs : List DegreePart) (i : ℕ) (d : DegreePart) → i < length xs
    → flat_map (shown f) (degrees_from 0 (take (i + 1) xs)) ≡ flat_map (shown f) (degrees_from 0 (take i xs)) ++ flat_map (shown f) (degree_lines i (get_or xs i d))
degrees_more f xs i d lt =
    let len : 0 + length (take i xs) ≡ i = omega (arith, length-take i xs) in
    ap (λ (t : List DegreePart). flat_map (shown f) (degrees_from 0 t)) (take_more xs i d lt)
    ∙ ap (flat_map (shown f)) (degrees_apart 0 (take i xs) (get_or xs i d ∷ []))
    ∙ flat_map-append (shown f) (degrees_from 0 (take i xs)) (degrees_from (0 + length (take i xs)) (get_or xs i d ∷ []))
    ∙ ap (λ (k : ℕ). flat_map (shown f) (degrees_from 0 (take i xs)) ++ flat_map (shown f) (degrees_from k (get_or xs i d ∷ []))) len
    ∙ ap (λ (t : List Line). flat_map (shown f) (degrees_from 0 (take i xs)) ++ flat_map (shown f) t) (append-nil (degree_lines i (get_or xs i d)))

pub degrees_step : (f : Form) (old text new : List ℕ) (xs : List DegreePart) (i : ℕ) (x : DegreePart) → i < length xs → x ≡ get_or xs i x
    → text ≡ old ++ flat_map (shown f) (degrees_from 0 (take i xs)) → new ≡ text ++ flat_map (shown f) (degree_lines i x)
    → new ≡ old ++ flat_map (shown f) (degrees_from 0 (take (i + 1) xs))
degrees_step f old text new xs i x lt same h e =
    e ∙ ap (λ (t : List ℕ). t ++ flat_map (shown f) (degree_lines i x)) h
    ∙ append_assoc old (flat_map (shown f) (degrees_from 0 (take i xs))) (flat_map (shown f) (degree_lines i x))
    ∙ ap (λ (y : DegreePart). old ++ (flat_map (shown f) (degrees_from 0 (take i xs)) ++ flat_map (shown f) (degree_lines i y))) same
    ∙ ap (λ (t : List ℕ). old ++ t) (sym (degrees_more f xs i x lt))

pub columns_step : (f : Form) (old text mid new vs : List ℕ) (xs : List Column) (i : ℕ) (x : Column) → vs ≡ x.values → i < length xs → x ≡ get_or xs i x
    → text ≡ old ++ flat_map (shown f) (columns_from 1 (take i xs)) → mid ≡ text ++ shown f (column_line (i + 1) vs) → new ≡ mid ++ shown f (with_line x.primitive)
    → new ≡ old ++ flat_map (shown f) (columns_from 1 (take (i + 1) xs))
columns_step f old text mid new vs xs i x values lt same h m e =
    let more : Column → List ℕ = λ (y : Column). shown f (column_line (i + 1) y.values) ++ shown f (with_line y.primitive) in
    e ∙ ap (λ (t : List ℕ). t ++ shown f (with_line x.primitive)) (m ∙ ap (λ (u : List ℕ). text ++ shown f (column_line (i + 1) u)) values ∙ ap (λ (t : List ℕ). t ++ shown f (column_line (i + 1) x.values)) h)
    ∙ append_assoc (old ++ flat_map (shown f) (columns_from 1 (take i xs))) (shown f (column_line (i + 1) x.values)) (shown f (with_line x.primitive))
    ∙ append_assoc old (flat_map (shown f) (columns_from 1 (take i xs))) (more x)
    ∙ ap (λ (y : Column). old ++ (flat_map (shown f) (columns_from 1 (take i xs)) ++ more y)) same
    ∙ ap (λ (t : List ℕ). old ++ t) (sym (columns_more f xs i x lt))
