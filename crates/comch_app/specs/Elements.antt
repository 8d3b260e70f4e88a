-- The text of a May element.
use Rattle.std.specs.{Prelude.{ℕ, ℤ, List, ◌∷◌, ◌++◌, codes, flat_map}, Fmt.{decimal, signed_decimal}}
use Rattle.comch_app.specs.Refusals.{ended}

-- a number behind a blank
abbrev pub spaced_number : ℕ → List ℕ
spaced_number n = 32 ∷ decimal n

-- a term: its coefficient, a colon, and the values of the surjection
abbrev pub term_line : List ℕ × ℤ → List ℕ
term_line t = ended (signed_decimal t.1 ++ codes " :" ++ flat_map spaced_number t.0)

-- the prime and the degree
abbrev pub element_heading : ℕ → ℕ → List ℕ
element_heading p d = ended (codes "may" ++ spaced_number p ++ spaced_number d)

-- the element of degree d for p with these terms
abbrev pub element_text : ℕ → ℕ → List (List ℕ × ℤ) → List ℕ
element_text p d ts = element_heading p d ++ flat_map term_line ts ++ ended (codes "done")
