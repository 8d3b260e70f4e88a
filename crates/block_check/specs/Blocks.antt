-- What the walk of the blocks of a certificate says.
use Rattle.std.specs.Prelude.{◌≡◌, ℕ, ◌+◌, ◌<◌, false, nat_lt, if◌then◌else◌, List, [], ◌∷◌, ◌++◌, length, Ok, Err, Result, None}
use Rattle.complex_file.specs.Names.{facet_fault, has_name}
use Rattle.certificate_law.specs.{Types.{ComplexPart, MapPart}, Names.{complex_names, map_names, Stated, behind, induced_stated, map_ends, numbered, send_stands}}
use Rattle.certificate_walk.specs.{Names.map_lines, declared.stop.Stop.Stop, declared.stop.Stop.TheVariants.{Fails, OutOfMemory}}

-- the answer of a walk that ends at the line `last`, where it ends with a value
abbrev pub walked : {X : Type 0} → ℕ → Result X Stop → Result ℕ Stop
walked last (Ok x) = Ok last
walked last (Err e) = Err e

-- fewer than eight maps stand before this one, and no complex and no earlier map has its name
pub record IsNewName (cs : List ComplexPart) (before : List MapPart) (m : MapPart) : Type 0 where
  pub few : length before < 8
  pub new : has_name (complex_names cs ++ map_names before) m.name ≡ false

-- One more facet, behind `count` lines: it has no fault, and the complex has it; or its line is told, and it has one.
abbrev pub IsFacetWalk : ℕ → List (List ℕ) → List ℕ → Result (List (List ℕ)) Stop → Type 0
IsFacetWalk count before f (Ok facets) = (facets ≡ before ++ f ∷ []) × (facet_fault before f ≡ None)
IsFacetWalk count before f (Err (Fails line)) = (line ≡ count + 1) × (facet_fault before f ≡ None → ⊥)
IsFacetWalk count before f (Err OutOfMemory) = Unit {0}

-- the lines of a map behind its first
abbrev pub under_map : ComplexPart → ComplexPart → MapPart → List Stated
under_map from to m = behind (λ ss s. send_stands from to ss s ∷ []) [] m.sends ++ (numbered (induced_stated from to m) 0 m.induced ++ map_ends from to m ∷ [])

-- the line of a fault at this place of a map behind `before` lines: that of the send, or else the end
abbrev pub fault_line : MapPart → ℕ → ℕ → ℕ
fault_line m at before = if nat_lt at (length m.sends) then before + at + 2 else before + map_lines m
