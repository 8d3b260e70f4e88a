-- The classes of a complex by degree, as a report lists them.
use Rattle.std.specs.Prelude.{ℕ, List, length, map}
use Rattle.signed_sum.specs.Names.{numbers_from}
use Rattle.complex_index.specs.{declared.indexed.Cochain.Cochain, Names.level}
use Rattle.cohomology.specs.Names.{chains_at}
use Rattle.report_law.specs.Names.{Classes}

-- the terms of the classes of each degree of a complex
abbrev pub listed_classes : {p : ℕ} → List (List (List ℕ)) → (ℕ → List (Cochain p)) → Classes
listed_classes levels classes = map (λ n. chains_at (level levels n) (classes n)) (numbers_from 0 (length levels))

-- how many classes each degree of a complex has
abbrev pub class_counts : {p : ℕ} → List (List (List ℕ)) → (ℕ → List (Cochain p)) → List ℕ
class_counts levels classes = map (λ n. length (classes n)) (numbers_from 0 (length levels))
