-- What the steps of the text give: forms for the contracts of private functions.
use Rattle.std.specs.{Prelude.{◌≡◌, ℕ, ◌+◌, ◌&&◌, nat_lt, Bool, List, ◌++◌, flat_map, length}, List.AllZip}
use Rattle.complex_index.specs.declared.indexed.Cochain.{Cochain}
use Rattle.cohomology.specs.declared.basis.Column.{Column}
use Rattle.bockstein.specs.Matrices.{IsBocksteinMatrix, values_of}
use Rattle.bockstein_text.specs.Bocksteins.{Matrix}

-- What was added to a text are the lines of parts, one part for each heading.
pub record Adds {H X : Type 0} (lines : X → List ℕ) (Is : H → X → Type 0) (headings : List H) (old new : List ℕ) : Type 0 where
  pub parts : List X
  pub each : AllZip Is headings parts
  pub text_is : new ≡ old ++ flat_map lines parts

-- there are classes of degree q and of the next
abbrev pub is_live : {p : ℕ} → (ℕ → List (Cochain p)) → ℕ → Bool
is_live classes q = nat_lt 0 (length (classes q)) && nat_lt 0 (length (classes (q + 1)))

-- m lists the matrix of the Bockstein from degree q
pub record IsListed {p : ℕ} (keeps : Bool) (levels : List (List (List ℕ))) (classes : ℕ → List (Cochain p)) (q : ℕ) (m : Matrix) : Type 0 where
  pub from : m.from ≡ q
  pub made : List (Column p)
  pub matrix : IsBocksteinMatrix keeps levels classes q made
  pub columns : m.columns ≡ values_of made
