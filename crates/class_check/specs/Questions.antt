-- What is asked of the chains that a certificate lists of a degree, and the marks at the least simplices of those before.
use Rattle.std.specs.{Prelude.{◌≡◌, ◌↔◌, ◌⊎◌, IsTrue, ℕ, ◌<◌, Bool, true, false, not, MatchBool, List, [], ◌∷◌, ◌++◌, map, length, get_or, set, Some, None}, declared.option.Option.Option}
use Rattle.linear_law.specs.Names.{Among, Each}
use Rattle.simplicial_law.specs.Names.{Chain, Cochain, cochain_of}
use Rattle.sparse_rows.specs.Rows.{IsFirst, IsRow}
use Rattle.report.specs.declared.complex.ComplexPart.{ComplexPart}
use Rattle.report_law.specs.Names.{below_in}
use Rattle.certificate_law.specs.Names.{Asks, IsLeastSimplex, coboundaries_of, Stated, after, below_stands, class_stands}
use Rattle.class_check.specs.declared.question.{Question.Question, Question.TheVariants.{Below, Cocycle, Class}}

-- the condition that asks it
abbrev pub condition_of : Question → ℕ
condition_of Below = 2
condition_of Cocycle = 3
condition_of Class = 4

-- the line of a chain of degree n, behind these, the latest first
abbrev pub stands_in : Question → ComplexPart → ℕ → List Chain → Chain → Stated
stands_in Below c n before chain = below_stands c n before chain
stands_in Cocycle c n before chain = class_stands c n before chain
stands_in Class c n before chain = class_stands c n before chain

-- the cochains whose least simplices are taken, behind these chains
abbrev pub others_of : ℕ → Question → ComplexPart → ℕ → List Chain → List Cochain
others_of p Below c n before = coboundaries_of p before
others_of p Cocycle c n before = []
others_of p Class c n before = map cochain_of before ++ coboundaries_of p (below_in c n)

-- the lines of these chains, behind those seen before
abbrev pub chain_lines : Question → ComplexPart → ℕ → List Chain → List Chain → List Stated
chain_lines question c n seen chains = after (λ before chain. stands_in question c n before chain ∷ []) seen chains

-- what was found out before of these lines: when the least simplices of classes are asked for, conditions 2 and 3 hold
abbrev pub AreReady : ℕ → Question → List Stated → Type 0
AreReady p Below lines = Unit {0}
AreReady p Cocycle lines = Unit {0}
AreReady p Class lines = Each (λ s. Asks p 2 s × Asks p 3 s) lines

-- ---- marks

-- s is the least simplex of one of the cochains
abbrev pub IsLeastOfOne : List (List ℕ) → ℕ → ℕ → List Cochain → List ℕ → Type 0
IsLeastOfOne facets n p zs s = (z : Cochain) × Among z zs × IsLeastSimplex facets n p z s

-- the places of the least simplices of these cochains are marked, and no others
pub record AreLeads (facets : List (List ℕ)) (n p : ℕ) (here : List (List ℕ)) (zs : List Cochain) (marks : List Bool) : Type 0 where
  pub len : length marks ≡ length here
  pub told : (k : ℕ) → k < length here → IsTrue (get_or marks k false) ↔ IsLeastOfOne facets n p zs (get_or here k [])

-- The row has a least place that was not marked, which is told; that place is marked.
abbrev pub IsLeadTaken : ℕ → List Bool → Option (List (ℕ × ℕ)) → List Bool → Bool → Type 0
IsLeadTaken p old None new told = told ≡ false
IsLeadTaken p old (Some row) new told = IsRow p row
    × (((row ≡ []) × (told ≡ false)) ⊎ ((k : ℕ) × IsFirst row k × (told ≡ not (get_or old k false)) × (new ≡ set old k true)))

-- Whether the chain is as asked is told; where it is, its least simplex is marked with those before.
abbrev pub IsAnswerOf : ℕ → Question → ComplexPart → ℕ → List (List ℕ) → List Chain → Chain → List Bool → Bool → Type 0
IsAnswerOf p question c n here before chain marks passed =
    MatchBool passed (Asks p (condition_of question) (stands_in question c n before chain) × AreLeads c.facets n p here (others_of p question c n (chain ∷ before)) marks)
    (Asks p (condition_of question) (stands_in question c n before chain) → ⊥)
