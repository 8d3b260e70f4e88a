-- The terms of May elements that have live cuts.
use Rattle.std.specs.Prelude.{ℕ, ◌==◌, Bool, false, List, Option, None, Some, ℤ}
use Rattle.signed_sum.specs.Names.{kept_terms}
use Rattle.interval_cut.specs.Names.{counted_live}
use Rattle.table_reduction_law.specs.Names.{may_element}

-- whether no cut of a surjection is live for q
abbrev pub lacks_live_cut : ℕ → List ℕ → Bool
lacks_live_cut q u = counted_live q u == 0

-- whether a list is left out where lists with a cut live for the degree are wanted; without a degree all are wanted
abbrev pub is_left_out : Option ℕ → List ℕ → Bool
is_left_out None u = false
is_left_out (Some q) u = lacks_live_cut q u

-- what an operation on cochains of degree q sees of the May element of degree d: the terms with a cut live for q
abbrev pub live_part : ℕ → ℕ → ℕ → List (List ℕ × ℤ)
live_part p d q = kept_terms (lacks_live_cut q) (may_element p d)
