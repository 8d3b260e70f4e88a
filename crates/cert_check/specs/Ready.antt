-- What is known of a certificate when a condition is tried.
use Rattle.std.specs.{Prelude.{◌≡◌, ℕ, ◌^◌, ◌<◌, ◌≤◌, true, List, length, ℤ}, List.list_all}
use Rattle.linear_law.specs.Names.{Each, IsAscending}
use Rattle.simplicial_law.specs.ListedSimplices.{simplices}
use Rattle.complex_file.specs.Names.{has_name}
use Rattle.complex_index.specs.Names.{IsIndexOf}
use Rattle.report.specs.declared.{complex.ComplexPart.ComplexPart, map.MapPart.MapPart}
use Rattle.report_law.specs.Names.{ranks_of}
use Rattle.report_text_law.specs.Names.{complex_lines, map_lines, is_line}
use Rattle.certificate_law.specs.Names.{Asks, complex_names, complex_named, complex_stated, map_between}
use Rattle.line_difference.specs.Elements.{AreStored}
use Rattle.may_elements.specs.Stored.{Parts}

-- the facets of a complex of which an index can be made
pub record CanIndex (facets : List (List ℕ)) : Type 0 where
  pub ascending : Each IsAscending facets
  pub short : Each (λ f. length f ≤ 16) facets
  pub few : length (simplices facets) < 2 ^ 28

-- The complex has this index, its facets are those of a job, and its lines are well formed.
pub record IsKept (p : ℕ) (levels : List (List (List ℕ))) (c : ComplexPart) : Type 0 where
  pub index : IsIndexOf c.facets levels
  pub facets : CanIndex c.facets
  pub formed : list_all (is_line p) (complex_lines c) ≡ true

-- It meets the conditions from 2 on that are lower.
pub record IsReady (p condition : ℕ) (levels : List (List (List ℕ))) (c : ComplexPart) : Type 0 where
  pub kept : IsKept p levels c
  pub passed : (lower : ℕ) → 2 ≤ lower → lower < condition → (earlier : List ComplexPart) → Each (Asks p lower) (complex_stated earlier c)

-- The two complexes of the map are there, its lines are well formed, and it meets condition 5, if that is lower.
pub record IsMapReady (p condition : ℕ) (cs : List ComplexPart) (m : MapPart) : Type 0 where
  pub from : has_name (complex_names cs) m.from ≡ true
  pub to : has_name (complex_names cs) m.to ≡ true
  pub formed : list_all (is_line p) (map_lines m) ≡ true
  pub counts : 5 < condition → (ds : List ComplexPart) (earlier : List MapPart) → Each (Asks p 5) (map_between (complex_named cs m.from) (complex_named cs m.to) ds earlier m)

-- The May elements of the operations of the complexes are stored, where a condition above 5 is tried.
abbrev pub AreAllStored : ℕ → ℕ → Parts → List ComplexPart → Type 0
AreAllStored p condition table cs = 5 < condition → Each (λ c. AreStored p table (ranks_of c)) cs
