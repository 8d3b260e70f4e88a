-- What is read off a report: ranks, the complexes of its maps, and where its maps send a vertex.
use Rattle.std.specs.{Prelude.{ℕ, if◌then◌else◌, List, [], ◌∷◌, length}, Str.bytes_eq}
use Rattle.certificate_law.specs.Types.{ComplexBlock, ComplexPart, MapPart}
use Rattle.complex_file.specs.Names.{image}
use Rattle.report_law.specs.Names.{classes_in, classes_of}

-- the printed rank of degree n; 0 above the last degree
abbrev pub rank_in : ComplexPart → ℕ → ℕ
rank_in c n = length (classes_in (classes_of c) n)

-- the complex that the printed facets give
abbrev pub itself : ComplexPart → ComplexBlock
itself c = record { name = c.name; facets = c.facets }

-- the complex with this name; one without facets where there is none
abbrev pub complex_named : List ComplexPart → List ℕ → ComplexPart
complex_named [] name = record { name = name; facets = []; degrees = []; products = []; operations = []; cartans = [] }
complex_named (c ∷ cs) name = if bytes_eq name c.name then c else complex_named cs name

-- where a map sends a vertex
abbrev pub sent_by : MapPart → ℕ → ℕ
sent_by m v = image m.sends v
