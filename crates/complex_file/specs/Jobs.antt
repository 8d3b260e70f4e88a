-- What a job consists of, and what each job keeps.
use Rattle.std.specs.{Prelude.{ℕ, Bool, true, not, ◌&&◌, List, [], ◌∷◌, ◌++◌, map, length, is_none, nat_le, nat_lt, position, slice_index_or}, declared.option.Option.Option, List.{list_all, list_any}, Str.bytes_eq}
use Rattle.fp_field.specs.Served.{served}
use Rattle.complex_file.specs.{declared.block.ComplexBlock.ComplexBlock, declared.block.MapBlock.MapBlock, Text.is_name, Complexes.is_complex, Maps.map_fault}

-- the facets of the complex at a place; none past the end
abbrev pub facets_at : List ComplexBlock → ℕ → List (List ℕ)
facets_at complexes k = (slice_index_or complexes k (record { name = []; facets = [] })).facets

-- the place of the complex with this name
abbrev pub place_of_name : List ComplexBlock → List ℕ → Option ℕ
place_of_name complexes name = position (λ c. bytes_eq name c.name) complexes

-- the names of the blocks: complexes and maps share one set of names
abbrev pub block_names : List ComplexBlock → List MapBlock → List (List ℕ)
block_names complexes maps = map (λ c. c.name) complexes ++ map (λ m. m.name) maps

-- the name is among these
abbrev pub has_name : List (List ℕ) → List ℕ → Bool
has_name names name = list_any (bytes_eq name) names

-- no name stands twice
abbrev pub are_distinct : List (List ℕ) → Bool
are_distinct [] = true
are_distinct (n ∷ ns) = not (has_name ns n) && are_distinct ns

-- a map that may stand behind these complexes: its FROM and its TO are among them, and it has no fault
abbrev pub is_map : List ComplexBlock → MapBlock → Bool
is_map complexes m = (nat_lt m.from (length complexes) && nat_lt m.to (length complexes))
    && is_none (map_fault (facets_at complexes m.from) (facets_at complexes m.to) m.sends)

-- a job: a prime that is served, at most eight complexes and eight maps, names that are names and differ, and blocks
-- without a fault
unfoldable pub is_job : ℕ → List ComplexBlock → List MapBlock → Bool
is_job prime complexes maps = served prime && ((nat_le (length complexes) 8 && nat_le (length maps) 8)
    && ((list_all is_name (block_names complexes maps) && are_distinct (block_names complexes maps))
    && (list_all (λ c. is_complex c.facets) complexes && list_all (is_map complexes) maps)))
