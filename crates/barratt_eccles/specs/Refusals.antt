-- Why a list of permutations is no tuple. Places count from 0.
use Rattle.std.specs.Prelude.{ℕ, ◌==◌, nat_lt, List, [], ◌∷◌, Option, None, Some, cond, length, suc}
use Rattle.table_reduction_law.specs.Names.{begins_with_entry, tuple_arity}
use Rattle.barratt_eccles.specs.declared.tuple.{TupleRefused.TupleRefused, TupleRefused.TheVariants.{Empty, TooLong, MixedArity, EqualNeighbours}}

-- the first place of an entry whose length is not r, where the list begins at the place `from`
abbrev pub other_length_from : ℕ → ℕ → List (List ℕ) → Option ℕ
other_length_from r from [] = None
other_length_from r from (w ∷ ws) = cond (length w == r) (other_length_from r (suc from) ws) (Some from)

-- the first place of an entry that is the one before it, where the list begins at the place `from`
abbrev pub equal_neighbours_from : ℕ → List (List ℕ) → Option ℕ
equal_neighbours_from from [] = None
equal_neighbours_from from (w ∷ ws) = cond (begins_with_entry w ws) (Some (suc from)) (equal_neighbours_from (suc from) ws)

abbrev pub mixed_fault : Option ℕ → Option TupleRefused → Option TupleRefused
mixed_fault None other = other
mixed_fault (Some place) other = Some (MixedArity place)

abbrev pub neighbours_fault : Option ℕ → Option TupleRefused
neighbours_fault None = None
neighbours_fault (Some place) = Some (EqualNeighbours place)

-- The first fault, in this order: there is no entry; there are more than 201; an entry has another
-- length than the first; an entry is the one before it.
abbrev pub tuple_fault : List (List ℕ) → Option TupleRefused
tuple_fault w =
    cond (length w == 0) (Some Empty)
    (cond (nat_lt 201 (length w)) (Some TooLong)
    (mixed_fault (other_length_from (tuple_arity w) 0 w) (neighbours_fault (equal_neighbours_from 0 w))))
