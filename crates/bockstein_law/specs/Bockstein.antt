-- The Bockstein of a cocycle.
use Rattle.std.specs.{Prelude.{ℕ, ◌%◌, List, ℤ, pos}, Int.int_div_euclid}
use Rattle.simplicial_law.specs.Names.{Cochain, integral_coboundary}
use Rattle.steenrod_law.specs.Names.{residue}

-- the lift of a cochain: the whole numbers from 0 to p - 1 with the same residues
abbrev pub lift : ℕ → Cochain → List ℕ → ℤ
lift p z t = pos (z t % p)

-- The Bockstein of a cocycle: on a simplex the signed sum of the lift over the boundary, which is a
-- multiple of p, divided by p, as a residue. It has one degree more.
abbrev pub bockstein : ℕ → Cochain → Cochain
bockstein p z s = residue p (int_div_euclid (integral_coboundary (lift p z) s) (pos p))
