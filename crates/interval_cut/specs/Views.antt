-- What a walk over cuts shows of its fields.
use Rattle.std.specs.Prelude.{◌≡◌, ◌+◌, ◌≤◌, [], ◌∷◌, ◌++◌, length, vec_len}
use Rattle.surjection_law.specs.Names.{IsSurjection, arity}
use Rattle.interval_cut_law.specs.Names.{IsCutFrom}
use Rattle.interval_cut.specs.{Faces.IsFaceTable, Walking.CutWalk, Stages.{shown, OnAt}, declared.cuts.Cuts.TheInside.Inside}

abbrev pub view_of : Inside → CutWalk
view_of a = shown a.values.items a.top a.stage a.inner.items

-- the cut is one of the values, and where the walk is at it, its faces stand in the memory that is there
pub record IsSound (a : Inside) : Type 0 where
  pub surjection : IsSurjection a.values.items
  pub low : a.top ≤ 255
  pub most : a.most ≡ arity a.values.items
  pub long : length a.inner.items + 1 ≡ length a.values.items
  pub cut : IsCutFrom a.values.items 0 (a.inner.items ++ a.top ∷ [])
  pub places : a.top + length a.values.items ≤ vec_len a.faces.places
  pub vertices : vec_len a.faces.places ≤ vec_len a.vertices
  pub starts : a.most + 1 ≤ vec_len a.faces.starts
  pub table : OnAt a.stage (IsFaceTable a.values.items (a.inner.items ++ a.top ∷ []) a.most a.faces.places.items a.faces.starts.items)
