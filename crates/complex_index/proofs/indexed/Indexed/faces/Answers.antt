use Rattle.std.proofs.Common.{◌<◌, ◌-◌, ◌∙◌, ap, arith, get_or, length, subst, sym, [], ℕ, List}
use Rattle.complex_index.{specs.Names.{ArePlaces, faces_at, level, lists}, proofs.Alternating.places_at, proofs.LevelLemmas.{faces_count, fits_at, inside_is, part_is}}
use Rattle.complex_index.proofs.indexed.Indexed.faces.Goals as goal

pub get-requires : goal.get-requires
get-requires c =
    let there : c.args.place < length (level (lists c.self.inside.levels.items) c.args.n) = subst (λ (ls : List (List (List ℕ))). c.args.place < length (level ls c.args.n)) (sym c.self.view_is) c.requires.inside in
    let n : c.args.n < length c.self.inside.levels.items = inside_is c.self.inside.levels.items c.args.n c.args.place there in
    omega (arith, there, ap length (part_is (λ l. l.faces) c.self.inside.levels.items c.args.n c.index.result.now n c.index.ensures), faces_count c.self.inside.levels.items c.args.n c.self.invariant c.requires.positive n)

pub returns : goal.returns
returns c =
    let there : c.args.place < length (level (lists c.self.inside.levels.items) c.args.n) = subst (λ (ls : List (List (List ℕ))). c.args.place < length (level ls c.args.n)) (sym c.self.view_is) c.requires.inside in
    let n : c.args.n < length c.self.inside.levels.items = inside_is c.self.inside.levels.items c.args.n c.args.place there in
    subst (λ (ls : List (List (List ℕ))). ArePlaces (level ls (c.args.n - 1)) (get_or (level ls c.args.n) c.args.place []) c.get.result.now) c.self.view_is
    (subst (ArePlaces (level (lists c.self.inside.levels.items) (c.args.n - 1)) (get_or (level (lists c.self.inside.levels.items) c.args.n) c.args.place []))
    (sym (c.get.ensures ∙ ap (λ (pss : List (List ℕ)). get_or pss c.args.place []) (part_is (λ l. l.faces) c.self.inside.levels.items c.args.n c.index.result.now n c.index.ensures)))
    (places_at (level (lists c.self.inside.levels.items) (c.args.n - 1)) (level (lists c.self.inside.levels.items) c.args.n) (faces_at c.self.inside.levels.items c.args.n) c.args.place
    (fits_at c.self.inside.levels.items c.args.n c.self.invariant c.requires.positive n).places there))
