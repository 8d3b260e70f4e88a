use Rattle.std.proofs.Common.{◌<◌, ◌^◌, List, ℕ, length, lit<, sym, subst}
use Rattle.cohomology.{proofs.Below.{AllZip, served_field, AreTriangular, Stored, AreCycles, AreFree}, specs.Names.IsLeadOf, proofs.ClassLemmas.{duals_made, few_leads, places_free, triangular_here}}
use Rattle.complex_index.specs.declared.indexed.Cochain.{Cochain}
use Rattle.cohomology.proofs.classes.degree_at.Goals as goal

pub cycles-requires : goal.cycles-requires
cycles-requires g c =
    let p = g.row.P in
    let field = served_field p c.requires.prime in
    let full = c.args.full.now in
    let sub = c.args.sub.now in
    let owner = c.args.reached.now.pivots in
    let stored = c.args.reached.now.stored.items in
    let classes = c.in_ok-classes.classes.items in
    let places = c.in_ok-places.places.items in
    let are = c.in_ok-classes.ensures.classes in
    let leads : AllZip (λ (d : Cochain p) s. IsLeadOf d.row s) classes places = subst (λ (cs : List (Cochain p)). AllZip (λ (d : Cochain p) s. IsLeadOf d.row s) cs places) c.as_slice.ensures.value c.in_ok-places.ensures in
    let free = places_free p field full sub c.requires.pair c.args.degree owner stored c.requires.reached classes are places leads in
    let few = few_leads p field full sub c.requires.pair c.args.degree owner stored c.requires.reached classes are places leads in
    let triangular = triangular_here p field full sub c.requires.pair c.args.degree owner stored c.requires.reached classes are places leads in
    let short = subst (λ (ps : List ℕ). length ps < 2 ^ 32) (sym c.as_slice-3.ensures.value) few in
    let rows = subst (λ (ss : List (Stored p)). AreTriangular p (length owner) ss owner) (sym c.as_slice-2.ensures.value) triangular in
    (lit< tt, (lit< tt, (c.requires.prime, (short, (rows, subst (λ (ps : List ℕ). AreFree (length owner) owner ps) (sym c.as_slice-3.ensures.value) free)))))

pub returns-clause-classes : goal.returns-clause-classes
returns-clause-classes g c =
    let p = g.row.P in
    let owner = c.args.reached.now.pivots in
    let stored = c.args.reached.now.stored.items in
    let classes = c.in_ok-classes.classes.items in
    let places = c.in_ok-places.places.items in
    let table = c.in_ok-table.table.items in
    let leads : AllZip (λ (d : Cochain p) s. IsLeadOf d.row s) classes places = subst (λ (cs : List (Cochain p)). AllZip (λ (d : Cochain p) s. IsLeadOf d.row s) cs places) c.as_slice.ensures.value c.in_ok-places.ensures in
    duals_made p (served_field p c.requires.prime) c.args.full.now c.args.sub.now c.requires.pair c.args.degree owner stored c.requires.reached classes c.in_ok-classes.ensures.classes places leads table
    (subst (λ (ss : List (Stored p)). AreCycles p (length owner) ss places table) c.as_slice-2.ensures.value
    (subst (λ (ps : List ℕ). AreCycles p (length owner) c.as_slice-2.result.now ps table) c.as_slice-3.ensures.value c.in_ok-table.ensures))
