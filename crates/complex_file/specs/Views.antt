-- What the code's lines and places stand for.
use Rattle.std.specs.{Prelude.{ℕ, List, Vec, map, option_map}, declared.alloc.Global.Global, Borrow.Bor}
use Rattle.complex_file.specs.{declared.block.ComplexBlock.ComplexBlock, declared.block.MapBlock.MapBlock, declared.place.Place.{Place as Stand}, declared.place.Reader.Reader, declared.place.Place.TheVariants.{AtStart, AtPrime, Between, InComplex, InMap}, declared.job.Job.Job, declared.line.Line.{Line as Said}, declared.line.Line.TheVariants.{Heading, Prime, Complex, Facet, Map, Send, End, Other}, Lines.{Line, heading, prime_line, complex_line, facet_line, map_line, send_line, end_line, no_line}, Input.{Place, Spelled, at_start, at_prime, between, in_complex, in_map}}

-- the bytes of borrowed pieces
abbrev pub texts : List (Bor (List ℕ)) → List (List ℕ)
texts = map (λ (w : Bor (List ℕ)). w.now)

abbrev pub line_seen : Said → Line
line_seen Heading = heading
line_seen (Prime n) = prime_line n
line_seen (Complex name) = complex_line name.now
line_seen (Facet vs) = facet_line (option_map (λ (v : Vec ℕ Global). v.items) vs)
line_seen (Map name from to) = map_line name.now from.now to.now
line_seen (Send sent) = send_line sent
line_seen End = end_line
line_seen Other = no_line

-- the complex or the map that is open
abbrev pub complex_seen : Reader → ComplexBlock
complex_seen r = record { name = r.name; facets = r.complex }

abbrev pub map_seen : ℕ → ℕ → Reader → MapBlock
map_seen from to r = record { name = r.name; from = from; to = to; sends = r.sends }

abbrev pub seen_at : Stand → Reader → Place
seen_at AtStart r = at_start
seen_at AtPrime r = at_prime
seen_at Between r = between r.blocks
seen_at InComplex r = in_complex r.blocks (complex_seen r)
seen_at (InMap from to) r = in_map r.blocks (map_seen from to r)

abbrev pub place_seen : Reader → Place
place_seen r = seen_at r.place r

-- the prime, the complexes and the maps of a job
abbrev pub content : Job → Spelled
content j = record { prime = j.prime; complexes = j.complexes; maps = j.maps }
