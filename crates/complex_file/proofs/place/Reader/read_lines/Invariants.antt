use Rattle.std.proofs.Common.{◌≡◌, ◌+◌, drop}
use Rattle.complex_file.specs.Names.{place_after, place_seen, texts}
use Rattle.complex_file.proofs.place.Reader.read_lines.Given as goal

abbrev pub invariant-loop-line : goal.invariant-loop-line
invariant-loop-line l = record {
  counted : l.number ≡ l.line-index;
  same : place_after (l.line-index + 1) (place_seen l.self) (texts (drop l.line-index l.lines)) ≡ place_after 1 (place_seen l.initial.self) (texts l.lines);
}
