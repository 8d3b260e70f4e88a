use Rattle.std.proofs.{Common.{◌≡◌, ◌∙◌, ◌+◌, List, ℕ, Bor, Ok, false, ap, subst, sym, length, count_by, le-ltb, nat_lt}, lemmas.List.length-map, lemmas.List.Splits.length-slice_split}
use Rattle.complex_file.specs.{Input.input_of, Names.{is_line_end, lines, Place, at_end, at_line, at_start, place_after, GivesInput, place_seen, texts}}
use Rattle.complex_file.proofs.place.Reader.read_input.Goals as goal

pub returns : goal.returns
unfolding input_of
returns c =
    let short : nat_lt 1048576 (length c.args.bytes.now) ≡ false = le-ltb 1048576 (length c.args.bytes.now) c.if-bytes-gt-LIMIT.false in
    let same : texts c.deref.result.now ≡ lines c.args.bytes.now = ap texts c.deref.ensures.value ∙ c.in_ok-lines.ensures in
    let read : place_after 1 at_start (lines c.args.bytes.now) ≡ Ok (place_seen c.read_lines.new.self) =
    ap (place_after 1 at_start) (sym same) ∙ ap (λ (p : Place). place_after 1 p (texts c.deref.result.now)) (sym c.requires) ∙ c.in_ok-read_lines.ensures in
    let count : c.len.result ≡ count_by is_line_end c.args.bytes.now + 1 =
    c.len.ensures ∙ sym c.deref.ensures.len ∙ sym (length-map c.deref.result.now (λ (w : Bor (List ℕ)). w.now)) ∙ ap (length {A = List ℕ}) same ∙ length-slice_split is_line_end c.args.bytes.now in
    rw (short, read) (subst (λ (n : ℕ). GivesInput (λ _. c.read_lines.new.self.blocks) c.check_end.result (at_line n (at_end (place_seen c.read_lines.new.self)))) count c.check_end.ensures)
