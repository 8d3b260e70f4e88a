use Rattle.std.proofs.Common.{◌≡◌, ℕ, get_or, length, take}
use Rattle.complex_index.specs.Names.{image_of}
use Rattle.complex_index.proofs.maps.send_all.Given as goal

abbrev pub invariant-loop-send : goal.invariant-loop-send
invariant-loop-send l = record { len : length l.images ≡ length l.fn.images; sent : (v : ℕ) → get_or l.images v 0 ≡ image_of (take l.send-index l.sends) v }
