use Rattle.std.proofs.Common.{◌≡◌, ℕ, ◌+◌, ◌*◌, ◌<◌, get_or}
use Rattle.station_file.proofs.copies.read_words.Given as goal

abbrev pub invariant-loop-i : goal.invariant-loop-i
invariant-loop-i l = (k : ℕ) → k < l.i → get_or l.rom k 0 ≡ get_or l.bytes (2 * k) 0 * 256 + get_or l.bytes (2 * k + 1) 0
