use Rattle.std.proofs.Common.{◌≡◌, ◌*◌, take}
use Rattle.station_file.specs.Write.{word_bytes}
use Rattle.station_file.proofs.copies.put_words.Given as goal

abbrev pub invariant-loop-i : goal.invariant-loop-i
invariant-loop-i l = take (2 * l.i) l.out ≡ word_bytes (take l.i l.rom)
