use Rattle.std.proofs.Common.{◌≡◌, ◌∙◌, ◌+◌, ◌*◌, ◌-◌, ◌≤◌, List, ℕ, ◌++◌, arith, length, take, sym, ap, get_or}
use Rattle.std.proofs.lemmas.Slice.{take-put_mid}
use Rattle.station_file.specs.Write.{bytes_of, word_bytes}
use Rattle.station_file.proofs.WordLists.{word_bytes_suc}
use Rattle.station_file.proofs.copies.put_words.Goals as goal

pub loop-i-preserved : goal.loop-i-preserved
loop-i-preserved c =
    let i = c.loop-i.i in
    let word = c.copy_from_slice.ensures.after in
    let same : c.copy_from_slice.new.self ≡ bytes_of 2 (get_or c.args.rom.now i 0) = grind arith in
    let end : 2 * (i + 1) ≡ 2 * i + length c.copy_from_slice.new.self = omega (arith, ap length same) in
    let room : 2 * i ≤ length c.loop-i.out = omega arith in
    let more : i + 1 ≤ length c.args.rom.now = omega arith in
    take-put_mid (2 * i) (2 * i + 2 - 2 * i) c.loop-i.out c.copy_from_slice.new.self (2 * (i + 1)) end room
    ∙ ap (λ (l : List ℕ). l ++ c.copy_from_slice.new.self) c.loop-i.invariant
    ∙ ap (λ (l : List ℕ). word_bytes (take i c.args.rom.now) ++ l) same
    ∙ sym (word_bytes_suc c.args.rom.now i (omega arith))
