use Rattle.std.proofs.Common.{ℕ, List, true, rules}
use Rattle.station_file.specs.Station.{rom_count}
use Rattle.station_file.proofs.Parsing.{words_read}
use Rattle.station_file.proofs.sections.rom_section.Goals as goal

pub returns : goal.returns
returns c = words_read _ _ (c.section.ensures rom_count (λ (bytes : List ℕ). true) (λ n r p. search rules) (λ p r q. search rules))
