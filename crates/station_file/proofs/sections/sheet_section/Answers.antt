use Rattle.std.proofs.Common.{◌∙◌, sym, rules}
use Rattle.station_file.specs.Station.{sheet_count}
use Rattle.station_file.specs.Places.{form_of}
use Rattle.station_file.proofs.Parsing.{entries_test, sheet_is}
use Rattle.station_file.proofs.sections.sheet_section.Goals as goal

pub returns : goal.returns
returns c =
    let a = c.args in
    c.section.ensures (sheet_count a.words) (entries_test (form_of a.form)) (λ n r p. search rules) (λ p r q. search rules)
    ∙ rw c.entry_bytes.ensures (sym (sheet_is (form_of a.form) a.words a.file.now))
