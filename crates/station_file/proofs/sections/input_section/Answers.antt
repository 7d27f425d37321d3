use Rattle.std.proofs.Common.{◌∙◌, sym, rules}
use Rattle.station_file.specs.Station.{input_byte}
use Rattle.station_file.specs.Write.{every_at}
use Rattle.station_file.proofs.Parsing.{few, inputs_is}
use Rattle.station_file.proofs.sections.input_section.Goals as goal

pub returns : goal.returns
returns c = λ form. c.section.ensures few (every_at input_byte 0) (λ n r p. search rules) (λ p r q. search rules) ∙ sym (inputs_is form c.args.file.now)
