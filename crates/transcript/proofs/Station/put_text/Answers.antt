use Rattle.transcript.specs.Stations.{station_in}
use Rattle.transcript.proofs.Texts.{whole}
use Rattle.transcript.proofs.Station.put_text.Goals as goal

pub returns : goal.returns
returns c =
    let s = c.args.self.now in
    whole (station_in s) c.put_records-progress.result s.few c.put_sheet.ensures c.put_records-progress.ensures c.put_end.ensures
