-- Texts put into a buffer, and how far the code has come with them: what ties the private functions to the definitions.
-- Assumes nothing.
use Rattle.std.specs.Prelude.{◌≡◌, List, ◌∷◌, ◌++◌, ℕ, ◌+◌, ◌*◌, ◌^◌, ◌<◌, ◌≤◌, get_or, length, take, drop, Option, Some, None}
use Rattle.std.proofs.lemmas.List.Edits.{sets}
use Rattle.memory.specs.Names as names
use Rattle.machine.specs.Parts.{cells_of}
use Rattle.machine.specs.declared.Input.{Input}
use Rattle.machine.specs.declared.Machine.{Machine}
use Rattle.machine.specs.declared.Refusal.{Refusal}
use Rattle.machine.specs.Refusals.{number_of}
use Rattle.station_file.specs.Station.{record_bytes}
use Rattle.transcript.specs.declared.Progress as code
use Rattle.transcript.specs.declared.Sink.{Sink}
use Rattle.transcript.specs.Text.{space, newline, hex1, hex3}
use Rattle.transcript.specs.Transcript.{Progress, Outcome, record_of, records_of, inputs_of, begun}

-- a text put into a lent buffer from its place on, as far as it fits, and the place after it
pub record Wrote (most : ℕ) (text : List ℕ) (before after : Sink) : Type 0 where
  pub same_buffer : after.out.ghost_name ≡ before.out.ghost_name
  pub put : before.at + length text < 2 ^ 64 → (after.out.now ≡ sets before.out.now before.at text) × (after.at ≡ before.at + length text)
  pub short : length text ≤ most

-- what follows a record's number in its line
abbrev pub fields_of : ℕ → List ℕ → Machine → List ℕ
fields_of pc word after =
    (space ∷ hex3 pc) ++ (space ∷ word) ++ (space ∷ hex3 after.control.pc)
    ++ (space ∷ hex1 after.control.levels) ++ (space ∷ hex1 (get_or (cells_of after) names.PSW 0)) ++ newline

-- the input record with an index
abbrev pub input_at : ℕ → List ℕ → Input
input_at k xs =
    record {
      pins = take 5 (drop (record_bytes * k) xs);
      directions = take 5 (drop 5 (drop (record_bytes * k) xs));
      release = get_or (drop (record_bytes * k) xs) 10 0;
    }

-- the number of a refusal, or 0
abbrev pub refusal_in : Option Refusal → ℕ
refusal_in None = 0
refusal_in (Some r) = number_of r

-- the progress that the code's state stands for
abbrev pub progress_in : code.Progress → Progress
progress_in p = record { machine = p.machine; count = p.count; refusal = refusal_in p.refusal }

-- one record, by the text that it adds
pub record Recorded (rom : List ℕ) (number : ℕ) (i : Input) (p : code.Progress) (before after : Sink) (r : code.Progress) : Type 0 where
  pub same : progress_in r ≡ (record_of rom number i (progress_in p)).progress
  pub wrote : Wrote 23 (record_of rom number i (progress_in p)).text before after
  pub counted : r.count.steps ≤ p.count.steps + 1
  pub timed : r.count.cycles ≤ p.count.cycles + 2

-- the first so many records
abbrev pub up_to : List ℕ → List ℕ → ℕ → Outcome
up_to rom inputs k = records_of rom 1 (inputs_of k inputs) begun

pub record RecordedTo (rom inputs : List ℕ) (k : ℕ) (before after : Sink) (r : code.Progress) : Type 0 where
  pub same : progress_in r ≡ (up_to rom inputs k).progress
  pub wrote : Wrote (23 * k) (up_to rom inputs k).text before after
  pub counted : r.count.steps ≤ k
  pub timed : r.count.cycles ≤ 2 * k
