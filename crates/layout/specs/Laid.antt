-- What `layout_fill` puts into each field. The fields of a struct count down from the largest number of their width (in the
-- second struct, from half of it), so that each value tells its field, its place and its width.
-- Assumes nothing.
use Rattle.std.specs.Prelude.{[], ◌∷◌, ℕ, ◌-◌, replicate, set}
use Rattle.machine.specs.declared.Input.{Input}
use Rattle.machine.specs.declared.Machine.{Machine}
use Rattle.listing.specs.declared.DecodedRow.{DecodedRow}
use Rattle.listing.specs.declared.EncodedRow.{EncodedRow}
use Rattle.pollwezen.specs.declared.OutputReply.{OutputReply}
use Rattle.pollwezen.specs.declared.ReadReply.{ReadReply}
use Rattle.pollwezen.specs.declared.RunReply.{RunReply}
use Rattle.pollwezen.specs.declared.VerdictReply.{VerdictReply}
use Rattle.layout.specs.declared.Laid.{Laid}

-- the first cell and the last differ from the others
abbrev pub filled_machine : ℕ → ℕ → Machine
filled_machine byte word =
    record {
      memory = record { cells = set (set (replicate 128 (byte - 1)) 0 (byte - 2)) 127 (byte - 3) };
      peripherals =
          record {
            registers = (byte - 13) ∷ (byte - 14) ∷ (byte - 15) ∷ (byte - 16) ∷ (byte - 17) ∷ (byte - 18) ∷ (byte - 19) ∷ [];
            modulo = byte - 20;
            counter = byte - 21;
            divider = byte - 22;
          };
      control =
          record {
            pc = word - 4;
            stack = (word - 5) ∷ (word - 6) ∷ (word - 7) ∷ (word - 8) ∷ (word - 9) ∷ [];
            levels = byte - 10;
            skip = byte - 11;
            standby = byte - 12;
          };
    }

abbrev pub filled_input : ℕ → Input
filled_input byte =
    record {
      pins = (byte - 1) ∷ (byte - 2) ∷ (byte - 3) ∷ (byte - 4) ∷ (byte - 5) ∷ [];
      directions = (byte - 6) ∷ (byte - 7) ∷ (byte - 8) ∷ (byte - 9) ∷ (byte - 10) ∷ [];
      release = byte - 11;
    }

abbrev pub filled_run_reply : ℕ → ℕ → RunReply
filled_run_reply byte long = record { count = record { steps = long - 1; cycles = long - 2 }; number = byte - 3 }

abbrev pub filled_verdict_reply : ℕ → ℕ → VerdictReply
filled_verdict_reply byte word = record { number = byte - 1; word = word - 2; rule = byte - 3 }

abbrev pub filled_read_reply : ℕ → ℕ → ReadReply
filled_read_reply byte size = record { number = byte - 1; words = size - 2; entries = size - 3; records = size - 4 }

abbrev pub filled_output_reply : ℕ → ℕ → OutputReply
filled_output_reply byte size = record { number = byte - 1; length = size - 2 }

abbrev pub filled_decoded_row : ℕ → ℕ → DecodedRow
filled_decoded_row byte word = record { number = byte - 1; row = byte - 2; first = byte - 3; second = byte - 4; addr = word - 5 }

abbrev pub filled_encoded_row : ℕ → ℕ → EncodedRow
filled_encoded_row byte word = record { number = byte - 1; word = word - 2 }

unfoldable pub laid_of : Laid
laid_of =
    record {
      machines = filled_machine 255 65535 ∷ filled_machine 127 32767 ∷ [];
      inputs = filled_input 255 ∷ filled_input 127 ∷ [];
      runs = filled_run_reply 255 4294967295 ∷ filled_run_reply 127 2147483647 ∷ [];
      verdicts = filled_verdict_reply 255 65535 ∷ filled_verdict_reply 127 32767 ∷ [];
      reads = filled_read_reply 255 18446744073709551615 ∷ filled_read_reply 127 9223372036854775807 ∷ [];
      outputs = filled_output_reply 255 18446744073709551615 ∷ filled_output_reply 127 9223372036854775807 ∷ [];
      decoded = filled_decoded_row 255 65535 ∷ filled_decoded_row 127 32767 ∷ [];
      encoded = filled_encoded_row 255 65535 ∷ filled_encoded_row 127 32767 ∷ [];
    }
