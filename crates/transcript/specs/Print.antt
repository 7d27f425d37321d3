-- The text of a file in a lent buffer: document 01, refusal 25, and "Places past what is written stay".
-- Assumes nothing.
use Rattle.std.specs.Prelude.{cond, List, ℕ, leb, length}
use Rattle.station_file.specs.Read.{overlay}
use Rattle.transcript.specs.Transcript.{transcript_of}

-- the text's length, or a refusal
pub data Reply : Type 0 where
  printed : ℕ → Reply
  refused : ℕ → Reply

pub record Print : Type 0 where
  pub reply : Reply
  pub out : List ℕ

-- a buffer that is too short stays as it is
unfoldable pub print_of : List ℕ → List ℕ → Print
print_of file out =
    let text = transcript_of file in
    cond (leb (length text) (length out))
    (record { reply = printed (length text); out = overlay text out })
    (record { reply = refused 25; out = out })
