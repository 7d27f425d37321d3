-- A text in a lent buffer: document 01, refusal 25, and "Places past what is written stay".
-- Assumes nothing.
use Rattle.std.specs.Prelude.{cond, List, ℕ, leb, length}
use Rattle.station_file.specs.Read.{overlay}
use Rattle.transcript.specs.Print.{Print, printed, refused}

-- a text at the front of a buffer; one that is too short stays as it is
unfoldable pub put_of : List ℕ → List ℕ → Print
put_of text out =
    cond (leb (length text) (length out))
    (record { reply = printed (length text); out = overlay text out })
    (record { reply = refused 25; out = out })
