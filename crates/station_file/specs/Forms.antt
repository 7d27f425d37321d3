-- The forms of a file: document 02, E5, "form 1 is read as lowest equal to highest and written where all are equal". In memory a
-- sheet has two bytes an entry, as in form 2.
-- Assumes nothing.
use Rattle.std.specs.Prelude.{Bool, true, cond, ◌&&◌, List, [], ◌∷◌, ℕ, eqb}
use Rattle.station_file.specs.Reading.{Reading, got, refused, number}
use Rattle.station_file.specs.Station.{Form, form1, form2, Station, parse_of}

-- "lowest equal to highest"
abbrev pub doubled : List ℕ → List ℕ
doubled [] = []
doubled (b ∷ bs) = b ∷ b ∷ doubled bs

-- the lowest level of each entry
abbrev pub lowest_of : List ℕ → List ℕ
lowest_of [] = []
lowest_of (l ∷ []) = []
lowest_of (l ∷ h ∷ rest) = l ∷ lowest_of rest

-- "all are equal"
abbrev pub all_equal : List ℕ → Bool
all_equal [] = true
all_equal (l ∷ []) = true
all_equal (l ∷ h ∷ rest) = eqb l h && all_equal rest

-- a sheet's bytes in a file of the form made into those of memory, and back
abbrev pub ranges_of : Form → List ℕ → List ℕ
ranges_of form bytes = cond (eqb form.entry_bytes 1) (doubled bytes) bytes

abbrev pub entries_of : Form → List ℕ → List ℕ
entries_of form sheet = cond (eqb form.entry_bytes 1) (lowest_of sheet) sheet

unfoldable pub in_memory : Form → Station → Station
in_memory form s = record { rom = s.rom; sheet = ranges_of form s.sheet; inputs = s.inputs }

unfoldable pub in_file : Form → Station → Station
in_file form s = record { rom = s.rom; sheet = entries_of form s.sheet; inputs = s.inputs }

-- the form that a number names. Any other number, or too few bytes for one, goes to form 1, which refuses it with 20 or 21
abbrev pub numbered : Reading ℕ → Form
numbered (got n rest) = cond (eqb n 2) form2 form1
numbered (refused n) = form1

unfoldable pub form_for : List ℕ → Form
form_for xs = numbered (number 2 xs)

-- the form that the writer uses
unfoldable pub lowest_form : Station → Form
lowest_form s = cond (all_equal s.sheet) form1 form2

abbrev pub loaded : Form → Reading Station → Reading Station
loaded form (got s rest) = got (in_memory form s) rest
loaded form (refused n) = refused n

-- the station of a file, of either form
unfoldable pub load_of : List ℕ → Reading Station
load_of xs = loaded (form_for xs) (parse_of (form_for xs) xs)
