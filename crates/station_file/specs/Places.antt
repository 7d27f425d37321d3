-- What the answers of the functions inside this crate stand for. No promise of a public function cites it.
-- Assumes nothing.
use Rattle.std.specs.Prelude.{◌≡◌, Bool, ◌&&◌, cond, List, [], ◌∷◌, ◌++◌, ℕ, zero, suc, ◌+◌, ◌*◌, ◌/◌, leb, length, take, drop, get_or, Result, Ok, Err}
use Rattle.std.specs.Borrow.{Bor}
use Rattle.std.specs.Fn.{AnyResult, Shared}
use Rattle.sheet.specs.Entry.{single, proper}
use Rattle.station_file.specs.Reading.{Reading, got, refused, and_then, tested, byte, number}
use Rattle.station_file.specs.Station.{Station, form1, form2, most_level}
use Rattle.station_file.specs.Station as station
use Rattle.station_file.specs.Answers.{file_number}
use Rattle.station_file.specs.declared.FileRefusal.{FileRefusal}
use Rattle.station_file.specs.declared.forms.Form.{Form}
use Rattle.station_file.specs.declared.forms.Form.TheVariants.{One, Two}
use Rattle.station_file.specs.declared.sections.Sections.{Sections}

-- so many words of two bytes, and those of a ROM section
abbrev pub words : ℕ → List ℕ → List ℕ
words zero xs = []
words (suc n) xs = (get_or xs 0 0 * 256 + get_or xs 1 0) ∷ words n (drop 2 xs)

abbrev pub words_of : List ℕ → List ℕ
words_of bytes = words (length bytes / 2) bytes

abbrev pub form_of : Form → station.Form
form_of One = form1
form_of Two = form2

-- what is read from the front of a file, and the bytes that are left, or the refusal
abbrev pub read_as : {A B : Type 0} → (A → B) → Result (A × Bor (List ℕ)) FileRefusal → Reading B
read_as view (Ok p) = got (view p.0) p.1.now
read_as view (Err f) = refused (file_number f)

abbrev pub station_in : Result Sections FileRefusal → Reading Station
station_in (Ok s) = got (record { rom = words_of s.rom.now; sheet = s.sheet.now; inputs = s.inputs.now }) []
station_in (Err f) = refused (file_number f)

-- what comes of a station where nothing is left of its file
abbrev pub ended_as : {A : Type 0} → Station → Result A FileRefusal → Reading Station
ended_as s (Ok a) = got s []
ended_as s (Err f) = refused (file_number f)

-- so many bytes that pass a test. Those that the file has are tested before its end
abbrev pub bytes_of_section : (List ℕ → Bool) → ℕ → List ℕ → Reading (List ℕ)
bytes_of_section test n xs = cond (test (take n xs)) (cond (leb n (length xs)) (got (take n xs) (drop n xs)) (refused 21)) (refused 23)

-- a closure answers as a test does, of a number and of bytes
abbrev pub IsTest : {F : Type 0} → Shared F (ℕ × Unit {0}) Bool → F → (ℕ → Bool) → Type 0
IsTest g f test = (n : ℕ) → AnyResult g f (n, tt) (λ b. b ≡ test n)

abbrev pub IsTestOfBytes : {F : Type 0} → Shared F (Bor (List ℕ) × Unit {0}) Bool → F → (List ℕ → Bool) → Type 0
IsTestOfBytes g f test = (bytes : Bor (List ℕ)) → AnyResult g f (bytes, tt) (λ b. b ≡ test bytes.now)

-- a section of elements of so many bytes, after its count
abbrev pub section_of : (ℕ → Bool) → (List ℕ → Bool) → ℕ → List ℕ → Reading (List ℕ)
section_of count test width xs =
    and_then (tested count 22 (number 2 xs)) (λ (n : ℕ) (rest : List ℕ). bytes_of_section test (width * n) rest)

-- entries of two bytes; where a last one is cut, its first byte is a level
abbrev pub proper_ranges : List ℕ → Bool
proper_ranges [] = Rattle.std.specs.Prelude.true
proper_ranges (l ∷ []) = proper most_level (single l)
proper_ranges (l ∷ h ∷ rest) = proper most_level (record { lowest = l; highest = h }) && proper_ranges rest

-- a scan of bytes, each tested by its index
abbrev pub byte_field : (ℕ → ℕ → Bool) → ℕ → List ℕ → Reading ℕ
byte_field ok k xs = tested (ok k) 23 (byte xs)

-- the number of a test's refusal, or 0
abbrev pub test_number : {A : Type 0} → Result A FileRefusal → ℕ
test_number (Ok a) = 0
test_number (Err f) = file_number f
