-- What the check answers: document 01, "A failed check names the lowest word that breaks a rule, and its lowest rule"; and
-- when it passes: demand 3, "exactly when".
-- Assumes nothing.
use Rattle.std.specs.Prelude.{◌≡◌, Bool, true, cond, List, ◌↔◌, ℕ, suc, ◌*◌, eqb, ltb, length, Result, Ok, Err}
use mathlib.Mathlib.Logic.Function.Defs.{Injective}
use Rattle.laws.specs.Every.{every}
use Rattle.laws.specs.First.{first_false}
use Rattle.memory.specs.Chip.{Chip}
use Rattle.machine.specs.Ranges.{rom_in_range}
use Rattle.clearance.specs.Rules.{rule_holds, EveryRule}
use Rattle.verifier.specs.declared.CheckRefusal.{CheckRefusal}
use Rattle.verifier.specs.declared.CheckRefusal.TheVariants.{RomLength, SheetLength}
use Rattle.verifier.specs.declared.Verdict.{Verdict}
use Rattle.verifier.specs.declared.Verdict.TheVariants.{Pass, Fail}

pub data CheckAnswer : Type 0 where
  pass : CheckAnswer
  -- a word and a rule
  fail : ℕ → ℕ → CheckAnswer
  refused : ℕ → CheckAnswer

abbrev pub check_number : CheckRefusal → ℕ
check_number RomLength = 1
check_number SheetLength = 9

abbrev pub answer_of : Result Verdict CheckRefusal → CheckAnswer
answer_of (Ok Pass) = pass
answer_of (Ok (Fail word rule)) = fail word rule
answer_of (Err refusal) = refused (check_number refusal)

-- what stands for each answer loses nothing
abbrev pub VerdictsApart : Type 0
VerdictsApart = Injective answer_of

-- a sheet that passes is 0, and one that fails 254, which no refusal is
abbrev pub verdict_number : CheckAnswer → ℕ
verdict_number pass = 0
verdict_number (fail word rule) = 254
verdict_number (refused n) = n

module _ (chip : Chip) (rom sheet : List ℕ) where
  -- every rule holds at a word
  abbrev pub word_holds : ℕ → Bool
  word_holds w = every (λ (k : ℕ). rule_holds chip rom sheet w (suc k)) 6

  abbrev pub lowest_rule : ℕ → ℕ
  lowest_rule w = suc (first_false (λ (k : ℕ). rule_holds chip rom sheet w (suc k)) 6)

  abbrev pub lowest_word : ℕ
  lowest_word = first_false word_holds (length rom)

  unfoldable pub ruled : CheckAnswer
  ruled = cond (ltb lowest_word (length rom)) (fail lowest_word (lowest_rule lowest_word)) pass

  -- refusal 1, for the ROM's length alone; then 9, "sheet length differs from the ROM's", with two bytes an entry (document 02, E5); then
  -- the rules
  unfoldable pub verify_of : CheckAnswer
  verify_of = cond (rom_in_range chip rom) (cond (eqb (length sheet) (2 * length rom)) ruled (refused 9)) (refused 1)

  -- no refusal, and every rule holds at every word
  pub record Clear : Type 0 where
    pub whole : rom_in_range chip rom ≡ true
    pub fitting : length sheet ≡ 2 * length rom
    pub rules : EveryRule chip rom sheet

  -- demand 3: "The check passes a ROM with its sheet exactly when it has no refusal for them and document 01's clearance rules hold"
  abbrev pub Exactly : Type 0
  Exactly = (verify_of ≡ pass) ↔ Clear
