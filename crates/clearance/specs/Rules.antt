-- The six clearance rules: document 01, "Clearance rules", over entries that are a range: document 02, E5.
-- Assumes nothing.
use Rattle.std.specs.Prelude.{Bool, true, false, ◌&&◌, cond, List, [], ◌∷◌, ◌≡◌, ℕ, ◌-◌, ◌^◌, ◌<◌, ◌≤◌, eqb, ltb, get_or, length}
use Rattle.laws.specs.Every.{some}
use Rattle.memory.specs.Chip.{Chip}
use Rattle.control.specs.Control.{next_of}
use Rattle.control.specs.Flow.{word_flow}
use Rattle.control.specs.declared.Flow.{Flow}
use Rattle.control.specs.declared.Flow.TheVariants.{Onward, Skips, Branches, Calls, Returns, ReadsTable, StandsBy, ByAr, Refused}
use Rattle.sheet.specs.Entry.{entry_at, reached, proper, holds, covers, shares, raised, at_most, at_least}
use Rattle.sheet.specs.declared.Entry.{Entry}

abbrev pub is_return_skip : Flow → Bool
is_return_skip Onward = false
is_return_skip Skips = false
is_return_skip (Branches to) = false
is_return_skip (Calls to) = false
is_return_skip (Returns skip) = skip
is_return_skip ReadsTable = false
is_return_skip (StandsBy rest) = false
is_return_skip (ByAr op) = false
is_return_skip (Refused q) = false

-- a word that a rule names, and the entry that its own entry must cover
pub record Ask : Type 0 where
  pub word : ℕ
  pub entry : Entry

-- what stands for a word past the ROM: opcode 7 with row and column 0, which is no instruction
abbrev pub no_word : ℕ
no_word = 0b00111_000_0000_0000

-- the ROM word at an address
abbrev pub word_at : List ℕ → ℕ → ℕ
word_at rom w = get_or rom w no_word

abbrev pub flow_at : List ℕ → ℕ → Flow
flow_at rom w = word_flow (word_at rom w)

module _ (chip : Chip) (rom sheet : List ℕ) where
  -- "A word named below must lie in the ROM, or the rule that names it is broken"
  unfoldable pub met : Ask → Bool
  met a = ltb a.word (length rom) && covers chip.levels (entry_at sheet a.word) a.entry

  abbrev pub all_met : List Ask → Bool
  all_met [] = true
  all_met (a ∷ rest) = met a && all_met rest

  -- "a reached RETSK shares a depth with" an entry
  unfoldable pub skip_returns : Entry → Bool
  skip_returns e = some (λ (w : ℕ). is_return_skip (flow_at rom w) && shares chip.levels (entry_at sheet w) e) (length rom)

-- Each rule, of a word's number, its flow and its entry: what document 01 says of a level document 02 says of a range.

-- 1: "Word 0 has level 0", "word 0 must hold level 0"; tried at word 0 only, reached or not
unfoldable pub rule1 : Chip → ℕ → Entry → Bool
rule1 chip w e = cond (eqb w 0) (holds chip.levels e 0) true

-- 2: "Every entry is 0 to 5 or 15"; "lowest above highest, or 15 for one only [..] breaks rule 2"
unfoldable pub rule2 : Chip → Entry → Bool
rule2 chip e = proper chip.levels e

-- 3: an instruction, none of refusals 4 and 30, and no BR @AR, CALL @AR, PUSH AR or POP AR; MOVT only in a ROM of 1,024 words (AR has
-- ten bits) and at "a highest of at most 4", one below the chip's levels
abbrev pub rule3 : Chip → List ℕ → Flow → Entry → Bool
rule3 chip rom Onward e = true
rule3 chip rom Skips e = true
rule3 chip rom (Branches to) e = true
rule3 chip rom (Calls to) e = true
rule3 chip rom (Returns skip) e = true
rule3 chip rom ReadsTable e = eqb (length rom) (2 ^ 10) && at_most (chip.levels - 1) e
rule3 chip rom (StandsBy rest) e = true
rule3 chip rom (ByAr op) e = false
rule3 chip rom (Refused q) e = false

-- 4: except after BR, RET and RETSK next must "hold the word's whole range"; after a skip so must the word after next, and after BR
-- its target. What goes by AR or is refused breaks rule 3 already.
abbrev pub asks4 : Chip → ℕ → Flow → Entry → List Ask
asks4 chip w Onward e = record { word = next_of chip w; entry = e } ∷ []
asks4 chip w Skips e = record { word = next_of chip w; entry = e } ∷ record { word = next_of chip (next_of chip w); entry = e } ∷ []
asks4 chip w (Branches to) e = record { word = to; entry = e } ∷ []
asks4 chip w (Calls to) e = record { word = next_of chip w; entry = e } ∷ []
asks4 chip w (Returns skip) e = []
asks4 chip w ReadsTable e = record { word = next_of chip w; entry = e } ∷ []
asks4 chip w (StandsBy rest) e = record { word = next_of chip w; entry = e } ∷ []
asks4 chip w (ByAr op) e = []
asks4 chip w (Refused q) e = []

module _ (chip : Chip) (rom sheet : List ℕ) where
  abbrev pub rule4 : ℕ → Flow → Entry → Bool
  rule4 w f e = all_met chip rom sheet (asks4 chip w f e)

  -- 5: CALL at "a highest of at most 4", its target holds "that range raised by one"; "where a reached RETSK shares a depth with the
  -- raised range", the word after next holds CALL's own range, whole
  abbrev pub asks5 : ℕ → ℕ → Entry → List Ask
  asks5 w to e =
      record { word = to; entry = raised e }
      ∷ cond (skip_returns chip rom sheet (raised e)) (record { word = next_of chip (next_of chip w); entry = e } ∷ []) []

  abbrev pub rule5 : ℕ → Flow → Entry → Bool
  rule5 w Onward e = true
  rule5 w Skips e = true
  rule5 w (Branches to) e = true
  rule5 w (Calls to) e = at_most (chip.levels - 1) e && all_met chip rom sheet (asks5 w to e)
  rule5 w (Returns skip) e = true
  rule5 w ReadsTable e = true
  rule5 w (StandsBy rest) e = true
  rule5 w (ByAr op) e = true
  rule5 w (Refused q) e = true

-- 6: RET and RETSK at "a lowest of at least 1"
abbrev pub rule6 : Flow → Entry → Bool
rule6 Onward e = true
rule6 Skips e = true
rule6 (Branches to) e = true
rule6 (Calls to) e = true
rule6 (Returns skip) e = at_least 1 e
rule6 ReadsTable e = true
rule6 (StandsBy rest) e = true
rule6 (ByAr op) e = true
rule6 (Refused q) e = true

-- rules 3 to 6 are those of reached words
abbrev pub where_reached : Chip → Entry → Bool → Bool
where_reached chip e b = cond (reached chip.levels e) b true

module _ (chip : Chip) (rom sheet : List ℕ) where
  -- the rules by number, 1 to 6; nothing asks for another
  unfoldable pub rule_of : ℕ → Flow → Entry → ℕ → Bool
  rule_of w f e r =
      get_or
      (rule1 chip w e
      ∷ rule2 chip e
      ∷ where_reached chip e (rule3 chip rom f e)
      ∷ where_reached chip e (rule4 chip rom sheet w f e)
      ∷ where_reached chip e (rule5 chip rom sheet w f e)
      ∷ where_reached chip e (rule6 f e)
      ∷ [])
      (r - 1) false

  abbrev pub rule_holds : ℕ → ℕ → Bool
  rule_holds w r = rule_of w (flow_at rom w) (entry_at sheet w) r

  -- every rule holds at every word
  abbrev pub EveryRule : Type 0
  EveryRule = (w r : ℕ) → w < length rom → 1 ≤ r → r ≤ 6 → rule_holds w r ≡ true
