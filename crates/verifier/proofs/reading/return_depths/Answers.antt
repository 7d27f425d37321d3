use mathlib.Core.Path.{◌∙◌, ap, refl, sym}
use Prim.Native.Nat.{ℕ}
use native.Mathlib.Omega.{arith}
use Rattle.laws.proofs.Lists.{slice_index_inside}
use Rattle.memory.specs.Chip.{chip_of}
use Rattle.memory.proofs.Numbers.{levels_fit}
use Rattle.control.specs.Flow.{word_flow}
use Rattle.sheet.proofs.Tables.{length_table}
use Rattle.clearance.specs.Rules.{is_return_skip, no_word}
use Rattle.verifier.proofs.Depths.{none_yet, passed_by, added, all_seen}
use Rattle.verifier.proofs.reading.return_depths.Goals as goal
use Rattle.verifier.proofs.reading.return_depths.Goals.{then-is_return_skip, else-is_return_skip}

pub loop-word-init : goal.loop-word-init
loop-word-init c = (refl, none_yet _ _ _ (omega (arith, levels_fit c.args.model)) 6)

pub loop-word-preserved : goal.loop-word-preserved
loop-word-preserved c =
    let at = c.loop-word in
    let model = c.args.model in
    let skipping = c.is_return_skip.ensures ∙ ap (λ (w : ℕ). is_return_skip (word_flow w)) (slice_index_inside c.args.rom.now at.word 0 no_word c.loop-word-test.true) in
    elim c.if-is_return_skip.branch [
      | then-is_return_skip w ↦
          rw (w.depths-is, w.with_depths-more.ensures, w.levels.ensures, w.entry_at.ensures) (
            length_table (chip_of model).levels at.depths _ ∙ at.invariant.0,
            added _ _ _ _ at.depths (sym skipping ∙ w.if-is_return_skip.true) (rw at.invariant.0 (omega (arith, levels_fit model))) at.invariant.1,
          )
      | else-is_return_skip w ↦ rw w.depths-is (at.invariant.0, passed_by _ _ _ _ _ (sym skipping ∙ w.if-is_return_skip.false) at.invariant.1)
    ]

pub returns : goal.returns
returns c = all_seen _ _ _ c.loop-word.word c.loop-word.depths (omega arith) c.loop-word.invariant.1
