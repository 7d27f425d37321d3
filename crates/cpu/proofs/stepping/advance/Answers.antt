use Rattle.machine.proofs.Marks.{is_marked_lem, not_marked}
use mathlib.Core.Path.{sym, ◌∙◌, ap}
use mathlib.Core.Bool.{false}
use Prim.Native.Nat.{ℕ}
use lib.ListN.{get_or}
use Rattle.isa.specs.Decode.{decode_of}
use Rattle.memory.specs.Chip.{chip_of}
use Rattle.control.specs.Control.{Transfer, onward_of, with_skip, onwards}
use Rattle.machine.specs.declared.Control.{Control}
use Rattle.peripherals.specs.Parts.{with_timer}
use Rattle.peripherals.specs.declared.Peripherals.{Peripherals}
use Rattle.cpu.specs.Cycles.{cycles_of}
use Rattle.cpu.specs.Joined.{signals_at}
use Rattle.cpu.proofs.Costs.{skipped_cycles, run_cycles}
use Rattle.cpu.proofs.Settled.{handed_on}
use Rattle.cpu.proofs.Phases.{past, passed_over, undecodable, carried_out, refused_so, past_rom, word_at}
use Rattle.cpu.proofs.stepping.advance.Goals as goal

pub returns-in_default : goal.returns-in_default
returns-in_default c =
    let s = c.args in record {
      advanced = λ directions release pulse goes. past _ _ _ _ goes (past_rom s.rom.now s.regs.pc (sym c.in_default.ensures));
      cost = tt;
      quiet = λ pulse quiet. tt;
    }

pub returns-then-regs-ne0 : goal.returns-then-regs-ne0
unfolding onward_of
returns-then-regs-ne0 c =
    let s = c.args in
    let w = word_at s.rom.now s.regs.pc _ (sym c.in-Some.ensures) in
    let skips = is_marked_lem _ c.if-regs-ne0.true in
    let one = skipped_cycles (get_or s.rom.now s.regs.pc 0) s.regs.skip skips in
    let on = ap (λ (x : Transfer). x.control) (c.onward.ensures s.stack.now)
    ∙ ap (λ (k : Control). with_skip false (onwards (chip_of s.model) k)) (c.woken-awake.ensures s.stack.now) in record {
      advanced = λ directions release pulse goes. passed_over _ _ (signals_at s.pins.now directions release pulse) _ goes w.0 skips 1 _ one on;
      cost = one;
      quiet = λ pulse quiet. quiet;
    }

pub returns-in_default-decode : goal.returns-in_default-decode
returns-in_default-decode c =
    let s = c.args in
    let w = word_at s.rom.now s.regs.pc _ (sym c.in-Some.ensures) in record {
      advanced = λ directions release pulse goes.
          undecodable _ _ _ _ goes w.0 (not_marked _ c.if-regs-ne0.false)
          (ap decode_of w.1 ∙ sym c.in_default-decode.ensures);
      cost = tt;
      quiet = λ pulse quiet. tt;
    }

pub returns : goal.returns
returns c =
    let s = c.args in
    let p : Peripherals = with_timer s.registers.now s.timer in
    let w = word_at s.rom.now s.regs.pc _ (sym c.in-Some.ensures) in
    let plain = not_marked _ c.if-regs-ne0.false in
    let cycles = c.word_cycles.ensures ∙ run_cycles _ s.regs.skip plain ∙ ap (λ (x : ℕ). cycles_of x s.regs.skip) (sym w.1) in record {
      advanced = λ directions release pulse goes.
          carried_out _ _ (signals_at s.pins.now directions release pulse) s.cells.now s.stack.now p s.regs _ (c.woken-awake.ensures s.stack.now) goes w.0 plain
          c.in-Some-decode.instruction
          (ap decode_of w.1 ∙ sym c.in-Some-decode.ensures)
          _ _ _ _ _ cycles (c.in_ok-next.ensures directions release pulse) c.set-set.ensures.0;
      cost = cycles;
      quiet = c.set-set.ensures.1;
    }

pub returns-in_err-next : goal.returns-in_err-next
returns-in_err-next c =
    let s = c.args in
    let p : Peripherals = with_timer s.registers.now s.timer in
    let w = word_at s.rom.now s.regs.pc _ (sym c.in-Some.ensures) in
    rw (handed_on _ _ c.from_residual.ensures.1) (record {
      advanced = λ directions release pulse goes.
          refused_so _ _ (signals_at s.pins.now directions release pulse) s.cells.now s.stack.now p s.regs _ (c.woken-awake.ensures s.stack.now) goes w.0 (not_marked _ c.if-regs-ne0.false)
          c.in-Some-decode.instruction
          (ap decode_of w.1 ∙ sym c.in-Some-decode.ensures)
          _ _ _ (c.in_err-next.ensures directions release pulse);
      cost = tt;
      quiet = λ pulse quiet. tt;
    })
