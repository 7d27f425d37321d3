use mathlib.Core.Path.{◌∙◌, ap}
use mathlib.Core.List.{List, ◌++◌}
use Prim.Native.Nat.{ℕ}
use Rattle.text.specs.Hex.{hex_digits_of}
use Rattle.machine.specs.Refusals.{number_of}
use Rattle.cpu.specs.Reply.{done, in_standby, refused}
use Rattle.cpu.specs.declared.Count.{Count}
use Rattle.transcript.specs.Printing.{fields_of}
use Rattle.transcript.specs.Text.{decimal}
use Rattle.transcript.proofs.Lines.{line_of_lem}
use Rattle.transcript.proofs.Puts.{nothing, reworded}
use Rattle.transcript.proofs.Turns.{few, refused_before, recorded, small, steps_so, total_is}
use Rattle.transcript.proofs.Station.put_record.Goals as goal

pub returns-then-is_some : goal.returns-then-is_some
returns-then-is_some c = refused_before _ _ _ _ c.if-is_some.ensures

pub total-count-requires : goal.total-count-requires
total-count-requires c =
    let s = c.args in
    let cost = small s.self.now.rom.now s.number s.input s.progress _ c.step-stepped.ensures.cost in
    record { steps_bound = c.requires.steps_bound; cycles_bound = c.requires.cycles_bound; steps_bound_2 = cost.0; cycles_bound_2 = cost.1 }

pub returns-in-Ok-Done : goal.returns-in-Ok-Done
returns-in-Ok-Done c =
    let s = c.args in
    let step = c.step-stepped in
    let total = c.total-count in
    let after = step.result.machine in
    let completion = rw c.in-Ok-Done.is at c.in-Ok-Done.field-0-is in
    let e = rw (c.in-Ok-Done.is, completion) at step.ensures.stepped in
    let word = c.hex4.ensures ∙ ap hex_digits_of c.word_at.ensures in
    recorded s.self.now.rom.now s.number s.input s.progress _ _
    (steps_so s.self.now.rom.now s.number s.input s.progress done after c.if-is_some.ensures e)
    (ap (λ (k : Count). record { machine = after; count = k; refusal = 0 }) (total_is s.self.now.rom.now s.number s.input s.progress _ _ step.ensures.cost total.ensures))
    (reworded
    (ap (λ (w : List ℕ). decimal s.number ++ fields_of s.progress.machine.control.pc w after) word ∙ line_of_lem s.number _ s.progress.machine after)
    c.put_line.ensures)
    (few s.self.now.rom.now s.number s.input s.progress _ _ step.ensures.cost total.ensures)

pub returns-in-Ok-Standby : goal.returns-in-Ok-Standby
returns-in-Ok-Standby c =
    let s = c.args in
    let step = c.step-stepped in
    let total = c.total-count in
    let after = step.result.machine in
    let completion = rw c.in-Ok-Standby.is at c.in-Ok-Standby.field-0-is in
    let e = rw (c.in-Ok-Standby.is, completion) at step.ensures.stepped in
    recorded s.self.now.rom.now s.number s.input s.progress _ _
    (steps_so s.self.now.rom.now s.number s.input s.progress in_standby after c.if-is_some.ensures e)
    (ap (λ (k : Count). record { machine = after; count = k; refusal = 0 }) (total_is s.self.now.rom.now s.number s.input s.progress _ _ step.ensures.cost total.ensures))
    (reworded (line_of_lem s.number _ s.progress.machine after) c.put_line-in-Ok-Standby.ensures)
    (few s.self.now.rom.now s.number s.input s.progress _ _ step.ensures.cost total.ensures)

pub returns-in-Err : goal.returns-in-Err
returns-in-Err c =
    let s = c.args in
    let step = c.step-stepped in
    let total = c.total-count in
    let after = step.result.machine in
    let number = number_of c.in-Err.refusal in
    let e = rw c.in-Err.is at step.ensures.stepped in
    recorded s.self.now.rom.now s.number s.input s.progress _ _
    (steps_so s.self.now.rom.now s.number s.input s.progress (refused number) after c.if-is_some.ensures e)
    (ap (λ (k : Count). record { machine = after; count = k; refusal = number }) (total_is s.self.now.rom.now s.number s.input s.progress _ _ step.ensures.cost total.ensures))
    nothing
    (few s.self.now.rom.now s.number s.input s.progress _ _ step.ensures.cost total.ensures)
