-- The input record's directions count for refusal 1 alone.
-- Assumes nothing.
use mathlib.Core.Path.{◌≡◌, ap, refl}
use mathlib.Core.Bool.{cond}
use mathlib.Core.List.{List}
use Prim.Native.Nat.{ℕ, zero, suc}
use lib.Dec.{leb}
use lib.ListN.{get_or, length}
use Rattle.isa.specs.Answers.{Decoding, is, refused as refused_word}
use Rattle.isa.specs.Decode.{decode_of}
use Rattle.isa.specs.declared.Instruction.{Instruction}
use Rattle.memory.specs.Chip.{Chip}
use Rattle.machine.specs.Parts.{is_marked}
use Rattle.machine.specs.Ranges.{five_nibbles, input_in_range, signals_in_range, all_in_range}
use Rattle.machine.specs.Signals.{Signals}
use Rattle.machine.specs.declared.Machine.{Machine}
use Rattle.cpu.specs.Cost.{none, plus, cost_of}
use Rattle.cpu.specs.Cycles.{next_cycles}
use Rattle.cpu.specs.Execute.{written_of, transfer_by, execute_of, lacks_of}
use Rattle.cpu.specs.Reply.{Step, refused_step}
use Rattle.cpu.specs.Run.{run_from, run_of}
use Rattle.cpu.specs.Step.{woken, ticked_by, stood_by, unless_refused, decoded_of, pass_over, fetch_of, waits, advance_of, step_of}
use Rattle.cpu.specs.Reply.{standing_step}
use Rattle.cpu.specs.declared.Count.{Count}
use Rattle.step_laws.specs.DirectionLaws.{directed, DirectionLaws}

module _ (chip : Chip) (rom : List ℕ) (s : Signals) (directions : List ℕ) where
  abbrev t : Signals
  t = directed directions s

  executed : (i : Instruction) (m : Machine) → execute_of chip rom t i m ≡ execute_of chip rom s i m
  unfolding execute_of lacks_of transfer_by written_of
  executed i m = refl

  decoded : (m : Machine) (d : Decoding) → decoded_of chip rom t m d ≡ decoded_of chip rom s m d
  decoded m (is i) = executed i m
  decoded m (refused_word n) = refl

  fetched : (m : Machine) → fetch_of chip rom t m ≡ fetch_of chip rom s m
  unfolding fetch_of
  fetched m =
      ap (λ (x : Step). cond (leb (length rom) m.control.pc) (refused_step 2 m) (cond (is_marked m.control.skip) (pass_over chip rom s m) x))
      (decoded m (decode_of (get_or rom m.control.pc 0)))

  advanced : (m : Machine) → advance_of chip rom t m ≡ advance_of chip rom s m
  unfolding advance_of
  advanced m =
      ap (λ (x : Step). cond (waits chip rom s m) (standing_step (stood_by s.pulse m)) (unless_refused m (ticked_by (next_cycles rom m) s.pulse x.machine) x.reply))
      (fetched (woken m))

  module _ (e : five_nibbles directions ≡ five_nibbles s.input.directions) where
    ranged : (m : Machine) → all_in_range chip rom m t ≡ all_in_range chip rom m s
    unfolding all_in_range signals_in_range input_in_range
    ranged m = rw e

    step : (m : Machine) → step_of chip rom t m ≡ step_of chip rom s m
    unfolding step_of
    step m = rw (ranged m, advanced m)

    from : (left : ℕ) (count : Count) (m : Machine) → run_from chip rom t left count m ≡ run_from chip rom s left count m
    unfolding run_from
    from zero count m = refl
    from (suc left) count m = rw (step m, from left (plus count (cost_of (next_cycles rom m) (step_of chip rom s m).reply)) (step_of chip rom s m).machine)

    run : (budget : ℕ) (m : Machine) → run_of chip rom t budget m ≡ run_of chip rom s budget m
    unfolding run_of
    run budget m = rw (ranged m, from budget none m)

  pub direction_laws : DirectionLaws chip rom s directions
  direction_laws = record { step = step; run = run }
