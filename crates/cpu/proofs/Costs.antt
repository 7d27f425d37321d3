-- Counts added, and the cycles of a step: one or two.
-- Assumes nothing.
use mathlib.Core.Path.{◌≡◌}
use mathlib.Core.Bool.{Bool, true, false, not, ◌&&◌, cond}
use Prim.Native.Nat.{ℕ, ◌≤◌}
use native.Mathlib.Nat.{add-zero, zero-add, add_assoc}
use native.Mathlib.Omega.{arith}
use Rattle.machine.specs.Parts.{is_marked}
use Rattle.control.specs.Flow.{reads_table, word_flow}
use Rattle.cpu.specs.Cost.{cost_of, none, plus}
use Rattle.cpu.specs.Cycles.{cycles_of}
use Rattle.cpu.specs.Reply.{Reply, done, in_standby, refused}
use Rattle.cpu.specs.declared.Count.{Count}

pub plus_none : (a : Count) → plus a none ≡ a
plus_none a = rw (add-zero a.steps, add-zero a.cycles)

pub none_plus : (a : Count) → plus none a ≡ a
none_plus a = rw (zero-add a.steps, zero-add a.cycles)

pub plus_assoc : (a b c : Count) → plus (plus a b) c ≡ plus a (plus b c)
plus_assoc a b c = rw (add_assoc a.steps b.steps c.steps, add_assoc a.cycles b.cycles c.cycles)

two_or_one : (b : Bool) → (1 ≤ cond b 2 1) × (cond b 2 1 ≤ 2)
two_or_one true = (omega arith, omega arith)
two_or_one false = (omega arith, omega arith)

pub cycles_some : (word skip : ℕ) → 1 ≤ cycles_of word skip
cycles_some word skip = (two_or_one (not (is_marked skip) && reads_table (word_flow word))).0

pub cycles_few : (word skip : ℕ) → cycles_of word skip ≤ 2
cycles_few word skip = (two_or_one (not (is_marked skip) && reads_table (word_flow word))).1

-- a word that is passed over, and one that is run
pub skipped_cycles : (word skip : ℕ) → is_marked skip ≡ true → 1 ≡ cycles_of word skip
skipped_cycles word skip e = rw e

pub run_cycles : (word skip : ℕ) → is_marked skip ≡ false → cond (reads_table (word_flow word)) 2 1 ≡ cycles_of word skip
run_cycles word skip e = rw e

-- a step counts for one at most, and for two cycles
pub cost_below : (r : Reply) (cycles : ℕ) → (cost_of cycles r).steps ≤ 1
cost_below done cycles = omega arith
cost_below in_standby cycles = omega arith
cost_below (refused n) cycles = omega arith

pub cost_cycles : (r : Reply) (cycles : ℕ) → cycles ≤ 2 → (cost_of cycles r).cycles ≤ 2
cost_cycles done cycles h = h
cost_cycles in_standby cycles h = omega arith
cost_cycles (refused n) cycles h = omega arith
