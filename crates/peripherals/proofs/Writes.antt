-- The range is kept by POKE and PUT, and bounds the directions.
-- Assumes nothing.
use Rattle.std.proofs.Common.{◌≡◌, ℕ, zero, suc, ◌<◌, Bool, true, not, ◌&&◌, eqb, ltb, List, get_or, refl, arith, lit<, eqb→eq, ltb-true, lt-ltb, eq-eqb}
use lib.Bits.{bit_and, bit_or, or_lt, and_le_r}
use Rattle.laws.specs.Every.{every}
use Rattle.laws.proofs.Again.{again}
use Rattle.laws.proofs.Booleans.{both, either}
use Rattle.laws.proofs.Every.{every_at_lem, passed, holds}
use Rattle.laws.proofs.Stored.{every_stored}
use Rattle.peripherals.specs.Directions.{directions_of}
use Rattle.peripherals.specs.Range.{register_in_range, peripherals_in_range}
use Rattle.peripherals.specs.PeripheralLaws.{PeripheralLaws}
use Rattle.peripherals.specs.Registers.{place_of, is_on, stored_of, cleared_of, poke_of, with_modulo, reset_peripherals}
use Rattle.peripherals.specs.Table.{control_registers, stays_at, TM, TMO, P0BGIO, P0EBIO, P0DBIO, P0CBIO, P0ABIO, TMRES, TMOSEL, GROUP}
use Rattle.peripherals.specs.declared.Peripherals.{Peripherals}

-- a register in range by what it holds
abbrev fits : ℕ → ℕ → Bool
fits k v = eqb (bit_and v (stays_at k)) v

stored : (registers : List ℕ) (at v : ℕ) → every (register_in_range registers) 7 ≡ true → every (register_in_range (stored_of registers at v)) 7 ≡ true
stored registers at v r = every_stored fits registers at (bit_and v (stays_at at)) (passed (eq-eqb _ _ (again v (stays_at at)))) 7 r

cleared : (at v counter : ℕ) → counter < 256 → cleared_of at v counter < 256
cleared at v counter h =
    either (λ (x : ℕ). x < 256) (eqb at TM && not (eqb (bit_and v TMRES) 0)) 0 counter (lit< tt) h

module _ (p : Peripherals) where
  poked : (rf v : ℕ) → peripherals_in_range p ≡ true → peripherals_in_range (poke_of p rf v) ≡ true
  unfolding peripherals_in_range poke_of
  poked rf v h =
      let all = both (every (register_in_range p.registers) 7) _ h in
      let two = both (ltb p.divider 128) _ all.1 in
      let three = both (ltb p.counter 256) (ltb p.modulo 256) two.1 in
      rw (
        stored p.registers (place_of rf) v all.0,
        two.0,
        lt-ltb (cleared_of (place_of rf) v p.counter) 256 (cleared (place_of rf) v p.counter (ltb-true p.counter 256 three.0)),
        three.1,
      )

  put : (v : ℕ) → v < 256 → peripherals_in_range p ≡ true → peripherals_in_range (with_modulo p v) ≡ true
  unfolding peripherals_in_range
  put v small h =
      let all = both (every (register_in_range p.registers) 7) _ h in
      let two = both (ltb p.divider 128) _ all.1 in
      let three = both (ltb p.counter 256) (ltb p.modulo 256) two.1 in
      rw (all.0, two.0, three.0, lt-ltb v 256 small)

narrow : ℕ → Bool
narrow k = ltb (stays_at k) 16

-- no register has a bit above a nibble
nibble : (registers : List ℕ) (k : ℕ) → k < 7 → every (register_in_range registers) 7 ≡ true → get_or registers k 0 < 16
unfolding narrow control_registers
nibble registers k h r =
    let x = get_or registers k 0 in
    let e : bit_and x (stays_at k) ≡ x = eqb→eq _ _ (every_at_lem (register_in_range registers) 7 (passed r) k h) in
    let small : stays_at k < 16 = ltb-true (stays_at k) 16 (holds (every_at_lem narrow 7 tt k h)) in
    omega (arith, e, and_le_r x (stays_at k), small)

module _ (registers : List ℕ) (r : every (register_in_range registers) 7 ≡ true) where
  directed : (k : ℕ) → get_or (directions_of registers) k 0 < 16
  unfolding directions_of
  directed zero = nibble registers P0ABIO (lit< tt) r
  directed (suc zero) = either (λ (x : ℕ). x < 16) (is_on registers P0BGIO GROUP) 15 0 (lit< tt) (lit< tt)
  directed (suc (suc zero)) = nibble registers P0CBIO (lit< tt) r
  directed (suc (suc (suc zero))) =
      let own = get_or registers P0DBIO 0 in
      let small : own < 16 = nibble registers P0DBIO (lit< tt) r in
      either (λ (x : ℕ). x < 16) (is_on registers TMO TMOSEL) (bit_or own 8) own (or_lt 4 own 8 small (lit< tt)) small
  directed (suc (suc (suc (suc zero)))) = nibble registers P0EBIO (lit< tt) r
  directed (suc (suc (suc (suc (suc k))))) = lit< tt

start : peripherals_in_range reset_peripherals ≡ true
unfolding peripherals_in_range reset_peripherals control_registers
start = refl

in_range_registers : (p : Peripherals) → peripherals_in_range p ≡ true → every (register_in_range p.registers) 7 ≡ true
unfolding peripherals_in_range
in_range_registers p h = (both (every (register_in_range p.registers) 7) _ h).0

pub peripheral_laws : (p : Peripherals) → PeripheralLaws p
peripheral_laws p = record {
  start = start;
  poked = poked p;
  put = put p;
  directed = λ k h. directed p.registers (in_range_registers p h) k;
}
