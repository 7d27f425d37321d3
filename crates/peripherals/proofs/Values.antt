-- Values to check by: from reset the counter by cycles of one; and source document 000, 13.1.5 (3): the modulo DAH with fx/256 at
-- 8 MHz is 7.008 ms, 219 pulses.
-- Assumes nothing.
use Rattle.std.proofs.Common.{◌≡◌, false, lit<}
use Rattle.peripherals.specs.Timer.{is_match}
use Rattle.peripherals.specs.TimerLaws.{ticked, pulsed}
use Rattle.peripherals.proofs.Pulses.{match_laws}
use Rattle.peripherals.proofs.Since.{reset_laws}

after_15 : (ticked 15).counter ≡ 0
after_15 = reset_laws.counter 15

after_16 : (ticked 16).counter ≡ 1
after_16 = reset_laws.counter 16

after_4080 : (ticked 4080).counter ≡ 255
after_4080 = reset_laws.counter 4080

after_4096 : (ticked 4096).counter ≡ 0
after_4096 = reset_laws.counter 4096

seven_milliseconds : pulsed 0xDA 219 ≡ 0
seven_milliseconds = (match_laws 0xDA).left (lit< tt)

no_sooner : is_match 0xDA (pulsed 0xDA 217) ≡ false
no_sooner = (match_laws 0xDA).before (lit< tt) 217 (lit< tt)
