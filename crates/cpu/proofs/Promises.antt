-- What the contracts of the step, by value and in place, say of its count, as a caller gets it. No caller asks for it, so without
-- these lines the promises could be dropped and nothing would miss them.
-- Assumes nothing.
use mathlib.Core.Path.{◌≡◌}
use seplogic.Ra.Ura.{Ura}
use base.Logic.{SProp, ent, sep, snd∗}
use prog.Memory.{Memory}
use prog.Routine.{Routine}
use types.Logic.{Logic}
use contract.Lifetimes.{Lfts}
use contract.Monad.{Fun, fact}
use denote.Triple.Clauses.{AtExit}
use denote.Triple.Entry.{Args, Res}
use Rattle.memory.specs.Chip.{chip_of}
use Rattle.cpu.specs.Cost.{step_cost}
use Rattle.machine.specs.Parts.{machine_of}
use Rattle.machine.specs.Signals.{signals}
use Rattle.cpu.specs.contracts.running.step as step
use Rattle.cpu.specs.contracts.running.step_in_place as place

module _ {M : Type 1} {𝓤 : Ura M} (𝓛 : Logic 𝓤) (mem : Memory → SProp 𝓤) (runs : Routine → Fun 𝓤) where
  second : {P Q : Type 0} → ent 𝓤 (sep 𝓤 (fact 𝓤 P) (fact 𝓤 Q)) (fact 𝓤 Q)
  second {P} {Q} = snd∗ 𝓤 (fact 𝓤 P) (fact 𝓤 Q)

  -- a are the arguments, r the result, e the arguments at exit
  pub step_counts : (κs : Lfts 1) (a : Args step.signature κs) (r : Res step.signature κs) (e : AtExit step.ended κs)
      → ent 𝓤 ((step.clauses 𝓛 mem runs κs a).ensures tt r e)
      (fact 𝓤 (r.count ≡ step_cost (chip_of a.0) a.1.0.now (signals a.1.1.1.0 a.1.1.1.1.0) a.1.1.0))
  step_counts κs a r e = second

  pub place_counts : (κs : Lfts 2) (a : Args place.signature κs) (r : Res place.signature κs) (e : AtExit place.ended κs)
      → ent 𝓤 ((place.clauses 𝓛 mem runs κs a).ensures tt r e)
      (fact 𝓤 (r.count ≡ step_cost (chip_of a.0) a.1.0.now (signals a.1.1.1.1.1.0 a.1.1.1.1.1.1.0) (machine_of a.1.1.0.now a.1.1.1.0 a.1.1.1.1.0)))
  place_counts κs a r e = second
