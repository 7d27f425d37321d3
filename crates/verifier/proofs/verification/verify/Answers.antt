use mathlib.Core.Path.{◌∙◌, sym}
use native.Mathlib.Omega.{arith}
use Rattle.memory.proofs.Numbers.{words_below}
use Rattle.verifier.proofs.Promised.{promised}
use Rattle.verifier.proofs.Scan.{no_rule, no_word, rule_more, word_more, empty, long, unlike, passes, fails}
use Rattle.verifier.proofs.verification.verify.Goals as goal

pub returns-then-rom-eq0 : goal.returns-then-rom-eq0
returns-then-rom-eq0 c =
    let p = promised c.args.model _ _ _ (empty _ _ _ c.if-rom-eq0.true) in record { verdict = p.0; clear = p.1.0; safe = p.1.1 }

pub returns-then-words-rom : goal.returns-then-words-rom
returns-then-words-rom c =
    let p = promised c.args.model _ _ _ (long _ _ _ (rw c.words-2.ensures at c.if-words-rom.true)) in record { verdict = p.0; clear = p.1.0; safe = p.1.1 }

pub overflow_mul-rom : goal.overflow_mul-rom
overflow_mul-rom c = omega (arith, c.words-2.ensures, words_below c.args.model)

pub returns-then-sheet-rom : goal.returns-then-sheet-rom
returns-then-sheet-rom c =
    let p = promised c.args.model _ _ _ (unlike _ _ _ c.if-rom-eq0.false (rw c.words-2.ensures at c.if-words-rom.false) c.if-sheet-rom.true) in record { verdict = p.0; clear = p.1.0; safe = p.1.1 }

pub return_depths-requires : goal.return_depths-requires
return_depths-requires c = omega (arith, c.words-2.ensures, words_below c.args.model)

pub overflow_add-word : goal.overflow_add-word
overflow_add-word c = omega (arith, c.words-2.ensures, words_below c.args.model)

pub words-init : goal.words-init
words-init c = (omega arith, no_word _ _ _)

pub rules-init : goal.rules-init
rules-init c = no_rule _ _ _ _

pub rules-preserved : goal.rules-preserved
rules-preserved c =
    let held = sym (rw (c.flow_at.ensures, c.entry_at.ensures) at c.rule_holds.ensures) ∙ c.if-not-rule_holds.false in
    rule_more _ _ _ _ _ c.rules.auto.rule c.rules.invariant held

pub words-preserved : goal.words-preserved
words-preserved c = (omega arith, word_more _ _ _ _ _ (omega arith) c.rules.invariant c.words.invariant.1)

pub returns-then-rom-word : goal.returns-then-rom-word
returns-then-rom-word c =
    let p = promised c.args.model _ _ _ (passes _ _ _ c.if-rom-eq0.false (rw c.words-2.ensures at c.if-words-rom.false) c.if-sheet-rom.false _ (omega arith) c.words.invariant.1) in record { verdict = p.0; clear = p.1.0; safe = p.1.1 }

pub returns-then-not-rule_holds : goal.returns-then-not-rule_holds
returns-then-not-rule_holds c =
    let broken = sym (rw (c.flow_at.ensures, c.entry_at.ensures) at c.rule_holds.ensures) ∙ c.if-not-rule_holds.true in
    let p = promised c.args.model _ _ _ (fails _ _ _ c.if-rom-eq0.false (rw c.words-2.ensures at c.if-words-rom.false) c.if-sheet-rom.false _ _ (omega arith) c.words.invariant.1 (omega arith) (omega arith) c.rules.invariant broken) in record { verdict = p.0; clear = p.1.0; safe = p.1.1 }
