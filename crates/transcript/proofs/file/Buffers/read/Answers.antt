use native.Mathlib.Omega.{arith}
use Rattle.std.proofs.lemmas.Result.{err_from_is_err_and}
use Rattle.station_file.specs.Answers.{buffers_of}
use Rattle.transcript.proofs.Parsed.{loads, bad}
use Rattle.transcript.proofs.file.Buffers.read.Goals as goal

pub shared_ref_as_front-result : goal.shared_ref_as_front-result
shared_ref_as_front-result c =
    let b = buffers_of c.args.self.now.rom c.args.self.now.sheet c.args.self.now.inputs in
    let l = loads b (omega arith) (omega arith) (omega arith) c.args.file.now _ _ _ _ c.in_ok-loaded.ensures in
    omega (arith, l.rom)

pub overflow_mul-result : goal.overflow_mul-result
overflow_mul-result c =
    let b = buffers_of c.args.self.now.rom c.args.self.now.sheet c.args.self.now.inputs in
    let l = loads b (omega arith) (omega arith) (omega arith) c.args.file.now _ _ _ _ c.in_ok-loaded.ensures in
    omega (arith, l.even)

pub shared_ref_as_front-result-2 : goal.shared_ref_as_front-result-2
shared_ref_as_front-result-2 c =
    let b = buffers_of c.args.self.now.rom c.args.self.now.sheet c.args.self.now.inputs in
    let l = loads b (omega arith) (omega arith) (omega arith) c.args.file.now _ _ _ _ c.in_ok-loaded.ensures in
    l.even

pub overflow_mul-result-2 : goal.overflow_mul-result-2
overflow_mul-result-2 c =
    let b = buffers_of c.args.self.now.rom c.args.self.now.sheet c.args.self.now.inputs in
    let l = loads b (omega arith) (omega arith) (omega arith) c.args.file.now _ _ _ _ c.in_ok-loaded.ensures in
    omega (arith, l.few)

pub shared_ref_as_front-result-3 : goal.shared_ref_as_front-result-3
shared_ref_as_front-result-3 c =
    let b = buffers_of c.args.self.now.rom c.args.self.now.sheet c.args.self.now.inputs in
    let l = loads b (omega arith) (omega arith) (omega arith) c.args.file.now _ _ _ _ c.in_ok-loaded.ensures in
    l.few

pub returns : goal.returns
returns c =
    let b = buffers_of c.args.self.now.rom c.args.self.now.sheet c.args.self.now.inputs in
    let l = loads b (omega arith) (omega arith) (omega arith) c.args.file.now _ _ _ _ c.in_ok-loaded.ensures in
    l.text

pub returns-in_err-loaded : goal.returns-in_err-loaded
returns-in_err-loaded c = λ good.
    let b = buffers_of c.args.self.now.rom c.args.self.now.sheet c.args.self.now.inputs in
    let p = err_from_is_err_and c.from_residual.result c.from_residual.ensures.1 in
    rw (p.1, p.2) (bad b (omega arith) (omega arith) (omega arith) c.args.file.now _ _ c.in_err-loaded.ensures good)
