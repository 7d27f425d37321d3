use Rattle.std.proofs.Common.{◌≡◌, ◌+◌, ◌%◌}
use Rattle.memory.proofs.Passing.{passed}
use Rattle.memory.proofs.cells.write.Given as goal

abbrev pub invariant-loop-cell : goal.invariant-loop-cell
invariant-loop-cell l = record {
  left : (l.left + l.cell-index) % 256 ≡ l.at;
  written : l.cell-items ≡ passed l.fn.cells l.at l.kept l.cell-index;
}
