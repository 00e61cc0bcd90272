use Rattle.std.proofs.Common.{◌≡◌, ◌≤◌, length}
use Rattle.receiver.specs.Reached.{Reached}
use Rattle.printer.proofs.print.Given as goal

abbrev pub invariant-loop : goal.invariant-loop
invariant-loop g l = record {
  reached : Reached l.x.receiver;
  inside : l.x.have ≤ length l.log;
  same : length l.log ≡ length l.initial.log;
}
