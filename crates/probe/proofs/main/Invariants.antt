use Rattle.probe.specs.Tells.{StateReached}
use Rattle.probe.proofs.main.Given as goal

abbrev pub invariant-loop : goal.invariant-loop
invariant-loop l = StateReached l.state
