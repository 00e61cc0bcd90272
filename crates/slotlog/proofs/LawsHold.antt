-- The laws hold. Assumes nothing.
use native.Mathlib.Omega.{arith}
use Rattle.slotlog.specs.Laws.{Laws}
use Rattle.slotlog.specs.Runs.{run_over}
use Rattle.slotlog.proofs.RunLaws.{next_unique, next_inside, next_forward, next_goes, three_states}
use Rattle.slotlog.proofs.TurnLaws.{come_over, run_full, run_unique, part_unique}
use Rattle.slotlog.proofs.AskedLaws.{replies_asked}
use Rattle.slotlog.proofs.PrinterLaws.{so_far, printed_so_far, printed_cut, printed_end}
use Rattle.slotlog.proofs.PrinterLaws.{printed_unit, printed_short}

pub laws : Laws
laws =
    record {
      next_unique = next_unique;
      run_unique = run_unique;
      part_unique = part_unique;
      next_inside = next_inside;
      next_forward = next_forward;
      next_goes = next_goes;
      run_writes = λ s ls log room. (come_over s ls log room).writes;
      run_full = λ s ls log room z. omega (arith, run_full s ls log room z);
      run_states = λ s ls log room. three_states (run_over s ls log room).state;
      replies_asked = replies_asked;
      so_far = so_far;
      printed_so_far = printed_so_far;
      printed_cut = printed_cut;
      printed_end = printed_end;
      printed_unit = printed_unit;
      printed_short = printed_short;
    }
