-- The stored run holds, by computation. Assumes nothing.
use Rattle.bits.specs.Bits.{bit, num, bits_n, bits_of, bytes_n, over, test_bit}
use Rattle.bits.specs.Fill.{strip, before}
use Rattle.blocks.specs.Widths.{entry_of, width_of}
use Rattle.blocks.specs.Sync.{sync_of, sync_checks}
use Rattle.blocks.specs.Header.{fragmented_in, to_in, from_in, message_in, width_in, body_of, read_reported}
use Rattle.blocks.specs.Continuation.{read_continuation}
use Rattle.history.specs.Step.{fresh, step, answer}
use Rattle.reports.specs.Lent.{heard}
use Rattle.demands.specs.Examples.{AllHold}
use Rattle.demands.specs.RunTable.{table}
use Rattle.demands.specs.Run.{run}
use Rattle.demands.proofs.ExamplesHold.{hold}

pub run_holds : AllHold (run fresh table)
unfolding heard read_reported read_continuation sync_checks sync_of body_of fragmented_in to_in from_in message_in
    width_in entry_of width_of strip before bit num bits_n bits_of bytes_n over test_bit step answer
run_holds = hold (run fresh table) tt
