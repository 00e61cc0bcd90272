-- Slot reports with what they are to answer, made by tests/stored_run.py.
use Rattle.std.specs.Prelude.{List, [], ◌∷◌}
use Rattle.demands.specs.RunRows.{Row, row}

abbrev pub table : List Row
table =
    -- nothing heard
    row 3 1 1 0 (0 ∷ 0 ∷ 0 ∷ 0 ∷ 0 ∷ 0 ∷ 0 ∷ []) ∷
    -- for this unit, no copy
    row 3 3 2 0xd0086000000000000024001389000001c000e16f24166100 (1 ∷ 0 ∷ 0 ∷ 16 ∷ 0 ∷ 0 ∷ 0 ∷ []) ∷
    -- its repeat, one frame later, is a copy
    row 4 1 2 0xd0008000000000000020001389000001c000e16f24166100 (5 ∷ 0 ∷ 0 ∷ 0 ∷ 0 ∷ 0 ∷ 0 ∷ []) ∷
    -- the same with the same countdown, no frame gone by: a copy
    row 4 3 2 0xd0088000000000000020001389000001c000e16f24166100 (5 ∷ 0 ∷ 0 ∷ 0 ∷ 0 ∷ 0 ∷ 0 ∷ []) ∷
    -- with another message it is none
    row 5 1 2 0xd000a000000000000024001389000001c000e16f241660b0 (1 ∷ 0 ∷ 0 ∷ 20 ∷ 0 ∷ 0 ∷ 0 ∷ []) ∷
    -- the first message, its countdown not fallen with the frames: no copy
    row 5 3 2 0xd008a000000000000028001389000001c000e16f24166100 (1 ∷ 0 ∷ 0 ∷ 16 ∷ 0 ∷ 0 ∷ 0 ∷ []) ∷
    -- the other message's repeat, the first between: a copy
    row 6 1 2 0xd000c000000000000020001389000001c000e16f241660b0 (5 ∷ 0 ∷ 0 ∷ 0 ∷ 0 ∷ 0 ∷ 0 ∷ []) ∷
    -- the first message's repeat, the other between: a copy
    row 6 3 2 0xd008c000000000000024001389000001c000e16f24166100 (5 ∷ 0 ∷ 0 ∷ 0 ∷ 0 ∷ 0 ∷ 0 ∷ []) ∷
    -- a run of two blocks opens
    row 7 1 2 0xd000e0000000000000124001389000001c000e16f2416600 (3 ∷ 0 ∷ 0 ∷ 0 ∷ 0 ∷ 0 ∷ 0 ∷ []) ∷
    -- the first message's repeat, a fragmented header between: a copy
    row 7 3 2 0xd008e000000000000020001389000001c000e16f24166100 (5 ∷ 0 ∷ 0 ∷ 0 ∷ 0 ∷ 0 ∷ 0 ∷ []) ∷
    -- the same report twice is a break: no copy, and the run is dropped
    row 7 3 2 0xd008e000000000000020001389000001c000e16f24166100 (1 ∷ 1 ∷ 0 ∷ 16 ∷ 7 ∷ 23 ∷ 17 ∷ []) ∷
    -- for the group
    row 8 1 2 0xd0010000000000000020000384000001c000e16f24166100 (1 ∷ 0 ∷ 0 ∷ 16 ∷ 0 ∷ 0 ∷ 0 ∷ []) ∷
    -- for another unit
    row 8 3 2 0xd009000000000000002000138a000001c000e16f24166100 (0 ∷ 0 ∷ 0 ∷ 0 ∷ 0 ∷ 0 ∷ 0 ∷ []) ∷
    -- another network
    row 9 1 2 0xd0012000000000000020001389000001c000e1af24166100 (0 ∷ 0 ∷ 0 ∷ 0 ∷ 0 ∷ 0 ∷ 0 ∷ []) ∷
    -- not a true address
    row 9 3 2 0xd0092000000000000021001389000001c000e16f24166100 (0 ∷ 0 ∷ 0 ∷ 0 ∷ 0 ∷ 0 ∷ 0 ∷ []) ∷
    -- the block names another frame: fault 18
    row 10 1 2 0xd0084000000000000020001389000001c000e16f24166100 (0 ∷ 0 ∷ 18 ∷ 0 ∷ 0 ∷ 0 ∷ 0 ∷ []) ∷
    -- a pad bit is set: fault 2
    row 10 3 2 0xd0094000000000000020001389000001c000e16f24166101 (0 ∷ 0 ∷ 2 ∷ 0 ∷ 0 ∷ 0 ∷ 0 ∷ []) ∷
    -- a run of two blocks opens
    row 16 1 2 0xd00200000000000000124001389000001c000e16f2416600 (3 ∷ 0 ∷ 0 ∷ 0 ∷ 0 ∷ 0 ∷ 0 ∷ []) ∷
    -- its repeat opens it again, nothing is dropped
    row 16 3 2 0xd00a00000000000000124001389000001c000e16f2416600 (3 ∷ 0 ∷ 0 ∷ 0 ∷ 0 ∷ 0 ∷ 0 ∷ []) ∷
    -- frame 17: a repeat is missed
    row 17 1 1 0 (0 ∷ 0 ∷ 0 ∷ 0 ∷ 0 ∷ 0 ∷ 0 ∷ []) ∷
    -- the last repeat
    row 17 3 2 0xd00a20000000000000120001389000001c000e16f2416600 (3 ∷ 0 ∷ 0 ∷ 0 ∷ 0 ∷ 0 ∷ 0 ∷ []) ∷
    -- frame 18 is not due
    row 18 1 1 0 (0 ∷ 0 ∷ 0 ∷ 0 ∷ 0 ∷ 0 ∷ 0 ∷ []) ∷
    -- frame 18 is not due
    row 18 3 1 0 (0 ∷ 0 ∷ 0 ∷ 0 ∷ 0 ∷ 0 ∷ 0 ∷ []) ∷
    -- frame 1: the first block is kept
    row 1 1 3 0x4aaf53f89d21c66b0fb458fd8226cb7014b95de2872bd07519be42e78c30d57a1ea0 (4 ∷ 0 ∷ 0 ∷ 0 ∷ 0 ∷ 0 ∷ 0 ∷ []) ∷
    -- slot 3
    row 1 3 1 0 (0 ∷ 0 ∷ 0 ∷ 0 ∷ 0 ∷ 0 ∷ 0 ∷ []) ∷
    -- frame 2: the last block, handed over
    row 2 1 3 0x7347ec9135da7f03a84cf1963adf6410000000000000000000000000000000000000
    (2 ∷ 0 ∷ 0 ∷ 400 ∷ 0 ∷ 0 ∷ 0 ∷ []) ∷
    -- the same again is nothing
    row 2 3 3 0x7347ec9135da7f03a84cf1963adf6410000000000000000000000000000000000000 (0 ∷ 0 ∷ 0 ∷ 0 ∷ 0 ∷ 0 ∷ 0 ∷ []) ∷
    -- a run opens
    row 3 1 2 0xd00060000000000000130001389000001c000e16f2416600 (3 ∷ 0 ∷ 0 ∷ 0 ∷ 0 ∷ 0 ∷ 0 ∷ []) ∷
    -- slot 3
    row 3 3 1 0 (0 ∷ 0 ∷ 0 ∷ 0 ∷ 0 ∷ 0 ∷ 0 ∷ []) ∷
    -- kept
    row 4 1 3 0x4aaf53f89d21c66b0fb458fd8226cb7014b95de2872bd07519be42e78c30d57a1ea0 (4 ∷ 0 ∷ 0 ∷ 0 ∷ 0 ∷ 0 ∷ 0 ∷ []) ∷
    -- slot 3
    row 4 3 1 0 (0 ∷ 0 ∷ 0 ∷ 0 ∷ 0 ∷ 0 ∷ 0 ∷ []) ∷
    -- the second block is missed: dropped
    row 5 1 1 0 (0 ∷ 1 ∷ 0 ∷ 0 ∷ 7 ∷ 23 ∷ 281 ∷ []) ∷
    -- slot 3
    row 5 3 1 0 (0 ∷ 0 ∷ 0 ∷ 0 ∷ 0 ∷ 0 ∷ 0 ∷ []) ∷
    -- the last block comes too late
    row 6 1 3 0x7be08529ce7317bc40e58a2ed3781ca145ea8f330000000000000000000000000000 (0 ∷ 0 ∷ 0 ∷ 0 ∷ 0 ∷ 0 ∷ 0 ∷ []) ∷
    -- a run opens after a break
    row 8 3 2 0xd00900000000000000120001389000001c000e16f2416600 (3 ∷ 0 ∷ 0 ∷ 0 ∷ 0 ∷ 0 ∷ 0 ∷ []) ∷
    -- another unit's fragmented header: dropped
    row 9 1 2 0xd0012000000000000012000138a000001c000e16f2416600 (0 ∷ 1 ∷ 0 ∷ 0 ∷ 7 ∷ 23 ∷ 17 ∷ []) ∷
    -- slot 3
    row 9 3 1 0 (0 ∷ 0 ∷ 0 ∷ 0 ∷ 0 ∷ 0 ∷ 0 ∷ []) ∷
    -- its block is not ours
    row 10 1 3 0x4aaf53f89d21c66b0fb458fd8226cb7014b95de2872bd07519be42e78c30d57a1ea0 (0 ∷ 0 ∷ 0 ∷ 0 ∷ 0 ∷ 0 ∷ 0 ∷ []) ∷
    -- a run opens
    row 12 1 2 0xd00180000000000000120001389000001c000e16f2416600 (3 ∷ 0 ∷ 0 ∷ 0 ∷ 0 ∷ 0 ∷ 0 ∷ []) ∷
    -- slot 3
    row 12 3 1 0 (0 ∷ 0 ∷ 0 ∷ 0 ∷ 0 ∷ 0 ∷ 0 ∷ []) ∷
    -- the last kind in the first due slot: dropped
    row 13 1 3 0x7347ec9135da7f03a84cf1963adf6410000000000000000000000000000000000000
    (0 ∷ 1 ∷ 0 ∷ 0 ∷ 7 ∷ 23 ∷ 17 ∷ []) ∷
    -- slot 3
    row 13 3 1 0 (0 ∷ 0 ∷ 0 ∷ 0 ∷ 0 ∷ 0 ∷ 0 ∷ []) ∷
    -- a run of one block opens
    row 14 1 2 0xd001c0000000000000110001389000001c000e16f2416600 (3 ∷ 0 ∷ 0 ∷ 0 ∷ 0 ∷ 0 ∷ 0 ∷ []) ∷
    -- slot 3
    row 14 3 1 0 (0 ∷ 0 ∷ 0 ∷ 0 ∷ 0 ∷ 0 ∷ 0 ∷ []) ∷
    -- the first kind in the last due slot: dropped
    row 15 1 3 0x4aaf53f89d21c66b0fb458fd8226cb7014b95de2872bd07519be42e78c30d57a1ea0
    (0 ∷ 1 ∷ 0 ∷ 0 ∷ 7 ∷ 23 ∷ 17 ∷ []) ∷
    -- slot 3
    row 15 3 1 0 (0 ∷ 0 ∷ 0 ∷ 0 ∷ 0 ∷ 0 ∷ 0 ∷ []) ∷
    -- a run of one block opens
    row 16 1 2 0xd00200000000000000110001389000001c000e16f2416600 (3 ∷ 0 ∷ 0 ∷ 0 ∷ 0 ∷ 0 ∷ 0 ∷ []) ∷
    -- slot 3
    row 16 3 1 0 (0 ∷ 0 ∷ 0 ∷ 0 ∷ 0 ∷ 0 ∷ 0 ∷ []) ∷
    -- handed over
    row 17 1 3 0x7aaf53f89d21c66b0fb458fd8226cb7014b95de2872bd07519be42e78c3400000000
    (2 ∷ 0 ∷ 0 ∷ 250 ∷ 0 ∷ 0 ∷ 0 ∷ []) ∷
    -- slot 3
    row 17 3 1 0 (0 ∷ 0 ∷ 0 ∷ 0 ∷ 0 ∷ 0 ∷ 0 ∷ []) ∷
    -- a run of one block opens
    row 18 1 2 0xd00240000000000000110001389000001c000e16f2416600 (3 ∷ 0 ∷ 0 ∷ 0 ∷ 0 ∷ 0 ∷ 0 ∷ []) ∷
    -- frame 18, slot 3
    row 18 3 1 0 (0 ∷ 0 ∷ 0 ∷ 0 ∷ 0 ∷ 0 ∷ 0 ∷ []) ∷
    -- an unfragmented header in the due slot: handed over, and the run is dropped
    row 1 1 2 0xd0002000000000000020001389000001c000e16f24166100 (1 ∷ 1 ∷ 0 ∷ 16 ∷ 7 ∷ 23 ∷ 17 ∷ []) ∷
    -- slot 3
    row 1 3 1 0 (0 ∷ 0 ∷ 0 ∷ 0 ∷ 0 ∷ 0 ∷ 0 ∷ []) ∷
    -- a run of two blocks opens
    row 2 1 2 0xd00040000000000000120001389000001c000e16f2416600 (3 ∷ 0 ∷ 0 ∷ 0 ∷ 0 ∷ 0 ∷ 0 ∷ []) ∷
    -- a report comes twice: dropped
    row 2 1 1 0 (0 ∷ 1 ∷ 0 ∷ 0 ∷ 7 ∷ 23 ∷ 17 ∷ []) ∷
    -- a run of two blocks opens
    row 5 1 2 0xd000a0000000000000120001389000001c000e16f2416600 (3 ∷ 0 ∷ 0 ∷ 0 ∷ 0 ∷ 0 ∷ 0 ∷ []) ∷
    -- slot 3
    row 5 3 1 0 (0 ∷ 0 ∷ 0 ∷ 0 ∷ 0 ∷ 0 ∷ 0 ∷ []) ∷
    -- kept
    row 6 1 3 0x4aaf53f89d21c66b0fb458fd8226cb7014b95de2872bd07519be42e78c30d57a1ea0 (4 ∷ 0 ∷ 0 ∷ 0 ∷ 0 ∷ 0 ∷ 0 ∷ []) ∷
    -- a report goes back: dropped
    row 5 3 1 0 (0 ∷ 1 ∷ 0 ∷ 0 ∷ 7 ∷ 23 ∷ 281 ∷ []) ∷
    -- a run of one block opens
    row 9 1 2 0xd00120000000000000110001389000001c000e16f2416600 (3 ∷ 0 ∷ 0 ∷ 0 ∷ 0 ∷ 0 ∷ 0 ∷ []) ∷
    -- another header for this unit: the first run is dropped, another opens
    row 9 3 2 0xd00920000000000000110001389000001c000e16e0016600 (3 ∷ 1 ∷ 0 ∷ 0 ∷ 7 ∷ 23 ∷ 17 ∷ []) ∷
    -- handed over: the later header's
    row 10 1 3 0x7aaf53f89d21c66b0fb458fd8226cb7014b95de2872bd07519be42e78c30d5000000
    (2 ∷ 0 ∷ 0 ∷ 260 ∷ 0 ∷ 0 ∷ 0 ∷ []) ∷
    -- slot 3
    row 10 3 1 0 (0 ∷ 0 ∷ 0 ∷ 0 ∷ 0 ∷ 0 ∷ 0 ∷ []) ∷
    -- a run of one block opens
    row 11 1 2 0xd00160000000000000110001389000001c000e16f2416600 (3 ∷ 0 ∷ 0 ∷ 0 ∷ 0 ∷ 0 ∷ 0 ∷ []) ∷
    -- slot 3
    row 11 3 1 0 (0 ∷ 0 ∷ 0 ∷ 0 ∷ 0 ∷ 0 ∷ 0 ∷ []) ∷
    -- a block with a fault in the due slot: fault 12, dropped
    row 12 1 3 0xfaaf53f89d21c66b0fb458fd8226cb7014b95de2872bd07519be42e78c3400000000
    (0 ∷ 1 ∷ 12 ∷ 0 ∷ 7 ∷ 23 ∷ 17 ∷ []) ∷
    -- a run of a DM-SDS ACK opens, with no source address
    row 11 1 2 0xd001600000000000001200013898000e1710b30557a9fc40 (3 ∷ 0 ∷ 0 ∷ 0 ∷ 0 ∷ 0 ∷ 0 ∷ []) ∷
    -- the same slot again is a break: it is lost
    row 11 1 1 0 (0 ∷ 1 ∷ 0 ∷ 0 ∷ 0 ∷ 24 ∷ 48 ∷ []) ∷
    -- a run of a DM-SDS UDATA opens
    row 12 1 2 0xd00180000000000000130001389000001c000e16d2416600 (3 ∷ 0 ∷ 0 ∷ 0 ∷ 0 ∷ 0 ∷ 0 ∷ []) ∷
    -- slot 3
    row 12 3 1 0 (0 ∷ 0 ∷ 0 ∷ 0 ∷ 0 ∷ 0 ∷ 0 ∷ []) ∷
    -- kept
    row 13 1 3 0x4aaf53f89d21c66b0fb458fd8226cb7014b95de2872bd07519be42e78c30d57a1ea0 (4 ∷ 0 ∷ 0 ∷ 0 ∷ 0 ∷ 0 ∷ 0 ∷ []) ∷
    -- slot 3
    row 13 3 1 0 (0 ∷ 0 ∷ 0 ∷ 0 ∷ 0 ∷ 0 ∷ 0 ∷ []) ∷
    -- dropped, but of such a message no loss is told
    row 14 1 1 0 (0 ∷ 1 ∷ 0 ∷ 0 ∷ 0 ∷ 0 ∷ 0 ∷ []) ∷
    -- one of seven messages, each in a slot of its own
    row 14 1 2 0xd001c00000000000002c001389000001c000e16f24800000 (1 ∷ 0 ∷ 0 ∷ 1 ∷ 0 ∷ 0 ∷ 0 ∷ []) ∷
    -- one of seven messages, each in a slot of its own
    row 14 3 2 0xd009c00000000000002c001389000001c000e16f24400000 (1 ∷ 0 ∷ 0 ∷ 2 ∷ 0 ∷ 0 ∷ 0 ∷ []) ∷
    -- one of seven messages, each in a slot of its own
    row 15 1 2 0xd001e00000000000002c001389000001c000e16f24200000 (1 ∷ 0 ∷ 0 ∷ 3 ∷ 0 ∷ 0 ∷ 0 ∷ []) ∷
    -- one of seven messages, each in a slot of its own
    row 15 3 2 0xd009e00000000000002c001389000001c000e16f24100000 (1 ∷ 0 ∷ 0 ∷ 4 ∷ 0 ∷ 0 ∷ 0 ∷ []) ∷
    -- one of seven messages, each in a slot of its own
    row 16 1 2 0xd002000000000000002c001389000001c000e16f24180000 (1 ∷ 0 ∷ 0 ∷ 5 ∷ 0 ∷ 0 ∷ 0 ∷ []) ∷
    -- one of seven messages, each in a slot of its own
    row 16 3 2 0xd00a000000000000002c001389000001c000e16f24140000 (1 ∷ 0 ∷ 0 ∷ 6 ∷ 0 ∷ 0 ∷ 0 ∷ []) ∷
    -- one of seven messages, each in a slot of its own
    row 17 1 2 0xd002200000000000002c001389000001c000e16f24160000 (1 ∷ 0 ∷ 0 ∷ 7 ∷ 0 ∷ 0 ∷ 0 ∷ []) ∷
    -- the first of the seven again, three frames later: a copy
    row 17 3 2 0xd00a2000000000000020001389000001c000e16f24800000 (5 ∷ 0 ∷ 0 ∷ 0 ∷ 0 ∷ 0 ∷ 0 ∷ []) ∷
    []
