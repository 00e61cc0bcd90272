use Rattle.reports.proofs.ReadLaws.{block_none, end_reads, frag_reads}
use Rattle.reports.proofs.read.block.Goals as goal

pub returns-then-x-ne0 : goal.returns-then-x-ne0
returns-then-x-ne0 c =
    let a = c.args in
    rw c.headless.ensures
    (block_none a.settings a.q.frame a.q.slot a.blocks.now
    c.read_continuation-x.ensures c.if-x-ne0.true)

pub returns-then-x-eq1 : goal.returns-then-x-eq1
returns-then-x-eq1 c =
    let a = c.args in
    rw c.headless-then-x-eq1.ensures
    (end_reads a.settings a.q.frame a.q.slot a.blocks.now
    c.read_continuation-x.ensures c.if-x-ne0.false
    c.if-x-eq1.true)

pub returns : goal.returns
returns c =
    let a = c.args in
    rw c.headless-2.ensures
    (frag_reads a.settings a.q.frame a.q.slot a.blocks.now
    c.read_continuation-x.ensures c.if-x-ne0.false
    c.if-x-eq1.false)
