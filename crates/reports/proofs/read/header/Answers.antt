use mathlib.Core.Bool.{true, false}
use native.Mathlib.Omega.{arith}
use borrow.Author.Tests.{eq-eqb, ne_eqb}
use Rattle.reports.proofs.ReadLaws.{header_none, first_small, flag_low, counted, header_reads}
use borrow.Author.Rules.{rules}
use Rattle.reports.proofs.read.header.Goals as goal
use Rattle.reports.proofs.read.header.Goals.{then-x-eq1, else-x-eq1}

pub returns-then-x-ne0 : goal.returns-then-x-ne0
returns-then-x-ne0 c =
    let a = c.args in
    rw c.headless.ensures
    (header_none a.settings a.q.frame a.q.slot a.blocks.now
    c.read_reported-x.ensures c.if-x-ne0.true)

pub without_two-requires : goal.without_two-requires
without_two-requires c =
    let a = c.args in
    let f =
    flag_low a.settings a.q.frame a.q.slot a.blocks.now c.read_reported-x.ensures
    c.if-x-ne0.false c.requires in
    search rules

pub overflow_sub-result : goal.overflow_sub-result
overflow_sub-result c =
    let a = c.args in
    let f =
    counted a.settings a.q.frame a.q.slot a.blocks.now c.read_reported-x.ensures
    c.if-x-ne0.false
    c.requires in
    omega arith

pub overflow_add-result : goal.overflow_add-result
overflow_add-result c =
    let a = c.args in
    let f =
    first_small a.settings a.q.frame a.q.slot a.blocks.now c.read_reported-x.ensures
    c.if-x-ne0.false
    c.requires in
    omega arith

pub returns : goal.returns
returns c =
    let a = c.args in
    let reads =
    header_reads a.settings a.q.frame a.q.slot a.blocks.now c.read_reported-x.ensures
    c.if-x-ne0.false
    c.requires
    c.meant.ensures c.without_two.ensures
    c.if-x-eq1.what in
    let f = c.read_reported-x.result.fragmented in
    rw c.same_fields.ensures
    (elim c.if-x-eq1.branch [
      | then-x-eq1 w ↦ reads true (eq-eqb f 1 w.if-x-eq1.true) w.what-is
      | else-x-eq1 w ↦ reads false (ne_eqb f 1 w.if-x-eq1.false) w.what-is
    ])
