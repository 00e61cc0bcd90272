use native.Mathlib.Omega.{arith}
use Rattle.fcs.proofs.Numbers.{out_few, turned_code}
use Rattle.fcs.proofs.turned.Goals as goal

pub overflow_cast-result-2 : goal.overflow_cast-result-2
overflow_cast-result-2 c = omega (arith, out_few c.args.c c.args.k (omega arith) (omega arith))

pub offset_bounds-table-c : goal.offset_bounds-table-c
offset_bounds-table-c c = omega (arith, out_few c.args.c c.args.k (omega arith) (omega arith))

pub bounds-table-c : goal.bounds-table-c
bounds-table-c c = out_few c.args.c c.args.k (omega arith) (omega arith)

pub returns : goal.returns
returns c =
    let a = c.args in
    turned_code a.c a.k (omega arith) (omega arith) a.table.now c.requires.0
