-- Two messages that go into their headers, with the same SCH/H but for the countdown, have the same fields. Assumes
-- nothing.
use native.Mathlib.Omega.{arith}
use mathlib.Core.Path.{◌≡◌, sym, ◌∙◌, ap}
use mathlib.Core.Bool.{Bool}
use mathlib.Core.List.{List}
use lib.ListN.{length, take}
use Rattle.blocks.specs.Header.{header_of}
use Rattle.build.specs.Build.{header_block}
use Rattle.blocks.specs.declared.sync.Sync.{Sync}
use Rattle.store.proofs.Blocks.{halves_same}
use Rattle.reports.specs.declared.unit.Settings.{Settings}
use Rattle.ends.specs.EndToEnd.{Message, Build, bits, k}
use Rattle.ends.proofs.HeardLaws.{flag, inside, block_none, fields_read, block_length, meant, range}
use Rattle.ends.proofs.LayoutLaws.{built_for}

-- The build with countdown 0, and its SCH/H's bits.
abbrev last_one : (m : Message) → Build m → Build m
last_one m b =
    let n = (range m b).numbers in
    built_for m b b.sync.frame b.sync.slot 0 n.first_frame n.last_frame n.slot (omega arith)

abbrev last_bits_lem : Message → List Bool
last_bits_lem m = header_block (flag m) (k m) 0 m.fields (take (inside m) (bits m))

reads_as : (m : Message) → Build m → (y : Sync) → (header_of y (last_bits_lem m)).fields ≡ m.fields
reads_as m b = fields_read m (last_one m b)

pub same_fields : (s : Settings) (x m : Message) → Build x → Build m → (meant x s).raw ≡ (meant m s).raw
    → x.fields ≡ m.fields
same_fields s x m c b e =
    let none = block_none (flag m) (k m) m.fields (take (inside m) (bits m)) in
    let none' = block_none (flag x) (k x) x.fields (take (inside x) (bits x)) in
    let l =
    ap length (sym none') ∙ block_length x (last_one x c) ∙ sym (block_length m (last_one m b)) ∙ ap length none in
    let h = none' ∙ halves_same _ _ l e ∙ sym none in
    sym (reads_as x c b.sync) ∙ ap (λ (a : List Bool). (header_of b.sync a).fields) h ∙ reads_as m b b.sync
