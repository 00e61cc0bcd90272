-- A message cut at any places, from the bytes of its blocks to its bits. Assumes nothing.
use mathlib.Core.Path.{◌≡◌, refl, sym, ap, ap₂, ◌∙◌}
use mathlib.Core.Bool.{Bool, true, cond}
use mathlib.Core.List.{List}
use Prim.Native.Nat.{ℕ, suc, ◌+◌, ◌-◌, ◌≤◌}
use native.Mathlib.Omega.{arith}
use lib.Dec.{eqb, ltb}
use lib.ListN.{length}
use lib.Seq.{take_at, drop_at}
use Rattle.bits.specs.Bits.{bits_n, bytes_n, bits_of}
use Rattle.bits.specs.Layout.{pack}
use Rattle.bits.proofs.Bytes.{length_bytes_n, bits_of_bytes_n}
use Rattle.blocks.specs.Sdu.{fill_told, bits_of_message}
use Rattle.blocks.specs.Sync.{sync_parts}
use Rattle.blocks.specs.Header.{sdu_at, read_header, read_reported}
use Rattle.blocks.specs.Continuation.{read_continuation}
use Rattle.blocks.specs.declared.header.Header as read
use Rattle.blocks.specs.declared.continuation.Continuation.{Continuation}
use Rattle.blocks.proofs.WidthLaws.{width_listed}
use Rattle.build.specs.Build.{shape_for, header_block, continuation_block}
use Rattle.build.proofs.BuildLaws.{told_le, fill_fits, length_block}
use Rattle.build.proofs.RangeLaws.{sync_parts_fit, parts_fit}
use Rattle.build.proofs.BuiltLaws.{length_sync, length_header}
use Rattle.build.proofs.RoundTripLaws.{Reads, header_reads, header_message_lem, block_reads, block_message_lem}
use Rattle.history.specs.Line.{Line, start, ◌▸◌, ◌⧺◌, count, each, Every}
use Rattle.history.specs.Slots.{Header, Heard, fragmented, frag, end, Report}
use Rattle.history.specs.History.{History, NotFragmented, Run, IsOpen, Closes}
use Rattle.history.proofs.Lines.{each-⧺}
use Rattle.history.proofs.OpenRun.{unbroken_on, join_more}
use Rattle.reports.specs.Lent.{Lent, Event, for_unit, raw_of, unfaulted, header_heard, block_heard, heard}
use Rattle.reports.specs.declared.unit.Settings.{Settings}
use Rattle.receiver.specs.Reached.{report_of, reports}
use Rattle.demands.specs.Demand2.{Call, bits, InRange}
use Rattle.demands.specs.Req12.{Cut, block_bytes, header_slot, header_lent, frag_heard}
use Rattle.demands.specs.Req12.{BringsCut}
use Rattle.demands.proofs.ReportedLaws.{reported_reads}

-- ---- A block's part is heard as its bits.

module _ (last : ℕ) (b : List Bool) (h : last ≤ 1) (l : length b ≤ 264) where
  pub block_bits : bits_of (block_bytes last b) ≡ continuation_block last b
  block_bits = bits_of_bytes_n 34 (continuation_block last b) (length_block last b l)

  pub part_heard : block_heard (block_bytes last b) (read_continuation (block_bytes last b))
      ≡ cond (eqb last 1) (end b) (frag b)
  part_heard =
      let s = block_bytes last b in
      let n = length_bytes_n 34 (continuation_block last b) in
      ap₂ (λ (r : Continuation) (m : List Bool). unfaulted r.fault (cond (eqb r.last 1) (end m) (frag m)))
      (block_reads last b h l s n block_bits) (ap bits_of_message (block_message_lem last b h l s n block_bits))

frags_heard : (bs : Line (List Bool)) → Every (λ b. length b ≤ 264) bs → each frag_heard bs ≡ each frag bs
frags_heard start e = refl
frags_heard (bs ▸ b) e =
    ap₂ (λ (l : Line Heard) (x : Heard). l ▸ x) (frags_heard bs e.0) (part_heard 0 b (omega arith) e.1)

-- What holds of each report as it is lent holds of it as it is read.
all_read : (s : Settings) (ls : Line Event) → Every (λ l. NotFragmented (heard s l)) ls
    → Every (λ r. NotFragmented r.heard) (reports s ls)
all_read s start e = tt
all_read s (ls ▸ l) e = (all_read s ls e.0, e.1)

-- ---- The header's part.

module _ (c : Call) (r : InRange c) (x : Cut c) where
  abbrev slots : ℕ
  slots = suc (count x.blocks)

  abbrev block : List Bool
  block = header_block 1 slots c.countdown c.fields x.head

  abbrev pub sch_s_lem : List ℕ
  sch_s_lem = bytes_n 8 (pack (sync_parts c.sync))

  abbrev pub sch_h_lem : List ℕ
  sch_h_lem = bytes_n 16 block

  well : Reads c.sync 1 slots c.countdown c.fields x.head
  well =
      record {
        sync = sync_parts_fit c.sync r.system.1 r.frame.1 r.usage r.slot;
        system = r.system.0;
        first_frame = r.frame.0;
        last_frame = r.frame.1;
        parts =
            let room = 124 - sdu_at (shape_for 1 c.fields) in
            fill_fits 1 slots c.countdown (fill_told room x.head) c.fields
            (told_le (ltb (length x.head) room))
            (parts_fit 1 slots c.countdown c.fields (omega arith) (omega (arith, x.few)) r.countdown
            r.destination.kind r.destination.ssi r.source.kind r.source.ssi r.mni r.message
            r.elements);
        counted = omega arith;
        to = r.destination.kind;
        from = r.source.kind;
        table = r.table;
        narrow =
            rw r.table at
            (width_listed c.fields.message (bits_n c.fields.width c.fields.elements) r.listed);
        room = omega (arith, x.room);
      }

  pub length_s : length sch_s_lem ≡ 8
  length_s = length_bytes_n 8 (pack (sync_parts c.sync))

  pub length_h : length sch_h_lem ≡ 16
  length_h = length_bytes_n 16 block

  pub bits_s : bits_of sch_s_lem ≡ pack (sync_parts c.sync)
  bits_s = bits_of_bytes_n 8 (pack (sync_parts c.sync)) (length_sync c.sync)

  pub bits_h : bits_of sch_h_lem ≡ block
  bits_h = bits_of_bytes_n 16 block (length_header 1 slots c.countdown c.fields x.head well.room)

  abbrev back : read.Header
  back =
      record {
        fault = 0;
        sync = c.sync;
        fragmented = 1;
        count = slots;
        countdown = c.countdown;
        fields = c.fields;
        first = sdu_at (shape_for 1 c.fields);
        bits = length x.head;
      }

  header_read : read_header sch_s_lem sch_h_lem ≡ back
  header_read = header_reads well sch_s_lem sch_h_lem length_s length_h bits_s bits_h

  abbrev meant : Settings → List Bool → Header
  meant s m = record { raw = raw_of sch_h_lem; for_us = for_unit s c.fields; fields = c.fields; bits = m }

  head_heard : (s : Settings)
      → heard s (header_lent c x) ≡ fragmented (meant s x.head) (count x.blocks) c.countdown
  unfolding heard
  head_heard s =
      let f = ap (λ (r : read.Header). r.sync.frame) header_read in
      let z = ap (λ (r : read.Header). r.sync.slot + 1) header_read in
      let g = ap (λ (r : read.Header). r.fault) header_read in
      ap₂ (λ (a b : List ℕ). header_heard s b (read_reported c.sync.frame (c.sync.slot + 1) a b))
      (take_at sch_s_lem sch_h_lem 8 length_s) (drop_at sch_s_lem sch_h_lem 8 length_s)
      ∙ ap (header_heard s sch_h_lem)
      (reported_reads sch_s_lem sch_h_lem g c.sync.frame (c.sync.slot + 1) f z ∙ header_read)
      ∙ ap (λ (m : List Bool). fragmented (meant s m) (slots - 1) c.countdown)
      (header_message_lem well sch_s_lem sch_h_lem length_s length_h bits_s bits_h)
      ∙ ap (λ (n : ℕ). fragmented (meant s x.head) n c.countdown) (omega arith)

  -- ---- The reports that bring the parts.

  module _ (s : Settings) (w : for_unit s c.fields ≡ true) (before since : Line Event) (l : Lent)
      (b : BringsCut s c x since l) where
    abbrev run : Run
    run =
        record {
          header = meant s x.head;
          more = count x.blocks;
          countdown = c.countdown;
          place = header_slot c;
          since = reports s since;
          blocks = x.blocks;
        }

    abbrev heard_then : History
    heard_then = reports s ((before ▸ header_lent c x) ⧺ since)

    abbrev header_report : Report
    header_report = report_of s (header_lent c x)

    split : heard_then ≡ (reports s before ▸ header_report) ⧺ reports s since
    split = each-⧺ (report_of s) (before ▸ header_lent c x) since

    pub is_open : IsOpen heard_then run
    is_open =
        record {
          before = reports s before;
          split =
              split
              ∙ ap (λ (y : Heard). (reports s before ▸ record { place = header_slot c; heard = y }) ⧺ reports s since)
              (head_heard s);
          for_us = w;
          latest = all_read s since b.latest;
          turns = b.turns.0;
          held = b.held ∙ frags_heard x.blocks x.fit.0;
          short = omega arith;
        }

    last_heard : heard s l ≡ end x.last
    unfolding heard
    last_heard = rw b.at_last (part_heard 1 x.last (omega arith) x.fit.1)

    pub closes : Closes heard_then (report_of s l) c.fields (bits c)
    closes =
        record {
          run = run;
          is_open = is_open;
          unbroken =
              let q = (report_of s l).place in
              rw split (unbroken_on (reports s before) (reports s since) header_report q b.turns.1);
          in_due = ap (λ (y : Lent). (report_of s y).place) b.at_last;
          full = refl;
          last = x.last;
          holds = last_heard;
          its_fields = refl;
          its_bits = sym x.whole ∙ join_more x.head x.blocks x.last;
        }
