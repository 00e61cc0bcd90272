-- What a report brings, as the code holds it: every part, and where its message bits stand in the lent bytes.
use Rattle.std.specs.Prelude.{◌≡◌, false, cond, eqb, Option, Some, None, ℕ, ◌+◌, ◌≤◌, length, take, drop}
use Rattle.bits.specs.Bits.{bits_of, Inside}
use Rattle.history.specs.Slots.{no_fields, no_raw, Heard, what_in, header_in, more_in, countdown_in, bits_in}
use Rattle.history.specs.declared.What.{What}
use Rattle.reports.specs.Lent.{Lent, heard, fault_in}
use Rattle.reports.specs.declared.report.Kind.{Kind}
use Rattle.reports.specs.declared.report.Kind.TheVariants.{Silence, Header, Block}
use Rattle.reports.specs.declared.unit.Settings.{Settings}
use Rattle.reports.specs.declared.read.Brought.{Brought}

-- The kind of a number.
abbrev pub kind_of : ℕ → Option Kind
kind_of n = cond (eqb n 1) (Some Silence) (cond (eqb n 2) (Some Header) (cond (eqb n 3) (Some Block) None))

abbrev pub brought_of : Heard → ℕ → ℕ → Brought
brought_of x fault from =
    record {
      what = what_in x;
      fault = fault;
      meant = (header_in x).for_us;
      raw = (header_in x).raw;
      fields = (header_in x).fields;
      more = more_in x;
      countdown = countdown_in x;
      from = from;
      bits = length (bits_in x);
    }

-- One without a header.
abbrev pub headless : What → ℕ → ℕ → ℕ → Brought
headless what fault from n =
    record {
      what = what;
      fault = fault;
      meant = false;
      raw = no_raw;
      fields = no_fields;
      more = 0;
      countdown = 0;
      from = from;
      bits = n;
    }

-- The report, read for a unit with these settings; its numbers are small, and its message bits stand in the lent bytes.
pub record Reads (s : Settings) (l : Lent) (x : Brought) : Type 0 where
  pub shows : x ≡ brought_of (heard s l) (fault_in l) x.from
  pub message : take x.bits (drop x.from (bits_of l.blocks)) ≡ bits_in (heard s l)
  pub inside : Inside (length l.blocks) x.from (x.from + x.bits)
  pub few : x.bits ≤ 264
  pub falls : x.countdown ≤ 3
