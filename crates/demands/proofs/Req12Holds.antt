-- Request 12 holds. Assumes nothing.
use mathlib.Core.Path.{◌≡◌, refl, sym, ap, ap₂, subst, subst⁻¹, ◌∙◌}
use mathlib.Core.Logic.{◌↔◌, inl, inr}
use mathlib.Core.Bool.{Bool, true}
use mathlib.Core.List.{List, [], ◌∷◌}
use Prim.Native.Nat.{ℕ, ◌+◌, ◌≤◌, ◌<◌}
use native.Mathlib.Omega.{arith}
use lib.ListN.{length, take, drop}
use Rattle.bits.specs.Bits.{bit, num, test_bit, bits_n, bits_of}
use Rattle.bits.proofs.Runs.{join_assoc, join_none_left, join_none_right}
use Rattle.blocks.specs.Widths.{entry_of, width_of}
use Rattle.blocks.proofs.SlotLaws.{frames_closed}
use Rattle.history.specs.Line.{Line, start, ◌▸◌, ◌⧺◌, count, Every, Any}
use Rattle.history.specs.Slots.{Heard, fragmented, Report, header_in, more_in}
use Rattle.history.specs.History.{History, Run, IsOpen, Closes, Opens}
use Rattle.history.specs.Step.{Assembly, after}
use Rattle.history.specs.Fate.{Renews, by_end, by_drop, by_repeat}
use Rattle.history.specs.Lasts.{slots_to, lasts, IsOver}
use Rattle.history.proofs.Lines.{made_of, each-⧺}
use Rattle.history.proofs.OpenRun.{count_each, grown, Holds, none_held, run_held, holds, found}
use Rattle.history.proofs.FateHolds.{Next, goes_on, ends, next_is, just_opened}
use Rattle.history.proofs.LastsHolds as lasts_holds
use Rattle.history.proofs.LastsHolds.{most, AsRead, Ranged, ranged, lasts_most, closed_when, repeat_stays, theorem_over}
use Rattle.reports.specs.Lent.{Lent, Event, for_unit, heard}
use Rattle.reports.specs.declared.unit.Settings.{Settings}
use Rattle.reports.proofs.FlagLaws.{same_read}
use Rattle.receiver.specs.Reached.{report_of, reports, Accepted}
use Rattle.receiver.specs.declared.Receiver.{Receiver}
use Rattle.receiver.proofs.AcceptedLaws.{all_sized, passes}
use Rattle.demands.specs.Calls.{Calls, HearCall, history, current, answer, Taken, Series, none, one_more}
use Rattle.demands.specs.Demand2.{Call, bits, InRange}
use Rattle.demands.specs.Demand3.{HandsOver}
use Rattle.demands.specs.Req12.{Ended, Cut, header_slot, header_lent, BringsCut, longest, OpenSince, Lasts38}
use Rattle.demands.specs.Req12.{Req12}
use Rattle.demands.proofs.Demand3Holds.{leads, answers}
use Rattle.demands.proofs.Req02Holds.{req02}
use Rattle.demands.proofs.SeriesLaws.{series, all_accepted}
use Rattle.demands.proofs.CutLaws as cut
use Rattle.demands.proofs.BuiltCut.{as_built}
use Rattle.demands.proofs.BroughtLaws.{all_brought}

-- ---- Over any list of accepted reports.

module _ (s : Settings) (ls : Line Event) (a : Every Accepted ls) where
  in_range : {u : Run} → IsOpen (reports s ls) u → Ranged u
  in_range o = ranged (all_sized s ls a) o

  open_until : {u : Run} → IsOpen (reports s ls) u → (count u.since < lasts u) × (lasts u ≤ 38)
  open_until o = let k = in_range o in (lasts_holds.open_until o k, lasts_most k)

over : (s : Settings) (before : Line Event) (o : Lent) (since : Line Event) → Every Accepted ((before ▸ o) ⧺ since)
    → Opens (report_of s o) → 38 ≤ count since → IsOver (reports s before) (report_of s o) (reports s since) 38
over s before o since a y l =
    let e = each-⧺ (report_of s) (before ▸ o) since in
    theorem_over (reports s before) (report_of s o) (reports s since)
    (subst (Every AsRead) e (all_sized s ((before ▸ o) ⧺ since) a)) y
    (subst⁻¹ (λ (n : ℕ). 38 ≤ n) (count_each (report_of s) since) l)

-- ---- Of the calls.

module _ {s : Settings} {ls : Line Event} {r : Receiver} (c : Calls s ls r) where
  held_is : r.assembly.run.held ≡ (after (reports s ls)).assembly.run.held
  held_is = ap (λ (x : Receiver). x.assembly.run.held) (leads c).there

  receiving : (r.assembly.run.held ≡ 1) ↔ ((u : Run) × IsOpen (reports s ls) u)
  receiving = (
    λ e. go (holds (reports s ls)) (sym held_is ∙ e),
    λ (u, o). held_is ∙ ap (λ (a : Assembly). a.run.held) (found (reports s ls) u o),
  )
    where
      go : {a : Assembly} → Holds (reports s ls) a → a.run.held ≡ 1 → (u : Run) × IsOpen (reports s ls) u
      go none_held e = absurd (omega arith)
      go (run_held u o) e = (u, o)

  received : r.assembly.run.held ≡ 1 → (u : Run) × IsOpen (reports s ls) u × (lasts u ≤ 38)
  received e = let (u, o) = receiving.0 e in (u, o, (open_until s ls (leads c).accepted o).1)

-- A repeat of its own header tells the same number of blocks.
same_number : (s : Settings) (ls : Line Event) (l : Lent) {u : Run} → (z : Renews (reports s ls) u (report_of s l))
    → z.more ≡ u.more
same_number s ls l {u} z =
    let o = z.is_open in
    let h : Report = record { place = u.place; heard = fragmented u.header u.more u.countdown } in
    let p = made_of (report_of s) ls o.before u.since h o.split in
    let m = p.member in
    let e : heard s m ≡ fragmented u.header u.more u.countdown =
    ap (λ (r : Report). r.heard) (sym p.member_is) in
    let g = z.holds in
    ap more_in (sym g)
    ∙ (same_read s l m (ap (λ (x : Heard). (header_in x).for_us) g ∙ z.repeats.0)
    (ap (λ (x : Heard). (header_in x).for_us) e ∙ o.for_us)
    (ap (λ (x : Heard). (header_in x).raw) g ∙ sym z.repeats.2 ∙ sym (ap (λ (x : Heard). (header_in x).raw) e))
    ).1
    ∙ ap more_in e

-- After these calls, with all that was heard by now: one of them ended the assembly, or it is open, its last due slot
-- where it was.
data Goes (s : Settings) (now : Line Event) (u : Run) (cs : Line HearCall) : Type 0 where
  gone : Any Ended cs → Goes s now u cs
  goes : (v : Run) → IsOpen (reports s now) v → lasts v + (count u.since + count cs) ≡ lasts u + count v.since
      → Goes s now u cs

module _ (s : Settings) (now : Line Event) (a : Every Accepted now) (u : Run) (cs : Line HearCall) (c : HearCall)
    (t : Taken c) (e : c.settings ≡ s) (f : c.earlier ≡ now) where
  then_is : history c ≡ reports s now
  then_is = ap₂ reports e f

  now_is : current c ≡ report_of s c.report
  now_is = ap (λ (x : Settings). report_of x c.report) e

  -- Its own header again.
  anew : (v : Run) → lasts v + (count u.since + count cs) ≡ lasts u + count v.since
      → Renews (reports s now) v (report_of s c.report) → Goes s (now ▸ c.report) u (cs ▸ c)
  anew v g z =
      let r = report_of s c.report in
      let o : Opens r =
      record {
        header = z.header;
        more = z.more;
        countdown = z.countdown;
        holds = z.holds;
        for_us = z.repeats.0;
      } in
      let l = repeat_stays (in_range s now a z.is_open).frame z v.more in
      let n = ap (slots_to r.place z.countdown) (same_number s now c.report z) in
      goes _ (just_opened (reports s now) r o).is_open (omega arith)

  -- One call more, by what the open run comes to.
  one_on : (v : Run) → lasts v + (count u.since + count cs) ≡ lasts u + count v.since
      → Next (history c) v (current c) → Goes s (now ▸ c.report) u (cs ▸ c)
  one_on v g (goes_on bs o) =
      goes (grown v (current c) bs)
      (subst (λ (h : History). IsOpen h (grown v (current c) bs))
      (ap₂ (λ (h : History) (r : Report). h ▸ r) then_is now_is) o)
      (omega arith)
  one_on v g (ends w (by_end last x)) = gone (inr (inl (req02.ended c t {u = v} (by_end last x)).0))
  one_on v g (ends w (by_drop o x)) = gone (inr (inr (req02.ended c t {u = v} (by_drop o x)).0))
  one_on v g (ends w (by_repeat z)) =
      anew v g
      (subst (λ (r : Report). Renews (reports s now) v r) now_is
      (subst (λ (h : History). Renews h v (current c)) then_is z))

on_and_on : {s : Settings} {before ls : Line Event} {cs : Line HearCall} {u : Run} → Every Accepted before
    → IsOpen (reports s before) u → Series s before ls cs → Goes s (before ⧺ ls) u cs
on_and_on {u = u} a o none = goes u o (omega arith)
on_and_on {s} {before} {u = u} a o (one_more {ls} {cs} h c t e f) = go (on_and_on a o h)
  where
    go : Goes s (before ⧺ ls) u cs → Goes s (before ⧺ (ls ▸ c.report)) u (cs ▸ c)
    go (gone x) = gone (inl x)
    go (goes v p g) =
        one_on s (before ⧺ ls) (all_accepted a h) u cs c t e f v g
        (next_is v (current c) (subst⁻¹ (λ (x : History). IsOpen x v) (ap₂ reports e f) p))

ended_by : {s : Settings} {before ls : Line Event} {cs : Line HearCall} {u : Run} → Every Accepted before
    → IsOpen (reports s before) u → Series s before ls cs → lasts u ≤ count u.since + count cs → Any Ended cs
ended_by {s} {before} {ls} {cs} {u} a o h l = go (on_and_on a o h)
  where
    go : Goes s (before ⧺ ls) u cs → Any Ended cs
    go (gone x) = x
    go (goes v p g) = let (y, z) = open_until s (before ⧺ ls) (all_accepted a h) p in absurd (omega arith)

-- After an answer with outcome 3.
module _ (c : HearCall) (t : Taken c) where
  by_now : Every Accepted (c.earlier ▸ c.report)
  by_now = ((leads t.made.calls).accepted, (passes c.report c.old t.accepted).0)

  begun : (answer c).outcome ≡ 3
      → (u : Run) × IsOpen (reports c.settings (c.earlier ▸ c.report)) u × (count u.since ≡ 0)
  begun e = (_, (just_opened (history c) (current c) ((answers c t).opened.0 e)).is_open, refl)

-- ---- A message cut at any places.

any_cut : (d : HearCall) → Taken d → (c : Call) → InRange c → for_unit d.settings c.fields ≡ true
    → (x : Cut c) (before since : Line Event) → d.earlier ≡ (before ▸ header_lent c x) ⧺ since
    → BringsCut d.settings c x since d.report
    → ((answer d).outcome ≡ 2) × ((answer d).dropped ≡ 0) × HandsOver d c.fields (bits c)
any_cut d t c r w x before since e b =
    let y : Closes (history d) (current d) c.fields (bits c) =
    subst⁻¹ (λ (ls : Line Event). Closes (reports d.settings ls) (current d) c.fields (bits c)) e
    (cut.closes c r x d.settings w before since d.report b) in
    let o = (answers d t).joined.1 (record { fields = c.fields; message = bits c; holds = y }) in
    (o, (answers d t).in_time (inl o), (answers d t).joined_what c.fields (bits c) y)

until_then : (s : Settings) (c : Call) → InRange c → for_unit s c.fields ≡ true → (x : Cut c)
    → (before since : Line Event) (l : Lent) → BringsCut s c x since l
    → OpenSince s ((before ▸ header_lent c x) ⧺ since) since
until_then s c r w x before since l b = (_, cut.is_open c r x s w before since l b, refl)

-- ---- The longest.

longest_in_range : InRange longest
unfolding entry_of width_of bit num bits_n test_bit
longest_in_range =
    record {
      system = (omega arith, omega arith);
      frame = (omega arith, omega arith);
      usage = omega arith;
      slot = omega arith;
      countdown = omega arith;
      destination = record { kind = omega arith; ssi = omega arith };
      source = record { kind = omega arith; ssi = omega arith };
      mni = omega arith;
      message = omega arith;
      listed = omega arith;
      table = refl;
      elements = omega arith;
      lent = omega arith;
      header = inl (omega arith);
    }

-- These bits, one to a block, after those.
abbrev apart : Line (List Bool) → List Bool → Line (List Bool)
apart bs [] = bs
apart bs (b ∷ m) = apart (bs ▸ (b ∷ [])) m

apart_fit : (bs : Line (List Bool)) (m : List Bool) → Every (λ b. length b ≤ 264) bs
    → Every (λ b. length b ≤ 264) (apart bs m)
apart_fit bs [] e = e
apart_fit bs (b ∷ m) e = apart_fit (bs ▸ (b ∷ [])) m (e, omega arith)

in_fifteen : Cut longest
unfolding bits_of bits_n test_bit
in_fifteen =
    record {
      head = [];
      blocks = apart start (take 14 (bits longest));
      last = drop 14 (bits longest);
      whole = refl;
      room = omega arith;
      fit = (apart_fit start (take 14 (bits longest)) tt, omega arith);
      few = omega arith;
    }

fourteen : count in_fifteen.blocks ≡ 14
unfolding in_fifteen bits_of bits_n test_bit
fourteen = refl

reached : (s : Settings) → for_unit s longest.fields ≡ true → (before : Line Event) → Lasts38 s before
reached s w before =
    let x = in_fifteen in
    let (since, l, b, a, z, n) = all_brought s longest longest_in_range (inl refl) x in
    let e = ap (slots_to (header_slot longest) 3) fourteen in
    let m : slots_to (header_slot longest) 3 14 ≡ 38 = refl in
    record {
      cut = x;
      since = since;
      last = l;
      header_accepted = a;
      accepted = z;
      number = omega arith;
      is_open = until_then s longest longest_in_range w x before since l b;
      closes = cut.closes longest longest_in_range x s w before since l b;
    }

pub req12 : Req12
req12 =
    record {
      in_frames = λ x f i l. omega (arith, frames_closed x f i (omega arith));
      in_slots = λ p a b f. lasts_holds.in_slots p f (a, b);
      in_reports = λ p a b f l. lasts_holds.in_reports p f (a, b) l;
      most = most;
      longest_38 = refl;
      open_until = λ s ls a o. let (l, m) = open_until s ls a o in (l, omega arith);
      handed_in = λ s ls l a c. closed_when c (in_range s ls a c.is_open);
      over = over;
      repeated = λ s ls l a z i. omega (arith, repeat_stays (in_range s ls a z.is_open).frame z i);
      receiving = receiving;
      ends = λ a o h l. ended_by a o h (omega arith);
      ends_38 = λ c e h l.
          let (u, o, m) = received c e in
          ended_by (leads c).accepted o h (omega arith);
      after_3 = λ c t e h l.
          let (u, o, z) = begun c t e in
          let (n, m) = open_until c.settings (c.earlier ▸ c.report) (by_now c t) o in
          ended_by (by_now c t) o h (omega arith);
      possible = λ c ls a. series c ls a;
      assoc = join_assoc;
      none_left = join_none_left;
      none_right = join_none_right;
      any_cut = any_cut;
      until_then = until_then;
      brought = λ s c r h x. all_brought s c r h x;
      as_built = λ c r l few. as_built c r l (omega arith);
      reached = reached;
      for_5001 = λ group. refl;
    }
