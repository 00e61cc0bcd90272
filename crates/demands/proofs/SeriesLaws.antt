-- Calls of one receiver, one after another. Assumes nothing.
use mathlib.Core.Path.{◌≡◌, refl}
use lib.ListN.{replicate}
use Rattle.history.specs.Line.{Line, start, ◌▸◌, ◌⧺◌, Every}
use Rattle.reports.specs.Lent.{Event}
use Rattle.reports.specs.declared.unit.Settings.{Settings}
use Rattle.receiver.specs.Reached.{refused_with, Accepted}
use Rattle.receiver.specs.declared.Receiver.{Receiver}
use Rattle.receiver.proofs.AcceptedLaws.{passes}
use Rattle.demands.specs.Calls.{Calls, accepted, HearCall, Series, none, one_more}
use Rattle.demands.proofs.Demand3Holds.{demand3}

-- There are such calls, whatever reports can be accepted, and they go on.
possible : {s : Settings} {before : Line Event} {r : Receiver} → Calls s before r → (ls : Line Event)
    → Every Accepted ls → (cs : Line HearCall) × (x : Receiver) × Series s before ls cs × Calls s (before ⧺ ls) x
possible {r = r} y start a = (start, r, none, y)
possible {s} {before} c (ls ▸ l) a =
    let (cs, x, h, y) = possible c ls a.0 in
    let (reply, new, m) = demand3.possible y l (replicate 512 0) in
    let e : refused_with l (replicate 512 0) ≡ 0 = a.1 in
    let c : HearCall =
    record {
      settings = s;
      earlier = before ⧺ ls;
      before = x;
      report = l;
      reply = reply;
      old = replicate 512 0;
      new = new;
    } in (
      cs ▸ c,
      reply.receiver,
      one_more h c (record { made = m; accepted = e }) refl refl,
      accepted y l reply (replicate 512 0) new m.hears e,
    )

pub series : {s : Settings} {before : Line Event} {r : Receiver} → Calls s before r → (ls : Line Event)
    → Every Accepted ls → (cs : Line HearCall) × Series s before ls cs
series c ls a = let (cs, x, h, y) = possible c ls a in (cs, h)

-- Their reports can be accepted.
pub all_accepted : {s : Settings} {before ls : Line Event} {cs : Line HearCall} → Every Accepted before
    → Series s before ls cs → Every Accepted (before ⧺ ls)
all_accepted a none = a
all_accepted a (one_more h c t e f) = (all_accepted a h, (passes c.report c.old t.accepted).0)
