-- A hire for another unit never goes to `book`. Assumes nothing.
use mathlib.Core.Path.{◌≡◌, refl, sym, ap, ap₂, ◌∙◌, subst⁻¹}
use mathlib.Core.Bool.{Bool, true, false, cond}
use mathlib.Core.List.{List}
use Prim.Native.Nat.{ℕ, zero, suc, ◌-◌, ◌≤◌}
use native.Mathlib.Omega.{arith}
use lib.Dec.{eqb}
use Rattle.bits.specs.Bits.{bits_of}
use Rattle.blocks.specs.Sdu.{bits_of_message}
use Rattle.blocks.specs.Continuation.{block_message, read_continuation}
use Rattle.history.specs.Line.{Line, start, ◌▸◌, ◌⧺◌, each}
use Rattle.history.specs.Slots.{Heard, header_in, frag, end, Report}
use Rattle.history.specs.History.{History, NotForUs}
use Rattle.history.specs.Step.{Assembly, no_run, no_assembly, is_due, is_last, quiet, outcome_at}
use Rattle.history.proofs.Lines.{⧺-assoc, each-⧺}
use Rattle.history.proofs.Verdicts.{absurd_bool, unfit, comes, opens_none, rest_at, lost_at}
use Rattle.history.proofs.OpenRun.{At, none_left, known_at, drops_at}
use Rattle.history.proofs.Outcomes.{quiet_at}
use Rattle.reports.specs.Lent.{Lent, for_unit, unfaulted, heard}
use Rattle.reports.specs.declared.unit.Settings.{Settings}
use Rattle.history.specs.declared.Place.{Place}
use Rattle.receiver.specs.Reached.{report_of, reports}
use Rattle.bookings.specs.Calls.{Call}
use Rattle.ends.specs.EndToEnd as sent
use Rattle.ends.specs.EndToEnd.{Message, Build, k, header_lent, nothing_lent, block_lent, due_slot, Sent, Handed}
use Rattle.ends.specs.EndToEnd.{with_outcome, handed, header_report, all_reports, so_far}
use Rattle.ends.proofs.HeardLaws.{meant, fragmented_heard, unfragmented_heard}
use Rattle.ends.proofs.EndToEndHolds.{silent}
use Rattle.ends.proofs.SentLaws.{hushed}
use Rattle.hires.specs.Program.{Step, accepted, calls, Program, message_in}
use Rattle.hires.specs.June.{Hire, message}
use Rattle.hires.proofs.ProgramLaws.{handed_on}

-- ---- the receiver

-- where no assembly is open, what is not for this unit opens none and hands nothing over
stays_none : (hs : History) (r : Report) → NotForUs r.heard → At hs no_assembly → At (hs ▸ r) no_assembly
stays_none hs r n a =
    let q = r.place in
    known_at hs r no_assembly (none_left hs q a) r.heard refl
    ∙ opens_none (comes no_run (rest_at hs q).near q (lost_at hs q) r.heard) n

none_told : (hs : History) (r : Report) → NotForUs r.heard → At hs no_assembly → outcome_at hs r ≡ quiet
none_told hs r n a =
    let e = ap (λ (a : Assembly). is_due a.run r.place) (none_left hs r.place a) in
    quiet_at hs r n (λ d. absurd_bool (sym e ∙ d))

-- ---- what is sent to another unit

continues : (f : ℕ) (t : Bool) (x : List Bool) → NotForUs (unfaulted f (cond t (end x) (frag x)))
continues zero true x = refl
continues zero false x = refl
continues (suc f) t x = refl

module _ (s : Settings) (m : Message) (w : for_unit s m.fields ≡ false) where
  -- the header, by any build, is not for this unit and is no block
  header_not : (b : Build m) (j : ℕ) → k m ≡ j
      → NotForUs (heard s (header_lent m b)) × ((last : Bool) → unfit last (heard s (header_lent m b)) ≡ true)
  header_not b zero e =
      let x = unfragmented_heard m b s e in
      (subst⁻¹ NotForUs x w, λ last. ap (unfit last) x)
  header_not b (suc more) e =
      let x = fragmented_heard m b s more e in
      (subst⁻¹ NotForUs x w, λ last. ap (unfit last) x)

  header_quiet : (hs : History) (b : Build m) → outcome_at hs (header_report s m b) ≡ quiet
  header_quiet hs b =
      let r = header_report s m b in
      let (n, u) = header_not b (k m) refl in
      quiet_at hs r n (λ d. u (is_last (rest_at hs r.place).assembly.run))

  module _ (b : Build m) (hs : History) where
    block_not : (i : ℕ) (q : Place) → NotForUs (heard s (block_lent m b i q))
    unfolding heard
    block_not i q =
        let x = sent.block_in i (sent.output m b) in
        let r = read_continuation x in
        continues r.fault (eqb r.last 1) (bits_of_message (block_message (bits_of x)))

    -- a fragmented one leaves none open
    none_open : {ls : Line Lent} {i : ℕ} → Sent s m b ls i → 1 ≤ k m → At (so_far s m b hs ls) no_assembly
    none_open sent.first l =
        let more = k m - 1 in
        drops_at hs (header_report s m b) (meant m s) more b.countdown (fragmented_heard m b s more (omega arith)) w
    none_open (sent.silence {ls} q t g d) l =
        stays_none (so_far s m b hs ls) (report_of s (nothing_lent q))
        (ap (λ (x : Heard). (header_in x).for_us) (silent s q)) (none_open t l)
    none_open (sent.repeat {ls} b' t g c) l =
        stays_none (so_far s m b hs ls) (header_report s m b') (header_not b' (k m) refl).0 (none_open t l)
    none_open (sent.block {ls} {i} t u g) l =
        let q = due_slot m b i in
        stays_none (so_far s m b hs ls) (report_of s (block_lent m b i q)) (block_not i q) (none_open t l)

    -- one report more hands nothing over
    no_more : (ls : Line Lent) (l : Lent) → handed hs (all_reports s m b ls) ≡ start
        → outcome_at (so_far s m b hs ls) (report_of s l) ≡ quiet → handed hs (all_reports s m b (ls ▸ l)) ≡ start
    no_more ls l e o =
        let r = report_of s l in
        ap₂ (λ (x : Line Handed) (h : History). with_outcome x (outcome_at h r)) e
        (⧺-assoc hs (start ▸ header_report s m b) (reports s ls))
        ∙ ap (with_outcome start) o

    none_handed : {ls : Line Lent} {i : ℕ} → Sent s m b ls i → handed hs (all_reports s m b ls) ≡ start
    none_handed sent.first = ap (with_outcome start) (header_quiet hs b)
    none_handed (sent.silence {ls} q t g d) =
        let l = nothing_lent q in
        no_more ls l (none_handed t) (hushed (so_far s m b hs ls) (report_of s l) (silent s q))
    none_handed (sent.repeat {ls} b' t g c) =
        no_more ls (header_lent m b') (none_handed t) (header_quiet (so_far s m b hs ls) b')
    none_handed (sent.block {ls} {i} t u g) =
        let q = due_slot m b i in
        no_more ls (block_lent m b i q) (none_handed t)
        (none_told (so_far s m b hs ls) (report_of s (block_lent m b i q)) (block_not i q) (none_open t (omega arith)))

-- ---- what goes to `book`

no_call : (cs : Line Call) → each message_in cs ≡ start → cs ≡ start
no_call start e = refl
no_call (cs ▸ c) e = let z : ◌≡◌ {A = ℕ} 0 1 = cc in absurd (omega arith)

pub not_ours : (s : Settings) (before xs : Line Step) → Program s (before ⧺ xs) → (h : Hire) (b : Build (message h))
    → for_unit s h.fields ≡ false → (rest : Line Lent) (i : ℕ)
    → accepted xs ≡ start ▸ header_lent (message h) b ⧺ rest → Sent s (message h) b rest i → calls xs ≡ start
not_ours s before xs p h b w rest i e t =
    let hs = reports s (accepted before) in
    no_call (calls xs)
    (handed_on s before xs p
    ∙ ap (λ (l : Line Lent). handed hs (reports s l)) e
    ∙ ap (handed hs) (each-⧺ (report_of s) (start ▸ header_lent (message h) b) rest)
    ∙ none_handed s (message h) w b hs t)
