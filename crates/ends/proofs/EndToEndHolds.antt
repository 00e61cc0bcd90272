-- The law from `build` to hand-over holds. Assumes nothing.
use Prim.Native.Nat.{ℕ, zero, suc, ◌-◌, ◌≤◌, ◌<◌}
use native.Mathlib.Omega.{arith}
use mathlib.Core.Path.{◌≡◌, refl, sym, ◌∙◌, ap, ap₂, subst⁻¹}
use mathlib.Core.Bool.{Bool, true, false}
use mathlib.Core.List.{List}
use lib.ListN.{drop}
use Rattle.history.specs.Line.{Line, start, ◌▸◌, ◌⧺◌, count}
use Rattle.history.specs.Slots.{next, Heard, nothing, fragmented, unfragmented, frag, end, Report}
use Rattle.history.specs.History.{History, final, Copies}
use Rattle.history.specs.Step.{Outcome, Answer, single, joined, opened, copy, answer, after, outcome_at}
use Rattle.reports.specs.Lent.{Lent, for_unit, heard}
use Rattle.reports.specs.declared.unit.Settings.{Settings}
use Rattle.history.specs.declared.Place.{Place}
use Rattle.history.proofs.Theorems.{theorem_single, theorem_opened, theorem_copy}
use Rattle.ends.specs.Sent.{in_slot, Sending, at_first, silence, again, block, on_the_way, Repeating, said}
use Rattle.ends.specs.Sent.{unsaid, said_again}
use Rattle.ends.specs.EndToEnd as law
use Rattle.receiver.specs.Reached.{report_of, reports}
use Rattle.ends.specs.EndToEnd.{Message, bits, k, Build, output, block_in, header_slot, header_lent, block_lent}
use Rattle.ends.specs.EndToEnd.{nothing_lent, due_slot, Sent, Handed, with_outcome, handed, header_report}
use Rattle.ends.specs.EndToEnd.{all_reports, so_far, on_its_way, HandsOver, EndToEnd}
use Rattle.ends.proofs.SentLaws.{hushed, theorem_on_the_way, theorem_delivered, theorem_singles, theorem_copies}
use Rattle.ends.proofs.SentLaws.{theorem_repeats}
use Rattle.ends.proofs.LayoutLaws.{possible, in_full, accepted, header_accepted}
use Rattle.ends.proofs.HeardLaws.{message_in_lem, messages_in, meant, range, fragmented_heard, unfragmented_heard}
use Rattle.ends.proofs.HeardLaws.{block_heard_lem, message_is, message_inside}

-- Nothing is handed over on the way.
unhanded : (x : Heard) (l : Line Handed) → with_outcome l (on_the_way x) ≡ l
unhanded nothing l = refl
unhanded (fragmented h more f) l = refl
unhanded (unfragmented h f) l = refl
unhanded (frag b) l = refl
unhanded (end b) l = refl

count_messages : (i : ℕ) (b : List ℕ) → count (messages_in i b) ≡ i
count_messages zero b = refl
count_messages (suc i) b = ap suc (count_messages i b)

regroup : (hs : History) (x : Report) (rs : History) → hs ⧺ ((start ▸ x) ⧺ rs) ≡ (hs ▸ x) ⧺ rs
regroup hs x start = refl
regroup hs x (rs ▸ r) = ap (λ (h : History). h ▸ r) (regroup hs x rs)

pub silent : (s : Settings) (q : Place) → heard s (nothing_lent q) ≡ nothing
unfolding heard
silent s q = refl

module _ (s : Settings) (m : Message) (b : Build m) where
  -- Without its last report it is a sending too.
  prior : {ls : Line Lent} {l : Lent} {i : ℕ} → Sent s m b (ls ▸ l) i → (j : ℕ) × Sent s m b ls j × (j ≤ i)
  prior (law.silence {i = i} q t g d) = (i, t, omega arith)
  prior (law.repeat b' t g c) = (0, t, omega arith)
  prior (law.block {i = i} t h g) = (i, t, omega arith)

  module _ (hs : History) (w : for_unit s m.fields ≡ true) where
    -- A report on the way hands nothing more over.
    handed_on : (ls : Line Lent) (l : Lent) (x : Line Handed) → handed hs (all_reports s m b ls) ≡ x
        → outcome_at (so_far s m b hs ls) (report_of s l) ≡ on_the_way (heard s l)
        → handed hs (all_reports s m b (ls ▸ l)) ≡ x
    handed_on ls l x e o =
        let y = handed hs (all_reports s m b ls) in
        ap (λ (h : History). with_outcome y (outcome_at h (report_of s l)))
        (regroup hs (header_report s m b) (reports s ls)) ∙ ap (with_outcome y) o ∙ unhanded (heard s l) y ∙ e

    -- ---- A fragmented message.

    module _ (more : ℕ) (e : k m ≡ suc more) where
      abbrev blocks : ℕ → Line (List Bool)
      blocks i = messages_in i (drop 24 (output m b))

      sending : {ls : Line Lent} {i : ℕ} → Sent s m b ls i → i ≤ more
          → Sending (meant m s) more b.countdown (header_slot m b) (reports s ls) (blocks i)
      sending law.first h = at_first
      sending (law.silence {i = i} q t g d) h =
          silence (report_of s (nothing_lent q)) (sending t h) g (silent s q)
          (λ z. d (omega arith) (z ∙ ap (due_slot m b) (count_messages i _)))
      sending (law.repeat b' t g c) h =
          again (report_of s (header_lent m b')) b'.countdown (sending t h) g (fragmented_heard m b' s more e) c
      sending (law.block {i = i} t u g) h =
          let n = count_messages i (drop 24 (output m b)) in
          block
          (report_of s (block_lent m b i (due_slot m b i)))
          (message_in_lem (block_in i (output m b)))
          (sending t (omega arith))
          g
          (block_heard_lem m b s i (suc (more - suc i)) (due_slot m b i) (omega arith))
          (ap (due_slot m b) (sym n))
          (omega arith)

      heard_as : (rs : History)
          → (hs ▸ header_report s m b) ⧺ rs
          ≡ (hs ▸ in_slot (header_slot m b) (fragmented (meant m s) more b.countdown)) ⧺ rs
      heard_as rs = ap (λ (x : Heard). (hs ▸ in_slot (header_slot m b) x) ⧺ rs) (fragmented_heard m b s more e)

      -- what is answered on the way, by what is heard and by its kind
      as_heard : {ls : Line Lent} {l : Lent} {i : ℕ} → Sent s m b (ls ▸ l) i → i < k m
          → answer (after (so_far s m b hs ls)) (report_of s l)
          ≡ record { outcome = on_the_way (heard s l); dropped = false }
      as_heard {ls} {l} t u =
          ap (λ (h : History). answer (after h) (report_of s l)) (heard_as (reports s ls))
          ∙ theorem_on_the_way hs (meant m s) more b.countdown (header_slot m b) w (range m b).numbers.first_frame
          (range m b).numbers.last_frame (sending t (omega arith))

      by_kind : {ls : Line Lent} {l : Lent} {i : ℕ} → Sent s m b (ls ▸ l) i → i < k m
          → on_the_way (heard s l) ≡ on_its_way opened l.kind
      by_kind (law.silence q t g d) u = ap on_the_way (silent s q)
      by_kind (law.repeat b' t g c) u = ap on_the_way (fragmented_heard m b' s more e)
      by_kind (law.block {i = i} t h g) u =
          ap on_the_way (block_heard_lem m b s i (suc (more - suc i)) (due_slot m b i) (omega arith))

      undropped : {ls : Line Lent} {l : Lent} {i : ℕ} → Sent s m b (ls ▸ l) i → i < k m
          → answer (after (so_far s m b hs ls)) (report_of s l)
          ≡ record { outcome = on_its_way opened l.kind; dropped = false }
      undropped t u = as_heard t u ∙ ap (λ (o : Outcome). record { outcome = o; dropped = false }) (by_kind t u)

      opens : outcome_at hs (header_report s m b) ≡ opened
      opens =
          (theorem_opened hs (header_report s m b)).1
          (record {
            header = meant m s;
            more = more;
            countdown = b.countdown;
            holds = fragmented_heard m b s more e;
            for_us = w;
          })

      at_last : {ls : Line Lent} {i : ℕ} → Sent s m b ls i → suc i ≡ k m
          → due_slot m b i ≡ next (final (header_slot m b) (reports s ls))
          → answer (after (so_far s m b hs ls)) (report_of s (block_lent m b i (due_slot m b i)))
          ≡ record { outcome = joined m.fields (bits m); dropped = false }
      at_last {ls} {i} t u g =
          let r = report_of s (block_lent m b i (due_slot m b i)) in
          let j : i ≡ more = omega arith in
          ap (λ (h : History). answer (after h) r) (heard_as (reports s ls))
          ∙ theorem_delivered hs (meant m s) more b.countdown (header_slot m b) w (range m b).numbers.first_frame
          (range m b).numbers.last_frame r (message_in_lem (block_in i (output m b))) (sending t (omega arith))
          (count_messages i _ ∙ j) g (ap (due_slot m b) j)
          (block_heard_lem m b s i 0 (due_slot m b i) (omega arith))
          ∙ ap (λ (x : List Bool). record { outcome = joined m.fields x; dropped = false })
          (message_is m b i (sym u))

      not_before : (ls : Line Lent) {i : ℕ} → Sent s m b ls i → i < k m → handed hs (all_reports s m b ls) ≡ start
      not_before start t u = ap (with_outcome start) opens
      not_before (ls ▸ l) t u =
          let p = prior t in
          let h = p.2 in
          handed_on ls l start (not_before ls p.1 (omega arith)) (ap (λ (a : Answer). a.outcome) (as_heard t u))

      once_joined : {ls : Line Lent} {i : ℕ} → Sent s m b ls i → i ≡ k m
          → handed hs (all_reports s m b ls) ≡ start ▸ record { fields = m.fields; bits = bits m }
      once_joined law.first u = absurd (omega arith)
      once_joined (law.silence {ls} q t g d) u =
          handed_on ls (nothing_lent q) _ (once_joined t u)
          (hushed (so_far s m b hs ls) (report_of s (nothing_lent q)) (silent s q) ∙ ap on_the_way (sym (silent s q)))
      once_joined (law.repeat b' t g c) u = absurd (omega arith)
      once_joined (law.block {ls} {i} t h g) u =
          let r = report_of s (block_lent m b i (due_slot m b i)) in
          ap₂ (λ (y : Line Handed) (x : History). with_outcome y (outcome_at x r)) (not_before ls t h)
          (regroup hs (header_report s m b) (reports s ls))
          ∙ ap (λ (a : Answer). with_outcome start a.outcome) (at_last t u g)

    -- ---- A message that goes into the header.

    module _ (e : k m ≡ 0) where
      repeating : {ls : Line Lent} {i : ℕ} → Sent s m b ls i
          → Repeating (meant m s) b.countdown (header_slot m b) (reports s ls)
      repeating law.first = said
      repeating (law.silence q t g d) = unsaid (report_of s (nothing_lent q)) (repeating t) g (silent s q)
      repeating (law.repeat b' t g c) =
          said_again (report_of s (header_lent m b')) b'.countdown (repeating t) g (unfragmented_heard m b' s e) c
      repeating (law.block t u g) = absurd (omega arith)

      abbrev alone : Report
      alone = in_slot (header_slot m b) (unfragmented (meant m s) b.countdown)

      alone_as : header_report s m b ≡ alone
      alone_as = ap (in_slot (header_slot m b)) (unfragmented_heard m b s e)

      as_repeated : {ls : Line Lent} {l : Lent} {i : ℕ} → Sent s m b (ls ▸ l) i
          → outcome_at (so_far s m b hs ls) (report_of s l) ≡ on_the_way (heard s l)
      as_repeated {ls} {l} t =
          ap (λ (y : Report). outcome_at ((hs ▸ y) ⧺ reports s ls) (report_of s l)) alone_as
          ∙ theorem_repeats hs (meant m s) b.countdown (header_slot m b) w (repeating t)

      repeated : {ls : Line Lent} {l : Lent} {i : ℕ} → Sent s m b (ls ▸ l) i
          → outcome_at (so_far s m b hs ls) (report_of s l) ≡ on_its_way copy l.kind
      repeated {ls} {l} t = as_repeated t ∙ kind_of t
        where
          kind_of : {l : Lent} {i : ℕ} → Sent s m b (ls ▸ l) i → on_the_way (heard s l) ≡ on_its_way copy l.kind
          kind_of (law.silence q t g d) = ap on_the_way (silent s q)
          kind_of (law.repeat b' t g c) = ap on_the_way (unfragmented_heard m b' s e)
          kind_of (law.block t u g) = absurd (omega arith)

      no_more : (ls : Line Lent) {i : ℕ} {x : Line Handed} → handed hs (start ▸ header_report s m b) ≡ x
          → Sent s m b ls i → handed hs (all_reports s m b ls) ≡ x
      no_more start h t = h
      no_more (ls ▸ l) {x = x} h t = handed_on ls l x (no_more ls h (prior t).1) (as_repeated t)

      at_once : (Copies hs (header_report s m b) → ⊥)
          → outcome_at hs (header_report s m b) ≡ single m.fields (bits m)
      at_once c =
          let h = meant m s in
          let f = b.countdown in
          let p = header_slot m b in
          let n = theorem_singles hs h f p w (λ y. c (subst⁻¹ (Copies hs) alone_as (theorem_copies hs h f p w y))) in
          ap (outcome_at hs) alone_as ∙ (theorem_single hs alone m.fields (meant m s).bits).1 n
          ∙ ap (single m.fields) (message_inside m b e)

      once_single : (Copies hs (header_report s m b) → ⊥) → {ls : Line Lent} {i : ℕ} → Sent s m b ls i
          → handed hs (all_reports s m b ls) ≡ start ▸ record { fields = m.fields; bits = bits m }
      once_single c {ls} = no_more ls (ap (with_outcome start) (at_once c))

      copied : Copies hs (header_report s m b) → {ls : Line Lent} {i : ℕ} → Sent s m b ls i
          → handed hs (all_reports s m b ls) ≡ start
      copied c {ls} = no_more ls (ap (with_outcome start) ((theorem_copy hs (header_report s m b)).1 c))

-- ---- The law: a message is fragmented, or it goes into the header.

module _ (s : Settings) (m : Message) (b : Build m) (hs : History) (w : for_unit s m.fields ≡ true) where
  -- one that has a block to come is fragmented
  fragmented_one : {i : ℕ} → i < k m → k m ≡ suc (k m - 1)
  fragmented_one u = omega arith

  once_when : (n : ℕ) → k m ≡ n → (k m ≡ 0 → Copies hs (header_report s m b) → ⊥) → {ls : Line Lent}
      → Sent s m b ls (k m)
      → handed hs (all_reports s m b ls) ≡ start ▸ record { fields = m.fields; bits = bits m }
  once_when zero e c t = once_single s m b hs w e (c e) t
  once_when (suc more) e c t = once_joined s m b hs w more e t refl

  hands_over : HandsOver s m b hs
  hands_over =
      record {
        once = λ c t. once_when (k m) refl c t;
        copied = λ e c t. copied s m b hs w e c t;
        at_once = λ e c. at_once s m b hs w e c;
        repeated = λ e t. repeated s m b hs w e t;
        opens = λ u. opens s m b hs w (k m - 1) (fragmented_one u);
        not_before = λ {ls} t u. not_before s m b hs w (k m - 1) (fragmented_one u) ls t u;
        undropped = λ t u. undropped s m b hs w (k m - 1) (fragmented_one u) t u;
        at_last =
            λ {ls} {i} t u g. let h : i < k m = omega arith in at_last s m b hs w (k m - 1) (fragmented_one h) t u g;
      }

pub end_to_end : EndToEnd
end_to_end =
    record {
      hands_over = hands_over;
      possible = possible;
      in_full = in_full;
      accepted = λ s m b t. accepted s m b t;
      header_accepted = header_accepted;
    }
