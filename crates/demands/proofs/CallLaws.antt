-- What the calls promise is what the demands say of them. Assumes nothing.
use mathlib.Core.Path.{◌≡◌, sym, ap, subst⁻¹, ◌∙◌}
use mathlib.Core.List.{List}
use Prim.Native.Nat.{ℕ, ◌+◌, ◌-◌, ◌*◌, ◌<◌}
use native.Mathlib.Omega.{arith}
use lib.ListN.{take, drop}
use lib.Seq.{drop-drop}
use Rattle.blocks.specs.Header.{read_header, read_reported}
use Rattle.blocks.specs.Continuation.{read_continuation}
use Rattle.blocks.specs.Slots.{due_of}
use Rattle.blocks.specs.declared.header.Header.{Header}
use Rattle.blocks.specs.declared.continuation.Continuation.{Continuation}
use Rattle.blocks.specs.declared.slots.Due.{Due}
use Rattle.build.specs.Build.{sch_s, sch_h}
use Rattle.build.specs.declared.Built.{Built}
use Rattle.reports.specs.Lent.{Lent}
use Rattle.receiver.specs.View.{fresh_of}
use Rattle.receiver.specs.Reached.{Reached, Hears}
use Rattle.receiver.specs.declared.Receiver.{Receiver}
use Rattle.receiver.specs.declared.Reply.{Reply}
use Rattle.receiver.specs.declared.Fresh.{Fresh}
use Rattle.demands.specs.Calls.{begun, HearCall, Made}
use Rattle.demands.specs.Demand1.{Reads, ReadsReported, ReadsBlock, LaysOut}
use Rattle.demands.specs.Demand2.{Call, k, answer, after, header_back, sch_f, block_back, Buildable, again}
use Rattle.demands.specs.Demand2.{Rebuildable, Rebuilt}
use Rattle.demands.specs.OfCalls.{BuildsAs, BeginsAs, HearsAs}
use Rattle.demands.proofs.ReportedLaws.{reported_reads}
use Rattle.demands.proofs.Demand1Holds.{demand1}
use Rattle.demands.proofs.Demand2Holds.{demand2}
use Rattle.demands.proofs.Demand3Holds.{answers, after_call, demand3}

-- ---- one call

pub reads : (s h : List ℕ) {r : Header} → r ≡ read_header s h → Reads s h r
reads s h e = subst⁻¹ (Reads s h) e (demand1.header s h)

pub reads_reported : (frame slot : ℕ) (s h : List ℕ) {r : Header} → r ≡ read_reported frame slot s h
    → ReadsReported frame slot s h r
reads_reported frame slot s h e = subst⁻¹ (ReadsReported frame slot s h) e (demand1.reported frame slot s h)

pub reads_block : (b : List ℕ) {r : Continuation} → r ≡ read_continuation b → ReadsBlock b r
reads_block b e = subst⁻¹ (ReadsBlock b) e (demand1.continuation b)

pub lays_out : (x f i : ℕ) {r : Due} → r ≡ due_of x f i → LaysOut x f i r
lays_out x f i e = subst⁻¹ (LaysOut x f i) e (demand1.layout x f i)

pub builds : (c : Call) {r : Built} {new : List ℕ} → r ≡ answer c → new ≡ after c → BuildsAs c r new
builds c a o = rw (a, o) (record { settles = demand1.builds c; builds = demand2.builds c })

pub begins : (individual group mni : ℕ) (r : Fresh) → r ≡ fresh_of individual group mni
    → BeginsAs individual group mni r
begins individual group mni r e =
    record {
      begins = rw e (demand1.fresh individual group mni);
      calls = begun individual group mni r e;
    }

pub hears : {before : Receiver} {l : Lent} {r : Reply} {old new : List ℕ} → Hears before l r old new
    → HearsAs before l r old new
hears {before} {l} {r} {old} {new} h s ls k =
    let c : HearCall =
    record { settings = s; earlier = ls; before = before; report = l; reply = r; old = old; new = new } in
    let m : Made c = record { calls = k; hears = h } in
    record {
      made = m;
      settles = demand1.report c m;
      answers = λ e. answers c (record { made = m; accepted = e });
      store = demand3.store c m;
      goes_on = after_call c m;
    }

-- the same with the receiver after it, as `hear` and `hear_in_place` say it
pub heard : {before : Receiver} {l : Lent} {r : Reply} {old new : List ℕ}
    → Reached r.receiver × Hears before l r old new → Reached r.receiver × HearsAs before l r old new
heard (k, h) = (k, hears h)

-- ---- two calls in turn

-- block i of an output, as the code takes it
pub block_part : (i : ℕ) (l : List ℕ) → take (24 + 34 * i + 34 - (24 + 34 * i)) (drop (24 + 34 * i) l) ≡ sch_f i l
block_part i l =
    let n : 24 + 34 * i + 34 - (24 + 34 * i) ≡ 34 = omega arith in
    rw n (ap (take 34) (sym (drop-drop (34 * i) 24 l)))

pub reads_back : (c : Call) {r : Header} {new : List ℕ} → new ≡ after c → r ≡ read_header (sch_s new) (sch_h new)
    → Buildable c → r ≡ header_back c
reads_back c o e x = e ∙ ap (λ (b : List ℕ). read_header (sch_s b) (sch_h b)) o
    ∙ ((demand2.builds c).well x).header_reads_back

pub reads_reported_back : (frame slot : ℕ) (c : Call) {r : Header} {new : List ℕ} → new ≡ after c
    → r ≡ read_reported frame slot (sch_s new) (sch_h new) → Buildable c → frame ≡ c.sync.frame
    → slot ≡ c.sync.slot + 1 → r ≡ header_back c
reads_reported_back frame slot c o e x f t =
    let b = ((demand2.builds c).well x).header_reads_back in
    let s = sch_s (after c) in
    let h = sch_h (after c) in
    e ∙ ap (λ (b : List ℕ). read_reported frame slot (sch_s b) (sch_h b)) o
    ∙ reported_reads s h (ap (λ (r : Header). r.fault) b) frame slot (ap (λ (r : Header). r.sync.frame) b ∙ sym f)
    (ap (λ (r : Header). r.sync.slot + 1) b ∙ sym t)
    ∙ b

pub reads_block_back : (i : ℕ) (c : Call) {r : Continuation} {new : List ℕ} → new ≡ after c
    → r ≡ read_continuation (sch_f i new) → Buildable c → i < k c → r ≡ block_back c i
reads_block_back i c o e x l =
    e ∙ ap (λ (b : List ℕ). read_continuation (sch_f i b)) o ∙ ((demand2.builds c).well x).blocks_back i l

pub builds_again : (s b lent out : List ℕ) {x : Header} {r : Built} {new : List ℕ} → x ≡ read_header s b
    → r ≡ answer (again x lent out) → new ≡ after (again x lent out) → Rebuildable s b lent out → Rebuilt s b out r new
builds_again s b lent out e a o w =
    let (p, q) = demand2.rebuilds s b lent out w in
    (a ∙ ap (λ (x : Header). answer (again x lent out)) e ∙ p, o ∙ ap (λ (x : Header). after (again x lent out)) e ∙ q)
