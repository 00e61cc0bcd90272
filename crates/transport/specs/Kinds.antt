-- The four kinds of message, as the code has them.
use Rattle.std.specs.Prelude.{◌≡◌, ◌⊎◌, ℕ, ◌<◌, Option, Some, None, Result, MatchResult}
use Rattle.blocks.specs.declared.fault.Fault.{Fault}
use Rattle.blocks.specs.declared.fault.Fault.TheVariants.{NotSdsTl}
use Rattle.transport.specs.declared.kinds.Kind.{Kind}
use Rattle.transport.specs.declared.kinds.Kind.TheVariants.{Transfer, Report, Ack, Short}

-- Their numbers.
abbrev pub number : Kind → ℕ
number Transfer = 1
number Report = 2
number Ack = 3
number Short = 4

-- The number of a kind that may not be told; 0 where it is not.
abbrev pub number_or : Option Kind → ℕ
number_or (Some kind) = number kind
number_or None = 0

-- What stands here for a kind.
abbrev pub chosen : {T : Type 0} → Kind → T → T → T → T → T
chosen Transfer transfer report ack short = transfer
chosen Report transfer report ack short = report
chosen Ack transfer report ack short = ack
chosen Short transfer report ack short = short

-- The kind with this number; or the fault 21, where no kind has it.
abbrev pub Named : ℕ → Result Kind Fault → Type 0
Named n r = MatchResult r (λ kind. number kind ≡ n) (λ fault. (fault ≡ NotSdsTl) × ((n ≡ 0) ⊎ (4 < n)))
