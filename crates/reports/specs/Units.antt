-- The settings that a unit can have.
use Rattle.std.specs.Prelude.{Bool, ◌&&◌, ℕ, leb}
use Rattle.reports.specs.declared.unit.Settings.{Settings}

-- Each below 2^24.
abbrev pub fit : Settings → Bool
fit s = leb s.individual 16777215 && (leb s.group 16777215 && leb s.mni 16777215)

-- Those of three numbers.
abbrev pub unit : ℕ → ℕ → ℕ → Settings
unit individual group mni = record { individual = individual; group = group; mni = mni }

abbrev pub settings_fit : ℕ → ℕ → ℕ → Bool
settings_fit individual group mni = fit (unit individual group mni)
