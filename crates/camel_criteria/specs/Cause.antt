-- Release causes (CauseValue of TS 29.002; that no extension bit is taken is profile 1's own).
use Rattle.std.specs.Prelude.{ℕ, nat_le, Option, Some, None, if◌then◌else◌}

-- the greatest cause value
abbrev pub max_cause : ℕ
max_cause = 127

abbrev pub cause_of : ℕ → Option ℕ
cause_of value = if nat_le value max_cause then Some value else None
