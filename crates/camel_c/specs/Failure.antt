-- The numbers of the failures.
use Rattle.std.specs.Prelude.{ℕ}
use Rattle.camel_criteria.specs.Refusal.{refusal_code}
use Rattle.camel_c.specs.declared.failure.Failure.{Failure}
use Rattle.camel_c.specs.declared.failure.Failure.TheVariants as failure

abbrev pub failure_code : Failure → ℕ
failure_code (failure.Refused why) = refusal_code why
failure_code failure.Held = 501
failure_code failure.Malformed = 502
failure_code failure.WrongHandle = 503
failure_code failure.FullHandle = 504
failure_code failure.OtherStore = 505
failure_code failure.OtherVersion = 506
