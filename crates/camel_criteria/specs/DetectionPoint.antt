-- The numbers of trigger detection points and of default call handling.
use Rattle.std.specs.Prelude.{ℕ, Bool, ◌==◌, List, [], ◌∷◌, ◌||◌, nat_lt, if◌then◌else◌}
use Rattle.std.specs.List.{list_any}
use Rattle.camel_criteria.specs.declared.handling.Handling.{Handling}
use Rattle.camel_criteria.specs.declared.handling.Handling.TheVariants.{Continue, Release}

-- The trigger detection points of CAMEL phase 3 (TS 23.078), by their numbers in TS 29.002.

-- those that are tested against the O-CSI: collectedInfo and routeSelectFailure
abbrev pub o_detection_points : List ℕ
o_detection_points = 2 ∷ 4 ∷ []

-- those that are tested against the VT-CSI: termAttemptAuthorized, tBusy and tNoAnswer
abbrev pub vt_detection_points : List ℕ
vt_detection_points = 12 ∷ 13 ∷ 14 ∷ []

abbrev pub is_among : List ℕ → ℕ → Bool
is_among points dp = list_any (λ point. point == dp) points

abbrev pub is_o_detection_point : ℕ → Bool
is_o_detection_point dp = is_among o_detection_points dp

abbrev pub is_vt_detection_point : ℕ → Bool
is_vt_detection_point dp = is_among vt_detection_points dp

-- Default call handling (DefaultCallHandling of TS 29.002).

-- 1 is release, and so is every value above 31; the others are continue
abbrev pub handling_of : ℕ → Handling
handling_of received = if received == 1 || nat_lt 31 received then Release else Continue
