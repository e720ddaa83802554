-- The texts of the lines of output (profile 1's own format). Numbers are decimal, octets lower-case
-- hexadecimal, and each line ends with a line feed.
use Rattle.std.specs.Prelude.{ℕ, List, ◌++◌, codes}
use Rattle.std.specs.Fmt.{decimal}
use Rattle.hex.specs.Hex.{encode_lower}
use Rattle.camel_rows.specs.Decision.{action_of}
use Rattle.camel_rows.specs.declared.trigger.decision.Reason.{Reason}
use Rattle.camel_rows.specs.declared.trigger.decision.Reason.TheVariants.{Unknown, NoCsi, NotArmed, Emergency, Criteria}
use Rattle.camel_rows.specs.declared.trigger.outcome.Answer.{Answer}
use Rattle.camel_rows.specs.declared.trigger.outcome.CallAction.{CallAction}
use Rattle.camel_rows.specs.declared.trigger.outcome.CallAction.TheVariants.{Continue, Release}
use Rattle.camel_rows.specs.declared.trigger.outcome.Outcome.{Outcome}
use Rattle.camel_rows.specs.declared.trigger.outcome.Outcome.TheVariants.{Trigger, NoTrigger}
use Rattle.camel_script.specs.declared.line.Line.{Line}
use Rattle.camel_script.specs.declared.line.Line.TheVariants.{Accepted, Refused, Published, Decided, Served, AuditOk}

-- what is done with the call if the dialogue with the gsmSCF fails
abbrev pub action_text : CallAction → List ℕ
action_text Continue = codes "continue"
action_text Release = codes "release"

-- why no service is triggered
abbrev pub reason_text : Reason → List ℕ
reason_text Unknown = codes "unknown"
reason_text NoCsi = codes "no-csi"
reason_text NotArmed = codes "not-armed"
reason_text Emergency = codes "emergency"
reason_text Criteria = codes "criteria"

-- the front of a decision, and either the triggered row's detection point, service key and gsmSCF address with what is
-- done with the call on failure, or why no service is triggered
abbrev pub decided_text : ℕ → Outcome → List ℕ
decided_text front (Trigger dp key scf handling) =
    codes "front " ++ decimal front ++ codes " trigger " ++ decimal dp ++ codes " " ++ decimal key
    ++ codes " " ++ encode_lower scf ++ codes " " ++ action_text (action_of handling) ++ codes "\n"
decided_text front (NoTrigger reason) =
    codes "front " ++ decimal front ++ codes " none " ++ reason_text reason ++ codes "\n"

-- the number of a session (from 0), the number of the call among all of the script (from 0), and the decision
abbrev pub served_text : ℕ → ℕ → Answer → List ℕ
served_text session call answer =
    codes "session " ++ decimal session ++ codes " call " ++ decimal call ++ codes " "
    ++ decided_text answer.front answer.outcome

-- the text of a line
abbrev pub line_text : Line → List ℕ
line_text (Accepted number) = codes "accepted " ++ decimal number ++ codes "\n"
line_text (Refused code) = codes "refused " ++ decimal code ++ codes "\n"
line_text (Published front) = codes "published " ++ decimal front ++ codes "\n"
line_text (Decided answer) = decided_text answer.front answer.outcome
line_text (Served session call answer) = served_text session call answer
line_text AuditOk = codes "audit ok\n"
