-- The program: its command line, and what a run leaves.
use Rattle.std.specs.Prelude.{ℕ, ◌≡◌, ◌≤◌, List, [], ◌∷◌, Option, Some, None, codes, ◌++◌, ◌≢◌, ◌⊎◌, Bool, true, IfSome}
use Rattle.std.specs.Str.Parse.{IsNumeral, digits_value, without_leading_plus}
use Rattle.std.specs.Fmt.{decimal}
use Rattle.camel_tbcd.specs.declared.profile.Profile.{Profile}
use Rattle.clap.specs.Words.{App, IsAmong, Rule, Text, fault_of, first_of, first_value, found_of, matches_of, new_app}
use Rattle.clap.specs.Words.{new_rule, with_rule}
use Rattle.clap.specs.Simple.{on_top}
use Rattle.clap.specs.declared.builder.value_parser.ValueParser.TheVariants.{Unsigned}
use Rattle.clap.specs.declared.error.kind.ErrorKind.TheVariants.{DisplayHelp, DisplayVersion}
use Rattle.clap.specs.declared.parser.matches.ArgMatches.{ArgMatches}
use Rattle.camel_script_replay.specs.Output.{max_limit, max_records, is_replay_code, AppendsPart, Stops, WritesAll}
use Rattle.camel_script_replay.specs.declared.script_replay.ReplayFault.{ReplayFault}
use Rattle.camel_script.specs.Script.{ScriptData, script}
use Rattle.camel_replay_lib.specs.ThreadsOutput.{is_threaded_replay_code, ThreadsStop, WritesThreadsOutput}
use Rattle.camel_tbcd.specs.declared.profile.Profile.TheVariants as profile

-- The greatest numbers of a command line (profile 1's own).

-- Calls are answered by at most so many threads.
abbrev pub max_threads : ℕ
max_threads = 16

-- The profiles have the numbers from 1 to this one.
abbrev pub max_profile : ℕ
max_profile = 2

-- The options of the command line, as the crate `clap` reads them.

-- An option that takes a number from 1 up to the greatest, and has this text if it is not given.
abbrev pub number_rule : Text → List Text → ℕ → Rule
number_rule name defaults greatest = record (new_rule name) { long = Some name; value_names = 1; defaults = defaults; parser = Some (Unsigned 1 greatest) }

-- The option `--limit` is a number from 1 to 1000000, and 1000000 if it is not given.
abbrev pub limit_rule : Rule
limit_rule = number_rule (codes "limit") (codes "1000000" ∷ []) max_limit

-- The option `--threads` is a number from 1 to 16, and may be left out.
abbrev pub threads_rule : Rule
threads_rule = number_rule (codes "threads") [] max_threads

-- The option `--profile` is the number of a profile, and 1 if it is not given.
abbrev pub profile_rule : Rule
profile_rule = number_rule (codes "profile") (codes "1" ∷ []) max_profile

-- A program that has a version, which `--version` prints.
abbrev pub with_version : App → App
with_version = on_top (λ shape. record shape { has_version = true })

abbrev pub the_program : App
the_program = with_rule (with_rule (with_rule (with_version (new_app (codes "camel_replay"))) limit_rule) threads_rule) profile_rule

-- The text of an option that `clap` finds in these words, the name of the program first.
abbrev pub option_text : Text → List Text → Option Text
option_text name words = first_of name (matches_of the_program words)

-- A text is the numeral of a number from 1 up to the greatest.
pub record IsNumberUpTo (greatest : ℕ) (text : Text) (number : ℕ) : Type 0 where
  pub numeral : IsNumeral 10 (without_leading_plus text)
  pub value : number ≡ digits_value 10 (without_leading_plus text)
  pub least : 1 ≤ number
  pub most : number ≤ greatest

-- The number that an option with this text has.
abbrev pub GivesNumber : ℕ → Option Text → ℕ → Type 0
GivesNumber greatest given number = (text : Text) × (given ≡ Some text) × IsNumberUpTo greatest text number

-- The number that an option with this text has, and none if there is no text.
abbrev pub MayGiveNumber : ℕ → Option Text → Option ℕ → Type 0
MayGiveNumber greatest given None = given ≡ None
MayGiveNumber greatest given (Some number) = GivesNumber greatest given number

-- The limit of these words.
abbrev pub LimitOf : List Text → ℕ → Type 0
LimitOf words limit = GivesNumber max_limit (option_text (codes "limit") words) limit

-- How many threads answer calls by these words: none if they do not say it.
abbrev pub ThreadsOf : List Text → Option ℕ → Type 0
ThreadsOf words threads = MayGiveNumber max_threads (option_text (codes "threads") words) threads

-- The number of a profile.
abbrev pub profile_number : Profile → ℕ
profile_number profile.One = 1
profile_number profile.Two = 2

-- The profile of these words.
abbrev pub ProfileOf : List Text → Profile → Type 0
ProfileOf words chosen = GivesNumber max_profile (option_text (codes "profile") words) (profile_number chosen)

-- These words ask for the help text: `clap` returns it for them.
abbrev pub AsksForHelp : List Text → Type 0
AsksForHelp words = IsAmong DisplayHelp (fault_of the_program words)

-- These words ask for the version: `clap` returns it for them.
abbrev pub AsksForVersion : List Text → Type 0
AsksForVersion words = IsAmong DisplayVersion (fault_of the_program words)

-- The limit that matches hold.
abbrev pub HoldsLimit : ArgMatches → ℕ → Type 0
HoldsLimit matches limit = GivesNumber max_limit (first_value (found_of matches) (codes "limit")) limit

-- The profile that matches hold.
abbrev pub HoldsProfile : ArgMatches → Profile → Type 0
HoldsProfile matches chosen = GivesNumber max_profile (first_value (found_of matches) (codes "profile")) (profile_number chosen)

-- How many threads matches hold.
abbrev pub HoldsThreads : ArgMatches → Option ℕ → Type 0
HoldsThreads matches threads = MayGiveNumber max_threads (first_value (found_of matches) (codes "threads")) threads

-- The line that says with which fault a run ended (profile 1's own format).

-- The line of a fault, with the number of its record if there is one.
abbrev pub fault_line_at : Option ℕ → ℕ → List ℕ
fault_line_at (Some number) code = codes "camel_replay: record " ++ decimal number ++ codes ": fault " ++ decimal code ++ codes "\n"
fault_line_at None code = codes "camel_replay: fault " ++ decimal code ++ codes "\n"

-- The line of a replay's fault.
abbrev pub fault_line : ReplayFault → List ℕ
fault_line stop = fault_line_at stop.number stop.code

-- What a run of the program leaves, by the words with which it was started.

-- What a stream holds before the run and after it, if this is known.
pub record Stream : Type 0 where
  pub before : Option (List ℕ)
  pub after : Option (List ℕ)

-- What a run is given, writes and returns: the bytes of the input, if they are known, the two streams that it writes
-- to, standard output and standard error, and the status of the process.
pub record RunData : Type 0 where
  pub input : Option (List ℕ)
  pub out : Stream
  pub err : Stream
  pub status : ℕ

-- Nothing was written.
abbrev pub IsSilent : Stream → Type 0
IsSilent stream = stream.after ≡ stream.before

-- Some octets or the first of them were written.
abbrev pub ShowsPart : Stream → List ℕ → Type 0
ShowsPart stream octets = AppendsPart stream.before stream.after octets

-- What a replay promises: what it has written of a script if it has no fault, what it has written if it ends with one,
-- and which codes its faults have. What was held before comes first, then what is held after.
pub record Promise : Type 1 where
  pub whole : Option (List ℕ) → Option (List ℕ) → ScriptData → Type 0
  pub stop : Option (List ℕ) → Option (List ℕ) → ScriptData → ReplayFault → Type 0
  pub codes : ℕ → Bool

-- What a replay under this profile and limit promises: on one thread only, or with so many threads that answer calls.
abbrev pub promise_of : Option ℕ → Profile → ℕ → Promise
promise_of None profile limit = record {
  whole = λ old new given. WritesAll old new profile limit given;
  stop = λ old new given fault. Stops old new profile limit given fault;
  codes = is_replay_code;
}
promise_of (Some threads) profile limit = record {
  whole = λ old new given. WritesThreadsOutput old new threads profile limit given;
  stop = λ old new given fault. ThreadsStop old new threads profile limit given fault;
  codes = is_threaded_replay_code;
}

-- The run ended with this fault: it wrote a part of the output, as the fault says, and the fault's line or a part of
-- the line.
pub record EndsWithFault (promise : Promise) (run : RunData) : Type 0 where
  pub fault : ReplayFault
  pub code : promise.codes fault.code ≡ true
  pub output : IfSome run.input (λ bytes. promise.stop run.out.before run.out.after (script bytes max_records) fault)
  pub line : ShowsPart run.err (fault_line fault)

-- The script is replayed as promised. With status 0 its whole output was written, and nothing to standard error. Any
-- other status is 1, and the run ended with a fault.
pub record Replays (promise : Promise) (run : RunData) : Type 0 where
  pub whole : run.status ≡ 0 → IfSome run.input (λ bytes. promise.whole run.out.before run.out.after (script bytes max_records))
  pub silent : run.status ≡ 0 → IsSilent run.err
  pub status : run.status ≢ 0 → run.status ≡ 1
  pub fault : run.status ≢ 0 → EndsWithFault promise run

-- The command line is rejected: status 2, and nothing is written to standard output.
abbrev pub Rejects : RunData → Type 0
Rejects run = (run.status ≡ 2) × IsSilent run.out

-- The help text or the version is written: status 0, and nothing is written to standard error.
abbrev pub Helps : RunData → Type 0
Helps run = (run.status ≡ 0) × IsSilent run.err

-- Memory was refused before the script was read: status 1, and the fault's line has no record.
abbrev pub LacksMemory : RunData → Type 0
LacksMemory run = (run.status ≡ 1) × IsSilent run.out × ShowsPart run.err (fault_line_at None 102)

-- A run does one of five things.
abbrev pub Runs : List (List ℕ) → RunData → Type 0
Runs words run = ((threads : Option ℕ) × (profile : Profile) × (limit : ℕ) × ThreadsOf words threads × ProfileOf words profile × LimitOf words limit
    × Replays (promise_of threads profile limit) run)
    ⊎ (Rejects run ⊎ ((AsksForHelp words × Helps run) ⊎ ((AsksForVersion words × Helps run) ⊎ LacksMemory run)))
