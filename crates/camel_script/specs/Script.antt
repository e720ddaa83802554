-- Scripts: the records that their bytes give, and how these are read.
use Rattle.std.specs.Prelude.{ℕ, zero, suc, ◌≡◌, ◌⊎◌, ⊤, Bool, true, false, List, [], ◌∷◌, Option, Some, None, Result}
use Rattle.std.specs.Prelude.{Ok, Err, ◌+◌, length, option_map}
use Rattle.csv.specs.Reading.{default_config, records, strip_bom, has_failed, is_flexible, reader_config, reader_trim}
use Rattle.csv.specs.Reading.{Ready, records_from}
use Rattle.camel_script.specs.Record.{record_of}
use Rattle.camel_script.specs.declared.record.Record.{Record}
use Rattle.camel_script.specs.declared.script_fault.ScriptFault.{ScriptFault}
use Rattle.csv.specs.declared.error.ErrorKind.{ErrorKind}
use Rattle.csv.specs.declared.parser.State.{State}
use Rattle.csv.specs.declared.reader.Reader.{Reader}
use Rattle.camel_script.specs.declared.script.Phase.{Phase}
use Rattle.camel_script.specs.declared.script_fault.ScriptFault.TheVariants as fault
use Rattle.csv.specs.declared.error.ErrorKind.TheVariants as kind
use Rattle.csv.specs.declared.reader.Trim.TheVariants as trim
use Rattle.camel_script.specs.declared.script.Phase.TheVariants as phase

-- What the bytes of a script give: records, and then a fault or the end. Which CSV records the bytes hold
-- is what the crate `csv` says of them, with its defaults and no header row.

-- records in their order, and then a fault, if there is one
pub record ScriptData : Type 0 where
  pub records : List Record
  pub fault : Option ScriptFault

-- neither a record nor a fault
abbrev pub the_end : ScriptData
the_end = record { records = []; fault = None }

-- a fault, and no record before it
abbrev pub only_fault : ScriptFault → ScriptData
only_fault e = record { records = []; fault = Some e }

-- what a record gives, and then the rest; a fault ends the script
abbrev pub first_then : Result Record ScriptFault → ScriptData → ScriptData
first_then (Ok read) rest = record { records = read ∷ rest.records; fault = rest.fault }
first_then (Err e) rest = only_fault e

-- what CSV records give, each as its fields, of which at most `most` are read
unfoldable pub script_of : List (List (List ℕ)) → ℕ → ScriptData
script_of [] most = the_end
script_of (fields ∷ more) zero = only_fault fault.TooManyRecords
script_of (fields ∷ more) (suc most) = first_then (record_of fields) (script_of more most)

-- what the bytes of a script give, of which at most `most` records are read
abbrev pub script : List ℕ → ℕ → ScriptData
script bytes most = script_of (records default_config (strip_bom bytes)) most

-- What a `Script` is to its caller. `Unread`: it is not read to its end. The number is how many records more may be
-- read, and what it still gives is beside it, if its bytes are known. `Failed`: a read has returned a fault. `Ended`: a
-- read has found the end.
pub data ScriptState : Type 0 where
  Unread : ℕ → Option ScriptData → ScriptState
  Failed : ScriptState
  Ended : ScriptState

-- what the calls from here on give, if it is known
abbrev pub still_gives : ScriptState → Option ScriptData
still_gives (Unread most known) = known
still_gives Failed = Some (only_fault fault.Failed)
still_gives Ended = Some the_end

-- how many records a `Script` may still give
abbrev pub records_left : ScriptState → ℕ
records_left (Unread most known) = most
records_left Failed = 0
records_left Ended = 0

-- a record is the first of what was known, and the rest is known afterwards
abbrev pub GivesFirst : ScriptData → Option ScriptData → Record → Type 0
GivesFirst old None read = ⊥
GivesFirst old (Some rest) read = (old.records ≡ read ∷ rest.records) × (old.fault ≡ rest.fault)

-- a call gives the first record of what was known, or None at its end
abbrev pub Gives : Option ScriptData → Option ScriptData → Option Record → Type 0
Gives None new read = ⊤
Gives (Some old) new None = old ≡ the_end
Gives (Some old) new (Some read) = GivesFirst old new read

-- what a call has read into a place, if it found a record
abbrev pub read_if : Bool → Record → Option Record
read_if true read = Some read
read_if false read = None

-- nothing was left but this fault
abbrev pub IsOnlyFault : ScriptFault → Option ScriptData → Type 0
IsOnlyFault e None = ⊤
IsOnlyFault e (Some old) = old ≡ only_fault e

-- out of memory, or a failed read of the reader underneath
abbrev pub IsMemoryOrReadFault : ScriptFault → Type 0
IsMemoryOrReadFault e = (e ≡ fault.OutOfMemory) ⊎ (e ≡ fault.Read)

-- a fault of the script comes in its place, and one from outside may come at any
abbrev pub FaultsAs : ScriptFault → Option ScriptData → Type 0
FaultsAs e known = IsMemoryOrReadFault e ⊎ IsOnlyFault e known

-- The state of the reader of CSV records underneath a `Script`.

-- the CSV records that bytes hold, read from a state of the parser on
abbrev pub csv_records : State → List ℕ → List (List (List ℕ))
csv_records state bytes = records_from default_config (length bytes + 1) state bytes

-- what bytes still give, if they are known
abbrev pub known_data : Option (List ℕ) → State → ℕ → Option ScriptData
known_data source state most = option_map (λ bytes. script_of (csv_records state bytes) most) source

-- the state of a `Script` that its caller sees, by its fields
abbrev pub script_state_of : Phase → Option (List ℕ) → State → ℕ → ScriptState
script_state_of phase.Reading source state most = Unread most (known_data source state most)
script_state_of phase.Failed source state most = Failed
script_state_of phase.Ended source state most = Ended

-- the reader takes no header row and records of any lengths, has the crate's defaults else, and has not failed
pub record IsConfigured {R : Type 0} (reader : Reader R) : Type 0 where
  pub config : reader_config reader ≡ default_config
  pub trim : reader_trim reader ≡ trim.None
  pub flexible : is_flexible reader ≡ true
  pub ready : Ready reader
  pub sound : has_failed reader ≡ false

-- the reader is configured as long as it is read
abbrev pub IsSetUp : {R : Type 0} → Phase → Reader R → Type 0
IsSetUp phase.Reading reader = IsConfigured reader
IsSetUp phase.Failed reader = ⊤
IsSetUp phase.Ended reader = ⊤

-- the error is of memory or of the reader underneath
abbrev pub IsMemoryOrIo : ErrorKind → Type 0
IsMemoryOrIo kind.OutOfMemory = ⊤
IsMemoryOrIo (kind.Io e) = ⊤
IsMemoryOrIo (kind.Utf8 pos err) = ⊥
IsMemoryOrIo (kind.UnequalLengths pos expected len) = ⊥
IsMemoryOrIo (kind.Serialize text) = ⊥
IsMemoryOrIo (kind.Deserialize pos err) = ⊥

-- The numbers of a script's faults.

abbrev pub script_fault_code : ScriptFault → ℕ
script_fault_code fault.OutOfMemory = 102
script_fault_code fault.Word = 202
script_fault_code fault.FieldCount = 203
script_fault_code fault.Hexadecimal = 204
script_fault_code fault.Number = 205
script_fault_code fault.Read = 206
script_fault_code fault.TooManyRecords = 207
script_fault_code fault.Failed = 209

-- the fault is of memory or of the text of a record
abbrev pub IsRecordFault : ScriptFault → Type 0
IsRecordFault fault.OutOfMemory = ⊤
IsRecordFault fault.Word = ⊤
IsRecordFault fault.FieldCount = ⊤
IsRecordFault fault.Hexadecimal = ⊤
IsRecordFault fault.Number = ⊤
IsRecordFault fault.Read = ⊥
IsRecordFault fault.TooManyRecords = ⊥
IsRecordFault fault.Failed = ⊥
