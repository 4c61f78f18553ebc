-- Why a script is rejected, and where.
use Rattle.std.specs.Prelude.{ℕ, List, [], ◌∷◌, Option, Some, None, Result, Ok, Err, codes}
use Rattle.script_values.specs.declared.faults.ScriptFault.{ScriptFault}
use Rattle.script_values.specs.declared.faults.ScriptFault.TheVariants as fault
use Rattle.script_values.specs.declared.places.Column.{Column}
use Rattle.script_values.specs.declared.places.Column.TheVariants as column
use Rattle.script_values.specs.declared.places.Place.{Place}
use Rattle.script_values.specs.declared.places.Place.TheVariants as place
use Rattle.script_values.specs.declared.places.RootKey.{RootKey}
use Rattle.script_values.specs.declared.places.RootKey.TheVariants as root
use Rattle.script_values.specs.declared.places.TableArray.{TableArray}
use Rattle.script_values.specs.declared.places.TableArray.TheVariants as array
use Rattle.script_values.specs.declared.reasons.FaultyRow.{FaultyRow}
use Rattle.script_values.specs.declared.reasons.FaultyScript.{FaultyScript}
use Rattle.script_values.specs.declared.reasons.Reason.{Reason}
use Rattle.script_values.specs.declared.reasons.Reason.TheVariants as reason

-- the fault that a reason is a case of
abbrev pub fault_of : Reason → ScriptFault
fault_of reason.NotText = fault.NotText
fault_of reason.NotToml = fault.NotToml
fault_of reason.TooLong = fault.TooLong
fault_of reason.UnknownKey = fault.UnknownKey
fault_of reason.Missing = fault.Missing
fault_of reason.NotTable = fault.WrongKind
fault_of reason.NotArray = fault.WrongKind
fault_of reason.NotString = fault.WrongKind
fault_of (reason.NotStringAt _) = fault.WrongKind
fault_of reason.NotInteger = fault.WrongKind
fault_of reason.NotBoolean = fault.WrongKind
fault_of reason.KindsDiffer = fault.WrongKind
fault_of reason.SequenceTest = fault.WrongKind
fault_of (reason.NotInRange _) = fault.OutOfRange
fault_of (reason.TooManyRows _) = fault.OutOfRange
fault_of reason.NotKind = fault.OutOfRange
fault_of reason.NotSeverity = fault.OutOfRange
fault_of (reason.NotAction _) = fault.OutOfRange
fault_of reason.NotTaskPhase = fault.OutOfRange
fault_of (reason.BadName _) = fault.BadName
fault_of (reason.BadGlob _) = fault.BadName
fault_of (reason.BadPath _) = fault.BadName
fault_of reason.NameTaken = fault.BadName
fault_of reason.UnknownType = fault.UnknownType
fault_of reason.Version = fault.Version
fault_of reason.Memory = fault.Memory

-- the keys of the document whose values are not arrays, as a script spells them
abbrev pub key_text : RootKey → List ℕ
key_text root.Version = codes "version"
key_text root.Test = codes "test"
key_text root.TimeLimit = codes "time_limit"
key_text root.QuitLimit = codes "quit_limit"
key_text root.Runtime = codes "runtime"

-- the keys of the arrays of tables, as a script spells them
abbrev pub array_text : TableArray → List ℕ
array_text array.Type = codes "type"
array_text array.Override = codes "override"
array_text array.Set = codes "set"
array_text array.Verbosity = codes "verbosity"
array_text array.Action = codes "action"
array_text array.Severity = codes "severity"
array_text array.Probe = codes "probe"
array_text array.Drain = codes "drain"

-- the keys of rows, as a script spells them
abbrev pub column_text : Column → List ℕ
column_text column.Name = codes "name"
column_text column.Kind = codes "kind"
column_text column.Orig = codes "orig"
column_text column.New = codes "new"
column_text column.At = codes "at"
column_text column.Replace = codes "replace"
column_text column.Scope = codes "scope"
column_text column.Field = codes "field"
column_text column.Value = codes "value"
column_text column.Id = codes "id"
column_text column.Severity = codes "severity"
column_text column.Level = codes "level"
column_text column.Actions = codes "actions"
column_text column.From = codes "from"
column_text column.To = codes "to"
column_text column.Type = codes "type"
column_text column.Path = codes "path"
column_text column.Phase = codes "phase"
column_text column.Ticks = codes "ticks"

-- the keys that a row of an array can have
abbrev pub columns_of : TableArray → List Column
columns_of array.Type = column.Name ∷ column.Kind ∷ []
columns_of array.Override = column.Orig ∷ column.New ∷ column.At ∷ column.Replace ∷ []
columns_of array.Set = column.Scope ∷ column.Field ∷ column.Value ∷ []
columns_of array.Verbosity = column.Scope ∷ column.Id ∷ column.Severity ∷ column.Level ∷ []
columns_of array.Action = column.Scope ∷ column.Id ∷ column.Severity ∷ column.Actions ∷ []
columns_of array.Severity = column.Scope ∷ column.From ∷ column.Id ∷ column.To ∷ []
columns_of array.Probe = column.Type ∷ column.Path ∷ []
columns_of array.Drain = column.Path ∷ column.Phase ∷ column.Ticks ∷ []

-- the result of reading a key of a row; an error is at this key
abbrev pub in_column : {A : Type 0} → Column → Result A Reason → Result A FaultyRow
in_column column (Ok value) = Ok value
in_column column (Err reason) = Err (record { reason = reason; column = Some column })

-- the result of reading a row as a whole; an error is at no key
abbrev pub in_no_column : {A : Type 0} → Result A Reason → Result A FaultyRow
in_no_column (Ok value) = Ok value
in_no_column (Err reason) = Err (record { reason = reason; column = None })

-- the place of a row, or of a key of it
abbrev pub row_place : TableArray → ℕ → Option Column → Place
row_place array row None = place.Row array row
row_place array row (Some column) = place.Cell array row column

-- the result of reading a row; an error is at this row of the array, counted from 0
abbrev pub in_row : {A : Type 0} → TableArray → ℕ → Result A FaultyRow → Result A FaultyScript
in_row array row (Ok value) = Ok value
in_row array row (Err faulty) = Err (record { reason = faulty.reason; place = row_place array row faulty.column })

-- the result of reading a key, an array as a whole or the document as a whole; an error is at this place
abbrev pub at_place : {A : Type 0} → Place → Result A Reason → Result A FaultyScript
at_place place (Ok value) = Ok value
at_place place (Err reason) = Err (record { reason = reason; place = place })

-- memory ran out, at no place of its own
abbrev pub out_of_memory : FaultyScript
out_of_memory = record { reason = reason.Memory; place = place.Document }

-- the result without the place of an error: its fault
abbrev pub unplaced : {A : Type 0} → Result A FaultyScript → Result A ScriptFault
unplaced (Ok value) = Ok value
unplaced (Err faulty) = Err (fault_of faulty.reason)

-- the result with the fault of an error in place of its reason
abbrev pub with_fault : {A : Type 0} → Result A Reason → Result A ScriptFault
with_fault (Ok value) = Ok value
with_fault (Err reason) = Err (fault_of reason)
