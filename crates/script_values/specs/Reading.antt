-- Reading in steps: the first step that fails decides the error.
use Rattle.std.specs.Prelude.{◌≡◌, ◌≢◌, Result, Ok, Err, IsOk, MatchResult}
use Rattle.script_values.specs.declared.faults.ScriptFault.{ScriptFault}
use Rattle.script_values.specs.declared.faults.ScriptFault.TheVariants.{Memory}
use Rattle.script_values.specs.declared.reasons.FaultyRow.{FaultyRow}
use Rattle.script_values.specs.declared.reasons.FaultyScript.{FaultyScript}
use Rattle.script_values.specs.declared.reasons.Reason.{Reason}
use Rattle.script_values.specs.declared.reasons.Reason.TheVariants as reason

-- the result of a step and of the one after it, or the error of the first
abbrev pub and_then : {A B E : Type 0} → Result A E → (A → Result B E) → Result B E
and_then (Ok value) next = next value
and_then (Err fault) next = Err fault

-- the result of a call is what the definition gives, except that the call can also run out of memory
abbrev pub IsReading : {A : Type 0} → Result A ScriptFault → Result A ScriptFault → Type 0
IsReading reading result = MatchResult result (λ value. reading ≡ Ok value) (λ fault. fault ≢ Memory → reading ≡ Err fault)

-- the same for a value, a row and a script, whose errors have a reason
abbrev pub IsValue : {A : Type 0} → Result A Reason → Result A Reason → Type 0
IsValue reading result = MatchResult result (λ value. reading ≡ Ok value) (λ why. why ≢ reason.Memory → reading ≡ Err why)

abbrev pub IsRow : {A : Type 0} → Result A FaultyRow → Result A FaultyRow → Type 0
IsRow reading result = MatchResult result (λ value. reading ≡ Ok value) (λ faulty. faulty.reason ≢ reason.Memory → reading ≡ Err faulty)

abbrev pub IsPlaced : {A : Type 0} → Result A FaultyScript → Result A FaultyScript → Type 0
IsPlaced reading result = MatchResult result (λ value. reading ≡ Ok value) (λ faulty. faulty.reason ≢ reason.Memory → reading ≡ Err faulty)

-- the error of a call that fails as the definition does; if it is out of memory, the definition does not fail
abbrev pub IsFaultOf : {A : Type 0} → Result A ScriptFault → ScriptFault → Type 0
IsFaultOf reading Memory = IsOk reading
IsFaultOf reading fault = reading ≡ Err fault
