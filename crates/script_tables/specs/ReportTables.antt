-- The arrays of tables of a script that are about reports.
use Rattle.std.specs.Prelude.{ℕ, Bool, List, [], ◌∷◌, Option, Some, None, Result, Ok, Err, ok_or, codes, length, not}
use Rattle.std.specs.List.{find, list_any, position}
use Rattle.toml.specs.Data.{Data, Members, as_str}
use Rattle.uvm_report.specs.declared.severities.Actions.{Actions}
use Rattle.uvm_report.specs.declared.severities.Severity.{Severity}
use Rattle.uvm_report.specs.declared.severities.Severity.TheVariants.{Info, Warning, Error, Fatal}
use Rattle.uvm_report.specs.declared.settings.Which.{Which}
use Rattle.uvm_report.specs.declared.settings.Which.TheVariants as which
use Rattle.uvm_report.specs.Severities.{severity_name}
use Rattle.script_values.specs.declared.places.Column.TheVariants as column
use Rattle.script_values.specs.declared.places.TableArray.TheVariants as array
use Rattle.script_values.specs.declared.reasons.FaultyRow.{FaultyRow}
use Rattle.script_values.specs.declared.reasons.FaultyScript.{FaultyScript}
use Rattle.script_values.specs.declared.reasons.Reason.{Reason}
use Rattle.script_values.specs.declared.reasons.Reason.TheVariants.{NotAction, NotSeverity, NotStringAt}
use Rattle.script_tables.specs.declared.report_settings.VerbositySetting.{VerbositySetting}
use Rattle.script_tables.specs.declared.report_settings.ActionSetting.{ActionSetting}
use Rattle.script_tables.specs.declared.report_settings.SeverityChange.{SeverityChange}
use Rattle.script_tables.specs.Rows.{most_level}
use Rattle.script_values.specs.Reading.{and_then}
use Rattle.script_values.specs.Values.{is_same_text, items_in, text_in, number_in, name_in, glob_in}
use Rattle.script_values.specs.Keys.{cell, cell_or, some_of}
use Rattle.script_values.specs.Elements.{rows_from, elements_at, numbered, row_of}

-- the severity with this name
abbrev pub severity_named : List ℕ → Option Severity
severity_named word = find (λ severity. is_same_text word (severity_name severity)) (Info ∷ Warning ∷ Error ∷ Fatal ∷ [])

-- the severity that a value names; `NotSeverity` if the text names none
abbrev pub severity_in : Data → Result Severity Reason
severity_in value = and_then (text_in value) (λ word. ok_or (severity_named word) NotSeverity)

-- the name at the key `id`, if the key is present
abbrev pub id_in : Members → Result (Option (List ℕ)) FaultyRow
id_in table = cell_or column.Id None (some_of name_in) table

-- the reports with a severity and an id, each if it is given
abbrev pub which_of : Option Severity → Option (List ℕ) → Which
which_of None None = which.All
which_of (Some severity) None = which.Severity severity
which_of None (Some id) = which.Id id
which_of (Some severity) (Some id) = which.Both severity id

-- the reports to which a table applies
abbrev pub which_in : Members → Result Which FaultyRow
which_in table =
    and_then (id_in table) (λ id.
    and_then (cell_or column.Severity None (some_of severity_in) table) (λ severity.
    Ok (which_of severity id)))

-- the text of the next element of an array, after the texts before it; `NotStringAt` with the index of an element that is not a text
abbrev pub text_after : List (List ℕ) → Data → Result (List ℕ) Reason
text_after texts element = ok_or (as_str element) (NotStringAt (length texts))

-- the texts of an array
abbrev pub texts_in : Data → Result (List (List ℕ)) Reason
texts_in value = and_then (items_in value) (rows_from text_after [])

-- whether a text is in a list of words
abbrev pub is_one_of : List (List ℕ) → List ℕ → Bool
is_one_of words word = list_any (is_same_text word) words

-- the names of the actions of a report
abbrev pub action_words : List (List ℕ)
action_words = codes "display" ∷ codes "count" ∷ codes "exit" ∷ []

-- the set of the actions with these names
abbrev pub action_set : List (List ℕ) → Actions
action_set words = record {
  display = is_one_of words (codes "display");
  count = is_one_of words (codes "count");
  exit = is_one_of words (codes "exit");
}

-- the index of the first word that names no action
abbrev pub first_other : List (List ℕ) → Option ℕ
first_other words = position (λ word. not (is_one_of action_words word)) words

-- the set of the named actions, unless the word at this index names none: `NotAction` with the index
abbrev pub actions_unless : List (List ℕ) → Option ℕ → Result Actions Reason
actions_unless words None = Ok (action_set words)
actions_unless words (Some index) = Err (NotAction index)

-- the set of the named actions
abbrev pub actions_named : List (List ℕ) → Result Actions Reason
actions_named words = actions_unless words (first_other words)

-- the set of the actions that an array names
abbrev pub action_set_in : Data → Result Actions Reason
action_set_in value = and_then (texts_in value) actions_named

-- the verbosity setting that an element of the array `verbosity` gives
abbrev pub verbosity_row : Data → Result VerbositySetting FaultyRow
verbosity_row element =
    and_then (row_of array.Verbosity element) (λ table.
    and_then (cell column.Scope glob_in table) (λ scope.
    and_then (which_in table) (λ which.
    and_then (cell column.Level (number_in most_level) table) (λ level.
    Ok (record { scope = scope; which = which; level = level })))))

-- the action setting that an element of the array `action` gives
abbrev pub action_row : Data → Result ActionSetting FaultyRow
action_row element =
    and_then (row_of array.Action element) (λ table.
    and_then (cell column.Scope glob_in table) (λ scope.
    and_then (which_in table) (λ which.
    and_then (cell column.Actions action_set_in table) (λ actions.
    Ok (record { scope = scope; which = which; actions = actions })))))

-- the severity change that an element of the array `severity` gives
abbrev pub severity_row : Data → Result SeverityChange FaultyRow
severity_row element =
    and_then (row_of array.Severity element) (λ table.
    and_then (cell column.Scope glob_in table) (λ scope.
    and_then (cell column.From severity_in table) (λ from.
    and_then (id_in table) (λ id.
    and_then (cell column.To severity_in table) (λ to.
    Ok (record { scope = scope; from = from; id = id; to = to }))))))

-- the verbosity settings that a script gives in the array `verbosity`
abbrev pub verbosities_in : Members → Result (List VerbositySetting) FaultyScript
verbosities_in root = and_then (elements_at array.Verbosity root) (rows_from (numbered array.Verbosity (λ _. verbosity_row)) [])

-- the action settings that a script gives in the array `action`
abbrev pub actions_in : Members → Result (List ActionSetting) FaultyScript
actions_in root = and_then (elements_at array.Action root) (rows_from (numbered array.Action (λ _. action_row)) [])

-- the severity changes that a script gives in the array `severity`
abbrev pub severities_in : Members → Result (List SeverityChange) FaultyScript
severities_in root = and_then (elements_at array.Severity root) (rows_from (numbered array.Severity (λ _. severity_row)) [])
