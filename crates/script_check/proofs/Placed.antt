-- Each error of the arrays of a script is at its place.
use Rattle.script_check.proofs.Common.{◌≡◌, ◌∙◌, ◌⊎◌, ◌+◌, ◌++◌, ℕ, zero, suc, Bool, true, List, [], ◌∷◌, length, length-append, Option, Some, None, Result, Ok, Err, inl, inr, ap, arith, refl, subst, sym, get_member, Data, Items, no_items, item, Members, and_then, elements_at, few_elements_at, column_text, in_row, numbered, row_of, row_place, rows_from, which_in, Cell, IsRowFault, IsInArray, IsInRow, ErrorsAreInRows, KeysAreJudged, first_items, item_at, action_cells, drain_cells, kinds_wrong, named_at, override_cells, probe_cells, reason_in, setting_cells, severity_cells, type_cells, verbosity_cells, wrongs_of, same_kinds, type_id_in, action_row, drain_row, override_row, probe_row, setting_row, severity_row, type_row, verbosity_row, TableArray, FaultyRow, FaultyScript, Reason, Types, in_column, Which, Severity, at_column, cell_or, cons_option, id_in, most_settings, most_types, name_in, option_map, required, severity_in, some_of, which_of, wrong_if_absent, wrong_if_there, option_or, ok_or, Missing, slice_get}
use Rattle.script_values.specs.declared.places.TableArray.TheVariants as array
use Rattle.script_values.specs.declared.places.Column.TheVariants as column
use Rattle.script_check.proofs.Keys.{IsFirst, and-then-then, may-first, must-first, read-first, row-fault, some-first}

-- a row of each array, by its keys
type-row : (types : Types) (element : Data) (why : FaultyRow) → type_row types element ≡ Err why → IsRowFault array.Type (type_cells types) element why
type-row types element = row-fault array.Type (type_cells types) element _ (λ table.
    must-first column.Name _ _ (get_member (column_text column.Name) table) _ (λ name _.
    must-first column.Kind _ _ (get_member (column_text column.Kind) table) _ (λ kind _ why failed. absurd (cc failed))))

setting-row : (element : Data) (why : FaultyRow) → setting_row element ≡ Err why → IsRowFault array.Set setting_cells element why
setting-row element = row-fault array.Set setting_cells element _ (λ table.
    must-first column.Scope _ _ (get_member (column_text column.Scope) table) _ (λ scope _.
    must-first column.Field _ _ (get_member (column_text column.Field) table) _ (λ field _.
    must-first column.Value _ _ (get_member (column_text column.Value) table) _ (λ value _ why failed. absurd (cc failed)))))

probe-row : (types : Types) (element : Data) (why : FaultyRow) → probe_row types element ≡ Err why → IsRowFault array.Probe (probe_cells types) element why
probe-row types element = row-fault array.Probe (probe_cells types) element _ (λ table.
    must-first column.Type _ _ (get_member (column_text column.Type) table) _ (λ type_id _.
    must-first column.Path _ _ (get_member (column_text column.Path) table) _ (λ path _ why failed. absurd (cc failed))))

drain-row : (element : Data) (why : FaultyRow) → drain_row element ≡ Err why → IsRowFault array.Drain drain_cells element why
drain-row element = row-fault array.Drain drain_cells element _ (λ table.
    must-first column.Path _ _ (get_member (column_text column.Path) table) _ (λ path _.
    must-first column.Phase _ _ (get_member (column_text column.Phase) table) _ (λ phase _.
    must-first column.Ticks _ _ (get_member (column_text column.Ticks) table) _ (λ ticks _ why failed. absurd (cc failed)))))

severity-row : (element : Data) (why : FaultyRow) → severity_row element ≡ Err why → IsRowFault array.Severity severity_cells element why
severity-row element = row-fault array.Severity severity_cells element _ (λ table.
    must-first column.Scope _ _ (get_member (column_text column.Scope) table) _ (λ scope _.
    must-first column.From _ _ (get_member (column_text column.From) table) _ (λ from _.
    some-first column.Id _ _ (get_member (column_text column.Id) table) _ (λ id.
    must-first column.To _ _ (get_member (column_text column.To) table) _ (λ to _ why failed. absurd (cc failed))))))

-- the keys that two arrays have in common: an id and a severity
which-first : {B : Type 0} (table : Members) (wrongs : List FaultyRow) (rest : Which → Result B FaultyRow) → ((which : Which) → IsFirst wrongs (rest which))
    → IsFirst (cons_option (option_map (at_column column.Id) (wrong_if_there name_in (get_member (column_text column.Id) table)))
    (cons_option (option_map (at_column column.Severity) (wrong_if_there severity_in (get_member (column_text column.Severity) table))) wrongs))
    (and_then (which_in table) rest)
which-first {B} table wrongs rest next =
    subst (IsFirst _) (sym joined)
    (some-first column.Id _ _ (get_member (column_text column.Id) table) _ (λ id.
    some-first column.Severity _ _ (get_member (column_text column.Severity) table) _ (λ severity. next (which_of severity id))))
  where
    by-severity : Option (List ℕ) → Result (Option Severity) FaultyRow → Result Which FaultyRow
    by-severity id meaning = and_then meaning (λ severity. Ok (which_of severity id))

    at-severity : Result (Option Severity) FaultyRow
    at-severity = cell_or column.Severity None (some_of severity_in) table

    inner : (id : Option (List ℕ)) → and_then (by-severity id at-severity) rest ≡ and_then at-severity (λ severity. rest (which_of severity id))
    inner id = and-then-then at-severity (λ severity. Ok (which_of severity id)) rest

    by-id : (meaning : Result (Option (List ℕ)) FaultyRow) → and_then (and_then meaning (λ id. by-severity id at-severity)) rest
        ≡ and_then meaning (λ id. and_then at-severity (λ severity. rest (which_of severity id)))
    by-id (Ok id) = inner id
    by-id (Err why) = refl

    joined : and_then (which_in table) rest ≡ and_then (id_in table) (λ id. and_then at-severity (λ severity. rest (which_of severity id)))
    joined = by-id (id_in table)

verbosity-row : (element : Data) (why : FaultyRow) → verbosity_row element ≡ Err why → IsRowFault array.Verbosity verbosity_cells element why
verbosity-row element = row-fault array.Verbosity verbosity_cells element _ (λ table.
    must-first column.Scope _ _ (get_member (column_text column.Scope) table) _ (λ scope _.
    which-first table _ _ (λ which.
    must-first column.Level _ _ (get_member (column_text column.Level) table) _ (λ level _ why failed. absurd (cc failed)))))

action-row : (element : Data) (why : FaultyRow) → action_row element ≡ Err why → IsRowFault array.Action action_cells element why
action-row element = row-fault array.Action action_cells element _ (λ table.
    must-first column.Scope _ _ (get_member (column_text column.Scope) table) _ (λ scope _.
    which-first table _ _ (λ which.
    must-first column.Actions _ _ (get_member (column_text column.Actions) table) _ (λ actions _ why failed. absurd (cc failed)))))

-- the new type of an override, and then the kinds of both
new-first : {B : Type 0} (types : Types) (original : ℕ) (wrongs : List FaultyRow) (given : Option Data) (rest : ℕ → Unit {0} → Result B FaultyRow) → ((new : ℕ) (same : Unit {0}) → IsFirst wrongs (rest new same))
    → IsFirst (cons_option (option_map (at_column column.New) (option_or (wrong_if_absent (type_id_in types) given) (kinds_wrong types (Ok original) (and_then (ok_or given Missing) (type_id_in types))))) wrongs)
    (and_then (in_column column.New (and_then (ok_or given Missing) (type_id_in types))) (λ new. and_then (in_column column.New (same_kinds types original new)) (rest new)))
new-first types original wrongs None rest next why failed = let same : at_column column.New Missing ≡ why = cc failed in ap Some same
new-first types original wrongs (Some value) rest next why failed = by-type (type_id_in types value) failed where
  by-type : (meaning : Result ℕ Reason) → and_then (in_column column.New meaning) (λ new. and_then (in_column column.New (same_kinds types original new)) (rest new)) ≡ Err why
      → slice_get (cons_option (option_map (at_column column.New) (option_or (reason_in meaning) (kinds_wrong types (Ok original) meaning))) wrongs) 0 ≡ Some why
  by-type (Err reason) failed = let same : at_column column.New reason ≡ why = cc failed in ap Some same
  by-type (Ok new) failed = read-first column.New wrongs (same_kinds types original new) (rest new) (λ same _. next new same) why failed

override-row : (types : Types) (element : Data) (why : FaultyRow) → override_row types element ≡ Err why → IsRowFault array.Override (override_cells types) element why
override-row types element = row-fault array.Override (override_cells types) element _ (λ table.
    must-first column.Orig _ _ (get_member (column_text column.Orig) table) _ (λ original one.
    rw one (new-first types original _ (get_member (column_text column.New) table) _ (λ new same.
    some-first column.At _ _ (get_member (column_text column.At) table) _ (λ scope.
    may-first column.Replace _ true _ (get_member (column_text column.Replace) table) _ (λ replace why failed. absurd (cc failed)))))))

-- The error of the rows behind some that were read: those before the row at fault are read, and it is not.
record Failed {Row : Type 0} (array : TableArray) (read : List Row → Data → Result Row FaultyRow) (rows : List Row) (elements : Items) (faulty : FaultyScript) : Type 0 where
  more : ℕ
  before : List Row
  element : Data
  why : FaultyRow
  reads : rows_from (numbered array read) rows (first_items more elements) ≡ Ok before
  counted : length before ≡ length rows + more
  there : item_at more elements ≡ Some element
  fails : read before element ≡ Err why
  is : faulty ≡ record { reason = why.reason; place = row_place array (length before) why.column }

failed : {Row : Type 0} (array : TableArray) (read : List Row → Data → Result Row FaultyRow) (rows : List Row) (elements : Items) (faulty : FaultyScript)
    → rows_from (numbered array read) rows elements ≡ Err faulty → Failed array read rows elements faulty
failed array read rows no_items faulty so = absurd (cc so)
failed {Row} array read rows (item element rest) faulty so = by-row (λ row. failed array read (rows ++ row ∷ []) rest faulty) (read rows element) refl so where
  by-row : ((row : Row) → rows_from (numbered array read) (rows ++ row ∷ []) rest ≡ Err faulty → Failed array read (rows ++ row ∷ []) rest faulty)
      → (row : Result Row FaultyRow) → read rows element ≡ row → and_then (in_row array (length rows) row) (λ row. rows_from (numbered array read) (rows ++ row ∷ []) rest) ≡ Err faulty
      → Failed array read rows (item element rest) faulty
  by-row later (Err why) is so = record {
    more = 0;
    before = rows;
    element = element;
    why = why;
    reads = refl;
    counted = omega arith;
    there = refl;
    fails = is;
    is = let same : record { reason = why.reason; place = row_place array (length rows) why.column } ≡ faulty = cc so in sym same;
  }
  by-row later (Ok row) is so = let f = later row so in record {
    more = suc f.more;
    before = f.before;
    element = f.element;
    why = f.why;
    reads = rw is f.reads;
    counted = omega (arith, f.counted, length-append rows (row ∷ []));
    there = f.there;
    fails = f.fails;
    is = f.is;
  }

in-row : {Row : Type 0} (array : TableArray) (read : List Row → Data → Result Row FaultyRow) (cells : List Row → List Cell) (elements : Items) (faulty : FaultyScript)
    → ((rows : List Row) (element : Data) (why : FaultyRow) → read rows element ≡ Err why → IsRowFault array (cells rows) element why)
    → rows_from (numbered array read) [] elements ≡ Err faulty → IsInRow array read cells elements faulty
in-row array read cells elements faulty tells so = let f = failed array read [] elements faulty so in let counted : length f.before ≡ f.more = omega (arith, f.counted) in record {
  row = f.more;
  before = f.before;
  element = f.element;
  why = f.why;
  reads = f.reads;
  there = f.there;
  fails = tells f.before f.element f.why f.fails;
  is = subst (λ n. faulty ≡ record { reason = f.why.reason; place = row_place array n f.why.column }) counted f.is;
}

in-array : {Row : Type 0} (whole : Members → Result Items FaultyScript) (array : TableArray) (read : List Row → Data → Result Row FaultyRow) (cells : List Row → List Cell) (root : Members) (faulty : FaultyScript)
    → ((rows : List Row) (element : Data) (why : FaultyRow) → read rows element ≡ Err why → IsRowFault array (cells rows) element why)
    → and_then (whole root) (rows_from (numbered array read) []) ≡ Err faulty → IsInArray whole array read cells root faulty
in-array whole array read cells root faulty tells so = by-elements (whole root) refl so where
  by-elements : (elements : Result Items FaultyScript) → whole root ≡ elements → and_then elements (rows_from (numbered array read) []) ≡ Err faulty → IsInArray whole array read cells root faulty
  by-elements (Ok elements) is so = inr (elements, is, in-row array read cells elements faulty tells so)
  by-elements (Err other) is so = let same : other ≡ faulty = cc so in inl (is ∙ ap Err same)

pub errors_are_in_rows : ErrorsAreInRows
errors_are_in_rows = record {
  types = λ root faulty. in-array (few_elements_at most_types array.Type) array.Type type_row type_cells root faulty type-row;
  overrides = λ types root faulty. in-array (elements_at array.Override) array.Override (λ _. override_row types) (λ _. override_cells types) root faulty (λ _. override-row types);
  settings = λ root faulty. in-array (few_elements_at most_settings array.Set) array.Set (λ _. setting_row) (λ _. setting_cells) root faulty (λ _. setting-row);
  verbosities = λ root faulty. in-array (elements_at array.Verbosity) array.Verbosity (λ _. verbosity_row) (λ _. verbosity_cells) root faulty (λ _. verbosity-row);
  actions = λ root faulty. in-array (elements_at array.Action) array.Action (λ _. action_row) (λ _. action_cells) root faulty (λ _. action-row);
  severities = λ root faulty. in-array (elements_at array.Severity) array.Severity (λ _. severity_row) (λ _. severity_cells) root faulty (λ _. severity-row);
  probes = λ types root faulty. in-array (elements_at array.Probe) array.Probe (λ _. probe_row types) (λ _. probe_cells types) root faulty (λ _. probe-row types);
  drains = λ root faulty. in-array (elements_at array.Drain) array.Drain (λ _. drain_row) (λ _. drain_cells) root faulty (λ _. drain-row);
}

pub keys_are_judged : KeysAreJudged
keys_are_judged = record {
  types = λ types. refl;
  overrides = λ types. refl;
  settings = refl;
  verbosities = refl;
  actions = refl;
  severities = refl;
  probes = λ types. refl;
  drains = refl;
}
