use Rattle.script_objects.proofs.Common.{◌≡◌, ◌++◌, All, List, String, map, Global, Value, IsType, entry_in}
use Rattle.script_objects.proofs.Types.{AreOf}
use Rattle.script_objects.proofs.reading.read_answers.Given as goal

-- the types so far are those of the entries before the ones that are left
abbrev pub invariant-loop-type_name : goal.invariant-loop-type_name
invariant-loop-type_name l =
    (done : List (String Global × Value)) × (done ++ l.type_name-iterator ≡ l.table.entries) × AreOf done l.types.items × All IsType (map entry_in done)
