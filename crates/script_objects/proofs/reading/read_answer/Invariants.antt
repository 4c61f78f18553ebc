use Rattle.script_objects.proofs.Common.{◌≡◌, ◌++◌, All, drop, map, view, IsAlone, Given, answer_act_data}
use Rattle.script_objects.proofs.reading.read_answer.Given as goal

-- what was read so far, and what is left
abbrev pub invariant-loop-value : goal.invariant-loop-value
invariant-loop-value l = record {
  read : map answer_act_data l.answer_acts.items ++ map view (drop l.value-index l.lines) ≡ map view l.lines;
  alone : All IsAlone l.answer_acts.items;
  given : All (Given l.has_item) l.answer_acts.items;
}
