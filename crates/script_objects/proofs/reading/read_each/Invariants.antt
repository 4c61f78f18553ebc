use Rattle.script_objects.proofs.Common.{◌≡◌, ◌++◌, All, drop, map, view, IsAlone, Given, answer_data}
use Rattle.script_objects.proofs.reading.read_each.Given as goal

-- what was read so far, and what is left
abbrev pub invariant-loop-value : goal.invariant-loop-value
invariant-loop-value l = record {
  read : map answer_data (map (λ answer. answer.items) l.answers.items) ++ map view (drop l.value-index l.values) ≡ map view l.values;
  alone : All (All IsAlone) (map (λ answer. answer.items) l.answers.items);
  given : All (All (Given l.has_item)) (map (λ answer. answer.items) l.answers.items);
}
