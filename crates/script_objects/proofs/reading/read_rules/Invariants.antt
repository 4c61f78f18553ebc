use Rattle.script_objects.proofs.Common.{◌≡◌, ◌++◌, All, map, IsRead, entry_in, entry_of}
use Rattle.script_objects.proofs.reading.read_rules.Given as goal

-- the rules so far, and the entries that are left
abbrev pub invariant-loop-call : goal.invariant-loop-call
invariant-loop-call l = record {
  entries : map entry_of l.rules.items ++ map entry_in l.call-iterator ≡ map entry_in l.table.entries;
  read : All IsRead l.rules.items;
}
