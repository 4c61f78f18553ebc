use Rattle.std.proofs.Common.{◌≡◌, ◌++◌, drop}
use Rattle.std.specs.List.{flat_map}
use Rattle.uvm_glob.specs.Printed.{IsPrinted}
use Rattle.uvm_object.proofs.Joined.{behind_dot}
use Rattle.uvm_object.proofs.sources.push_joined.Given as goal

-- the names that are left come behind those that are written, and if they are printed, so are all
abbrev pub invariant-loop-name : goal.invariant-loop-name
invariant-loop-name l =
    (l.line.items ++ flat_map behind_dot (drop l.name-index l.others) ≡ l.initial.line.items ++ flat_map behind_dot l.others)
    × (IsPrinted (flat_map behind_dot (drop l.name-index l.others)) → IsPrinted (flat_map behind_dot l.others))
