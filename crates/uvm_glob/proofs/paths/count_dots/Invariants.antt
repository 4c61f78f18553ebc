use Rattle.uvm_glob.proofs.Common.{◌≡◌, ◌==◌, ◌≤◌, take}
use Rattle.std.proofs.Common.{count_by}
use Rattle.uvm_glob.proofs.paths.count_dots.Given as goal

-- those so far are counted
abbrev pub invariant-loop-b : goal.invariant-loop-b
invariant-loop-b l = (l.count ≡ count_by (λ b. b == 46) (take l.b-index l.text)) × (l.count ≤ l.b-index)
