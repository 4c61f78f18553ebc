use Rattle.uvm_report.proofs.Common.{◌≡◌, ◌≤◌, ◌<◌, ◌+◌, ◌^◌, sum_by, ap, ◌∙◌, arith}
use Rattle.uvm_report.proofs.Counted.{number, all-with_id}
use Rattle.uvm_report.proofs.tallies.Tally.add.Goals as goal
use Rattle.uvm_report.proofs.tallies.Tally.add.Goals.{in-Info, in-Warning, in-Error, in-Fatal}

-- one more of a severity, and one more of an id
pub invariant_of-self-2 : goal.invariant_of-self-2
invariant_of-self-2 c =
    let all : sum_by number c.add_id.new.ids.entries ≡ sum_by number c.self.inside.ids.entries + 1 = ap (sum_by number) c.in_ok-add_id.ensures.ok ∙ all-with_id c.args.id.now c.self.inside.ids.entries in
    let one : c.from.result ≤ 1 = grind arith in
    let few : c.self.inside.info + c.self.inside.warning + c.self.inside.error + c.self.inside.fatal < 10 ^ 18 = rw (← c.self.view_is) at c.requires in
    elim c.match-severity.branch [
      | in-Info w ↦ rw w.self-inside-is (record { ids = omega arith; quit = omega arith }, omega arith)
      | in-Warning w ↦ rw w.self-inside-is (record { ids = omega arith; quit = omega arith }, omega arith)
      | in-Error w ↦ rw w.self-inside-is (record { ids = omega arith; quit = omega arith }, omega arith)
      | in-Fatal w ↦ rw w.self-inside-is (record { ids = omega arith; quit = omega arith }, omega arith)
    ]
