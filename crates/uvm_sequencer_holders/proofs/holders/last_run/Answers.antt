use Rattle.uvm_sequencer_holders.proofs.Common.{◌∙◌, ◌-◌, is_some, get_or, sym, ap, rules, Held, held_by, less_by}
use Rattle.uvm_sequencer_holders.proofs.Runs.{none-held, none-released, of_times, one-less, some-held}
use Rattle.uvm_sequencer_holders.proofs.holders.last_run.Goals as goal
use Rattle.uvm_sequencer_holders.proofs.holders.last_run.Goals.{After-from_residual}

none : Held
none = record { seq = 0; times = 0 }

pub returns-in_err-place-clause-held : goal.returns-in_err-place-clause-held
returns-in_err-place-clause-held c = ap is_some c.from_residual.ensures ∙ sym (none-held c.args.seq c.args.runs.now none c.requires (search rules))

pub returns-in_err-place-clause-rest : goal.returns-in_err-place-clause-rest
returns-in_err-place-clause-rest c =
    none-released c.args.seq (held_by c.args.runs.now) (none-held c.args.seq c.args.runs.now none c.requires (search rules))
    ∙ ap (less_by c.args.seq c.args.runs.now) (sym c.from_residual.ensures)

pub returns-clause-held : goal.returns-clause-held
returns-clause-held c = sym (some-held c.args.seq c.args.runs.now none c.in_ok-place.place c.requires (search rules) (search rules))

pub returns-clause-rest : goal.returns-clause-rest
returns-clause-rest c =
    let held = get_or c.args.runs.now c.in_ok-place.place c.index-runs-place.result in
    let shape = of_times held c.args.seq (search rules) (c.requires c.in_ok-place.place c.index-runs-place.result (search rules)) in
    one-less c.args.seq (held.times - 1) c.args.runs.now c.index-runs-place.result c.in_ok-place.place c.requires (search rules) shape (search rules)
