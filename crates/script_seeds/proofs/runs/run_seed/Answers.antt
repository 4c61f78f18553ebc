use Rattle.std.proofs.Common.{◌≡◌, rules, refl}
use Rattle.script_seeds.specs.SeedRuns.{seed_line}
use Rattle.script_seeds.proofs.runs.run_seed.Goals as goal

-- the run with what it wrote
pub returns : goal.returns
returns c =
    let output = c.run-verdict.new.out.text.items in
    let line : c.push_seed.new.line.items ≡ seed_line c.args.seed output c.run-verdict.result = search rules in
    record {
      run = record { seed = c.args.seed; output = output; verdict = c.run-verdict.result };
      seed_is = refl;
      made = rw c.new-kept.ensures at c.run-verdict.ensures.run;
      added = record { clean = c.add.ensures.clean; status = c.add.ensures.status };
      line_is = line;
    }
