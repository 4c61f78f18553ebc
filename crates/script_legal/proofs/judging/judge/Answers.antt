use Rattle.std.specs.Prelude.{option_copied}
use Rattle.script_legal.proofs.Judged.{all-judged}
use Rattle.script_legal.proofs.judging.judge.Goals as goal

-- by the laws of benches that were read and of runs
pub returns : goal.returns
returns c =
    all-judged c.args.bytes.now (option_copied c.args.test) c.in-Ok.bench c.args.text.now c.bench_runs_are_runs.ensures c.runs_are_determined.ensures c.in-Ok.ensures.ok c.judged.result
    (rw (c.as_slice.ensures.value, c.in-Ok-shown_words.ensures) at c.judged.ensures)
