use Rattle.std.specs.Prelude.{option_copied}
use Rattle.script_input.specs.Scripts.{words_of_seed}
use Rattle.serve_jobs.proofs.Wholes.{bench_of_whole}
use Rattle.serve_jobs.proofs.documents.serve_bench.Goals as goal

-- the first lines, the run, and the last lines
pub returns-in-Ok-say_last-clause-served : goal.returns-in-Ok-say_last-clause-served
returns-in-Ok-say_last-clause-served g c =
    bench_of_whole g.C.Client.spoke g.C.Client.ended g.C.Client.line c.args.bytes.now (option_copied c.args.test) c.args.seed (words_of_seed c.args.seed) c.args.trace _ _ _ (record {
      begun = c.say_head.new.client;
      done = c.serve_document-verdict.new.client;
      head = c.in-Ok.ensures.ok;
      unread = c.say_head.ensures.count;
      run = c.serve_document-verdict.ensures.served;
      last = c.in-Ok-say_last.ensures.ok;
    })
