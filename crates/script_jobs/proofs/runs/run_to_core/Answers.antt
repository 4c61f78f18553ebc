use Rattle.script_jobs.proofs.Common.{ℕ, List, Result, Ok, Err, IfOk, Members, ScriptFault, tree_of_bytes, TookSome, took-nothing-of, script_to_run, Option, option_copied}
use Rattle.script_jobs.proofs.runs.run_to_core.Goals as goal

-- of whatever tree there is
nothing : (tree : Result Members ScriptFault) (test : Option (List ℕ)) (count : Option ℕ) → IfOk tree (λ root. IfOk (script_to_run root test) (λ script. TookSome script count count))
nothing (Ok root) test count = took-nothing-of (script_to_run root test) count
nothing (Err fault) test count = tt

pub returns-in-Err-clause-room : goal.returns-in-Err-clause-room
returns-in-Err-clause-room g c = λ same. nothing (tree_of_bytes c.args.bytes.now) (option_copied c.args.test) (g.S.Sink.taken c.args.out.now)
