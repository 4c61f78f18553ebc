use Rattle.bus_jobs.proofs.CommandNames.{◌∙◌, Option, Some, ap, codes, sym, rules, option_map, found_of, has_bad_name, is_bad_test, run, run_in, Text, rows_of}
use Rattle.bus_jobs.proofs.CommandLemmas.{first_read}
use Rattle.bus_jobs.proofs.commands.run_job.Goals as goal

pub returns-clause-named : goal.returns-clause-named
returns-clause-named c =
    let found = found_of c.args.matches.now in
    let test = first_read found (codes "test") c.get_str.result c.get_str.ensures ∙ sym c.in_ok-test.ensures.name in
    ap (option_map (run_in (rows_of found))) c.file_of-file.ensures
    ∙ (λ i. Some (run (sym c.is_traced.ensures i) (sym c.seed_of.ensures i) (test i) c.file_of-file.result.now))

pub returns-clause-good_name : goal.returns-clause-good_name
returns-clause-good_name c =
    let found = found_of c.args.matches.now in
    let test = first_read found (codes "test") c.get_str.result c.get_str.ensures in
    ap (λ (f : Option Text). has_bad_name (option_map (run_in (rows_of found)) f)) c.file_of-file.ensures ∙ ap is_bad_test test ∙ c.in_ok-test.ensures.good

pub returns-in_err-test-clause-bad_name : goal.returns-in_err-test-clause-bad_name
returns-in_err-test-clause-bad_name c =
    let found = found_of c.args.matches.now in
    let test = first_read found (codes "test") c.get_str.result c.get_str.ensures in
    let bad = ap (λ (f : Option Text). has_bad_name (option_map (run_in (rows_of found)) f)) c.file_of-file.ensures ∙ ap is_bad_test test ∙ c.in_err-test.ensures.bad.1 in
    search (bad, rules)
