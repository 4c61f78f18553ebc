use Rattle.bus_jobs.proofs.CommandNames.{◌∙◌, codes, is_given, found_of, one_text-rows, one_of, rows_of}
use Rattle.bus_jobs.proofs.CommandLemmas.{flag_read}
use Rattle.bus_jobs.proofs.commands.is_traced.Goals as goal

pub returns : goal.returns
returns c =
    let found = found_of c.args.matches.now in
    let read = one_text-rows found (codes "trace") in
    flag_read (one_of (codes "trace") (rows_of found)) (is_given (codes "trace") (rows_of found)) c.get_flag.result c.requires
    (λ is. c.get_flag.ensures.none (read ∙ is)) (λ is. c.get_flag.ensures.value (read ∙ is)) (λ is. c.get_flag.ensures.other (read ∙ is))
