use Rattle.bus_jobs.proofs.CommandNames.{◌∙◌, codes, ExplainsUnsignedError, HasUnsignedDigitsIfOk, ParsesUnsigned, found_of, one_text-rows, one_of, rows_of}
use Rattle.bus_jobs.proofs.CommandLemmas.{seed_read}
use Rattle.bus_jobs.proofs.commands.seed_of.Goals as goal

pub returns : goal.returns
returns c =
    let found = found_of c.args.matches.now in
    let read = one_text-rows found (codes "seed") in
    c.unwrap_or.ensures ∙ seed_read (λ bs r. ParsesUnsigned 64 10 bs r × ExplainsUnsignedError 10 bs r × HasUnsignedDigitsIfOk bs r) (one_of (codes "seed") (rows_of found)) c.get_one.result (λ t r gives. gives.0) c.requires
    (λ is. c.get_one.ensures.none (read ∙ is)) (λ t is. c.get_one.ensures.value t (read ∙ is))
