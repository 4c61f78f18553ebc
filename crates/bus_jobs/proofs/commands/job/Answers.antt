use Rattle.bus_jobs.proofs.CommandNames.{◌∙◌, Err, ap, inr, map, refl, takes, DisplayHelp, DisplayVersion, bus_bench_app, job_named, App, fault_of}
use Rattle.bus_jobs.proofs.CommandLemmas.{bad_name_alone, faultless_job, found_rows, no_fault, on_ok, only_memory}
use Rattle.bus_jobs.proofs.HelpLemmas.{asks_help, asks_version, has_kind, helped, none_asked, versioned}
use Rattle.bus_jobs.proofs.PlainLemmas.{asks_debug, asks_run, gives_job}
use Rattle.bus_jobs.proofs.commands.job.Goals as goal

pub returns-in_ok-fault_by-in-Err-clause-taken : goal.returns-in_ok-fault_by-in-Err-clause-taken
returns-in_ok-fault_by-in-Err-clause-taken g c =
    let words = map g.S.AsStr.text c.args.words.now in
    λ taken. inr (ap Err (only_memory c.in_ok-fault_by-in-Err.field-0 c.in-Err.error c.in_ok-fault_by-in-Err.ensures
    (c.in-Err.ensures.passes (ap (λ (a : App). takes a words) c.in_ok-command.ensures ∙ taken))))

pub returns-in_ok-fault_by-in-Err-clause-help : goal.returns-in_ok-fault_by-in-Err-clause-help
returns-in_ok-fault_by-in-Err-clause-help g c =
    let words = map g.S.AsStr.text c.args.words.now in
    λ is. helped (fault_of bus_bench_app words) c.in_ok-fault_by-in-Err.field-0 c.in-Err.error is
    (has_kind _ words c.in-Err.error c.in_ok-command.ensures c.in-Err.ensures.kinds) c.in_ok-fault_by-in-Err.ensures

pub returns-in_ok-fault_by-in-Err-clause-version : goal.returns-in_ok-fault_by-in-Err-clause-version
returns-in_ok-fault_by-in-Err-clause-version g c =
    let words = map g.S.AsStr.text c.args.words.now in
    λ is. versioned (fault_of bus_bench_app words) c.in_ok-fault_by-in-Err.field-0 c.in-Err.error is
    (has_kind _ words c.in-Err.error c.in_ok-command.ensures c.in-Err.ensures.kinds) c.in_ok-fault_by-in-Err.ensures

pub returns-in_ok-fault_by-in-Err-clause-plain_help : goal.returns-in_ok-fault_by-in-Err-clause-plain_help
returns-in_ok-fault_by-in-Err-clause-plain_help g c =
    let words = map g.S.AsStr.text c.args.words.now in
    λ asks. helped (fault_of bus_bench_app words) c.in_ok-fault_by-in-Err.field-0 c.in-Err.error (asks_help words asks)
    (has_kind _ words c.in-Err.error c.in_ok-command.ensures c.in-Err.ensures.kinds) c.in_ok-fault_by-in-Err.ensures

pub returns-in_ok-fault_by-in-Err-clause-plain_version : goal.returns-in_ok-fault_by-in-Err-clause-plain_version
returns-in_ok-fault_by-in-Err-clause-plain_version g c =
    let words = map g.S.AsStr.text c.args.words.now in
    λ asks. versioned (fault_of bus_bench_app words) c.in_ok-fault_by-in-Err.field-0 c.in-Err.error (asks_version words asks)
    (has_kind _ words c.in-Err.error c.in_ok-command.ensures c.in-Err.ensures.kinds) c.in_ok-fault_by-in-Err.ensures

pub returns-in_ok-fault_by-in-Err-clause-plain : goal.returns-in_ok-fault_by-in-Err-clause-plain
returns-in_ok-fault_by-in-Err-clause-plain g c =
    let words = map g.S.AsStr.text c.args.words.now in
    λ file asks. only_memory c.in_ok-fault_by-in-Err.field-0 c.in-Err.error c.in_ok-fault_by-in-Err.ensures
    (c.in-Err.ensures.passes (ap (λ (a : App). takes a words) c.in_ok-command.ensures ∙ (asks_debug words file asks).0))

pub returns-in_ok-fault_by-in-Err-clause-plain_run : goal.returns-in_ok-fault_by-in-Err-clause-plain_run
returns-in_ok-fault_by-in-Err-clause-plain_run g c =
    let words = map g.S.AsStr.text c.args.words.now in
    λ file asks. only_memory c.in_ok-fault_by-in-Err.field-0 c.in-Err.error c.in_ok-fault_by-in-Err.ensures
    (c.in-Err.ensures.passes (ap (λ (a : App). takes a words) c.in_ok-command.ensures ∙ (asks_run words file asks).0))

pub job_of-requires : goal.job_of-requires
job_of-requires g c =
    let words = map g.S.AsStr.text c.args.words.now in
    rw (found_rows _ words c.in-Ok.matches c.in_ok-command.ensures c.in-Ok.ensures.matches)
    (faultless_job words (no_fault _ words c.in_ok-command.ensures c.in-Ok.ensures.kinds))

pub returns-in-Ok-clause-faultless : goal.returns-in-Ok-clause-faultless
returns-in-Ok-clause-faultless g c = on_ok c.job_of.result (no_fault _ (map g.S.AsStr.text c.args.words.now) c.in_ok-command.ensures c.in-Ok.ensures.kinds)

pub returns-in-Ok-clause-refused : goal.returns-in-Ok-clause-refused
returns-in-Ok-clause-refused g c =
    let words = map g.S.AsStr.text c.args.words.now in
    bad_name_alone (fault_of bus_bench_app words) _ c.job_of.result (no_fault _ words c.in_ok-command.ensures c.in-Ok.ensures.kinds) c.job_of.ensures.bad_name

pub returns-in-Ok-clause-help : goal.returns-in-Ok-clause-help
returns-in-Ok-clause-help g c =
    let words = map g.S.AsStr.text c.args.words.now in
    λ is. none_asked (fault_of bus_bench_app words) DisplayHelp (no_fault _ words c.in_ok-command.ensures c.in-Ok.ensures.kinds) is

pub returns-in-Ok-clause-version : goal.returns-in-Ok-clause-version
returns-in-Ok-clause-version g c =
    let words = map g.S.AsStr.text c.args.words.now in
    λ is. none_asked (fault_of bus_bench_app words) DisplayVersion (no_fault _ words c.in_ok-command.ensures c.in-Ok.ensures.kinds) is

pub returns-in-Ok-clause-plain_help : goal.returns-in-Ok-clause-plain_help
returns-in-Ok-clause-plain_help g c =
    let words = map g.S.AsStr.text c.args.words.now in
    λ asks. none_asked (fault_of bus_bench_app words) DisplayHelp (no_fault _ words c.in_ok-command.ensures c.in-Ok.ensures.kinds) (asks_help words asks)

pub returns-in-Ok-clause-plain_version : goal.returns-in-Ok-clause-plain_version
returns-in-Ok-clause-plain_version g c =
    let words = map g.S.AsStr.text c.args.words.now in
    λ asks. none_asked (fault_of bus_bench_app words) DisplayVersion (no_fault _ words c.in_ok-command.ensures c.in-Ok.ensures.kinds) (asks_version words asks)

pub returns-in-Ok-clause-plain : goal.returns-in-Ok-clause-plain
returns-in-Ok-clause-plain g c =
    let words = map g.S.AsStr.text c.args.words.now in
    let found = ap job_named (found_rows _ words c.in-Ok.matches c.in_ok-command.ensures c.in-Ok.ensures.matches) in
    λ file asks. gives_job _ _ c.job_of.result (found ∙ (asks_debug words file asks).1) refl c.job_of.ensures.named c.job_of.ensures.bad_name

pub returns-in-Ok-clause-plain_run : goal.returns-in-Ok-clause-plain_run
returns-in-Ok-clause-plain_run g c =
    let words = map g.S.AsStr.text c.args.words.now in
    let found = ap job_named (found_rows _ words c.in-Ok.matches c.in_ok-command.ensures c.in-Ok.ensures.matches) in
    λ file asks. gives_job _ _ c.job_of.result (found ∙ (asks_run words file asks).1) refl c.job_of.ensures.named c.job_of.ensures.bad_name
