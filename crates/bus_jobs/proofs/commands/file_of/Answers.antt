use Rattle.bus_jobs.proofs.CommandNames.{found_of}
use Rattle.bus_jobs.proofs.CommandLemmas.{file_read, no_file}
use Rattle.bus_jobs.proofs.commands.file_of.Goals as goal

pub unreachable-requires : goal.unreachable-requires
unreachable-requires c = no_file (found_of c.args.matches.now) c.get_str.result c.get_str.ensures c.in_default.is c.requires

pub returns : goal.returns
returns c = file_read (found_of c.args.matches.now) c.get_str.result c.in-Some.file c.get_str.ensures c.in-Some.is
