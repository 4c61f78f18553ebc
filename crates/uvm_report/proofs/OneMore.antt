-- One more line of a list.
use Rattle.uvm_report.proofs.Common.{take_more, flat_map_more}

pub ruleset one_more = (take_more, flat_map_more)
