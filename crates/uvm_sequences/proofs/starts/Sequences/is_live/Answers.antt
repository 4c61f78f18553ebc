use Rattle.uvm_sequences.proofs.Common.{subst, IsSequences}
use Rattle.uvm_sequences.proofs.Steps.{are-sequences}
use Rattle.uvm_sequences.proofs.starts.Sequences.is_live.Goals as goal

pub returns-clause-sequences : goal.returns-clause-sequences
returns-clause-sequences c = subst IsSequences c.self.view_is (are-sequences c.self.inside.sequences.items _ c.self.invariant)
