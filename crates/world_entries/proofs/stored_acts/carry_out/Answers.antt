use Rattle.world_entries.proofs.Common.{ap, AnswerCursor}
use Rattle.world_entries.proofs.stored_acts.carry_out.Goals as goal

pub returns-in_ok-enter-in-Completed-clause-ok : goal.returns-in_ok-enter-in-Completed-clause-ok
returns-in_ok-enter-in-Completed-clause-ok c = record {
  outcome = c.in-Completed.outcome;
  kept = c.perform.new.services;
  performed = rw (c.in-Completed.is, c.get.ensures, c.act.ensures, c.next_place.ensures) at c.in_ok-act_result.ensures;
  entries = c.in_ok-enter-in-Completed.ensures.ok;
  leaves = c.in_ok-ended-in-Completed.ensures;
  done = ap (λ (a : AnswerCursor). record c.perform.new.services { answer = a }) c.in_ok-enter-in-Completed.ensures.answer;
}
