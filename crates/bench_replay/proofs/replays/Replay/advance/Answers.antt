use Rattle.std.proofs.Common.{sym}
use Rattle.bench_replay.proofs.Parts.{grown, next-in}
use Rattle.bench_replay.proofs.replays.Replay.advance.Goals as goal

-- the next entry of the log may come next
pub repeat-requires-clause-next : goal.repeat-requires-clause-next
repeat-requires-clause-next c =
    next-in c.self.inside.ended.now c.self.inside.core c.in-Some.entry.now c.self.invariant c.log.ensures.legal (sym (rw (c.log.ensures.entries, c.len.ensures, c.log-2.ensures.entries) at c.in-Some.ensures))

-- the core has one more of the first entries
pub invariant_of-self-2 : goal.invariant_of-self-2
invariant_of-self-2 c =
    grown c.self.inside.ended.now c.self.inside.core c.repeat.new.core c.in-Some.entry.now c.self.invariant (sym (rw (c.log.ensures.entries, c.len.ensures, c.log-2.ensures.entries) at c.in-Some.ensures))
    c.repeat.ensures.script c.repeat.ensures.settled c.in_ok-repeat.ensures.ok
