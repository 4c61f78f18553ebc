use Rattle.bench_waves.proofs.Ticks.{lock-granted, time-goes}
use Rattle.bench_waves.proofs.waves.go.Goals as goal

-- time goes on
pub returns-in_ok-go-in-Some-Time-clause-gone : goal.returns-in_ok-go-in-Some-Time-clause-gone
returns-in_ok-go-in-Some-Time-clause-gone c = λ entry before is at.
    time-goes c.args.world.now.script c.args.world.now.history entry before c.in-Some-Time.time c.args.changes.now c.go.new.self c.on_time.ensures c.requires.legal is (rw c.in-Some-Time.field-0-is at (rw c.log.ensures.entries at c.in-Some-Time.ensures)) c.requires.steps c.in_ok-go-in-Some-Time.ensures.ok at

-- a lock was granted
pub returns-in_ok-insert-in-Some-Locked-clause-locks : goal.returns-in_ok-insert-in-Some-Locked-clause-locks
returns-in_ok-insert-in-Some-Locked-clause-locks c = λ entry before is locks.
    lock-granted c.args.world.now.history entry before c.in-Some-Locked.sequencer c.in-Some-Locked.id _ _ is (rw c.in-Some-Locked.field-0-is at (rw c.log.ensures.entries at c.in-Some-Locked.ensures)) (c.in_ok-insert-in-Some-Locked.ensures.updates.0) locks
