use Rattle.std.proofs.Common.{inl, inr}
use Rattle.std.proofs.KnownBytes.{Keeps-refl}
use Rattle.bus_bench.proofs.program.do_job.Goals as goal

-- the job was done on what was read
pub returns-in-Ok : goal.returns-in-Ok
returns-in-Ok g c = inr (c.in-Ok.bytes.items, c.in-Ok.ensures.bytes, rw c.as_slice.ensures.value at c.report.ensures)

-- nothing was read
pub returns-in-Err : goal.returns-in-Err
returns-in-Err g c = inl (c.in-Err.ensures.err, Keeps-refl (g.O.Write.contents c.args.out.now))
