use Rattle.bus_jobs.proofs.Common.{◌≡◌, ◌∙◌, ◌<◌, ◌≤◌, length, get_or, Appends-trans, probe_line}
use Rattle.bus_jobs.proofs.Answering.{lines-more, lines-all, lines-some, line-factory}
use Rattle.bus_jobs.proofs.debugging.write_answers.Goals as goal

-- the probe's type is one of the script's
pub line_of-requires : goal.line_of-requires
line_of-requires g c =
    let within : c.loop-probe.probe-index < length c.args.script.now.probes = rw (← c.probes-probes.ensures.probes) c.loop-probe-test.true in
    let at : c.probe-item.result ≡ get_or c.args.script.now.probes c.loop-probe.probe-index c.probe-item.result = rw (← c.probes-probes.ensures.probes) c.probe-item.is in
    rw (c.requires.types, at) (c.probes-probes.ensures.sound c.loop-probe.probe-index c.probe-item.result within)

-- one more line was written
pub loop-probe-preserved : goal.loop-probe-preserved
loop-probe-preserved g c =
    let within : c.loop-probe.probe-index < length c.args.script.now.probes = rw (← c.probes-probes.ensures.probes) c.loop-probe-test.true in
    let at : c.probe-item.result ≡ get_or c.args.script.now.probes c.loop-probe.probe-index c.probe-item.result = rw (← c.probes-probes.ensures.probes) c.probe-item.is in
    let line : c.as_slice.result.now ≡ probe_line c.args.script.now c.probe-item.result = c.as_slice.ensures.value ∙ c.in-Ok.ensures ∙ line-factory c.args.script.now c.args.factory.now c.probe-item.result c.steps_replace.ensures c.requires in
    record {
      wrote = rw (lines-more c.args.script.now c.loop-probe.probe-index c.probe-item.result within at, ← line)
          (Appends-trans (g.S.Sink.contents c.args.out.now) (g.S.Sink.contents c.loop-probe.out) (g.S.Sink.contents c.put.new.self) _ _ c.loop-probe.invariant.wrote c.in-Ok-put.ensures.bytes);
      steady = λ refuses. c.loop-probe.invariant.steady (c.put.ensures.steady refuses);
    }

-- all were
pub returns-clause-ok : goal.returns-clause-ok
returns-clause-ok g c =
    let end : length c.args.script.now.probes ≤ c.loop-probe.probe-index = rw (← c.probes-probes.ensures.probes) c.loop-probe-test.false in
    rw (← lines-all c.args.script.now c.loop-probe.probe-index end) c.loop-probe.invariant.wrote

-- the output failed at the line of a probe
pub returns-in_default-put-clause-err : goal.returns-in_default-put-clause-err
returns-in_default-put-clause-err g c =
    let within : c.loop-probe.probe-index < length c.args.script.now.probes = rw (← c.probes-probes.ensures.probes) c.loop-probe-test.true in
    lines-some c.args.script.now c.loop-probe.probe-index within

pub returns-in_default-put-clause-output : goal.returns-in_default-put-clause-output
returns-in_default-put-clause-output g c = λ is. c.loop-probe.invariant.steady c.in_default-put.ensures.refused
