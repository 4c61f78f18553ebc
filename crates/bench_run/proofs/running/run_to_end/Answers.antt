use Rattle.bench_run.proofs.Common.{◌≡◌, Err, ap, refl, rules, subst, true, false, AreDrawn, Grows, IsHalted, Output}
use Rattle.bench_run.proofs.Goings.{breaks-off, err-told, goes-on, grown-health, grown-script, halts, lines-grown, told-health, told-log, unsummed}
use Rattle.bench_run.proofs.Lives.{begins, lived-same}
use Rattle.bench_run.proofs.Words.{drawn-grown, drawn-none, drawn-told, given-all, given-broken, given-lost, words-same}
use Rattle.bench_run.proofs.Texts.{took-grown, took-halted, took-more, took-none, took-unsummed, took-unwritten}
use Rattle.bench_run.proofs.running.run_to_end.Goals as goal

-- one more entry, and its text
pub loop-kernel-preserved : goal.loop-kernel-preserved
loop-kernel-preserved g c =
    let inv = c.loop-kernel.invariant in
    let grown : Grows c.loop-kernel.kernel.core c.make_entry.new.kernel.core = rw c.if-branch.true at c.in_ok-make_entry.ensures.ok in
    let going : c.make_entry.new.kernel.failed ≡ false = c.in_ok-make_entry.ensures.going c.if-branch.true in
    record {
      good = grown-health grown inv.good;
      script = grown-script grown inv.script;
      legal = c.in_ok-write_last.ensures.legal;
      drawn = drawn-grown g.R.Rng.stream _ _ _ _ _ grown (rw c.if-branch.true at (c.in_ok-make_entry.ensures.words)) inv.drawn;
      objects = c.in_ok-make_entry.ensures.objects inv.objects;
      room = λ failed. absurd (let bad : true ≡ false = rw failed at going in cc);
      wrote = goes-on c.args.trace _ _ c.args.kernel.now.core.script _ _ _ grown inv.good inv.script inv.wrote c.in_ok-write_last.ensures.ok;
      lines = lines-grown c.args.trace _ _ c.args.kernel.now.core.script grown inv.good inv.script c.in_ok-write_last.ensures.lines inv.lines;
      took = took-grown _ _ _ _ _ grown inv.took c.in_ok-write_last.ensures.count;
      steady = λ refuses. inv.steady (c.in_ok-write_last.ensures.steady refuses);
    }

-- the text of the newest entry was not written
pub returns-in_err-write_last-clause-run : goal.returns-in_err-write_last-clause-run
returns-in_err-write_last-clause-run g c =
    let inv = c.loop-kernel.invariant in
    let grown : Grows c.loop-kernel.kernel.core c.make_entry.new.kernel.core = rw c.if-branch.true at c.in_ok-make_entry.ensures.ok in
    breaks-off c.from_residual-in_err-write_last.result c.in_err-write_last.field-0.0 c.args.trace _ _ c.args.kernel.now.core.script _ _ _
    c.from_residual-in_err-write_last.ensures.1 grown (grown-script grown inv.script) (rw inv.script at (inv.legal)) c.in_err-write_last.ensures.legal inv.lines inv.wrote c.in_err-write_last.ensures.err
    (λ memory. c.in_err-write_last.ensures.lost (ap Err memory))

-- no more entry was made
pub returns-in_err-make_entry-clause-run : goal.returns-in_err-make_entry-clause-run
returns-in_err-make_entry-clause-run g c =
    let inv = c.loop-kernel.invariant in
    halts c.from_residual.result c.in_err-make_entry.field-0.0 c.args.trace _ _ _ c.args.kernel.now.core.script _ _
    c.from_residual.ensures.1 c.in_err-make_entry.ensures.err c.in_err-make_entry.ensures.same inv.room inv.legal inv.script inv.lines inv.wrote

-- nothing has begun
pub loop-kernel-init : goal.loop-kernel-init
loop-kernel-init g c = record {
  good = c.requires.good;
  script = refl;
  legal = search rules;
  room = search rules;
  drawn = rw c.requires.begun (drawn-none g.R.Rng.stream c.args.words.now);
  objects = begins g.O.UvmObject.view g.O.UvmObject.name g.O.UvmObject.says _ c.args.kernel.now c.requires.begun c.live-held.ensures.made;
  lines = rw c.requires.begun tt;
  wrote = search rules;
  took = rw c.requires.begun (took-none (g.S.Sink.taken c.args.out.now));
  steady = λ refuses. refuses;
}

pub returns-in_err-write_last-clause-words : goal.returns-in_err-write_last-clause-words
returns-in_err-write_last-clause-words g c =
    let inv = c.loop-kernel.invariant in
    let grown : Grows c.loop-kernel.kernel.core c.make_entry.new.kernel.core = rw c.if-branch.true at c.in_ok-make_entry.ensures.ok in
    let drawn : AreDrawn g.R.Rng.stream c.make_entry.new.kernel.core.history c.args.words.now c.make_entry.new.words = drawn-grown g.R.Rng.stream _ _ _ _ _ grown (rw c.if-branch.true at (c.in_ok-make_entry.ensures.words)) inv.drawn in
    drawn.words

pub returns-in_err-write_last-clause-objects : goal.returns-in_err-write_last-clause-objects
returns-in_err-write_last-clause-objects g c = (c.in_ok-make_entry.ensures.objects c.loop-kernel.invariant.objects).lived

pub returns-in_err-make_entry-clause-words : goal.returns-in_err-make_entry-clause-words
returns-in_err-make_entry-clause-words g c = words-same (g.R.Rng.stream c.args.words.now) _ _ c.in_err-make_entry.ensures.same c.loop-kernel.invariant.drawn.words

pub returns-in_err-make_entry-clause-objects : goal.returns-in_err-make_entry-clause-objects
returns-in_err-make_entry-clause-objects g c =
    lived-same g.O.UvmObject.view g.O.UvmObject.name g.O.UvmObject.says _ _ _ c.in_err-make_entry.ensures.same c.loop-kernel.invariant.objects.lived

-- the run is over
pub returns-in_err-write_summary-clause-words : goal.returns-in_err-write_summary-clause-words
returns-in_err-write_summary-clause-words g c =
    let ended = rw c.if-branch.false at (c.in_ok-make_entry.ensures.ok) in
    words-same (g.R.Rng.stream c.args.words.now) _ _ (told-log _ _ ended.1) c.loop-kernel.invariant.drawn.words

pub returns-in_err-write_summary-clause-objects : goal.returns-in_err-write_summary-clause-objects
returns-in_err-write_summary-clause-objects g c = (c.in_ok-make_entry.ensures.objects c.loop-kernel.invariant.objects).lived

pub returns-in_err-write_summary-clause-run : goal.returns-in_err-write_summary-clause-run
returns-in_err-write_summary-clause-run g c =
    let inv = c.loop-kernel.invariant in
    let ended = rw c.if-branch.false at (c.in_ok-make_entry.ensures.ok) in
    unsummed c.from_residual-in_err-write_summary.result c.in_err-write_summary.field-0.0 c.args.trace _ _ c.args.kernel.now.core.script _ _ _
    c.from_residual-in_err-write_summary.ensures.1 (told-log _ _ ended.1) ended.0 inv.legal inv.script inv.lines inv.wrote c.in_err-write_summary.ensures.err

pub returns-clause-words : goal.returns-clause-words
returns-clause-words g c =
    let ended = rw c.if-branch.false at (c.in_ok-make_entry.ensures.ok) in
    words-same (g.R.Rng.stream c.args.words.now) _ _ (told-log _ _ ended.1) c.loop-kernel.invariant.drawn.words

pub returns-clause-objects : goal.returns-clause-objects
returns-clause-objects g c = (c.in_ok-make_entry.ensures.objects c.loop-kernel.invariant.objects).lived

pub returns-clause-left : goal.returns-clause-left
returns-clause-left g c =
    let ended = rw c.if-branch.false at (c.in_ok-make_entry.ensures.ok) in
    given-all g.R.Rng.stream _ _ _ _
    (drawn-told g.R.Rng.stream _ _ _ _ _ (told-log _ _ ended.1) (rw c.if-branch.false at (c.in_ok-make_entry.ensures.words)) c.loop-kernel.invariant.drawn)

pub returns-in_err-write_summary-clause-left : goal.returns-in_err-write_summary-clause-left
returns-in_err-write_summary-clause-left g c =
    let ended = rw c.if-branch.false at (c.in_ok-make_entry.ensures.ok) in
    given-all g.R.Rng.stream _ _ _ _
    (drawn-told g.R.Rng.stream _ _ _ _ _ (told-log _ _ ended.1) (rw c.if-branch.false at (c.in_ok-make_entry.ensures.words)) c.loop-kernel.invariant.drawn)

pub returns-in_err-write_last-clause-left : goal.returns-in_err-write_last-clause-left
returns-in_err-write_last-clause-left g c =
    let inv = c.loop-kernel.invariant in
    let grown : Grows c.loop-kernel.kernel.core c.make_entry.new.kernel.core = rw c.if-branch.true at c.in_ok-make_entry.ensures.ok in
    given-all g.R.Rng.stream _ _ _ _ (drawn-grown g.R.Rng.stream _ _ _ _ _ grown (rw c.if-branch.true at (c.in_ok-make_entry.ensures.words)) inv.drawn)

pub returns-in_err-make_entry-clause-left : goal.returns-in_err-make_entry-clause-left
returns-in_err-make_entry-clause-left g c =
    given-broken c.from_residual.result c.in_err-make_entry.field-0.0 _ _ _ _ c.from_residual.ensures.1 c.in_err-make_entry.ensures.same
    (given-lost g.R.Rng.stream _ _ _ _ _ c.loop-kernel.invariant.drawn c.in_err-make_entry.ensures.lost)

pub returns-clause-sound : goal.returns-clause-sound
returns-clause-sound g c =
    let ended = rw c.if-branch.false at (c.in_ok-make_entry.ensures.ok) in
    told-health _ _ ended.1 c.loop-kernel.invariant.good

pub returns-in_err-write_last-clause-texts : goal.returns-in_err-write_last-clause-texts
returns-in_err-write_last-clause-texts g c =
    let inv = c.loop-kernel.invariant in
    let grown : Grows c.loop-kernel.kernel.core c.make_entry.new.kernel.core = rw c.if-branch.true at c.in_ok-make_entry.ensures.ok in
    took-unwritten c.from_residual-in_err-write_last.result c.in_err-write_last.field-0.0 _ _ c.args.kernel.now.core.script _ _ _ _ _
    c.from_residual-in_err-write_last.ensures.1 grown (grown-script grown inv.script) (rw inv.script at (inv.legal)) c.in_err-write_last.ensures.legal c.in_err-write_last.ensures.err inv.took
    (λ memory. c.in_err-write_last.ensures.untaken (ap Err memory))

pub returns-in_err-make_entry-clause-texts : goal.returns-in_err-make_entry-clause-texts
returns-in_err-make_entry-clause-texts g c =
    let inv = c.loop-kernel.invariant in
    took-halted c.from_residual.result c.in_err-make_entry.field-0.0 _ _ c.args.kernel.now.core.script _ _
    c.from_residual.ensures.1 c.in_err-make_entry.ensures.err inv.room inv.legal inv.script inv.took

pub returns-in_err-write_summary-clause-texts : goal.returns-in_err-write_summary-clause-texts
returns-in_err-write_summary-clause-texts g c =
    let inv = c.loop-kernel.invariant in
    let ended = rw c.if-branch.false at (c.in_ok-make_entry.ensures.ok) in
    took-unsummed c.from_residual-in_err-write_summary.result c.in_err-write_summary.field-0.0 c.loop-kernel.kernel.core c.args.kernel.now.core.script _ _ _ _ _
    c.from_residual-in_err-write_summary.ensures.1 ended.0 inv.legal inv.script c.in_err-write_summary.ensures.err inv.took
    (λ memory. c.in_err-write_summary.ensures.untaken (ap Err memory))

pub returns-clause-texts : goal.returns-clause-texts
returns-clause-texts g c =
    let inv = c.loop-kernel.invariant in
    let ended = rw c.if-branch.false at (c.in_ok-make_entry.ensures.ok) in
    record {
      history = c.loop-kernel.kernel.core.history;
      legal = rw inv.script at (inv.legal);
      over = ended.0;
      took = took-more _ _ _ _ inv.took c.in_ok-write_summary.ensures.count;
    }

-- a text was refused
pub returns-in_err-write_last-clause-output : goal.returns-in_err-write_last-clause-output
returns-in_err-write_last-clause-output g c = λ is.
    let output = err-told c.from_residual-in_err-write_last.result c.in_err-write_last.field-0.0 Output c.from_residual-in_err-write_last.ensures.1 is in
    c.loop-kernel.invariant.steady (c.in_err-write_last.ensures.output (ap Err output))

pub returns-in_err-write_summary-clause-output : goal.returns-in_err-write_summary-clause-output
returns-in_err-write_summary-clause-output g c = λ is.
    let output = err-told c.from_residual-in_err-write_summary.result c.in_err-write_summary.field-0.0 Output c.from_residual-in_err-write_summary.ensures.1 is in
    c.loop-kernel.invariant.steady (c.in_err-write_summary.ensures.output (ap Err output))

pub returns-in_err-make_entry-clause-output : goal.returns-in_err-make_entry-clause-output
returns-in_err-make_entry-clause-output g c = λ is.
    let output = err-told c.from_residual.result c.in_err-make_entry.field-0.0 Output c.from_residual.ensures.1 is in
    absurd (subst (λ fault. IsHalted fault c.loop-kernel.kernel.failed c.loop-kernel.kernel.core) output c.in_err-make_entry.ensures.err)
