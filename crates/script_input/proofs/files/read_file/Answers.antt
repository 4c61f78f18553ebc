use Rattle.std.proofs.Common.{Err, ap, arith, inl, inr, rules}
use Rattle.std.proofs.lemmas.List.{length-take}
use Rattle.script_input.specs.declared.files.TheConstants.{MOST_BYTES}
use Rattle.script_input.specs.declared.breakages.Breakage.TheVariants.{Unread}
use Rattle.script_input.proofs.ReadLemmas.{err-told, fault_after, progress-more, read_front, read_more}
use Rattle.script_input.proofs.files.read_file.Goals as goal

pub returns-then-room-eq0-clause-bytes : goal.returns-then-room-eq0-clause-bytes
returns-then-room-eq0-clause-bytes g c =
    read_front _ _ c.reads.bytes.items MOST_BYTES c.reads.invariant.left (omega (arith, c.reads.bytes.ok.0)) (inl (omega (arith, c.reads.bytes.ok.0)))

pub returns-then-branch-clause-bytes : goal.returns-then-branch-clause-bytes
returns-then-branch-clause-bytes g c =
    let more = c.in_ok-read_piece.ensures.more in
    read_front _ _ c.read_piece.new.bytes.items MOST_BYTES
    (read_more _ _ _ c.reads.bytes.items more.0 c.read_piece.new.bytes.items c.reads.invariant.left more.2 more.1)
    (omega (arith, c.read_piece.new.bytes.ok.0, c.in_ok-read_piece.ensures.bound, length-take c.min-room.result c.reads.piece))
    (inr (c.in_ok-read_piece.ensures.end c.if-branch.true))

pub reads-preserved : goal.reads-preserved
reads-preserved g c =
    let more = c.in_ok-read_piece.ensures.more in
    record {
      bound = omega (arith, c.in_ok-read_piece.ensures.bound, length-take c.min-room.result c.reads.piece);
      left = read_more _ _ _ c.reads.bytes.items more.0 c.read_piece.new.bytes.items c.reads.invariant.left more.2 more.1;
      progress = progress-more c.reads.invariant.progress c.reads.invariant.steady (c.in_ok-read_piece.ensures.stalled c.if-branch.false);
      steady = λ fails. c.reads.invariant.steady (c.read_piece.ensures.steady fails);
    }

pub returns-in_err-read_piece-clause-fault : goal.returns-in_err-read_piece-clause-fault
returns-in_err-read_piece-clause-fault g c =
    search (fault_after _ _ _ c.reads.bytes.items _ c.reads.invariant.left c.in_err-read_piece.ensures.fault, rules)

pub returns-in_err-read_piece-clause-failed : goal.returns-in_err-read_piece-clause-failed
returns-in_err-read_piece-clause-failed g c = λ unread. c.reads.invariant.steady (c.in_err-read_piece.ensures.failed (ap Err (err-told c.from_residual.result c.in_err-read_piece.field-0.0 Unread c.from_residual.ensures.1 unread)))

-- more reads than bytes
pub returns-clause-failed : goal.returns-clause-failed
returns-clause-failed g c = λ unread. elim c.reads.invariant.progress [ inl enough ↦ absurd (omega (arith, c.reads.invariant.bound)) | inr fails ↦ fails ]
