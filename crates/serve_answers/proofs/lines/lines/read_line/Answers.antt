use Rattle.std.proofs.Common.{rules}
use Rattle.serve_answers.proofs.Shortened.{cut_short}
use Rattle.serve_answers.proofs.lines.lines.read_line.Goals as goal

pub returns-in_err-read_part-clause-err : goal.returns-in_err-read_part-clause-err
returns-in_err-read_part-clause-err g c =
    search (cut_short _ _ _ _ _ _ c.reads.invariant.line c.reads.invariant.gone c.in_err-read_part.ensures.gone c.in_err-read_part.ensures.err, rules)
