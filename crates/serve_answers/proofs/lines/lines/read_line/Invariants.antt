use Rattle.std.proofs.Common.{◌≤◌, vec_capacity}
use Rattle.std.specs.Io.KnownBytes.{Consumes}
use Rattle.serve_answers.specs.Lines.{IsLine}
use Rattle.serve_answers.proofs.lines.lines.read_line.Given as goal

-- the line so far is what the reader has lost, is a line, and has no less capacity than at the start
abbrev pub invariant-reads : goal.invariant-reads
invariant-reads g l = record {
  line : IsLine l.line.items;
  gone : Consumes (g.R.Read.remaining l.initial.reader) (g.R.Read.remaining l.reader) l.line.items;
  capacity : vec_capacity l.initial.line ≤ vec_capacity l.line;
}
