use Rattle.std.proofs.Common.{◌≤◌, ◌⊎◌, vec_len}
use Rattle.std.specs.Io.KnownBytes.{Consumes}
use Rattle.script_input.specs.declared.files.TheConstants.{MOST_BYTES}
use Rattle.script_input.proofs.files.read_file.Given as goal

-- what was read so far is what the reader has lost, and not too much
abbrev pub invariant-reads : goal.invariant-reads
invariant-reads g l = record {
  bound : vec_len l.bytes ≤ MOST_BYTES;
  left : Consumes (g.S.Source.remaining l.initial.reader) (g.S.Source.remaining l.reader) l.bytes.items;
  progress : (l._made ≤ vec_len l.bytes) ⊎ g.S.Source.fails l.initial.reader;
  steady : g.S.Source.fails l.reader → g.S.Source.fails l.initial.reader;
}
