use Rattle.std.proofs.Common.{◌≡◌, All, length}
use Rattle.std.specs.List.{flat_map}
use Rattle.std.specs.Io.KnownBytes.{Consumes}
use Rattle.serve_answers.specs.Answers.{IsTellingAct, act_row, count_after}
use Rattle.serve_answers.proofs.readers.AnswerReader.read_acts.Given as goal

-- the rows of the actions so far are gone
abbrev pub invariant-loop-place : goal.invariant-loop-place
invariant-loop-place g l = record {
  alone : All IsTellingAct l.acts;
  many : length l.acts ≡ l._place;
  gone : Consumes (g.R.Read.remaining l.initial.self.reader) (g.R.Read.remaining l.self.reader) (flat_map act_row l.acts);
  count : l.self.count ≡ count_after l.initial.self.count (length l.acts);
}
