use Rattle.serve_dialogue.proofs.Common.{◌≡◌, ◌-◌, length, log_limit, IsLegal, leaving_of, Good, AreDrawn, transcript, TellsApart, AreTold, dialogue, AreByScript, AreSeated, SpokeLog, said_in, Nothing}
use Rattle.serve_dialogue.proofs.serving.serve_core.Given as goal

-- the dialogue of the log so far was spoken, and its transcript can be told apart; its random numbers were drawn
abbrev pub invariant-loop-core : goal.invariant-loop-core
invariant-loop-core g l = record {
  good : l.core.health ≡ Good;
  script : l.core.script ≡ l.fn.core.script;
  nothing : l.core.standing ≡ Nothing;
  leaving : l.core.leaving ≡ leaving_of l.core.history;
  legal : IsLegal l.core.script l.core.history;
  drawn : AreDrawn g.R.Rng.stream l.core.history l.fn.words l.words;
  told : AreTold l.fn.seats.answers l.fn.core.script l.core.history;
  by_script : AreByScript l.fn.seats.answers l.fn.core.script l.core.history;
  answers : l.seats.answers ≡ l.fn.seats.answers;
  seated : AreSeated l.core.script l.core.history l.seats;
  talk : SpokeLog g.C.Client.spoke g.C.Client.ended g.C.Client.line l.fn.seats.answers l.fn.core.script l.trace l.core.history l.fn.client l.client;
  apart : TellsApart (said_in (dialogue l.fn.seats.answers l.trace l.fn.core.script l.core.history)) (transcript l.trace l.fn.core.script l.core.history);
  steady : g.C.Client.refuses l.client → g.C.Client.refuses l.fn.client;
  readable : g.C.Client.breaks l.client → g.C.Client.breaks l.fn.client;
}

-- the log grows
abbrev pub decreases-loop-core : goal.decreases-loop-core
decreases-loop-core g l = log_limit l.fn.core.script - length l.core.history
