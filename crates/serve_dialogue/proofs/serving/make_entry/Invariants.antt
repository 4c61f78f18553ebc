use Rattle.serve_dialogue.proofs.Common.{◌≡◌, ◌++◌, length, AreMarkedLines, backs_of}
use Rattle.serve_dialogue.proofs.NextTurns.{notices_of}
use Rattle.serve_dialogue.proofs.serving.make_entry.Given as goal

-- only sequences that have ended were told: the text has their notices; nothing was said, and no number drawn
abbrev pub invariant-loop-who : goal.invariant-loop-who
invariant-loop-who g l = record {
  core : l.core ≡ record l.fn.core { leaving = l.core.leaving };
  text : l.text.items ++ notices_of l.fn.seats.answers l.fn.core l.core.leaving ≡ backs_of l.fn.seats.answers l.fn.core.script l.fn.core.history;
  marked : AreMarkedLines l.text.items;
  client : l.client ≡ l.fn.client;
  words : l.words ≡ l.fn.words;
  seats : l.seats ≡ l.fn.seats;
}

-- one less is to be told
abbrev pub decreases-loop-who : goal.decreases-loop-who
decreases-loop-who g l = length l.core.leaving
