use Rattle.script_objects.proofs.Common.{◌≡◌, drop, enumerate_from, filter_map, zip, answer_at, answers_to}
use Rattle.script_objects.proofs.objects.Scripted.answer.Given as goal

-- no rule before the place has an answer
abbrev pub invariant-loop-place : goal.invariant-loop-place
invariant-loop-place l =
    answers_to l.self.rules l.self.used l.line l.has_item
    ≡ filter_map (answer_at l.line l.has_item) (enumerate_from l.place (zip (drop l.place l.self.rules) (drop l.place l.self.used)))
