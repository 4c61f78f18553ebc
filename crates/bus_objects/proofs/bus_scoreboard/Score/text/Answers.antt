use Rattle.bus_objects.proofs.Common.{◌<◌, ◌^◌, rules, ◌∙◌, score_text}
use Rattle.bus_objects.proofs.Printed.{score_text-fits}
use Rattle.bus_objects.proofs.bus_scoreboard.Score.text.Goals as goal

pub returns : goal.returns
unfolding score_text
returns c =
    let seen : c.args.self.now.seen < 2 ^ 64 = search rules in
    let bad : c.args.self.now.bad < 2 ^ 64 = search rules in
    let is = c.as_str.ensures.value ∙ c.in_ok-text.ensures.ok in
    rw is at (c.lossy.ensures.same (rw is (score_text-fits c.args.self.now seen bad)))
