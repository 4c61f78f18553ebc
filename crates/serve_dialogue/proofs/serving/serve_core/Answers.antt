use Rattle.serve_dialogue.proofs.Common.{◌∙◌, List, ap, refl, rules, subst, sym, next_of, leaving_of, CoreValue, TypeValue, SeatsFollow, Grows, HasEndedRun}
use Rattle.serve_dialogue.proofs.ApartLines.{apart-none}
use Rattle.serve_dialogue.proofs.Begins.{drawn-none, no_log}
use Rattle.serve_dialogue.proofs.Grown.{apart_more, drawn_more, follow_answers, script_more, seated_more, served_whole, spoke_more, told_more}
use Rattle.serve_dialogue.proofs.serving.serve_core.Goals as goal

-- nothing has begun
pub loop-core-init : goal.loop-core-init
loop-core-init g c = record {
  good = c.requires.good;
  script = refl;
  nothing = c.requires.nothing;
  leaving = c.requires.all_told ∙ ap leaving_of (sym c.requires.begun);
  legal = search rules;
  drawn = rw c.requires.begun (drawn-none g.R.Rng.stream c.args.words.now);
  told = rw c.requires.begun tt;
  by_script = rw c.requires.begun tt;
  answers = refl;
  seated = λ who. c.requires.empty who ∙ rw c.requires.begun refl;
  talk = rw c.requires.begun (no_log g.C.Client.spoke g.C.Client.ended g.C.Client.line g.met.C.Client.silent c.args.seats.now.answers c.args.trace c.args.core.now.script c.args.client.now);
  apart = rw c.requires.begun apart-none;
  steady = λ refuses. refuses;
  readable = λ breaks. breaks;
}

-- one more entry
pub loop-core-preserved : goal.loop-core-preserved
loop-core-preserved g c =
    let inv = c.loop-core.invariant in
    let answers = c.args.seats.now.answers in
    let grows : Grows g.C.Client.spoke g.C.Client.ended g.C.Client.line answers c.loop-core.core c.make_entry.new.core c.loop-core.client c.make_entry.new.client c.make_entry.new.text.items =
    subst (λ (a : List TypeValue). Grows g.C.Client.spoke g.C.Client.ended g.C.Client.line a c.loop-core.core c.make_entry.new.core c.loop-core.client c.make_entry.new.client c.make_entry.new.text.items) inv.answers (rw c.if-branch.true at (c.in_ok-make_entry.ensures.ok)) in
    let follow : SeatsFollow c.loop-core.core.history (next_of c.loop-core.core.script c.loop-core.core.history) c.loop-core.seats c.make_entry.new.seats = rw c.if-branch.true at (c.in_ok-make_entry.ensures.seats) in
    record {
      good = ap (λ (k : CoreValue). k.health) grows.is ∙ inv.good;
      script = ap (λ (k : CoreValue). k.script) grows.is ∙ inv.script;
      nothing = ap (λ (k : CoreValue). k.standing) grows.is;
      leaving = ap (λ (k : CoreValue). k.leaving) grows.is ∙ sym (ap (λ (k : CoreValue). leaving_of k.history) grows.is);
      legal = c.tell_entry.ensures.legal;
      drawn = drawn_more g.R.Rng.stream c.loop-core.core c.make_entry.new.core grows.entry grows.is c.args.words.now c.loop-core.words c.make_entry.new.words inv.drawn (rw c.if-branch.true at (c.in_ok-make_entry.ensures.words));
      told = told_more g.C.Client.spoke g.C.Client.ended g.C.Client.line answers c.args.core.now.script c.args.trace c.loop-core.core c.make_entry.new.core inv.script _ _ _ grows inv.told;
      by_script = script_more g.C.Client.spoke g.C.Client.ended g.C.Client.line answers c.args.core.now.script c.args.trace c.loop-core.core c.make_entry.new.core inv.script _ _ _ grows inv.by_script;
      answers = follow_answers c.loop-core.core.history (next_of c.loop-core.core.script c.loop-core.core.history) c.loop-core.seats c.make_entry.new.seats follow ∙ inv.answers;
      seated = seated_more g.C.Client.spoke g.C.Client.ended g.C.Client.line answers c.args.core.now.script c.args.trace c.loop-core.core c.make_entry.new.core inv.script c.machine_entries_are_silent.ensures c.made_are_new.ensures c.others_make_nobody.ensures
          c.nobody_is_made_twice.ensures _ _ _ grows c.tell_entry.ensures.legal.each c.loop-core.seats c.make_entry.new.seats inv.answers inv.seated follow;
      talk = spoke_more g.C.Client.spoke g.C.Client.ended g.C.Client.line answers c.args.core.now.script c.args.trace c.loop-core.core c.make_entry.new.core inv.script g.met.C.Client.joined c.args.client.now _ _ _ _ grows c.in_ok-tell_entry.ensures.ok c.tell_entry.ensures.count inv.talk;
      apart = apart_more g.C.Client.spoke g.C.Client.ended g.C.Client.line answers c.args.core.now.script c.args.trace c.loop-core.core c.make_entry.new.core inv.script _ _ _ grows c.in_ok-tell_entry.ensures.time c.in_ok-tell_entry.ensures.plain inv.apart;
      steady = λ refuses. inv.steady (c.make_entry.ensures.may_refuse (c.tell_entry.ensures.may_refuse refuses));
      readable = λ breaks. inv.readable (c.make_entry.ensures.may_break (c.tell_entry.ensures.may_break breaks));
    }

-- the run is over
pub returns-clause-served : goal.returns-clause-served
returns-clause-served g c =
    let inv = c.loop-core.invariant in
    let answers = c.args.seats.now.answers in
    let ends : HasEndedRun g.C.Client.spoke g.C.Client.ended g.C.Client.line answers c.loop-core.core c.make_entry.new.core c.loop-core.client c.make_entry.new.client =
    subst (λ (a : List TypeValue). HasEndedRun g.C.Client.spoke g.C.Client.ended g.C.Client.line a c.loop-core.core c.make_entry.new.core c.loop-core.client c.make_entry.new.client) inv.answers (rw c.if-branch.false at (c.in_ok-make_entry.ensures.ok)) in
    served_whole g.C.Client.spoke g.C.Client.ended g.C.Client.line answers g.met.C.Client.joined (g.R.Rng.stream c.args.words.now) c.args.core.now.script c.args.trace c.loop-core.core c.make_entry.new.core c.args.client.now c.loop-core.client c.make_entry.new.client
    c.tell_summary.new.client c.run_result_of.result inv.script inv.legal inv.drawn.words inv.told inv.by_script inv.apart inv.talk.talk ends c.in_ok-tell_summary.ensures.ok c.in_ok-tell_summary.ensures.plain c.run_result_of.ensures
