use Rattle.serve_dialogue.proofs.Common.{◌∙◌, ap, inl, rules, Asked, CoreValue, Needed, SeatsValue}
use Rattle.serve_dialogue.proofs.Asks.{error_comes, memory_ran_out}
use Rattle.serve_dialogue.proofs.NextTurns.{asked_follow, asked_grows, asked_halts, asked_seated, asks, asks_next, leaver_left, moved_follow, moved_grows, needs, over_ends}
use Rattle.serve_dialogue.proofs.serving.make_entry.Goals as goal

pub returns-in-Ok-Moved-clause-ok : goal.returns-in-Ok-Moved-clause-ok
returns-in-Ok-Moved-clause-ok g c =
    let inv = c.loop-who.invariant in
    moved_grows g.C.Client.spoke g.C.Client.ended g.C.Client.line c.args.seats.now.answers c.args.core.now c.loop-who.core c.next.new.self c.args.client.now c.loop-who.client _ c.loop-who.text.items _ inv.core inv.text inv.marked inv.client c.requires.nothing
    (rw c.in-Ok-Moved.field-0-is at (c.in-Ok-Moved.ensures.turn)) c.in_ok-say-in-Ok-Moved.ensures.ok c.say-in-Ok-Moved.ensures.count c.in_ok-say-in-Ok-Moved.ensures.text

pub returns-in-Ok-Need-clause-ok : goal.returns-in-Ok-Need-clause-ok
returns-in-Ok-Need-clause-ok g c =
    let inv = c.loop-who.invariant in
    let needed = needs c.loop-who.core c.next.new.self (ap (λ (core : CoreValue). core.standing) inv.core ∙ c.requires.nothing) (rw c.in-Ok-Need.field-0-is at (c.in-Ok-Need.ensures.turn)) in
    asked_grows g.C.Client.spoke g.C.Client.ended g.C.Client.line c.args.seats.now.answers c.args.core.now c.loop-who.core c.next.new.self c.fill.new.core c.args.client.now c.loop-who.client _ _ (Needed needed.need) inv.core needed.is inv.client
    (rw inv.seats at (c.in_ok-fill-in-Ok-Need.ensures.ok))

pub ask-requires-clause-asked : goal.ask-requires-clause-asked
ask-requires-clause-asked g c =
    let inv = c.loop-who.invariant in
    asks_next c.in-Ok-Ask.who c.loop-who.core c.next.new.self (asks c.in-Ok-Ask.who c.loop-who.core c.next.new.self (ap (λ (core : CoreValue). core.standing) inv.core ∙ c.requires.nothing) (rw c.in-Ok-Ask.field-0-is at (c.in-Ok-Ask.ensures.turn)))

pub returns-in-Ok-Ask-clause-ok : goal.returns-in-Ok-Ask-clause-ok
returns-in-Ok-Ask-clause-ok g c =
    let inv = c.loop-who.invariant in
    let asked = asks c.in-Ok-Ask.who c.loop-who.core c.next.new.self (ap (λ (core : CoreValue). core.standing) inv.core ∙ c.requires.nothing) (rw c.in-Ok-Ask.field-0-is at (c.in-Ok-Ask.ensures.turn)) in
    asked_grows g.C.Client.spoke g.C.Client.ended g.C.Client.line c.args.seats.now.answers c.args.core.now c.loop-who.core c.next.new.self c.ask.new.core c.args.client.now c.loop-who.client _ _ (Asked c.in-Ok-Ask.who asked.call asked.origin) inv.core asked.is inv.client
    (rw inv.seats at (c.in_ok-ask-in-Ok-Ask.ensures.ok))

pub returns-in-Ok-Over-clause-ok : goal.returns-in-Ok-Over-clause-ok
returns-in-Ok-Over-clause-ok g c =
    let inv = c.loop-who.invariant in
    over_ends g.C.Client.spoke g.C.Client.ended g.C.Client.line c.args.seats.now.answers c.args.core.now c.loop-who.core c.next.new.self c.args.client.now c.loop-who.client _ c.loop-who.text.items inv.core inv.text inv.marked inv.client c.requires.nothing
    (rw c.in-Ok-Over.field-0-is at (c.in-Ok-Over.ensures.turn)) (search rules) c.in_ok-say-in-Ok-Over.ensures.ok

pub returns-in-Ok-Moved-clause-seats : goal.returns-in-Ok-Moved-clause-seats
returns-in-Ok-Moved-clause-seats g c =
    let inv = c.loop-who.invariant in
    moved_follow c.args.core.now c.loop-who.core c.next.new.self c.args.seats.now c.loop-who.seats inv.core c.requires.nothing (rw c.in-Ok-Moved.field-0-is at (c.in-Ok-Moved.ensures.turn)) inv.seats

pub returns-in-Ok-Need-clause-seats : goal.returns-in-Ok-Need-clause-seats
returns-in-Ok-Need-clause-seats g c =
    let inv = c.loop-who.invariant in
    let needed = needs c.loop-who.core c.next.new.self (ap (λ (core : CoreValue). core.standing) inv.core ∙ c.requires.nothing) (rw c.in-Ok-Need.field-0-is at (c.in-Ok-Need.ensures.turn)) in
    asked_follow c.args.core.now c.loop-who.core c.next.new.self (Needed needed.need) c.args.seats.now c.loop-who.seats c.fill.new.seats inv.core needed.is inv.seats c.in_ok-fill-in-Ok-Need.ensures.seats

pub returns-in-Ok-Ask-clause-seats : goal.returns-in-Ok-Ask-clause-seats
returns-in-Ok-Ask-clause-seats g c =
    let inv = c.loop-who.invariant in
    let asked = asks c.in-Ok-Ask.who c.loop-who.core c.next.new.self (ap (λ (core : CoreValue). core.standing) inv.core ∙ c.requires.nothing) (rw c.in-Ok-Ask.field-0-is at (c.in-Ok-Ask.ensures.turn)) in
    asked_follow c.args.core.now c.loop-who.core c.next.new.self (Asked c.in-Ok-Ask.who asked.call asked.origin) c.args.seats.now c.loop-who.seats c.ask.new.seats inv.core asked.is inv.seats c.in_ok-ask-in-Ok-Ask.ensures.seats

pub ask-requires-clause-seated : goal.ask-requires-clause-seated
ask-requires-clause-seated g c =
    let inv = c.loop-who.invariant in
    let asked = asks c.in-Ok-Ask.who c.loop-who.core c.next.new.self (ap (λ (core : CoreValue). core.standing) inv.core ∙ c.requires.nothing) (rw c.in-Ok-Ask.field-0-is at (c.in-Ok-Ask.ensures.turn)) in
    asked_seated c.args.core.now c.loop-who.core c.next.new.self (Asked c.in-Ok-Ask.who asked.call asked.origin) c.args.seats.now c.loop-who.seats inv.core asked.is inv.seats c.requires.seated

-- memory ran out at a notice
pub returns-in_err-push_back_of-in-Ok-Leave-clause-err : goal.returns-in_err-push_back_of-in-Ok-Leave-clause-err
returns-in_err-push_back_of-in-Ok-Leave-clause-err g c =
    let inv = c.loop-who.invariant in
    memory_ran_out c.from_residual.result _ c.from_residual.ensures.1 (
      λ going none. absurd (leaver_left c.args.seats.now.answers c.loop-who.seats.answers c.args.core.now c.loop-who.core c.next.new.self c.in-Ok-Leave.who c.loop-who.text.items (ap (λ (s : SeatsValue). s.answers) inv.seats) inv.core c.requires.nothing
          (rw c.in-Ok-Leave.field-0-is at (c.in-Ok-Leave.ensures.turn)) inv.text c.in_err-push_back_of-in-Ok-Leave.ensures.clients none),
      inl inv.client,
    )

-- no object came
pub returns-in_err-fill-in-Ok-Need-clause-err : goal.returns-in_err-fill-in-Ok-Need-clause-err
returns-in_err-fill-in-Ok-Need-clause-err g c =
    let inv = c.loop-who.invariant in
    let needed = needs c.loop-who.core c.next.new.self (ap (λ (core : CoreValue). core.standing) inv.core ∙ c.requires.nothing) (rw c.in-Ok-Need.field-0-is at (c.in-Ok-Need.ensures.turn)) in
    error_comes c.from_residual-in_err-fill-in-Ok-Need.result c.in_err-fill-in-Ok-Need.field-0.0 _ c.from_residual-in_err-fill-in-Ok-Need.ensures.1
    (asked_halts g.C.Client.spoke g.C.Client.ended g.C.Client.line c.args.seats.now.answers c.loop-who.seats.answers c.in_err-fill-in-Ok-Need.field-0.0 c.args.core.now c.loop-who.core c.next.new.self (Needed needed.need) c.args.client.now c.loop-who.client
    c.fill.new.client inv.core needed.is (ap (λ (s : SeatsValue). s.answers) inv.seats) inv.client c.in_err-fill-in-Ok-Need.ensures.err)
