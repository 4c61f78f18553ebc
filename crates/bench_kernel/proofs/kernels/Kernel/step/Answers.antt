use Rattle.bench_kernel.proofs.Common.{◌≡◌, ◌∙◌, Err, ap, refl, rules, sym, option_copied, Ask, Moved, Heard, Memory, Broken, all_held, held_in, paths_in, CoreValue, KernelValue, failed_of, false, Bool, None, IsSome, if◌then◌else◌, subst, need_of, IsBack, IsMoved, IsWaiting}
use Rattle.bench_core.specs.declared.cores.Turn.TheVariants.{Need, Over}
use Rattle.bench_kernel.proofs.Failing.{answered-goes, needs-open, refused-fails, unanswered-fails}
use Rattle.bench_kernel.proofs.Preserved.{asked-held, below, kept-failed, kept-heard, kept-moved, kept-needed, kept-told, kept-unanswered, leaver-ended, leaver-held}
use Rattle.bench_kernel.proofs.Seated.{nodes-asked, seated-asked, seated-later, seated-told}
use Rattle.bench_kernel.proofs.Sitting.{ended-sits, permuted-behind}
use Rattle.bench_kernel.proofs.Stepped.{answered-step, ask-turn, asked-log, asked-room, back-step, heard-is, leave-turn, moved-step, moved-turn, need-turn, needed-step, over-turn, refused-log, refused-step, refused-told, told-turn, unanswered-step, unheard-log}
use Rattle.bench_kernel.proofs.kernels.Kernel.step.Goals as goal

pub remove-object-requires : goal.remove-object-requires
remove-object-requires g c =
    let m = g.O.UvmObject in
    let k = c.self.inside in
    let kernel : KernelValue g.row.O.Denot = record { core = k.core; held = all_held k.seats.taken k.sequences.held; failed = failed_of k.abandoned k.unknown k.core.health; unknown = k.unknown } in
    let kept = c.self.invariant.0 in
    let going : kernel.failed ≡ false = ap (λ (kernel : KernelValue g.row.O.Denot). kernel.failed) c.self.view_is ∙ sym c.has_failed.ensures ∙ c.if-has_failed.false in
    let told = leave-turn c.in-Ok-Leave.who k.core c.next.new.self (rw c.in-Ok-Leave.field-0-is at (c.in-Ok-Leave.ensures.turn)) in
    ended-sits k.core.history c.in-Ok-Leave.who k.seats.taken k.sequences.held (leaver-ended m.view m.name m.says kernel c.in-Ok-Leave.who told.others told.told going kept)
    (leaver-held m.view m.name m.says kernel c.in-Ok-Leave.who told.others told.told going kept)

pub invariant_of-self : goal.invariant_of-self
invariant_of-self g c =
    let m = g.O.UvmObject in
    let k = c.self.inside in
    let kernel : KernelValue g.row.O.Denot = record { core = k.core; held = all_held k.seats.taken k.sequences.held; failed = failed_of k.abandoned k.unknown k.core.health; unknown = k.unknown } in
    let kept = c.self.invariant.0 in
    let going : kernel.failed ≡ false = ap (λ (kernel : KernelValue g.row.O.Denot). kernel.failed) c.self.view_is ∙ sym c.has_failed.ensures ∙ c.if-has_failed.false in
    let told = leave-turn c.in-Ok-Leave.who k.core c.next.new.self (rw c.in-Ok-Leave.field-0-is at (c.in-Ok-Leave.ensures.turn)) in
    let same = permuted-behind (held_in k.seats.taken) k.sequences.held c.remove-object.new.self.held (c.in-Ok-Leave.who, c.remove-object.result) c.remove-object.ensures.held in
    rw told.is (
      kept-told m.view m.name m.says kernel c.in-Ok-Leave.who told.others c.remove-object.result (all_held k.seats.taken c.remove-object.new.self.held) told.told going same kept,
      seated-told k.core.history (paths_in k.seats.taken) k.sequences.count c.remove-object.new.self.count (c.in-Ok-Leave.who, c.remove-object.result) k.sequences.held c.remove-object.new.self.held c.remove-object.ensures.count
          c.remove-object.ensures.without c.self.invariant.1,
    )

pub returns-in-Ok-Leave-clause-step : goal.returns-in-Ok-Leave-clause-step
returns-in-Ok-Leave-clause-step g c =
    let m = g.O.UvmObject in
    let k = c.self.inside in
    let kernel : KernelValue g.row.O.Denot = record { core = k.core; held = all_held k.seats.taken k.sequences.held; failed = failed_of k.abandoned k.unknown k.core.health; unknown = k.unknown } in
    let kept = c.self.invariant.0 in
    let going : kernel.failed ≡ false = ap (λ (kernel : KernelValue g.row.O.Denot). kernel.failed) c.self.view_is ∙ sym c.has_failed.ensures ∙ c.if-has_failed.false in
    let told = leave-turn c.in-Ok-Leave.who k.core c.next.new.self (rw c.in-Ok-Leave.field-0-is at (c.in-Ok-Leave.ensures.turn)) in
    let same = permuted-behind (held_in k.seats.taken) k.sequences.held c.remove-object.new.self.held (c.in-Ok-Leave.who, c.remove-object.result) c.remove-object.ensures.held in
    let held = all_held k.seats.taken c.remove-object.new.self.held in
    rw (← c.self.view_is) (
      going,
      subst (λ (failed : Bool). IsBack m.view m.name m.says c.in-Ok-Leave.who c.remove-object.result kernel (record { core = c.next.new.self; held = held; failed = failed; unknown = k.unknown })) (sym (ap (λ (core : CoreValue). failed_of k.abandoned k.unknown core.health) told.is))
          (back-step m.view m.name m.says kernel c.in-Ok-Leave.who c.remove-object.result c.next.new.self held told same),
    )

pub invariant_of-self-in-Ok-Need : goal.invariant_of-self-in-Ok-Need
invariant_of-self-in-Ok-Need g c =
    let m = g.O.UvmObject in
    let k = c.self.inside in
    let kernel : KernelValue g.row.O.Denot = record { core = k.core; held = all_held k.seats.taken k.sequences.held; failed = failed_of k.abandoned k.unknown k.core.health; unknown = k.unknown } in
    let kept = c.self.invariant.0 in
    let going : kernel.failed ≡ false = ap (λ (kernel : KernelValue g.row.O.Denot). kernel.failed) c.self.view_is ∙ sym c.has_failed.ensures ∙ c.if-has_failed.false in
    let told = told-turn Need k.core c.next.new.self tt (rw c.in-Ok-Need.field-0-is at (c.in-Ok-Need.ensures.turn)) in
    let needed = need-turn k.core c.next.new.self (kept.comes going) told.turn in
    rw needed.is (kept-needed m.view m.name m.says kernel needed.need needed.comes kept, c.self.invariant.1)

pub returns-in-Ok-Need-clause-step : goal.returns-in-Ok-Need-clause-step
returns-in-Ok-Need-clause-step g c =
    let m = g.O.UvmObject in
    let k = c.self.inside in
    let kernel : KernelValue g.row.O.Denot = record { core = k.core; held = all_held k.seats.taken k.sequences.held; failed = failed_of k.abandoned k.unknown k.core.health; unknown = k.unknown } in
    let kept = c.self.invariant.0 in
    let going : kernel.failed ≡ false = ap (λ (kernel : KernelValue g.row.O.Denot). kernel.failed) c.self.view_is ∙ sym c.has_failed.ensures ∙ c.if-has_failed.false in
    let told = told-turn Need k.core c.next.new.self tt (rw c.in-Ok-Need.field-0-is at (c.in-Ok-Need.ensures.turn)) in
    let needed = need-turn k.core c.next.new.self (kept.comes going) told.turn in
    let room = (rw c.in-Ok-Need.field-0-is at (c.in-Ok-Need.ensures.room)) tt in
    rw (← c.self.view_is)
    (record { going = going; told = told.told }, subst (λ (failed : Bool). IsWaiting m.view m.name m.says kernel (record kernel { core = c.next.new.self; failed = failed })) (sym (ap (λ (core : CoreValue). failed_of k.abandoned k.unknown core.health) needed.is)) (needed-step m.view m.name m.says kernel c.next.new.self room needed))

pub returns-in-Ok-Need-clause-needed : goal.returns-in-Ok-Need-clause-needed
returns-in-Ok-Need-clause-needed g c =
    let m = g.O.UvmObject in
    let k = c.self.inside in
    let kernel : KernelValue g.row.O.Denot = record { core = k.core; held = all_held k.seats.taken k.sequences.held; failed = failed_of k.abandoned k.unknown k.core.health; unknown = k.unknown } in
    let kept = c.self.invariant.0 in
    let going : kernel.failed ≡ false = ap (λ (kernel : KernelValue g.row.O.Denot). kernel.failed) c.self.view_is ∙ sym c.has_failed.ensures ∙ c.if-has_failed.false in
    let told = told-turn Need k.core c.next.new.self tt (rw c.in-Ok-Need.field-0-is at (c.in-Ok-Need.ensures.turn)) in
    let needed = need-turn k.core c.next.new.self (kept.comes going) told.turn in
    λ needs. subst (λ (core : CoreValue). IsSome (if failed_of k.abandoned k.unknown core.health then None else need_of core.standing)) (sym needed.is) (needs-open kernel.failed needed.need going)

pub hear-answer-requires-clause-sits : goal.hear-answer-requires-clause-sits
hear-answer-requires-clause-sits g c =
    let m = g.O.UvmObject in
    let k = c.self.inside in
    let kernel : KernelValue g.row.O.Denot = record { core = k.core; held = all_held k.seats.taken k.sequences.held; failed = failed_of k.abandoned k.unknown k.core.health; unknown = k.unknown } in
    let kept = c.self.invariant.0 in
    let going : kernel.failed ≡ false = ap (λ (kernel : KernelValue g.row.O.Denot). kernel.failed) c.self.view_is ∙ sym c.has_failed.ensures ∙ c.if-has_failed.false in
    let told = told-turn (Ask c.in-Ok-Ask.who) k.core c.next.new.self tt (rw c.in-Ok-Ask.field-0-is at (c.in-Ok-Ask.ensures.turn)) in
    let stands = sym c.call.ensures ∙ ap option_copied c.in-Some.is in
    let asks = ask-turn c.in-Ok-Ask.who c.in-Some.call.now k.core c.next.new.self (kept.comes going) told.turn stands in
    asked-held c.hold.ensures m.view m.name m.says kernel c.in-Ok-Ask.who c.in-Some.call.now asks.origin asks.answers going (rw c.in-Ok-Ask.field-0-is at (c.in-Ok-Ask.ensures.asked)) kept

pub invariant_of-self-in_default-answer : goal.invariant_of-self-in_default-answer
invariant_of-self-in_default-answer g c =
    let m = g.O.UvmObject in
    let k = c.self.inside in
    let kernel : KernelValue g.row.O.Denot = record { core = k.core; held = all_held k.seats.taken k.sequences.held; failed = failed_of k.abandoned k.unknown k.core.health; unknown = k.unknown } in
    let kept = c.self.invariant.0 in
    let going : kernel.failed ≡ false = ap (λ (kernel : KernelValue g.row.O.Denot). kernel.failed) c.self.view_is ∙ sym c.has_failed.ensures ∙ c.if-has_failed.false in
    let told = told-turn (Ask c.in-Ok-Ask.who) k.core c.next.new.self tt (rw c.in-Ok-Ask.field-0-is at (c.in-Ok-Ask.ensures.turn)) in
    let stands = sym c.call.ensures ∙ ap option_copied c.in-Some.is in
    let asks = ask-turn c.in-Ok-Ask.who c.in-Some.call.now k.core c.next.new.self (kept.comes going) told.turn stands in
    let same_log = asked-log c.in-Ok-Ask.who c.in-Some.call.now k.core c.next.new.self asks in (
      rw (unanswered-fails k.abandoned c.copy.result c.next.new.self.health) (kept-unanswered m.view m.name m.says kernel (all_held c.hear-answer.new.seats.taken c.hear-answer.new.sequences.held) c.next.new.self c.in-Ok-Ask.who c.copy.result c.in-Some.call.now c.hear-answer.result c.copy.ensures going same_log c.hear-answer.ensures.asked kept),
      rw same_log.history (seated-asked k.core.history (paths_in k.seats.taken) (paths_in c.hear-answer.new.seats.taken) k.sequences.count c.hear-answer.new.sequences.count k.sequences.held c.hear-answer.new.sequences.held c.hear-answer.ensures.paths c.hear-answer.ensures.count c.hear-answer.ensures.keys c.self.invariant.1),
    )

pub returns-in_default-answer-clause-step : goal.returns-in_default-answer-clause-step
returns-in_default-answer-clause-step g c =
    let m = g.O.UvmObject in
    let k = c.self.inside in
    let kernel : KernelValue g.row.O.Denot = record { core = k.core; held = all_held k.seats.taken k.sequences.held; failed = failed_of k.abandoned k.unknown k.core.health; unknown = k.unknown } in
    let kept = c.self.invariant.0 in
    let going : kernel.failed ≡ false = ap (λ (kernel : KernelValue g.row.O.Denot). kernel.failed) c.self.view_is ∙ sym c.has_failed.ensures ∙ c.if-has_failed.false in
    let told = told-turn (Ask c.in-Ok-Ask.who) k.core c.next.new.self tt (rw c.in-Ok-Ask.field-0-is at (c.in-Ok-Ask.ensures.turn)) in
    let stands = sym c.call.ensures ∙ ap option_copied c.in-Some.is in
    let asks = ask-turn c.in-Ok-Ask.who c.in-Some.call.now k.core c.next.new.self (kept.comes going) told.turn stands in
    let room = asked-room c.in-Ok-Ask.who c.in-Some.call.now k.core c.next.new.self asks ((rw c.in-Ok-Ask.field-0-is at (c.in-Ok-Ask.ensures.room)) tt) in
    rw (← c.self.view_is, unanswered-fails k.abandoned c.copy.result c.next.new.self.health)
    (unanswered-step m.view m.name m.says kernel c.next.new.self c.in-Ok-Ask.who c.copy.result c.in-Some.call.now asks.origin c.hear-answer.result (all_held c.hear-answer.new.seats.taken c.hear-answer.new.sequences.held) c.copy.ensures asks.answers asks.nothing_needed
    (record { going = going; told = told.told }) (asked-log c.in-Ok-Ask.who c.in-Some.call.now k.core c.next.new.self asks) (rw c.in_default-answer.is asks.is) room c.hear-answer.ensures.asked)

pub invariant_of-self-in_err-heard-in-Ok-Ask : goal.invariant_of-self-in_err-heard-in-Ok-Ask
invariant_of-self-in_err-heard-in-Ok-Ask g c =
    let m = g.O.UvmObject in
    let k = c.self.inside in
    let kernel : KernelValue g.row.O.Denot = record { core = k.core; held = all_held k.seats.taken k.sequences.held; failed = failed_of k.abandoned k.unknown k.core.health; unknown = k.unknown } in
    let kept = c.self.invariant.0 in
    let going : kernel.failed ≡ false = ap (λ (kernel : KernelValue g.row.O.Denot). kernel.failed) c.self.view_is ∙ sym c.has_failed.ensures ∙ c.if-has_failed.false in
    let told = told-turn (Ask c.in-Ok-Ask.who) k.core c.next.new.self tt (rw c.in-Ok-Ask.field-0-is at (c.in-Ok-Ask.ensures.turn)) in
    let stands = sym c.call.ensures ∙ ap option_copied c.in-Some.is in
    let asks = ask-turn c.in-Ok-Ask.who c.in-Some.call.now k.core c.next.new.self (kept.comes going) told.turn stands in
    let same_log = unheard-log c.in-Ok-Ask.who c.in-Some.call.now k.core c.next.new.self c.heard.new.self Broken asks c.in_err-heard-in-Ok-Ask.ensures.err.1 in (
      rw (unanswered-fails k.abandoned c.copy.result c.heard.new.self.health) (kept-unanswered m.view m.name m.says kernel (all_held c.hear-answer.new.seats.taken c.hear-answer.new.sequences.held) c.heard.new.self c.in-Ok-Ask.who c.copy.result c.in-Some.call.now c.hear-answer.result c.copy.ensures going same_log c.hear-answer.ensures.asked kept),
      rw same_log.history (seated-asked k.core.history (paths_in k.seats.taken) (paths_in c.hear-answer.new.seats.taken) k.sequences.count c.hear-answer.new.sequences.count k.sequences.held c.hear-answer.new.sequences.held c.hear-answer.ensures.paths c.hear-answer.ensures.count c.hear-answer.ensures.keys c.self.invariant.1),
    )

pub returns-in_err-heard-in-Ok-Ask-clause-step : goal.returns-in_err-heard-in-Ok-Ask-clause-step
returns-in_err-heard-in-Ok-Ask-clause-step g c =
    let m = g.O.UvmObject in
    let k = c.self.inside in
    let kernel : KernelValue g.row.O.Denot = record { core = k.core; held = all_held k.seats.taken k.sequences.held; failed = failed_of k.abandoned k.unknown k.core.health; unknown = k.unknown } in
    let kept = c.self.invariant.0 in
    let going : kernel.failed ≡ false = ap (λ (kernel : KernelValue g.row.O.Denot). kernel.failed) c.self.view_is ∙ sym c.has_failed.ensures ∙ c.if-has_failed.false in
    let told = told-turn (Ask c.in-Ok-Ask.who) k.core c.next.new.self tt (rw c.in-Ok-Ask.field-0-is at (c.in-Ok-Ask.ensures.turn)) in
    let stands = sym c.call.ensures ∙ ap option_copied c.in-Some.is in
    let asks = ask-turn c.in-Ok-Ask.who c.in-Some.call.now k.core c.next.new.self (kept.comes going) told.turn stands in
    let same_log = unheard-log c.in-Ok-Ask.who c.in-Some.call.now k.core c.next.new.self c.heard.new.self Broken asks c.in_err-heard-in-Ok-Ask.ensures.err.1 in
    let refused = c.in_err-heard-in-Ok-Ask.ensures.err in
    let room = asked-room c.in-Ok-Ask.who c.in-Some.call.now k.core c.next.new.self asks ((rw c.in-Ok-Ask.field-0-is at (c.in-Ok-Ask.ensures.room)) tt) in
    let result : c.from_residual.result ≡ Err Memory = search rules in
    rw (← c.self.view_is, result, unanswered-fails k.abandoned c.copy.result c.heard.new.self.health)
    (unanswered-step m.view m.name m.says kernel c.heard.new.self c.in-Ok-Ask.who c.copy.result c.in-Some.call.now asks.origin c.hear-answer.result (all_held c.hear-answer.new.seats.taken c.hear-answer.new.sequences.held) c.copy.ensures asks.answers asks.nothing_needed
    (record { going = going; told = told.told }) same_log (rw c.in-Ok.is (refused.1 ∙ rw asks.is refl)) room c.hear-answer.ensures.asked)

pub invariant_of-self-in-Ok-Ask : goal.invariant_of-self-in-Ok-Ask
invariant_of-self-in-Ok-Ask g c =
    let m = g.O.UvmObject in
    let k = c.self.inside in
    let kernel : KernelValue g.row.O.Denot = record { core = k.core; held = all_held k.seats.taken k.sequences.held; failed = failed_of k.abandoned k.unknown k.core.health; unknown = k.unknown } in
    let kept = c.self.invariant.0 in
    let going : kernel.failed ≡ false = ap (λ (kernel : KernelValue g.row.O.Denot). kernel.failed) c.self.view_is ∙ sym c.has_failed.ensures ∙ c.if-has_failed.false in
    let told = told-turn (Ask c.in-Ok-Ask.who) k.core c.next.new.self tt (rw c.in-Ok-Ask.field-0-is at (c.in-Ok-Ask.ensures.turn)) in
    let stands = sym c.call.ensures ∙ ap option_copied c.in-Some.is in
    let asks = ask-turn c.in-Ok-Ask.who c.in-Some.call.now k.core c.next.new.self (kept.comes going) told.turn stands in
    let is = heard-is c.in-Ok-Ask.who c.in-Some.call.now c.in-Ok.acts k.core c.next.new.self c.heard.new.self asks c.in_ok-heard-in-Ok-Ask.ensures.ok in
    let under = nodes-asked k.core.history (paths_in k.seats.taken) (paths_in c.hear-answer.new.seats.taken) c.hear-answer.ensures.paths (below c.hold.ensures m.view m.name m.says kernel k.seats.taken k.sequences.held refl kept) in (
      rw (answered-goes k.abandoned k.unknown k.core.health c.heard.new.self.health going (ap (λ (core : CoreValue). core.health) is)) (kept-heard c.hold.ensures m.view m.name m.says kernel c.heard.new.self (all_held c.hear-answer.new.seats.taken c.hear-answer.new.sequences.held) c.in-Ok-Ask.who c.in-Some.call.now asks.origin c.in-Ok.acts asks.answers going is c.in-Ok.ensures.asked kept),
      rw is (seated-later c.hold.ensures k.core.history (Heard c.in-Ok-Ask.who asks.origin c.in-Some.call.now c.in-Ok.acts) (paths_in c.hear-answer.new.seats.taken) c.hear-answer.new.sequences.count c.hear-answer.new.sequences.held refl under
          (seated-asked k.core.history (paths_in k.seats.taken) (paths_in c.hear-answer.new.seats.taken) k.sequences.count c.hear-answer.new.sequences.count k.sequences.held c.hear-answer.new.sequences.held c.hear-answer.ensures.paths c.hear-answer.ensures.count c.hear-answer.ensures.keys c.self.invariant.1)),
    )

pub returns-in_ok-heard-in-Ok-Ask-clause-step : goal.returns-in_ok-heard-in-Ok-Ask-clause-step
returns-in_ok-heard-in-Ok-Ask-clause-step g c =
    let m = g.O.UvmObject in
    let k = c.self.inside in
    let kernel : KernelValue g.row.O.Denot = record { core = k.core; held = all_held k.seats.taken k.sequences.held; failed = failed_of k.abandoned k.unknown k.core.health; unknown = k.unknown } in
    let kept = c.self.invariant.0 in
    let going : kernel.failed ≡ false = ap (λ (kernel : KernelValue g.row.O.Denot). kernel.failed) c.self.view_is ∙ sym c.has_failed.ensures ∙ c.if-has_failed.false in
    let told = told-turn (Ask c.in-Ok-Ask.who) k.core c.next.new.self tt (rw c.in-Ok-Ask.field-0-is at (c.in-Ok-Ask.ensures.turn)) in
    let stands = sym c.call.ensures ∙ ap option_copied c.in-Some.is in
    let asks = ask-turn c.in-Ok-Ask.who c.in-Some.call.now k.core c.next.new.self (kept.comes going) told.turn stands in
    let is = heard-is c.in-Ok-Ask.who c.in-Some.call.now c.in-Ok.acts k.core c.next.new.self c.heard.new.self asks c.in_ok-heard-in-Ok-Ask.ensures.ok in
    rw (← c.self.view_is, answered-goes k.abandoned k.unknown k.core.health c.heard.new.self.health going (ap (λ (core : CoreValue). core.health) is)) (
      record { going = going; told = told.told },
      answered-step m.view m.name m.says kernel c.heard.new.self (all_held c.hear-answer.new.seats.taken c.hear-answer.new.sequences.held) c.in-Ok-Ask.who c.in-Some.call.now asks.origin c.in-Ok.acts asks.answers going (kept.known going) is c.in-Ok.ensures.asked,
    )

pub invariant_of-self-in-Ok-Moved : goal.invariant_of-self-in-Ok-Moved
invariant_of-self-in-Ok-Moved g c =
    let m = g.O.UvmObject in
    let k = c.self.inside in
    let kernel : KernelValue g.row.O.Denot = record { core = k.core; held = all_held k.seats.taken k.sequences.held; failed = failed_of k.abandoned k.unknown k.core.health; unknown = k.unknown } in
    let kept = c.self.invariant.0 in
    let going : kernel.failed ≡ false = ap (λ (kernel : KernelValue g.row.O.Denot). kernel.failed) c.self.view_is ∙ sym c.has_failed.ensures ∙ c.if-has_failed.false in
    let told = told-turn Moved k.core c.next.new.self tt (rw c.in-Ok-Moved.field-0-is at (c.in-Ok-Moved.ensures.turn)) in
    let moved = moved-turn c.hold.ensures.silent k.core c.next.new.self told.turn in
    let under = below c.hold.ensures m.view m.name m.says kernel k.seats.taken k.sequences.held refl kept in
    rw moved.is (
      kept-moved c.hold.ensures m.view m.name m.says kernel moved.entry moved.next moved.something moved.machines going kept,
      seated-later c.hold.ensures k.core.history moved.entry (paths_in k.seats.taken) k.sequences.count k.sequences.held moved.machines.starts_none under c.self.invariant.1,
    )

pub returns-in-Ok-Moved-clause-step : goal.returns-in-Ok-Moved-clause-step
returns-in-Ok-Moved-clause-step g c =
    let m = g.O.UvmObject in
    let k = c.self.inside in
    let kernel : KernelValue g.row.O.Denot = record { core = k.core; held = all_held k.seats.taken k.sequences.held; failed = failed_of k.abandoned k.unknown k.core.health; unknown = k.unknown } in
    let kept = c.self.invariant.0 in
    let going : kernel.failed ≡ false = ap (λ (kernel : KernelValue g.row.O.Denot). kernel.failed) c.self.view_is ∙ sym c.has_failed.ensures ∙ c.if-has_failed.false in
    let told = told-turn Moved k.core c.next.new.self tt (rw c.in-Ok-Moved.field-0-is at (c.in-Ok-Moved.ensures.turn)) in
    let moved = moved-turn c.hold.ensures.silent k.core c.next.new.self told.turn in
    rw (← c.self.view_is)
    (record { going = going; told = told.told }, subst (λ (failed : Bool). IsMoved m.view m.name m.says kernel (record kernel { core = c.next.new.self; failed = failed })) (sym (ap (λ (core : CoreValue). failed_of k.abandoned k.unknown core.health) moved.is)) (moved-step m.view m.name m.says kernel c.next.new.self moved))

pub invariant_of-self-in-Ok-Over : goal.invariant_of-self-in-Ok-Over
invariant_of-self-in-Ok-Over g c =
    let m = g.O.UvmObject in
    let k = c.self.inside in
    let kernel : KernelValue g.row.O.Denot = record { core = k.core; held = all_held k.seats.taken k.sequences.held; failed = failed_of k.abandoned k.unknown k.core.health; unknown = k.unknown } in
    let kept = c.self.invariant.0 in
    let told = told-turn Over k.core c.next.new.self tt (rw c.in-Ok-Over.field-0-is at (c.in-Ok-Over.ensures.turn)) in
    let over = over-turn k.core c.next.new.self told.turn in
    rw over c.self.invariant

pub returns-in-Ok-Over-clause-step : goal.returns-in-Ok-Over-clause-step
returns-in-Ok-Over-clause-step g c =
    let m = g.O.UvmObject in
    let k = c.self.inside in
    let kernel : KernelValue g.row.O.Denot = record { core = k.core; held = all_held k.seats.taken k.sequences.held; failed = failed_of k.abandoned k.unknown k.core.health; unknown = k.unknown } in
    let kept = c.self.invariant.0 in
    let going : kernel.failed ≡ false = ap (λ (kernel : KernelValue g.row.O.Denot). kernel.failed) c.self.view_is ∙ sym c.has_failed.ensures ∙ c.if-has_failed.false in
    let told = told-turn Over k.core c.next.new.self tt (rw c.in-Ok-Over.field-0-is at (c.in-Ok-Over.ensures.turn)) in
    let over = over-turn k.core c.next.new.self told.turn in
    let is_over = (rw c.in-Ok-Over.field-0-is at (c.in-Ok-Over.ensures.over)) refl in
    rw (← c.self.view_is) (record { going = going; told = told.told }, rw over at is_over, rw over refl)

pub invariant_of-self-in-Err : goal.invariant_of-self-in-Err
invariant_of-self-in-Err g c =
    let m = g.O.UvmObject in
    let k = c.self.inside in
    let kernel : KernelValue g.row.O.Denot = record { core = k.core; held = all_held k.seats.taken k.sequences.held; failed = failed_of k.abandoned k.unknown k.core.health; unknown = k.unknown } in
    let kept = c.self.invariant.0 in
    let going : kernel.failed ≡ false = ap (λ (kernel : KernelValue g.row.O.Denot). kernel.failed) c.self.view_is ∙ sym c.has_failed.ensures ∙ c.if-has_failed.false in
    let told = refused-told c.in-Err.fault k.core c.next.new.self c.in-Err.ensures.turn in
    let same_log = refused-log c.in-Err.fault k.core c.next.new.self told.turn in (
      rw (refused-fails k.abandoned k.unknown c.in-Err.fault k.core c.next.new.self (kept.good going) told.turn) (kept-failed m.view m.name m.says kernel c.next.new.self same_log kept),
      rw same_log.history c.self.invariant.1,
    )

pub returns-in-Err-clause-step : goal.returns-in-Err-clause-step
returns-in-Err-clause-step g c =
    let m = g.O.UvmObject in
    let k = c.self.inside in
    let kernel : KernelValue g.row.O.Denot = record { core = k.core; held = all_held k.seats.taken k.sequences.held; failed = failed_of k.abandoned k.unknown k.core.health; unknown = k.unknown } in
    let kept = c.self.invariant.0 in
    let going : kernel.failed ≡ false = ap (λ (kernel : KernelValue g.row.O.Denot). kernel.failed) c.self.view_is ∙ sym c.has_failed.ensures ∙ c.if-has_failed.false in
    let told = refused-told c.in-Err.fault k.core c.next.new.self c.in-Err.ensures.turn in
    rw (← c.self.view_is, refused-fails k.abandoned k.unknown c.in-Err.fault k.core c.next.new.self (kept.good going) told.turn) (refused-step m.view m.name m.says c.in-Err.fault kernel c.next.new.self (record { going = going; told = told.told }) (kept.good going) told.turn)
