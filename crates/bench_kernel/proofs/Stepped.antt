-- What a turn of the machine makes of a step.
use Rattle.bench_kernel.proofs.Common.{◌≡◌, ◌∙◌, ℕ, true, false, List, [], ◌∷◌, ◌<◌, length, Option, Some, None, Result, Ok, Err, inl, inr, refl, sym, ap, subst, IsPermutation, AllocError, Origin, View, Says, Who, Call, Act, Entry, Granted, Heard, log_limit, IsNext, next_of, IsMachines, IsSomething, MachineEntriesAreSilent, Standing, Needed, Asked, Health, Good, CoreFault, Memory, LogFull, Failed, NoTest, CoreValue, IsTurn, IsNextTurn, IsRefusedTurn, IsToldTurn, IsAskedNext, call_of, core_after, answer_in, failed_from, need_of, KernelValue, IsAsked, IsBack, IsReady, IsWaiting, IsMoved, IsRefusedStep, IsSameLog, WasGiven, unanswered_from, IfSome, Need, Nothing}
use Rattle.uvm_object.specs.declared.entries.Grant.{Grant}
use Rattle.bench_history.specs.Cases as next
use Rattle.bench_history.specs.Next as coming
use Rattle.bench_core.specs.declared.cores.Turn as turn
use Rattle.bench_kernel.proofs.Lives.{same_who-self}

-- the machine tells no component or sequence that has ended
abbrev pub TellsNone : turn.Turn → Type 0
TellsNone (turn.TheVariants.Leave who) = ⊥
TellsNone turn = Unit {0}

-- then all were told, and what stands, or comes next, is done
pub record IsTold (result : Result turn.Turn CoreFault) (old new : CoreValue) : Type 0 where
  pub told : old.leaving ≡ []
  pub turn : IsNextTurn old.standing result old new

told-by : (leaving : List Who) (result : turn.Turn) (old new : CoreValue) → old.leaving ≡ leaving → TellsNone result → IsToldTurn leaving (Ok result) old new → IsTold (Ok result) old new
told-by [] result old new is tells t = record { told = is; turn = t }
told-by (who ∷ others) result old new is tells t = absurd (let e : result ≡ turn.TheVariants.Leave who = let same = t.0 in cc in subst TellsNone e tells)

pub told-turn : (result : turn.Turn) (old new : CoreValue) → TellsNone result → IsToldTurn old.leaving (Ok result) old new → IsTold (Ok result) old new
told-turn result old new tells t = told-by old.leaving result old new refl tells t

refused-told-by : (leaving : List Who) (fault : CoreFault) (old new : CoreValue) → old.leaving ≡ leaving → IsToldTurn leaving (Err fault) old new → IsTold (Err fault) old new
refused-told-by [] fault old new is t = record { told = is; turn = t }
refused-told-by (who ∷ others) fault old new is t = absurd (let e = t.0 in cc)

pub refused-told : (fault : CoreFault) (old new : CoreValue) → IsToldTurn old.leaving (Err fault) old new → IsTold (Err fault) old new
refused-told fault old new t = refused-told-by old.leaving fault old new refl t

-- or a component or sequence is told, and nothing else changes
pub record HasTold (who : Who) (old new : CoreValue) : Type 0 where
  pub others : List Who
  pub told : old.leaving ≡ who ∷ others
  pub is : new ≡ record old { leaving = others }

no-leave : (comes : next.Next) (who : Who) (old new : CoreValue) → IsTurn comes (turn.TheVariants.Leave who) old new → ⊥
no-leave (next.Exactly entry) who old new t = let e = t.0 in cc
no-leave (next.Answer performer call origin) who old new t = let e = t.0 in cc
no-leave (next.Need need made performer act) who old new t = let e = t.0 in cc
no-leave (next.Grant sequencer drawn chosen) who old new t = let e = t.0 in cc
no-leave next.Nothing who old new t = let e = t.0 in cc

no-leave-at : (standing : Standing) (who : Who) (old new : CoreValue) → IsNextTurn standing (Ok (turn.TheVariants.Leave who)) old new → ⊥
no-leave-at Nothing who old new t = no-leave (next_of old.script old.history) who old new t.1
no-leave-at (Needed need) who old new t = let e = t.0 in cc
no-leave-at (Asked performer call origin) who old new t = let e = t.0 in cc

leave-by : (leaving : List Who) (who : Who) (old new : CoreValue) → old.leaving ≡ leaving → IsToldTurn leaving (Ok (turn.TheVariants.Leave who)) old new → HasTold who old new
leave-by [] who old new is t = absurd (no-leave-at old.standing who old new t)
leave-by (first ∷ others) who old new is t =
    let same : first ≡ who = let e = t.0 in cc in
    record { others = others; told = is ∙ ap (λ w. w ∷ others) same; is = t.1 }

pub leave-turn : (who : Who) (old new : CoreValue) → IsToldTurn old.leaving (Ok (turn.TheVariants.Leave who)) old new → HasTold who old new
leave-turn who old new t = leave-by old.leaving who old new refl t

-- the machine made an entry of its own, or that of an act: what could come
pub record HasMoved (old new : CoreValue) : Type 0 where
  pub entry : Entry
  pub next : IsNext old.script old.history entry
  pub something : IsSomething (next_of old.script old.history)
  pub unneeded : coming.need_in (next_of old.script old.history) ≡ None
  pub machines : IsMachines old.history entry
  pub is : new ≡ core_after entry old

granted-machines : (history : List Entry) (sequencer : ℕ) (grant : Grant) → IsMachines history (Granted sequencer grant)
granted-machines history sequencer grant = record { silent = λ hearer. refl; keeps = refl; starts_none = refl }

moved-by : MachineEntriesAreSilent → (comes : next.Next) (old new : CoreValue) → next_of old.script old.history ≡ comes → IsTurn comes turn.TheVariants.Moved old new → HasMoved old new
moved-by silent (next.Exactly entry) old new exact t =
    record { entry = entry; next = rw exact refl; something = rw exact tt; unneeded = rw exact refl; machines = silent old.script old.history entry exact; is = t.1 }
moved-by silent (next.Grant sequencer drawn chosen) old new comes t = granted t.1 t.2 t.3
  where
    granted : (entry : Entry) → coming.Allows (next.Grant sequencer drawn chosen) entry → new ≡ core_after entry old → HasMoved old new
    granted entry allowed is =
        record { entry = entry; next = rw comes allowed; something = rw comes tt; unneeded = rw comes refl; machines = subst (λ (e : Entry). IsMachines old.history e) (sym allowed.3) (granted-machines old.history sequencer allowed.0); is = is }
moved-by silent (next.Answer performer call origin) old new exact t = absurd (let e = t.0 in cc)
moved-by silent (next.Need need made performer act) old new exact t = absurd (let e = t.0 in cc)
moved-by silent next.Nothing old new exact t = absurd (let e = t.0 in cc)

moved-at : MachineEntriesAreSilent → (standing : Standing) (old new : CoreValue) → IsNextTurn standing (Ok turn.TheVariants.Moved) old new → HasMoved old new
moved-at silent Nothing old new t = moved-by silent (next_of old.script old.history) old new refl t.1
moved-at silent (Needed need) old new t = absurd (let e = t.0 in cc)
moved-at silent (Asked performer call origin) old new t = absurd (let e = t.0 in cc)

pub moved-turn : MachineEntriesAreSilent → (old new : CoreValue) → IsNextTurn old.standing (Ok turn.TheVariants.Moved) old new → HasMoved old new
moved-turn silent old new t = moved-at silent old.standing old new t

-- the machine asks for the object that is needed next: nothing else changes
pub record HasNeeded (old new : CoreValue) : Type 0 where
  pub need : Need
  pub is : new ≡ record old { standing = Needed need }
  pub comes : coming.need_in (next_of old.script old.history) ≡ Some need

need-by : (comes : next.Next) (old new : CoreValue) → next_of old.script old.history ≡ comes → IsTurn comes turn.TheVariants.Need old new → HasNeeded old new
need-by (next.Exactly entry) old new is t = absurd (let e = t.0 in cc)
need-by (next.Answer performer call origin) old new is t = absurd (let e = t.0 in cc)
need-by (next.Grant sequencer drawn chosen) old new is t = absurd (let e = t.0 in cc)
need-by (next.Need need made performer act) old new is t = record { need = need; is = t.1; comes = rw is refl }
need-by next.Nothing old new is t = absurd (let e = t.0 in cc)

need-at : (standing : Standing) (old new : CoreValue) → old.standing ≡ standing → IsAskedNext standing (next_of old.script old.history) → IsNextTurn standing (Ok turn.TheVariants.Need) old new → HasNeeded old new
need-at Nothing old new is comes t = need-by (next_of old.script old.history) old new refl t.1
need-at (Needed need) old new is comes t = record { need = need; is = t.1 ∙ ap (λ s. record old { standing = s }) is; comes = comes }
need-at (Asked performer call origin) old new is comes t = absurd (let e = t.0 in cc)

pub need-turn : (old new : CoreValue) → IsAskedNext old.standing (next_of old.script old.history) → IsNextTurn old.standing (Ok turn.TheVariants.Need) old new → HasNeeded old new
need-turn old new comes t = need-at old.standing old new refl comes t

-- the run is over: nothing changes
over-by : (comes : next.Next) (old new : CoreValue) → IsTurn comes turn.TheVariants.Over old new → new ≡ old
over-by (next.Exactly entry) old new t = absurd (let e = t.0 in cc)
over-by (next.Answer performer call origin) old new t = absurd (let e = t.0 in cc)
over-by (next.Grant sequencer drawn chosen) old new t = absurd (let e = t.0 in cc)
over-by (next.Need need made performer act) old new t = absurd (let e = t.0 in cc)
over-by next.Nothing old new t = t.1

over-at : (standing : Standing) (old new : CoreValue) → IsNextTurn standing (Ok turn.TheVariants.Over) old new → new ≡ old
over-at Nothing old new t = over-by (next_of old.script old.history) old new t.1
over-at (Needed need) old new t = absurd (let e = t.0 in cc)
over-at (Asked performer call origin) old new t = absurd (let e = t.0 in cc)

pub over-turn : (old new : CoreValue) → IsNextTurn old.standing (Ok turn.TheVariants.Over) old new → new ≡ old
over-turn old new t = over-at old.standing old new t

-- a component or sequence is asked, whose answer comes next, and no object was needed
pub record HasAsked (performer : Who) (call : Call) (old new : CoreValue) : Type 0 where
  pub origin : Option Origin
  pub is : new ≡ record old { standing = Asked performer call origin }
  pub answers : next_of old.script old.history ≡ next.Answer performer call origin
  pub nothing_needed : need_of old.standing ≡ None

-- who is asked, and the call that stands
ask-by : (comes : next.Next) (performer : Who) (call : Call) (old new : CoreValue) → next_of old.script old.history ≡ comes → old.standing ≡ Nothing
    → IsTurn comes (turn.TheVariants.Ask performer) old new → call_of new.standing ≡ Some call → HasAsked performer call old new
ask-by (next.Exactly entry) performer call old new comes none t stands = absurd (let e = t.0 in cc)
ask-by (next.Answer other told origin) performer call old new comes none t stands =
    let same_who : other ≡ performer = let e = t.0 in cc in
    let same_call : told ≡ call = let e = rw t.1 at stands in cc in
    record {
      origin = origin;
      is = t.1 ∙ ap (λ w. record old { standing = Asked w told origin }) same_who ∙ ap (λ c. record old { standing = Asked performer c origin }) same_call;
      answers = comes ∙ ap (λ w. next.Answer w told origin) same_who ∙ ap (λ c. next.Answer performer c origin) same_call;
      nothing_needed = rw none refl;
    }
ask-by (next.Grant sequencer drawn chosen) performer call old new comes none t stands = absurd (let e = t.0 in cc)
ask-by (next.Need need made other act) performer call old new comes none t stands = absurd (let e = t.0 in cc)
ask-by next.Nothing performer call old new comes none t stands = absurd (let e = t.0 in cc)

ask-at : (standing : Standing) (performer : Who) (call : Call) (old new : CoreValue) → old.standing ≡ standing → IsAskedNext standing (next_of old.script old.history)
    → IsNextTurn standing (Ok (turn.TheVariants.Ask performer)) old new → call_of new.standing ≡ Some call → HasAsked performer call old new
ask-at Nothing performer call old new is comes t stands = ask-by (next_of old.script old.history) performer call old new refl is t.1 stands
ask-at (Needed need) performer call old new is comes t stands = absurd (let e = t.0 in cc)
ask-at (Asked other told origin) performer call old new is comes t stands =
    let same_who : other ≡ performer = let e = t.0 in cc in
    let same_call : told ≡ call = let e = rw (t.1, is) at stands in cc in
    record {
      origin = origin;
      is =
          t.1 ∙ ap (λ s. record old { standing = s }) is ∙ ap (λ w. record old { standing = Asked w told origin }) same_who
          ∙ ap (λ c. record old { standing = Asked performer c origin }) same_call;
      answers = comes ∙ ap (λ w. next.Answer w told origin) same_who ∙ ap (λ c. next.Answer performer c origin) same_call;
      nothing_needed = rw is refl;
    }

pub ask-turn : (performer : Who) (call : Call) (old new : CoreValue) → IsAskedNext old.standing (next_of old.script old.history)
    → IsNextTurn old.standing (Ok (turn.TheVariants.Ask performer)) old new → call_of new.standing ≡ Some call → HasAsked performer call old new
ask-turn performer call old new comes t stands = ask-at old.standing performer call old new refl comes t stands

-- for which there is room
pub asked-room : (performer : Who) (call : Call) (old asking : CoreValue) → HasAsked performer call old asking → length asking.history < log_limit asking.script → length old.history < log_limit old.script
asked-room performer call old asking asks room = rw asks.is at room

-- its answer goes into the log, or the log stays
pub heard-is : (performer : Who) (call : Call) (acts : List Act) (old asking new : CoreValue) (asks : HasAsked performer call old asking)
    → IfSome (answer_in asking.standing acts) (λ entry. new ≡ core_after entry asking) → new ≡ core_after (Heard performer asks.origin call acts) old
heard-is performer call acts old asking new asks heard =
    subst (λ (p : CoreValue). IfSome (answer_in p.standing acts) (λ entry. new ≡ core_after entry p)) asks.is heard

pub asked-log : (performer : Who) (call : Call) (old asking : CoreValue) → HasAsked performer call old asking → IsSameLog old asking
asked-log performer call old asking asks = rw asks.is (record { script = refl; history = refl })

pub unheard-log : (performer : Who) (call : Call) (old asking new : CoreValue) (health : Health) → HasAsked performer call old asking → new ≡ failed_from health asking → IsSameLog old new
unheard-log performer call old asking new health asks failed =
    rw (failed, asks.is) (record { script = refl; history = refl })

module _ {O : Type 0} (view : O → View) (name : O → List ℕ) (says : O → Says) where
  -- an entry of the machine is not an answer
  given-machines : (history : List Entry) (entry : Entry) (held : List (Who × O)) → IsMachines history entry → WasGiven view name says entry held held
  given-machines history (Heard performer origin call acts) held machines =
      absurd (let nothing = machines.silent performer in
      let bad : (call, acts) ∷ [] ≡ [] = rw (same_who-self performer) at nothing in cc)
  given-machines history entry held machines = refl

  -- the object of one that has ended was given back
  pub back-step : (kernel : KernelValue O) (who : Who) (object : O) (new : CoreValue) (held : List (Who × O)) → HasTold who kernel.core new → IsPermutation ((who, object) ∷ held) kernel.held
      → IsBack view name says who object kernel (record kernel { core = new; held = held })
  back-step kernel who object new held told same =
      let leaves : new.leaving ≡ told.others = rw told.is refl in
      record {
        told = told.told ∙ ap (λ others. who ∷ others) (sym leaves);
        held = same;
        is = ap (λ (c : CoreValue). record kernel { core = c; held = held }) (told.is ∙ ap (λ l. record kernel.core { leaving = l }) (sym leaves));
      }

  pub needed-step : (kernel : KernelValue O) (new : CoreValue) → length new.history < log_limit new.script → HasNeeded kernel.core new → IsWaiting view name says kernel (record kernel { core = new })
  needed-step kernel new room needed = record { room = rw needed.is at room; need = needed.need; next = needed.comes; is = rw needed.is refl }

  pub moved-step : (kernel : KernelValue O) (new : CoreValue) (moved : HasMoved kernel.core new) → IsMoved view name says kernel (record kernel { core = new })
  moved-step kernel new moved = record {
    unneeded = moved.unneeded;
    entry = moved.entry;
    next = moved.next;
    given = given-machines kernel.core.history moved.entry kernel.held moved.machines;
    is = rw moved.is refl;
  }

  -- an object was asked, and its answer went into the log
  pub answered-step : (kernel : KernelValue O) (core : CoreValue) (held : List (Who × O)) (performer : Who) (call : Call) (origin : Option Origin) (acts : List Act)
      → next_of kernel.core.script kernel.core.history ≡ next.Answer performer call origin → kernel.failed ≡ false → kernel.unknown ≡ None → core ≡ core_after (Heard performer origin call acts) kernel.core
      → IsAsked view name says performer call (Ok acts) kernel.held held
      → IsMoved view name says kernel (record { core = core; held = held; failed = false; unknown = None })
  answered-step kernel core held performer call origin acts answers going known is asked = record {
    unneeded = rw answers refl;
    entry = Heard performer origin call acts;
    next = rw answers (acts, refl);
    given = asked;
    is = rw (is, going, known) refl;
  }

  -- the machine refuses
  refused-by : (fault : CoreFault) (kernel : KernelValue O) (new : CoreValue) → IsReady view name says kernel → kernel.core.health ≡ Good → kernel.core.standing ≡ Nothing → IsRefusedTurn fault kernel.core new
      → IsRefusedStep view name says fault kernel (record kernel { core = new; failed = true })
  refused-by Memory kernel new ready good none t = (
    record { ready = ready; some = t.2; nothing_needed = rw (ready.going, none) refl },
    inl (record { room = t.1; is = ap (λ c. record kernel { core = c; failed = true }) t.3 }),
  )
  refused-by LogFull kernel new ready good none t = (
    record { ready = ready; some = t.2; nothing_needed = rw (ready.going, none) refl },
    t.1,
    ap (λ c. record kernel { core = c; failed = true }) t.3,
  )
  refused-by Failed kernel new ready good none t = absurd (let bad : true ≡ false = rw good at t.0 in cc)
  refused-by NoTest kernel new ready good none t = t

  refused-at : (standing : Standing) (fault : CoreFault) (kernel : KernelValue O) (new : CoreValue) → kernel.core.standing ≡ standing → IsReady view name says kernel → kernel.core.health ≡ Good → IsNextTurn standing (Err fault) kernel.core new
      → IsRefusedStep view name says fault kernel (record kernel { core = new; failed = true })
  refused-at Nothing fault kernel new is ready good t = refused-by fault kernel new ready good is t
  refused-at (Needed need) fault kernel new is ready good t = absurd (let e = t.0 in cc)
  refused-at (Asked performer call origin) fault kernel new is ready good t = absurd (let e = t.0 in cc)

  pub refused-step : (fault : CoreFault) (kernel : KernelValue O) (new : CoreValue) → IsReady view name says kernel → kernel.core.health ≡ Good → IsNextTurn kernel.core.standing (Err fault) kernel.core new
      → IsRefusedStep view name says fault kernel (record kernel { core = new; failed = true })
  refused-step fault kernel new ready good t = refused-at kernel.core.standing fault kernel new refl ready good t

  -- an object was asked, and memory was refused
  pub unanswered-step : (kernel : KernelValue O) (core : CoreValue) (performer asking : Who) (call : Call) (origin : Option Origin) (answer : Result (List Act) AllocError) (held : List (Who × O)) → asking ≡ performer
      → next_of kernel.core.script kernel.core.history ≡ next.Answer performer call origin → need_of kernel.core.standing ≡ None → IsReady view name says kernel → IsSameLog kernel.core core → core ≡ unanswered_from performer call origin answer kernel.core
      → length kernel.core.history < log_limit kernel.core.script → IsAsked view name says performer call answer kernel.held held → IsRefusedStep view name says Memory kernel (record { core = core; held = held; failed = true; unknown = Some asking })
  unanswered-step kernel core performer asking call origin answer held same_who answers none ready same left room asked = (
    record { ready = ready; some = rw answers tt; nothing_needed = rw (ready.going, none) refl },
    inr (record { room = room; performer = performer; call = call; origin = origin; next = answers; answer = answer; asked = asked; same_log = same; left = left; is = rw same_who refl }),
  )

-- where the machine refuses, the log stays
refused-log-by : (fault : CoreFault) (old new : CoreValue) → IsRefusedTurn fault old new → IsSameLog old new
refused-log-by Memory old new t = rw t.3 (record { script = refl; history = refl })
refused-log-by LogFull old new t = rw t.3 (record { script = refl; history = refl })
refused-log-by Failed old new t = rw t.1 (record { script = refl; history = refl })
refused-log-by NoTest old new t = absurd t

refused-log-at : (standing : Standing) (fault : CoreFault) (old new : CoreValue) → IsNextTurn standing (Err fault) old new → IsSameLog old new
refused-log-at Nothing fault old new t = refused-log-by fault old new t
refused-log-at (Needed need) fault old new t = rw t.1 (record { script = refl; history = refl })
refused-log-at (Asked performer call origin) fault old new t = rw t.1 (record { script = refl; history = refl })

pub refused-log : (fault : CoreFault) (old new : CoreValue) → IsNextTurn old.standing (Err fault) old new → IsSameLog old new
refused-log fault old new t = refused-log-at old.standing fault old new t
