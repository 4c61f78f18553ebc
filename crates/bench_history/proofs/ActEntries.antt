-- Acts that were performed: the performer's next, open to him, and what they come to.
use Rattle.bench_history.proofs.Common.{◌≡◌, ℕ, suc, false, not, List, length, Option, Some, None, refl, ap, ◌∙◌, sym, subst, Bool, Try, How, Who, Fatal, NotOpen, Act, EndStep, Ask, Outcome, Started, Finished, Refused, Entry, Heard, Did, Granted, starts_of, is_open_to, ScriptValue, performer_of, test_creation, Effect, ComesTo, unless_refused, permitted_effect, effect_of, asked_effect, fault_if, Next, Exactly, Answer, Need, Nothing, by_effect, Grant, Allows, IsAct, IsNext, IsActEntry, Start}
use Rattle.bench_history.proofs.Needed.{comes-to, made-in}
use Rattle.bench_history.proofs.Grown.{starts-count}

-- an act that is not open to its performer is refused
refused-next : (performer other : Who) (outcome : Outcome) (act act_entry : Act) (effect : Effect) → effect ≡ ComesTo (Refused NotOpen) → Allows (by_effect other act_entry effect) (Did performer outcome act) → outcome ≡ Refused NotOpen
refused-next performer other outcome act act_entry effect is allows = let e : Did performer outcome act ≡ Did other (Refused NotOpen) act_entry = subst (λ (u : Effect). Allows (by_effect other act_entry u) (Did performer outcome act)) is allows in cc

pub is-act : (performer : Who) (outcome : Outcome) (act : Act) (next : Next) → Allows next (Did performer outcome act) → IsAct next
is-act performer outcome act (Exactly entry) allows = subst (λ (e : Entry). IsAct (Exactly e)) allows tt
is-act performer outcome act (Answer hearer call cause) allows = let e : Did performer outcome act ≡ Heard hearer cause call allows.0 = allows.1 in cc
is-act performer outcome act (Need need made other act_entry) allows = tt
is-act performer outcome act (Grant sequencer drawn chosen) allows = let e : Did performer outcome act ≡ Granted sequencer allows.0 = allows.3 in cc
is-act performer outcome act Nothing allows = absurd allows

closed-effect : (script : ScriptValue) (history : List Entry) (performer : Who) (act : Act) → is_open_to act performer ≡ false → effect_of script history performer act ≡ ComesTo (Refused NotOpen)
closed-effect script history performer act closed = rw closed refl

pub closed-refused : (script : ScriptValue) (before : List Entry) (performer : Who) (outcome : Outcome) (act : Act) → IsActEntry script before performer outcome act → is_open_to act performer ≡ false → outcome ≡ Refused NotOpen
closed-refused script before performer outcome act act_entry closed =
    refused-next performer (performer_of before) outcome act act (effect_of script before (performer_of before) act) (closed-effect script before (performer_of before) act (rw (← act_entry.performer_is) closed)) act_entry.comes

-- a sequence that is started has the next number
pub started-next : (script : ScriptValue) (before : List Entry) (performer : Who) (id : ℕ) (act : Act) → IsNext script before (Did performer (Started id) act) → id ≡ suc (length (starts_of before))
started-next script before performer id act next = (made-in script before performer (Started id) act (λ none. none) next).1.number ∙ ap suc (starts-count (starts_of before))

-- and its act is not the creation of the test
pub starts-act : (script : ScriptValue) (before : List Entry) (performer : Who) (id : ℕ) (act : Act) → IsNext script before (Did performer (Started id) act) → act ≡ test_creation script → ⊥
starts-act script before performer id act next opens =
    let m = (made-in script before performer (Started id) act (λ none. none) next).1 in
    let both : test_creation script ≡ Start m.asked m.name m.on m.priority = sym opens ∙ m.starts in cc

-- only the end of a step finishes a sequence
abbrev IsUnfinished : Effect → Type 0
IsUnfinished (ComesTo Finished) = ⊥
IsUnfinished effect = Unit {0}

unfinished-unless : (refusal : Option Fatal) (effect : Effect) → IsUnfinished effect → IsUnfinished (unless_refused refusal effect)
unfinished-unless None effect un = un
unfinished-unless (Some fatal) effect un = tt

unfinished-asked : (how : How) (waits : Bool) → IsUnfinished (asked_effect how waits)
unfinished-asked Try waits = tt
unfinished-asked how waits = tt

finishing-open : (script : ScriptValue) (history : List Entry) (performer : Who) (act : Act) → permitted_effect script history performer act ≡ ComesTo Finished → act ≡ EndStep
finishing-open script history performer EndStep e = refl
finishing-open script history performer (Ask port how) e = absurd (subst IsUnfinished e (unfinished-unless _ _ (unfinished-asked how _)))
finishing-open script history performer act e = absurd (subst IsUnfinished e (search unfinished-unless))

finishing-of : (refusal : Option Fatal) (effect : Effect) → unless_refused refusal effect ≡ ComesTo Finished → effect ≡ ComesTo Finished
finishing-of None effect e = e
finishing-of (Some fatal) effect e = cc

-- an act that finishes a sequence ends a step
pub finished-next : (script : ScriptValue) (before : List Entry) (performer : Who) (act : Act) → IsNext script before (Did performer Finished act) → act ≡ EndStep
finished-next script before performer act next =
    finishing-open script before (performer_of before) act
    (finishing-of (fault_if (not (is_open_to act (performer_of before))) NotOpen) (permitted_effect script before (performer_of before) act) (comes-to script before performer Finished act (λ same. cc) (λ need makes. makes) next))
