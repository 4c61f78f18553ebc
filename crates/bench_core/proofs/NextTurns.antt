-- What a turn says of who is asked, and of the end.
use Rattle.std.proofs.Common.{◌≡◌, ◌<◌, length, Bool, true, false, List, Some, Result, Ok, Err, IfOk, refl, sym, subst}
use Rattle.uvm_object.specs.declared.entries.Entry.{Entry}
use Rattle.bench_script.specs.Scripts.{ScriptValue}
use Rattle.bench_history.specs.Limits.{log_limit}
use Rattle.bench_history.specs.History.{is_over}
use Rattle.bench_history.specs.Cases as next
use Rattle.bench_history.specs.Next.{IsLegal, next_of}
use Rattle.bench_history.specs.Laws.{AskedAreThere, IsSomething, SomethingBeforeOver}
use Rattle.bench_core.specs.declared.cores.Turn as turn
use Rattle.bench_core.specs.declared.faults.CoreFault.{CoreFault}
use Rattle.bench_core.specs.Cores.{Standing, Nothing, Needed, Asked, CoreValue, IsAskedNext, HasRoom, IsTurn, IsRequest, IsNextTurn, AsksThere, turn_of}

-- who was asked is there
pub told-there : AskedAreThere → (script : ScriptValue) (history : List Entry) (standing : Standing) (told : turn.Turn) → IsLegal script history → IsAskedNext standing (next_of script history) → turn_of standing ≡ Some told → AsksThere told history
told-there components script history Nothing told legal comes e = cc
told-there components script history (Needed need) told legal comes e = let same : turn.TheVariants.Need ≡ told = cc in subst (λ t. AsksThere t history) same tt
told-there components script history (Asked hearer call origin) told legal comes e =
    let same : turn.TheVariants.Ask hearer ≡ told = cc in
    subst (λ t. AsksThere t history) same (components script history hearer call origin legal.each comes)

-- and so is who is asked now
turn-there : AskedAreThere → (old new : CoreValue) (result : turn.Turn) (comes : next.Next) → next_of old.script old.history ≡ comes → IsLegal old.script old.history → IsTurn comes result old new → AsksThere result old.history
turn-there components old new result (next.Exactly entry) is legal t = subst (λ r. AsksThere r old.history) (sym t.0) tt
turn-there components old new result (next.Answer hearer call origin) is legal t = subst (λ r. AsksThere r old.history) (sym t.0) (components old.script old.history hearer call origin legal.each is)
turn-there components old new result (next.Need need made performer act) is legal t = subst (λ r. AsksThere r old.history) (sym t.0) tt
turn-there components old new result (next.Grant sequencer drawn chosen) is legal t = subst (λ r. AsksThere r old.history) (sym t.0) tt
turn-there components old new result next.Nothing is legal t = subst (λ r. AsksThere r old.history) (sym t.0) tt

-- so that a call of the machine asks who is there, if anybody
pub next-there : AskedAreThere → (old new : CoreValue) (result : Result turn.Turn CoreFault) → IsLegal old.script old.history → IsNextTurn Nothing result old new → IfOk result (λ r. AsksThere r old.history)
next-there components old new (Ok result) legal t = turn-there components old new result (next_of old.script old.history) refl legal t.1
next-there components old new (Err fault) legal t = tt

-- where nothing comes the run is over
over-at : (script : ScriptValue) (history : List Entry) (over : Bool) → (is_over history ≡ false → IsSomething (next_of script history)) → next_of script history ≡ next.Nothing → is_over history ≡ over → is_over history ≡ true
over-at script history true some none e = e
over-at script history false some none e = absurd (subst IsSomething none (some e))

-- a turn that says so is the last
turn-over : SomethingBeforeOver → (old new : CoreValue) (result : turn.Turn) (comes : next.Next) → next_of old.script old.history ≡ comes → IsLegal old.script old.history → IsTurn comes result old new → result ≡ turn.TheVariants.Over → is_over new.history ≡ true
turn-over some old new result (next.Exactly entry) is legal t over = let moved = t.0 in cc
turn-over some old new result (next.Answer hearer call origin) is legal t over = let asks = t.0 in cc
turn-over some old new result (next.Need need made performer act) is legal t over = let needs = t.0 in cc
turn-over some old new result (next.Grant sequencer drawn chosen) is legal t over = let moved = t.0 in cc
turn-over some old new result next.Nothing is legal t over =
    rw t.1 (over-at old.script old.history (is_over old.history) (some old.script old.history legal.each) is refl)

-- so that a call of the machine says `Over` of a run that is over
pub next-over : SomethingBeforeOver → (old new : CoreValue) (result : Result turn.Turn CoreFault) → IsLegal old.script old.history → IsNextTurn Nothing result old new → IfOk result (λ r. r ≡ turn.TheVariants.Over → is_over new.history ≡ true)
next-over some old new (Ok result) legal t = λ over. turn-over some old new result (next_of old.script old.history) refl legal t.1 over
next-over some old new (Err fault) legal t = tt

-- what is asked comes next, and has room
turn-room : (old new : CoreValue) (result : turn.Turn) (comes : next.Next) → next_of old.script old.history ≡ comes → HasRoom old → IsTurn comes result old new → IsRequest result → length new.history < log_limit new.script
turn-room old new result (next.Exactly entry) is room t asks = let moved = t.0 in absurd (subst IsRequest t.0 asks)
turn-room old new result (next.Answer hearer call origin) is room t asks = rw t.1 (room (rw is tt))
turn-room old new result (next.Need need made performer act) is room t asks = rw t.1 (room (rw is tt))
turn-room old new result (next.Grant sequencer drawn chosen) is room t asks = let moved = t.0 in absurd (subst IsRequest t.0 asks)
turn-room old new result next.Nothing is room t asks = absurd (subst IsRequest t.0 asks)

pub next-room : (old new : CoreValue) (result : Result turn.Turn CoreFault) → IsNextTurn Nothing result old new → IfOk result (λ r. IsRequest r → length new.history < log_limit new.script)
next-room old new (Ok result) t = λ asks. turn-room old new result (next_of old.script old.history) refl t.2 t.1 asks
next-room old new (Err fault) t = tt
