-- What stays with one more entry.
use Rattle.world_services.proofs.Common.{ℕ, List, ◌≡◌, refl, rules, subst, sym, ◌∷◌, length, true, false, Result, Ok, Err, IfOk, OnOk, AllocError, Act, Entry, Did, Fatal, NotOpen, ScriptValue, ActResult, Completed, Needed, Services, remaining_acts, rest_of, report_commands, newest_fate, is_open_to, Exactly, by_act, by_open, next_of, EachIsNext, IsAct, ActsAreInPhase, DriversAreThere, IsSettled, PerformersAreThere, ComesBy, PreservesMatchByAct, IsActContext, IsTried, IsActResult, IsActResultOfAny, IsRefusing, ServicesMatch, quiet, closing-later, closing-next, arbitrating-later, agenda-later}
use Rattle.uvm_object.specs.declared.entries.Outcome.TheVariants.{Refused}
use Rattle.world_services.proofs.Answered.{answer-later, answer-next, answer-noted}
use Rattle.world_services.proofs.Passages.{passed-later}
use Rattle.world_services.proofs.Settling.{objectings-later}

-- what every entry leaves, but for what it changes
pub ruleset later = (answer-later, answer-noted, agenda-later, quiet, objectings-later, closing-later, passed-later, arbitrating-later)

-- what an act leaves, but for what it changes
pub ruleset acted = (answer-next, agenda-later, quiet, objectings-later, closing-next, passed-later, arbitrating-later)

-- an act is to be performed
pub scene-of :
    {script : ScriptValue} {history : List Entry} {services : Services} (act : Act) → ServicesMatch script history services → EachIsNext script history → IsSettled history
    → remaining_acts script history ≡ act ∷ rest_of (remaining_acts script history) → ActsAreInPhase → PerformersAreThere → DriversAreThere → IsAct (next_of script history) → IsActContext script history act (length history) services
scene-of {script} {history} act m each settled left phases performers drivers is =
    record { each = each; known = m; settled = settled; left = left; place_is = refl; in_phase = phases script history act each is left; there = performers script history act each is left; driving = drivers script history each is }

-- any act may be refused
pub refused-taken-in : {old new : Services} {place : ℕ} (act : Act) (fatal : Fatal) → IsRefusing fatal old new → PreservesMatchByAct act (Refused fatal) place old new
refused-taken-in {old} {new} {place} act fatal kept =
    subst (λ (after : Services). PreservesMatchByAct act (Refused fatal) place old after) (sym kept.rest) (record {
      same_answer = refl;
      with_entry = λ script history s.
          let m = s.known in
          let left = s.left in
          let report_state = rw m.tree at (kept.report_state (report_commands script history) (newest_fate script history) m.report_state) in
          search (rules, acted);
    })

refused-tried :
    (by : ComesBy) (result : Result ActResult AllocError) (old new : Services) (act : Act) (fatal : Fatal) (place : ℕ) → IfOk result (λ act_result. act_result ≡ Completed (Refused fatal)) → OnOk result (IsRefusing fatal old new)
    → ((script : ScriptValue) (history : List Entry) → ServicesMatch script history old → by script history old.answer.performer act ≡ Exactly (Did old.answer.performer (Refused fatal) act))
    → IfOk result (λ act_result. IsTried by act act_result place old new)
refused-tried by (Ok act_result) old new act fatal place is kept comes = rw is (record { comes = λ script history s. comes script history s.known; kept = refused-taken-in act fatal kept })
refused-tried by (Err fault) old new act fatal place is kept comes = tt

pub refused-act_result :
    (result : Result ActResult AllocError) (old new : Services) (act : Act) (fatal : Fatal) → IfOk result (λ act_result. act_result ≡ Completed (Refused fatal)) → OnOk result (IsRefusing fatal old new)
    → ((script : ScriptValue) (history : List Entry) → ServicesMatch script history old → by_open script history old.answer.performer act ≡ Exactly (Did old.answer.performer (Refused fatal) act))
    → IfOk result (λ act_result. (place : ℕ) → IsActResult act act_result place old new)
refused-act_result (Ok act_result) old new act fatal is kept comes = λ place. refused-tried by_open (Ok act_result) old new act fatal place is kept comes
refused-act_result (Err fault) old new act fatal is kept comes = tt

-- whose entry would stand at a place
pub refused-here :
    (result : Result ActResult AllocError) (old new : Services) (act : Act) (fatal : Fatal) (place : ℕ) → IfOk result (λ act_result. act_result ≡ Completed (Refused fatal)) → OnOk result (IsRefusing fatal old new)
    → ((script : ScriptValue) (history : List Entry) → ServicesMatch script history old → by_open script history old.answer.performer act ≡ Exactly (Did old.answer.performer (Refused fatal) act))
    → IfOk result (λ act_result. IsActResult act act_result place old new)
refused-here result old new act fatal place is kept comes = refused-tried by_open result old new act fatal place is kept comes

-- an act that is not open to its performer is
pub closed-here :
    (result : Result ActResult AllocError) (old new : Services) (act : Act) (place : ℕ) → is_open_to act old.answer.performer ≡ false → IfOk result (λ act_result. act_result ≡ Completed (Refused NotOpen)) → OnOk result (IsRefusing NotOpen old new)
    → IfOk result (λ act_result. IsActResultOfAny act act_result place old new)
closed-here result old new act place closed is kept = refused-tried by_act result old new act NotOpen place is kept (λ script history m. rw closed refl)

-- and what is open comes to what any act comes to
pub open-tried : (act : Act) (act_result : ActResult) (place : ℕ) (old new : Services) → is_open_to act old.answer.performer ≡ true → IsActResult act act_result place old new → IsActResultOfAny act act_result place old new
open-tried act (Completed outcome) place old new opens did = record { comes = λ script history s. rw opens (did.comes script history s); kept = did.kept }
open-tried act (Needed need home) place old new opens n = record { comes = λ script history s. (let c = n.comes script history s in (c.0, rw opens c.1)); home_is = n.home_is; same = n.same }
