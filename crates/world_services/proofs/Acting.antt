-- The act that is next.
use Rattle.world_services.proofs.Common.{◌≡◌, ℕ, Bool, true, false, not, refl, is_none, is_some, Option, List, [], ◌∷◌, Some, None, IsSome, Result, Ok, Err, IsOk, ap, sym, ◌∙◌, subst, fault_if, first_given, path_fault, Fatal, OutsideTask, OutOfRange, InvalidType, NoSequencer, TreeLimit, OverrideLoop, Starting, is_none_at_all, sequence_made, sequence_named, starting_refusal, Act, Entry, ScriptValue, remaining_acts, head_of, rest_of, performer_of, in_task, by_act, next_of, need_in, IsAct, ActsGoInOrder, IsSettled, NeedsAreWanted, IsWanted}
use Rattle.bench_history.specs.declared.needs.Need as needs

-- what is left begins with the act that is next
pub acts-first : ActsGoInOrder → (script : ScriptValue) (history : List Entry) (act : Act) → IsAct (next_of script history) → head_of (remaining_acts script history) ≡ Some act → next_of script history ≡ by_act script history (performer_of history) act
acts-first order script history act is head =
    let p = order script history is in
    let first : Some p.0 ≡ Some act = sym (ap head_of p.1.left) ∙ head in
    let same : p.0 ≡ act = cc in
    p.1.next ∙ ap (by_act script history (performer_of history)) same

pub acts-settled : ActsGoInOrder → (script : ScriptValue) (history : List Entry) → IsAct (next_of script history) → IsSettled history
acts-settled order script history is = (order script history is).1.settled

pub acts-some : ActsGoInOrder → (script : ScriptValue) (history : List Entry) → IsAct (next_of script history) → head_of (remaining_acts script history) ≡ None → ⊥
acts-some order script history is head =
    let p = order script history is in
    let none : Some p.0 ≡ None = sym (ap head_of p.1.left) ∙ head in
    cc

same-act : (left : List Act) (act other : Act) → left ≡ act ∷ rest_of left → left ≡ other ∷ rest_of left → act ≡ other
same-act left act other e d = cc

-- an act that is left and needs an object is a creation
pub wanted : NeedsAreWanted → (script : ScriptValue) (history : List Entry) (act : Act) → IsSome (need_in (next_of script history)) → remaining_acts script history ≡ act ∷ rest_of (remaining_acts script history) → IsWanted script history act
wanted creations script history act need left =
    let n = creations script history need in
    subst (IsWanted script history) (same-act (remaining_acts script history) n.0 act n.1 left) n.2

-- and what it needs is what is next
pub wanted-need : {script : ScriptValue} {history : List Entry} {act : Act} {need : needs.Need} (w : IsWanted script history act) → need_in (next_of script history) ≡ Some need → w.need ≡ need
wanted-need w needed = let some = sym (ap need_in w.next) ∙ needed in cc

-- what is an Ok is no Err
pub ok-not-err : {T E : Type 0} (result : Result T E) (fault : E) → IsOk result → result ≡ Err fault → ⊥
ok-not-err (Ok value) fault is e = cc
ok-not-err (Err other) fault is e = cc

-- the parts of why a start is not refused
rest-not : (first : Option Fatal) (others : List (Option Fatal)) → first_given (first ∷ others) ≡ None → first_given others ≡ None
rest-not (Some fatal) others e = cc
rest-not None others e = e

first-not : (first : Option Fatal) (others : List (Option Fatal)) → first_given (first ∷ others) ≡ None → first ≡ None
first-not (Some fatal) others e = cc
first-not None others e = refl

task-runs : (b : Bool) → fault_if (not b) OutsideTask ≡ None → b ≡ true
task-runs true e = refl
task-runs false e = cc

some-given : (b : Bool) → fault_if b OutOfRange ≡ None → b ≡ false
some-given true e = cc
some-given false e = refl

home-there : (home : Option ℕ) → fault_if (is_none home) NoSequencer ≡ None → (node : ℕ) × (home ≡ Some node)
home-there None e = cc
home-there (Some node) e = (node, refl)

pub record IsUnrefused (starting : Starting) : Type 0 where
  pub task : in_task starting.phase ≡ true
  pub positive : is_none_at_all starting.priority ≡ false
  pub home : ℕ
  pub home_is : starting.home ≡ Some home

pub unrefused : (starting : Starting) → starting_refusal starting ≡ None → IsUnrefused starting
unfolding starting_refusal
unrefused starting e =
    let others = rest-not _ (fault_if (is_none_at_all starting.priority) OutOfRange ∷ fault_if (is_none (sequence_named starting.types starting.type_name)) InvalidType ∷ fault_if (is_none starting.home) NoSequencer ∷ fault_if (is_some (path_fault starting.path)) TreeLimit ∷ fault_if (is_none (sequence_made starting)) OverrideLoop ∷ []) e in
    let later = rest-not _ (fault_if (is_none (sequence_named starting.types starting.type_name)) InvalidType ∷ fault_if (is_none starting.home) NoSequencer ∷ fault_if (is_some (path_fault starting.path)) TreeLimit ∷ fault_if (is_none (sequence_made starting)) OverrideLoop ∷ []) others in
    let last = rest-not _ (fault_if (is_none starting.home) NoSequencer ∷ fault_if (is_some (path_fault starting.path)) TreeLimit ∷ fault_if (is_none (sequence_made starting)) OverrideLoop ∷ []) later in
    let home = home-there starting.home (first-not _ (fault_if (is_some (path_fault starting.path)) TreeLimit ∷ fault_if (is_none (sequence_made starting)) OverrideLoop ∷ []) last) in
    record {
      task = task-runs _ (first-not _ (fault_if (is_none_at_all starting.priority) OutOfRange ∷ fault_if (is_none (sequence_named starting.types starting.type_name)) InvalidType ∷ fault_if (is_none starting.home) NoSequencer ∷ fault_if (is_some (path_fault starting.path)) TreeLimit ∷ fault_if (is_none (sequence_made starting)) OverrideLoop ∷ []) e);
      positive = some-given _ (first-not _ (fault_if (is_none (sequence_named starting.types starting.type_name)) InvalidType ∷ fault_if (is_none starting.home) NoSequencer ∷ fault_if (is_some (path_fault starting.path)) TreeLimit ∷ fault_if (is_none (sequence_made starting)) OverrideLoop ∷ []) others);
      home = home.0;
      home_is = home.1;
    }
