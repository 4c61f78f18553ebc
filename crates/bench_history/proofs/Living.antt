-- Which sequences live: those whose phase runs, and that have not finished.
use Rattle.bench_history.proofs.Common.{◌≡◌, ℕ, suc, ◌≤◌, ◌==◌, Bool, true, false, ◌||◌, List, [], ◌∷◌, length, nat_lt, Option, Some, None, option_map, refl, ap, ◌∙◌, sym, subst, arith, if◌then◌else◌, ◌⊎◌, inl, inr, ◌++◌, or_right, list_any, nat_tests, All-head, All-tail, Phase, same_phase, is_runtime, numbered, Run, PreReset, Reset, PostReset, PreConfigure, Configure, PostConfigure, PreMain, Main, PostMain, PreShutdown, Shutdown, PostShutdown, Build, EndOfElaboration, StartOfSimulation, Extract, Check, Report, Final, Who, same_who, node_of, Act, TooManyActs, Outcome, Started, Reason, Passage, Entry, Begin, End, Did, Note, Over, ScriptValue, RunStage, Before, During, After, Ended, most_acts, stage_of, running, nodes_of, remaining_acts, performer_of, ended_of, act_phase, in_progress, reason_of, StartRecord, begun_after, starts_of, finished_of, is_live, next_passed, next_locked, next_served, Effect, Needs, ComesTo, effect_of, Next, Exactly, end_reached, giving_up, locking, serving, passing, long_answer, first_act, by_effect, phase_to_begin, first_next, next_of, IsNext, IsLiving, PhasesBeginBehind, All, Node, Connect}
use Rattle.uvm_acts.specs.declared.acts.Who.TheVariants as who
use Rattle.bench_history.proofs.Inversion.{comes, exactly, now-at}

-- one that has a number has it still when there is one more
pub numbered-within : {X : Type 0} (xs : List X) (n : ℕ) (x : X) → numbered xs n ≡ Some x → n ≤ length xs
numbered-within [] n x e = cc
numbered-within (y ∷ older) n x e = tested (n == length (y ∷ older)) refl e (numbered-within older n x)
  where
    tested : (same : Bool) → (n == length (y ∷ older)) ≡ same → (if same then Some y else numbered older n) ≡ Some x → (numbered older n ≡ Some x → n ≤ length older) → n ≤ length (y ∷ older)
    tested true is found within = grind (arith, nat_tests)
    tested false is found within = let low = within found in omega (arith, low)

pub numbered-more : {X : Type 0} (y : X) (xs : List X) (n : ℕ) (x : X) → numbered xs n ≡ Some x → numbered (y ∷ xs) n ≡ Some x
numbered-more y xs n x e =
    let low = numbered-within xs n x e in
    let differs : (n == length (y ∷ xs)) ≡ false = grind (arith, nat_tests, low) in
    rw differs e

-- and the newest has the number of all
pub numbered-newest : {X : Type 0} (y : X) (xs : List X) (n : ℕ) → n ≡ suc (length xs) → numbered (y ∷ xs) n ≡ Some y
numbered-newest y xs n is =
    let same : (n == length (y ∷ xs)) ≡ true = grind (arith, nat_tests, is) in
    rw same refl

-- what holds of all holds of the one of a number
pub numbered-holds : {X : Type 0} (P : X → Type 0) (xs : List X) (n : ℕ) (x : X) → All P xs → numbered xs n ≡ Some x → P x
numbered-holds P [] n x all e = cc
numbered-holds P (y ∷ older) n x all e = tested (n == length (y ∷ older)) e (numbered-holds P older n x (All-tail P y older all))
  where
    tested : (same : Bool) → (if same then Some y else numbered older n) ≡ Some x → (numbered older n ≡ Some x → P x) → P x
    tested true found rest = let is : y ≡ x = cc in subst P is (All-head P y older all)
    tested false found rest = rest found

begun-after-more : (nodes : List Node) (phase : Option Phase) (begun : List StartRecord) (performer : Who) (outcome : Outcome) (act : Act) (id : ℕ) (start_record : StartRecord) → numbered begun id ≡ Some start_record → numbered (begun_after nodes phase begun performer outcome act) id ≡ Some start_record
begun-after-more nodes phase begun performer (Started new) act id start_record e = numbered-more _ begun id start_record e
begun-after-more nodes phase begun performer outcome act id start_record e = e

-- a sequence that was started stays so
pub begun-more : (entry : Entry) (before : List Entry) (id : ℕ) (start_record : StartRecord) → numbered (starts_of before) id ≡ Some start_record → numbered (starts_of (entry ∷ before)) id ≡ Some start_record
begun-more (Did performer outcome act) before id start_record e = begun-after-more (nodes_of before) (act_phase before) (starts_of before) performer outcome act id start_record e
begun-more entry before id start_record e = e

begun-after-count : (nodes : List Node) (phase : Option Phase) (begun : List StartRecord) (performer : Who) (outcome : Outcome) (act : Act) → length begun ≤ length (begun_after nodes phase begun performer outcome act)
begun-after-count nodes phase begun performer (Started new) act = omega arith
begun-after-count nodes phase begun performer outcome act = omega arith

pub begun-count : (entry : Entry) (before : List Entry) → length (starts_of before) ≤ length (starts_of (entry ∷ before))
begun-count (Did performer outcome act) before = begun-after-count (nodes_of before) (act_phase before) (starts_of before) performer outcome act
begun-count entry before = omega arith

-- the acts are performed before a phase begins or ends
abbrev IsMark : Entry → Type 0
IsMark (Begin phase) = Unit {0}
IsMark (End phase) = Unit {0}
IsMark entry = ⊥

abbrev IsMarkNext : Next → Type 0
IsMarkNext (Exactly entry) = IsMark entry
IsMarkNext next = ⊥

no-mark : (performer : Who) (act : Act) (effect : Effect) → IsMarkNext (by_effect performer act effect) → ⊥
no-mark performer act (Needs need made) is = is
no-mark performer act (ComesTo outcome) is = is

-- from the acts on
none-among : (script : ScriptValue) (history : List Entry) (left : List Act) (others : List (Option Next)) → IsMarkNext (first_next (long_answer history left ∷ first_act script history left ∷ others)) → left ≡ []
none-among script history [] others is = refl
none-among script history (act ∷ acts) others is = tested (nat_lt most_acts (length (act ∷ acts))) is
  where
    tested : (many : Bool) → IsMarkNext (first_next ((if many then Some (Exactly (Note TooManyActs (node_of (performer_of history)))) else None) ∷ first_act script history (act ∷ acts) ∷ others)) → act ∷ acts ≡ []
    tested true is = absurd is
    tested false is = absurd (no-mark (performer_of history) act (effect_of script history (performer_of history) act) is)

none-passed :
    (script : ScriptValue) (history : List Entry) (passed : Option (ℕ × Passage)) (left : List Act) (others : List (Option Next))
    → IsMarkNext (first_next (passing passed ∷ long_answer history left ∷ first_act script history left ∷ others)) → left ≡ []
none-passed script history (Some passed) left others is = absurd is
none-passed script history None left others is = none-among script history left others is

none-served :
    (script : ScriptValue) (history : List Entry) (led : Option (ℕ × ℕ)) (served : Option (ℕ × Bool)) (left : List Act) (others : List (Option Next))
    → IsMarkNext (first_next (locking led ∷ serving history served ∷ passing (next_passed history) ∷ long_answer history left ∷ first_act script history left ∷ others)) → left ≡ []
none-served script history (Some led) served left others is = absurd is
none-served script history None (Some served) left others is = absurd is
none-served script history None None left others is = none-passed script history (next_passed history) left others is

none-given :
    (script : ScriptValue) (history : List Entry) (why : Option Reason) (left : List Act) (others : List (Option Next))
    → IsMarkNext (first_next (giving_up why ∷ locking (next_locked history) ∷ serving history (next_served history) ∷ passing (next_passed history) ∷ long_answer history left ∷ first_act script history left ∷ others)) → left ≡ []
none-given script history (Some why) left others is = absurd is
none-given script history None left others is = none-served script history (next_locked history) (next_served history) left others is

none-left :
    (script : ScriptValue) (history : List Entry) (stage : RunStage) (why : Option Reason) (left : List Act) (others : List (Option Next))
    → IsMarkNext (first_next (end_reached stage ∷ giving_up why ∷ locking (next_locked history) ∷ serving history (next_served history) ∷ passing (next_passed history) ∷ long_answer history left ∷ first_act script history left ∷ others)) → left ≡ []
none-left script history Ended why left others is = absurd is
none-left script history Before why left others is = none-given script history why left others is
none-left script history (During phase) why left others is = none-given script history why left others is
none-left script history (After phase) why left others is = none-given script history why left others is

mark-left : (script : ScriptValue) (history : List Entry) → IsMarkNext (next_of script history) → remaining_acts script history ≡ []
unfolding next_of
mark-left script history is = none-left script history (stage_of history) (reason_of script history) (remaining_acts script history) _ is

pub begin-left : (script : ScriptValue) (history : List Entry) (phase : Phase) → IsNext script history (Begin phase) → remaining_acts script history ≡ []
begin-left script history phase next = mark-left script history (subst IsMarkNext (sym (exactly (Begin phase) (next_of script history) tt next)) tt)

pub end-left : (script : ScriptValue) (history : List Entry) (phase : Phase) → IsNext script history (End phase) → remaining_acts script history ≡ []
end-left script history phase next = mark-left script history (subst IsMarkNext (sym (exactly (End phase) (next_of script history) tt next)) tt)

add-last : (a b : Bool) → a || false ≡ true → a || (b || false) ≡ true
add-last true b e = refl
add-last false b e = cc

-- those in progress stay so where one begins
begin-keeps : (runtime : Bool) (stage : RunStage) (other phase : Phase) → phase_to_begin runtime stage ≡ Some other → list_any (same_phase phase) (in_progress stage) ≡ true → list_any (same_phase phase) (in_progress (During other)) ≡ true
begin-keeps runtime Before other phase b r = cc
begin-keeps true (During Run) other phase b r = let same : PreReset ≡ other = cc in rw (← same) (add-last (same_phase phase Run) (same_phase phase PreReset) r)
begin-keeps false (During Run) other phase b r = cc
begin-keeps runtime (During last) other phase b r = cc
begin-keeps runtime (After PreReset) other phase b r = let same : Reset ≡ other = cc in rw (← same) (add-last (same_phase phase Run) (same_phase phase Reset) r)
begin-keeps runtime (After Reset) other phase b r = let same : PostReset ≡ other = cc in rw (← same) (add-last (same_phase phase Run) (same_phase phase PostReset) r)
begin-keeps runtime (After PostReset) other phase b r = let same : PreConfigure ≡ other = cc in rw (← same) (add-last (same_phase phase Run) (same_phase phase PreConfigure) r)
begin-keeps runtime (After PreConfigure) other phase b r = let same : Configure ≡ other = cc in rw (← same) (add-last (same_phase phase Run) (same_phase phase Configure) r)
begin-keeps runtime (After Configure) other phase b r = let same : PostConfigure ≡ other = cc in rw (← same) (add-last (same_phase phase Run) (same_phase phase PostConfigure) r)
begin-keeps runtime (After PostConfigure) other phase b r = let same : PreMain ≡ other = cc in rw (← same) (add-last (same_phase phase Run) (same_phase phase PreMain) r)
begin-keeps runtime (After PreMain) other phase b r = let same : Main ≡ other = cc in rw (← same) (add-last (same_phase phase Run) (same_phase phase Main) r)
begin-keeps runtime (After Main) other phase b r = let same : PostMain ≡ other = cc in rw (← same) (add-last (same_phase phase Run) (same_phase phase PostMain) r)
begin-keeps runtime (After PostMain) other phase b r = let same : PreShutdown ≡ other = cc in rw (← same) (add-last (same_phase phase Run) (same_phase phase PreShutdown) r)
begin-keeps runtime (After PreShutdown) other phase b r = let same : Shutdown ≡ other = cc in rw (← same) (add-last (same_phase phase Run) (same_phase phase Shutdown) r)
begin-keeps runtime (After Shutdown) other phase b r = let same : PostShutdown ≡ other = cc in rw (← same) (add-last (same_phase phase Run) (same_phase phase PostShutdown) r)
begin-keeps runtime (After last) other phase b r = cc
begin-keeps runtime Ended other phase b r = cc

-- one that begins goes beside those in progress, behind them
begins-behind : (runtime : Bool) (stage : RunStage) (phase : Phase) → phase_to_begin runtime stage ≡ Some phase → in_progress (During phase) ≡ in_progress stage ++ phase ∷ []
begins-behind runtime Before phase b = let same : Build ≡ phase = cc in rw (← same) refl
begins-behind true (During Run) phase b = let same : PreReset ≡ phase = cc in rw (← same) refl
begins-behind false (During Run) phase b = cc
begins-behind runtime (During last) phase b = cc
begins-behind runtime (After Build) phase b = let same : Connect ≡ phase = cc in rw (← same) refl
begins-behind runtime (After Connect) phase b = let same : EndOfElaboration ≡ phase = cc in rw (← same) refl
begins-behind runtime (After EndOfElaboration) phase b = let same : StartOfSimulation ≡ phase = cc in rw (← same) refl
begins-behind runtime (After StartOfSimulation) phase b = let same : Run ≡ phase = cc in rw (← same) refl
begins-behind runtime (After Run) phase b = let same : Extract ≡ phase = cc in rw (← same) refl
begins-behind runtime (After Extract) phase b = let same : Check ≡ phase = cc in rw (← same) refl
begins-behind runtime (After Check) phase b = let same : Report ≡ phase = cc in rw (← same) refl
begins-behind runtime (After Report) phase b = let same : Final ≡ phase = cc in rw (← same) refl
begins-behind runtime (After PreReset) phase b = let same : Reset ≡ phase = cc in rw (← same) refl
begins-behind runtime (After Reset) phase b = let same : PostReset ≡ phase = cc in rw (← same) refl
begins-behind runtime (After PostReset) phase b = let same : PreConfigure ≡ phase = cc in rw (← same) refl
begins-behind runtime (After PreConfigure) phase b = let same : Configure ≡ phase = cc in rw (← same) refl
begins-behind runtime (After Configure) phase b = let same : PostConfigure ≡ phase = cc in rw (← same) refl
begins-behind runtime (After PostConfigure) phase b = let same : PreMain ≡ phase = cc in rw (← same) refl
begins-behind runtime (After PreMain) phase b = let same : Main ≡ phase = cc in rw (← same) refl
begins-behind runtime (After Main) phase b = let same : PostMain ≡ phase = cc in rw (← same) refl
begins-behind runtime (After PostMain) phase b = let same : PreShutdown ≡ phase = cc in rw (← same) refl
begins-behind runtime (After PreShutdown) phase b = let same : Shutdown ≡ phase = cc in rw (← same) refl
begins-behind runtime (After Shutdown) phase b = let same : PostShutdown ≡ phase = cc in rw (← same) refl
begins-behind runtime (After Final) phase b = cc
begins-behind runtime (After PostShutdown) phase b = cc
begins-behind runtime Ended phase b = cc

pub phases_begin_behind : PhasesBeginBehind
phases_begin_behind script history phase is = begins-behind script.runtime (stage_of history) phase (now-at script history (Exactly (Begin phase)) is)

-- and where one ends, but for that one
split-last : (a b : Bool) → a || (b || false) ≡ true → (a || false ≡ true) ⊎ (b ≡ true)
split-last true b e = inl refl
split-last false true e = inr refl
split-last false false e = cc

split-one : (a : Bool) → a || false ≡ true → a ≡ true
split-one true e = refl
split-one false e = cc

two-end : (b : Bool) (other phase : Phase) → list_any (same_phase phase) (if b then Run ∷ other ∷ [] else other ∷ []) ≡ true → (list_any (same_phase phase) (if b then Run ∷ [] else []) ≡ true) ⊎ (same_phase phase other ≡ true)
two-end true other phase e = split-last (same_phase phase Run) (same_phase phase other) e
two-end false other phase e = inr (split-one (same_phase phase other) e)

one-ends : (b : Bool) (other phase : Phase) → (if b then Some Run else None) ≡ Some other → list_any (same_phase phase) (if b then Run ∷ [] else []) ≡ true → same_phase phase other ≡ true
one-ends true other phase runs e = let same : Run ≡ other = cc in rw (← same) (split-one (same_phase phase Run) e)
one-ends false other phase runs e = cc

end-keeps : (stage : RunStage) (other phase : Phase) → running stage ≡ Some other → list_any (same_phase phase) (in_progress stage) ≡ true → (list_any (same_phase phase) (in_progress (After other)) ≡ true) ⊎ (same_phase phase other ≡ true)
end-keeps Before other phase runs e = cc
end-keeps (During last) other phase runs e = let same : last ≡ other = cc in subst (λ (p : Phase). (list_any (same_phase phase) (in_progress (After p)) ≡ true) ⊎ (same_phase phase p ≡ true)) same (two-end (is_runtime last) last phase e)
end-keeps (After last) other phase runs e = inr (one-ends (is_runtime last) other phase runs e)
end-keeps Ended other phase runs e = cc

pub same-itself : (phase : Phase) → same_phase phase phase ≡ true
same-itself phase = grind (arith, nat_tests)

-- a phase is in progress, or has ended
pub data Stands (history : List Entry) (phase : Phase) : Type 0 where
  Runs : list_any (same_phase phase) (in_progress (stage_of history)) ≡ true → Stands history phase
  HasEnded : list_any (same_phase phase) (ended_of history) ≡ true → Stands history phase

-- so where one begins, those in progress go on
pub begin-going : (script : ScriptValue) (before : List Entry) (other phase : Phase) → IsNext script before (Begin other) → list_any (same_phase phase) (in_progress (stage_of before)) ≡ true → list_any (same_phase phase) (in_progress (During other)) ≡ true
begin-going script before other phase next goes = begin-keeps script.runtime (stage_of before) other phase (comes script before (Begin other) next) goes

-- and where one ends, all but that one
pub end-going : (script : ScriptValue) (before : List Entry) (other phase : Phase) → IsNext script before (End other) → list_any (same_phase phase) (in_progress (stage_of before)) ≡ true → (list_any (same_phase phase) (in_progress (After other)) ≡ true) ⊎ (same_phase phase other ≡ true)
end-going script before other phase next goes = end-keeps (stage_of before) other phase (comes script before (End other) next).runs goes

stands-begun : (script : ScriptValue) (before : List Entry) (other phase : Phase) → IsNext script before (Begin other) → Stands before phase → Stands (Begin other ∷ before) phase
stands-begun script before other phase next (Runs runs) = Runs (begin-going script before other phase next runs)
stands-begun script before other phase next (HasEnded ended) = HasEnded ended

stands-ended : (script : ScriptValue) (before : List Entry) (other phase : Phase) → IsNext script before (End other) → Stands before phase → Stands (End other ∷ before) phase
stands-ended script before other phase next (Runs runs) =
    by (end-going script before other phase next runs)
  where
    by : (list_any (same_phase phase) (in_progress (After other)) ≡ true) ⊎ (same_phase phase other ≡ true) → Stands (End other ∷ before) phase
    by (inl on) = Runs on
    by (inr same) = HasEnded (rw same refl)
stands-ended script before other phase next (HasEnded ended) = HasEnded (or_right (same_phase phase other) _ ended)

stays : (entry : Entry) (before : List Entry) (phase : Phase) → stage_of (entry ∷ before) ≡ stage_of before → ended_of (entry ∷ before) ≡ ended_of before → Stands before phase → Stands (entry ∷ before) phase
stays entry before phase same ended (Runs runs) = Runs (ap (λ (stage : RunStage). list_any (same_phase phase) (in_progress stage)) same ∙ runs)
stays entry before phase same ended (HasEnded has) = HasEnded (ap (list_any (same_phase phase)) ended ∙ has)

-- this stays, whatever comes next but the end of the run
pub stands-more : (script : ScriptValue) (before : List Entry) (entry : Entry) (phase : Phase) → IsNext script before entry → (stage_of (entry ∷ before) ≡ Ended → ⊥) → Stands before phase → Stands (entry ∷ before) phase
stands-more script before (Begin other) phase next on stands = stands-begun script before other phase next stands
stands-more script before (End other) phase next on stands = stands-ended script before other phase next stands
stands-more script before (Over reason) phase next on stands = absurd (on refl)
stands-more script before entry phase next on stands = stays entry before phase refl refl stands

-- a sequence was started on a sequencer, in a phase that runs or has ended
pub record IsSequence (history : List Entry) (phase : Phase) (id home : ℕ) : Type 0 where
  pub start_record : StartRecord
  pub begun : numbered (starts_of history) id ≡ Some start_record
  pub home_is : start_record.start.home ≡ home
  pub phase_is : start_record.phase ≡ Some phase
  pub stands : Stands history phase

pub sequence-more : (script : ScriptValue) (before : List Entry) (entry : Entry) (phase : Phase) (id home : ℕ) → IsNext script before entry → (stage_of (entry ∷ before) ≡ Ended → ⊥) → IsSequence before phase id home → IsSequence (entry ∷ before) phase id home
sequence-more script before entry phase id home next on s = record {
  start_record = s.start_record;
  begun = begun-more entry before id s.start_record s.begun;
  home_is = s.home_is;
  phase_is = s.phase_is;
  stands = stands-more script before entry phase next on s.stands;
}

-- it lives as long as it has not finished and its phase has not ended
pub living-of : (history : List Entry) (phase : Phase) (id home : ℕ) → IsSequence history phase id home → list_any (same_who (who.Sequence home id)) (finished_of history) ≡ false → list_any (same_phase phase) (ended_of history) ≡ false → IsLiving history id home
unfolding is_live
living-of history phase id home s unfinished unended = record {
  lives = rw (s.begun, s.home_is, s.phase_is, unfinished, unended) refl;
  home_is = ap (option_map (λ (start_record : StartRecord). start_record.start.home)) s.begun ∙ ap (λ (h : ℕ). Some h) s.home_is;
}

-- a phase that runs or has ended runs, if it has not ended
pub runs-still : (history : List Entry) (phase : Phase) → Stands history phase → list_any (same_phase phase) (ended_of history) ≡ false → list_any (same_phase phase) (in_progress (stage_of history)) ≡ true
runs-still history phase (Runs runs) unended = runs
runs-still history phase (HasEnded ended) unended = cc
