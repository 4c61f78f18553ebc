-- Whose turn it is in the phases in progress, over lists alone.
use Rattle.world_services.proofs.Common.{◌≡◌, ℕ, Bool, true, false, not, List, [], ◌∷◌, ◌++◌, ◌||◌, length, filter, All, Some, None, refl, ap, sym, ◌∙◌, subst, if◌then◌else◌, All-nil, All-cons, All-head, All-tail, filter-append, list_any, Direction, Down, Up, PathOrder, down_cmp, order_of, up_cmp, Phase, PreReset, Run, is_runtime, is_top_down, same_phase, IsLeast, LeastIsLeast, OrdersNodes, is_before, least, node_cmp, top, node_of, Call, Entry, Begin, Heard, RunStage, Before, During, After, Ended, components_called, calls_sort, had_call, in_progress, phase_order, running, same_sort, same-phase, PhaseCursors, PhaseCursor, ArePhaseCursor, IsHeardIn, ArePhaseCursors, AreSamePhaseCursors, HasBegunRound, IsHeardInPhaseCursors, IsMadeInPhaseCursors, going_like, phase_cursor_in, Node}
use Rattle.uvm_acts.specs.declared.acts.Call.TheVariants as calls
use Rattle.world_services.proofs.Waiting.{phase_cursor-begin, phase_cursor-going, phase_cursor-heard, phase_cursor-made, phase_cursor-more, phase_cursor-none, phase_cursor-same}

pub phase_cursors-first : {kept : PhaseCursors} → (kept.common.last ≡ None) × (kept.runtime.last ≡ None) → (kept.common.late.items ≡ []) × (kept.runtime.late.items ≡ []) → ArePhaseCursors Before (top ∷ []) [] (λ phase. []) kept
phase_cursors-first last late = record { common = phase_cursor-none last.0 late.0; runtime = phase_cursor-none last.1 late.1 }

pub phase_cursors-same : {stage : RunStage} {nodes : List Node} {components : List ℕ} {called : Phase → List ℕ} {old new : PhaseCursors} → AreSamePhaseCursors old new → ArePhaseCursors stage nodes components called old → ArePhaseCursors stage nodes components called new
phase_cursors-same same phase_cursors = record { common = phase_cursor-same same.common phase_cursors.common; runtime = phase_cursor-same same.runtime phase_cursors.runtime }

-- a node is added that is no component
pub phase_cursors-more : {stage : RunStage} {nodes : List Node} {components : List ℕ} {called : Phase → List ℕ} {kept : PhaseCursors} (x : Node) → ArePhaseCursors stage nodes components called kept → ArePhaseCursors stage (nodes ++ x ∷ []) components called kept
phase_cursors-more x phase_cursors = record { common = phase_cursor-more x phase_cursors.common; runtime = phase_cursor-more x phase_cursors.runtime }

-- or one
pub phase_cursors-made :
    {stage : RunStage} {nodes : List Node} {components : List ℕ} {called : Phase → List ℕ} {kept new : PhaseCursors} (x : Node) → ArePhaseCursors stage nodes components called kept → IsMadeInPhaseCursors (nodes ++ x ∷ []) (length nodes) kept new
    → ArePhaseCursors stage (nodes ++ x ∷ []) (components ++ length nodes ∷ []) called new
phase_cursors-made x phase_cursors made = record { common = phase_cursor-made x phase_cursors.common made.common; runtime = phase_cursor-made x phase_cursors.runtime made.runtime }

-- two phases of one sort have the same calls
called-alike-in : (phase other : Phase) (node : ℕ) (rest others : List ℕ) (call : Call) → is_runtime phase ≡ is_runtime other → rest ≡ others → (if calls_sort phase call then node ∷ rest else rest) ≡ (if calls_sort other call then node ∷ others else others)
called-alike-in phase other node rest others (calls.Phase heard) same is = rw (is, same) refl
called-alike-in phase other node rest others call same is = is

pub called-alike : (phase other : Phase) (history : List Entry) → is_runtime phase ≡ is_runtime other → components_called phase history ≡ components_called other history
called-alike phase other [] same = refl
called-alike phase other (Begin begun ∷ before) same = let rest = called-alike phase other before same in rw (rest, same) refl
called-alike phase other (Heard hearer None call acts ∷ before) same = called-alike-in phase other (node_of hearer) (components_called phase before) (components_called other before) call same (called-alike phase other before same)
called-alike phase other (Heard hearer (Some origin) call acts ∷ before) same = called-alike phase other before same
called-alike phase other (entry ∷ before) same = called-alike phase other before same

-- which phases of a sort are in progress
module _ (phase : Phase) where
  beside-run : is_runtime phase ≡ true → going_like Run (During phase) ≡ Run ∷ []
  beside-run beside = ap (λ (b : Bool). filter (same_sort Run) (if b then Run ∷ phase ∷ [] else phase ∷ [])) beside ∙ rw beside refl

  beside-self : is_runtime phase ≡ true → going_like PreReset (During phase) ≡ phase ∷ []
  beside-self beside = ap (λ (b : Bool). filter (same_sort PreReset) (if b then Run ∷ phase ∷ [] else phase ∷ [])) beside ∙ rw beside refl

  common-self : is_runtime phase ≡ false → going_like Run (During phase) ≡ phase ∷ []
  common-self common = ap (λ (b : Bool). filter (same_sort Run) (if b then Run ∷ phase ∷ [] else phase ∷ [])) common ∙ rw common refl

  common-none : is_runtime phase ≡ false → going_like PreReset (During phase) ≡ []
  common-none common = ap (λ (b : Bool). filter (same_sort PreReset) (if b then Run ∷ phase ∷ [] else phase ∷ [])) common ∙ rw common refl

  after-run : is_runtime phase ≡ true → going_like Run (After phase) ≡ Run ∷ []
  after-run beside = ap (λ (b : Bool). filter (same_sort Run) (if b then Run ∷ [] else [])) beside

  after-none : is_runtime phase ≡ false → going_like Run (After phase) ≡ []
  after-none common = ap (λ (b : Bool). filter (same_sort Run) (if b then Run ∷ [] else [])) common

  after-runtime : going_like PreReset (After phase) ≡ []
  after-runtime = by (is_runtime phase)
    where
      by : (b : Bool) → filter (same_sort PreReset) (if b then Run ∷ [] else []) ≡ []
      by true = refl
      by false = refl

phase_cursor-as : {going other : List Phase} {nodes : List Node} {components called calls : List ℕ} {kept same : PhaseCursor} → going ≡ other → called ≡ calls → kept ≡ same → ArePhaseCursor other nodes components calls same → ArePhaseCursor going nodes components called kept
phase_cursor-as in_it called is phase_cursors = rw (in_it, called, is) phase_cursors

-- a phase begins
module _ {nodes : List Node} {components : List ℕ} {called : Phase → List ℕ} {old new : PhaseCursors} (stage : RunStage) (phase : Phase) (begun : HasBegunRound phase old new) (phase_cursors : ArePhaseCursors stage nodes components called old) where
  abbrev called_then : Phase → List ℕ
  called_then sort = if same_sort phase sort then [] else called sort

  then-is : (b : Bool) (sort : Phase) → same_sort phase sort ≡ b → called_then sort ≡ (if b then [] else called sort)
  then-is b sort is = ap (λ (b : Bool). if b then [] else called sort) is

  -- run goes on beside a run-time phase
  run-stays : is_runtime phase ≡ true → in_progress (During phase) ≡ in_progress stage ++ phase ∷ [] → Run ∷ [] ≡ going_like Run stage
  run-stays beside behind =
      sym (beside-run phase beside) ∙ ap (filter (same_sort Run)) behind ∙ filter-append (same_sort Run) (in_progress stage) (phase ∷ []) ∙ rw beside (append-none (going_like Run stage))
    where
      append-none : (xs : List Phase) → xs ++ [] ≡ xs
      append-none [] = refl
      append-none (x ∷ xs) = ap (λ (ys : List Phase). x ∷ ys) (append-none xs)

  begun-by : (b : Bool) → is_runtime phase ≡ b → in_progress (During phase) ≡ in_progress stage ++ phase ∷ [] → ArePhaseCursors (During phase) nodes components called_then new
  begun-by true beside behind =
      let direction : order_of new.runtime.direction ≡ phase_order phase = rw beside at begun.direction in
      let last : new.runtime.last ≡ None = rw beside at begun.last in
      let late : new.runtime.late.items ≡ [] = rw beside at begun.late in
      let stays : new.common ≡ old.common = rw beside at begun.beside in
      record {
        common = phase_cursor-as (beside-run phase beside ∙ run-stays beside behind) (then-is false Run (rw beside refl)) stays phase_cursors.common;
        runtime = phase_cursor-as (beside-self phase beside) (then-is true PreReset (rw beside refl)) refl (phase_cursor-begin (All-cons (λ one. order_of new.runtime.direction ≡ phase_order one) phase [] direction (All-nil _)) last late phase_cursors.runtime);
      }
  begun-by false common behind =
      let direction : order_of new.common.direction ≡ phase_order phase = rw common at begun.direction in
      let last : new.common.last ≡ None = rw common at begun.last in
      let late : new.common.late.items ≡ [] = rw common at begun.late in
      let stays : new.runtime ≡ old.runtime = rw common at begun.beside in
      record {
        common = phase_cursor-as (common-self phase common) (then-is true Run (rw common refl)) refl (phase_cursor-begin (All-cons (λ one. order_of new.common.direction ≡ phase_order one) phase [] direction (All-nil _)) last late phase_cursors.common);
        runtime = phase_cursor-as (common-none phase common) (then-is false PreReset (rw common refl)) stays (phase_cursor-going (All-nil _) phase_cursors.runtime);
      }

  pub phase_cursors-begun : in_progress (During phase) ≡ in_progress stage ++ phase ∷ [] → ArePhaseCursors (During phase) nodes components called_then new
  phase_cursors-begun behind = begun-by (is_runtime phase) refl behind

-- or ends
ended-run : (stage : RunStage) (phase : Phase) → running stage ≡ Some phase → is_runtime phase ≡ true → going_like Run stage ≡ Run ∷ []
ended-run Before phase runs beside = cc
ended-run Ended phase runs beside = cc
ended-run (During other) phase runs beside = let same : other ≡ phase = cc in subst (λ (p : Phase). going_like Run (During p) ≡ Run ∷ []) (sym same) (beside-run phase beside)
ended-run (After other) phase runs beside = by (is_runtime other) runs
  where
    by : (b : Bool) → (if b then Some Run else None) ≡ Some phase → going_like Run (After other) ≡ Run ∷ []
    by true e = let same : Run ≡ phase = cc in let clash : is_runtime Run ≡ true = ap is_runtime same ∙ beside in cc
    by false e = cc

pub phase_cursors-ended :
    {nodes : List Node} {components : List ℕ} {called : Phase → List ℕ} {kept : PhaseCursors} (stage : RunStage) (phase : Phase) → running stage ≡ Some phase → ArePhaseCursors stage nodes components called kept → ArePhaseCursors (After phase) nodes components called kept
phase_cursors-ended {nodes} {components} {called} {kept} stage phase runs phase_cursors = by (is_runtime phase) refl
  where
    by : (b : Bool) → is_runtime phase ≡ b → ArePhaseCursors (After phase) nodes components called kept
    by true beside = record { common = phase_cursor-as (after-run phase beside ∙ sym (ended-run stage phase runs beside)) refl refl phase_cursors.common; runtime = phase_cursor-as (after-runtime phase) refl refl (phase_cursor-going (All-nil _) phase_cursors.runtime) }
    by false common = record { common = phase_cursor-as (after-none phase common) refl refl (phase_cursor-going (All-nil _) phase_cursors.common); runtime = phase_cursor-as (after-runtime phase) refl refl (phase_cursor-going (All-nil _) phase_cursors.runtime) }

-- with the end of the run
pub phase_cursors-over : {nodes : List Node} {components : List ℕ} {called : Phase → List ℕ} {kept : PhaseCursors} {stage : RunStage} → ArePhaseCursors stage nodes components called kept → ArePhaseCursors Ended nodes components called kept
phase_cursors-over phase_cursors = record { common = phase_cursor-going (All-nil _) phase_cursors.common; runtime = phase_cursor-going (All-nil _) phase_cursors.runtime }

-- a call was heard by whoever's turn it was
tail-of : (P : Phase → Type 0) (b : Bool) (x : Phase) (xs : List Phase) → All P (if b then x ∷ xs else xs) → All P xs
tail-of P true x xs all = All-tail P x xs all
tail-of P false x xs all = all

head-of : (P : Phase → Type 0) (b : Bool) (x : Phase) (xs : List Phase) → b ≡ true → All P (if b then x ∷ xs else xs) → P x
head-of P true x xs passes all = All-head P x xs all
head-of P false x xs passes all = cc

going-holds : (P : Phase → Type 0) (sort phase : Phase) (xs : List Phase) → All P (filter (same_sort sort) xs) → same_sort sort phase ≡ true → list_any (same_phase phase) xs ≡ true → P phase
going-holds P sort phase [] all like going = cc
going-holds P sort phase (x ∷ xs) all like going = by (same_phase phase x) refl going (going-holds P sort phase xs (tail-of P (same_sort sort x) x (filter (same_sort sort) xs) all) like)
  where
    by : (b : Bool) → same_phase phase x ≡ b → b || list_any (same_phase phase) xs ≡ true → (list_any (same_phase phase) xs ≡ true → P phase) → P phase
    by true is going rest =
        let same : phase ≡ x = same-phase phase x is in
        subst P (sym same) (head-of P (same_sort sort x) x (filter (same_sort sort) xs) (ap (same_sort sort) (sym same) ∙ like) all)
    by false is going rest = rest going

-- the direction of a phase
pub phase-direction : (phase : Phase) → (direction : Direction) × (order_of direction ≡ phase_order phase)
phase-direction phase = by (is_top_down phase)
  where
    by : (b : Bool) → (direction : Direction) × (order_of direction ≡ (if b then down_cmp else up_cmp))
    by true = (Down, refl)
    by false = (Up, refl)

module _ {nodes : List Node} {components : List ℕ} {called : Phase → List ℕ} {old new : PhaseCursors} (stage : RunStage) (phase : Phase) (node : ℕ) (going : list_any (same_phase phase) (in_progress stage) ≡ true) (heard : IsHeardInPhaseCursors phase node old new)
    (orders : (direction : Direction) → OrdersNodes nodes (node_cmp (order_of direction) nodes)) (leasts : LeastIsLeast) (phase_cursors : ArePhaseCursors stage nodes components called old) where
  abbrev uncalled_in : Phase → List ℕ
  uncalled_in sort = filter (λ n. not (had_call (called sort) n)) components

  abbrev heard_then : Phase → List ℕ
  heard_then sort = if same_sort phase sort then node ∷ called sort else called sort

  heard-in : (sort : Phase) {kept after : PhaseCursor} → ArePhaseCursor (going_like sort stage) nodes components (called sort) kept → same_sort sort phase ≡ true → IsHeardIn node kept after → least (is_before (phase_order phase) nodes) (uncalled_in sort) ≡ Some node
      → ArePhaseCursor (going_like sort stage) nodes components (node ∷ called sort) after
  heard-in sort {kept} phase_cursors like is turn =
      let order : order_of kept.direction ≡ phase_order phase = going-holds (λ one. order_of kept.direction ≡ phase_order one) sort phase (in_progress stage) phase_cursors.direction like going in
      let first = leasts (node_cmp (order_of kept.direction) nodes) (orders kept.direction).total (uncalled_in sort) in
      let found : least (is_before (order_of kept.direction) nodes) (uncalled_in sort) ≡ Some node = ap (λ (o : PathOrder). least (is_before o nodes) (uncalled_in sort)) order ∙ turn in
      phase_cursor-heard node phase_cursors is (orders kept.direction) (subst (IsLeast (is_before (order_of kept.direction) nodes) (uncalled_in sort)) found first)

  pub phase_cursors-heard : ((sort : Phase) → is_runtime phase ≡ is_runtime sort → called phase ≡ called sort) → least (is_before (phase_order phase) nodes) (uncalled_in phase) ≡ Some node → ArePhaseCursors stage nodes components heard_then new
  phase_cursors-heard alike turn = by (is_runtime phase) refl
    where
      heard-is : (b : Bool) (sort : Phase) → same_sort phase sort ≡ b → heard_then sort ≡ (if b then node ∷ called sort else called sort)
      heard-is b sort is = ap (λ (b : Bool). if b then node ∷ called sort else called sort) is

      turn-in : (sort : Phase) → is_runtime phase ≡ is_runtime sort → least (is_before (phase_order phase) nodes) (uncalled_in sort) ≡ Some node
      turn-in sort same = ap (λ (called : List ℕ). least (is_before (phase_order phase) nodes) (filter (λ n. not (had_call called n)) components)) (sym (alike sort same)) ∙ turn

      by : (b : Bool) → is_runtime phase ≡ b → ArePhaseCursors stage nodes components heard_then new
      by true beside =
          let stays : new.common ≡ old.common = rw beside at heard.beside in
          let in_it : IsHeardIn node old.runtime new.runtime = rw beside at heard.heard in
          record { common = phase_cursor-as refl (heard-is false Run (rw beside refl)) stays phase_cursors.common; runtime = phase_cursor-as refl (heard-is true PreReset (rw beside refl)) refl (heard-in PreReset phase_cursors.runtime beside in_it (turn-in PreReset beside)) }
      by false common =
          let stays : new.runtime ≡ old.runtime = rw common at heard.beside in
          let in_it : IsHeardIn node old.common new.common = rw common at heard.heard in
          record { common = phase_cursor-as refl (heard-is true Run (rw common refl)) refl (heard-in Run phase_cursors.common (rw common refl) in_it (turn-in Run common)); runtime = phase_cursor-as refl (heard-is false PreReset (rw common refl)) stays phase_cursors.runtime }

-- those of a phase
pub phase_cursor-of :
    {stage : RunStage} {nodes : List Node} {components : List ℕ} {called : Phase → List ℕ} {kept : PhaseCursors} (phase : Phase) → ((sort : Phase) → is_runtime phase ≡ is_runtime sort → called sort ≡ called phase) → ArePhaseCursors stage nodes components called kept
    → (going : List Phase) × ArePhaseCursor going nodes components (called phase) (phase_cursor_in phase kept)
phase_cursor-of {stage} {nodes} {components} {called} {kept} phase alike phase_cursors = by (is_runtime phase) refl
  where
    by : (b : Bool) → is_runtime phase ≡ b → (going : List Phase) × ArePhaseCursor going nodes components (called phase) (if b then kept.runtime else kept.common)
    by true beside = (going_like PreReset stage, rw (← alike PreReset beside) phase_cursors.runtime)
    by false common = (going_like Run stage, rw (← alike Run common) phase_cursors.common)
