-- An answer.
use Rattle.world_entries.proofs.Common.{◌≡◌, ℕ, false, List, ◌∷◌, length, Option, Some, None, option_map, All, subst, refl, ap, sym, arith, ◌<◌, true, if◌then◌else◌, All-contains, list_any, Phase, same_phase, Who, Call, Act, node_of, Sequence, Direction, order_of, LeastIsLeast, OrdersNodes, node_cmp, IsThere, components_called, calls_sort, components_of, in_progress, next_call, nodes_of, phase_heard, same_sort, stage_of, StartRecord, starts_of, numbered, numbered-holds, Origin, Entry, Heard, PhaseCursors, RunStage, acts_in, IsAnswerCursor, ArePhaseCursors, IsHeardInPhaseCursors, called-alike, phase_cursors-heard, get-last, answered-last}
use Rattle.uvm_acts.specs.declared.acts.Who.TheVariants.{Node}

-- who is there stands at a node
pub there-within :
    (history : List Entry) (performer : Who) {stage : RunStage} {called : Phase → List ℕ} {kept : PhaseCursors} → IsThere history performer → All (λ start_record. start_record.start.home < length (nodes_of history)) (starts_of history)
    → ArePhaseCursors stage (nodes_of history) (components_of history) called kept → node_of performer < length (nodes_of history)
there-within history (Node node) there homes phase_cursors = All-contains (λ other. other < length (nodes_of history)) (components_of history) node phase_cursors.common.within there
there-within history (Sequence home id) there homes phase_cursors = found (numbered (starts_of history) id) refl there.home_is
  where
    found : (start_record : Option StartRecord) → numbered (starts_of history) id ≡ start_record → option_map (λ start_record. start_record.start.home) start_record ≡ Some home → home < length (nodes_of history)
    found None is e = cc
    found (Some start_record) is e =
        let same : start_record.start.home ≡ home = cc in
        subst (λ (h : ℕ). h < length (nodes_of history)) same (numbered-holds (λ (one : StartRecord). one.start.home < length (nodes_of history)) (starts_of history) id start_record homes is)

-- who had a call then, by phases
abbrev pub called_in : Call → ℕ → List Entry → Phase → List ℕ
called_in call node history sort = if calls_sort sort call then node ∷ components_called sort history else components_called sort history

-- whose turn it was had its call
pub heard-phase_cursors :
    (history : List Entry) (performer : Who) (phase : Phase) {old new : PhaseCursors} → list_any (same_phase phase) (in_progress (stage_of history)) ≡ true → next_call phase history ≡ Some (node_of performer)
    → ((direction : Direction) → OrdersNodes (nodes_of history) (node_cmp (order_of direction) (nodes_of history))) → LeastIsLeast
    → ArePhaseCursors (stage_of history) (nodes_of history) (components_of history) (λ phase. components_called phase history) old → IsHeardInPhaseCursors phase (node_of performer) old new
    → ArePhaseCursors (stage_of history) (nodes_of history) (components_of history) (λ sort. if same_sort phase sort then node_of performer ∷ components_called sort history else components_called sort history) new
unfolding next_call
heard-phase_cursors history performer phase going turn orders leasts phase_cursors heard =
    phase_cursors-heard (stage_of history) phase (node_of performer) going heard orders leasts phase_cursors (λ sort same. called-alike phase sort history same) turn

-- the answer is the last one, and all of it is left
pub heard-answer :
    (test_creation : Act) (before : List Entry) (performer : Who) (call : Call) (origin : Option Origin) (acts : List Act) (phase : Option Phase) → phase ≡ phase_heard call origin
    → IsAnswerCursor test_creation (Heard performer origin call acts ∷ before) acts performer (phase_heard call origin) (record { performer = performer; phase = phase; place = Some (length before); count = length acts; done = 0; noted = false })
heard-answer test_creation before performer call origin acts phase is =
    let last = ap acts_in (get-last (Heard performer origin call acts) before) in
    record {
      performer = refl;
      phase = is;
      rest = last;
      within = answered-last (Heard performer origin call acts) before;
      count = ap length (sym last);
      few = omega arith;
    }
