-- The sequences that were started, newest first: the sequencer, the parent and the step of each. The number of a sequence is that of its start: the
-- oldest has number 1.
use Rattle.std.specs.Prelude.{◌≡◌, ℕ, Bool, ◌==◌, ◌||◌, ◌+◌, ◌<◌, List, [], ◌∷◌, length, reverse, Option, Some, None, option_map, option_and_then, if◌then◌else◌}
use Rattle.std.specs.List.{filter_map, list_any}
use Rattle.std.specs.Option.{option_map_or, ForSome}
use Rattle.uvm_sequences.specs.declared.starts.SeqStep.{SeqStep}
use Rattle.uvm_sequences.specs.declared.starts.SeqStep.TheVariants.{PreStart, Body, PostStart}

-- how a sequence was started: its sequencer, its parent, its name and its priority
pub record Start : Type 0 where
  pub home : ℕ
  pub parent : Option ℕ
  pub name : List ℕ
  pub priority : ℕ

-- how each sequence was started, the step of each that is active, and for how many more there is reserved capacity
pub record SequencesValue : Type 0 where
  pub started : List Start
  pub steps : List (Option SeqStep)
  pub spare : ℕ

-- how many sequences fit in all before more memory is needed
abbrev pub capacity_of : SequencesValue → ℕ
capacity_of s = length s.started + s.spare

-- the element of a number in a list, newest first; the oldest has number 1
abbrev pub numbered : {X : Type 0} → List X → ℕ → Option X
numbered [] n = None
numbered (x ∷ older) n = if n == length (x ∷ older) then Some x else numbered older n

-- the parent of a sequence: the sequence that started it
abbrev pub parent_of : List Start → ℕ → Option ℕ
parent_of started id = option_and_then (λ start. start.parent) (numbered started id)

-- the ancestors of a sequence: its parent, the parent of that, and so on; each is older than the one before
abbrev pub ancestors_of : List Start → ℕ → List ℕ
ancestors_of [] id = []
ancestors_of (start ∷ older) id =
    if id == length (start ∷ older)
    then option_map_or (λ parent. parent ∷ ancestors_of older parent) start.parent []
    else ancestors_of older id

-- whether a sequence is another, or the other is one of its ancestors
abbrev pub is_under : List Start → ℕ → ℕ → Bool
is_under started id above = (id == above) || list_any (λ ancestor. ancestor == above) (ancestors_of started id)

-- the name of a sequence, if it was started
abbrev pub name_at : List Start → ℕ → Option (List ℕ)
name_at started id = option_map (λ start. start.name) (numbered started id)

-- the names from the root sequence, which has no parent, down to the sequence itself
abbrev pub names_of : List Start → ℕ → List (List ℕ)
names_of started id = reverse (filter_map (name_at started) (id ∷ ancestors_of started id))

-- the step of an active sequence; none for any other
abbrev pub step_at : List (Option SeqStep) → ℕ → Option SeqStep
step_at steps id = option_and_then (λ step. step) (numbered steps id)

-- the step after a step; none after the last
abbrev pub step_after : SeqStep → Option SeqStep
step_after PreStart = Some Body
step_after Body = Some PostStart
step_after PostStart = None

-- the steps with another step for the sequence of a number, if it was started; newest first
abbrev pub with_step : ℕ → Option SeqStep → List (Option SeqStep) → List (Option SeqStep)
with_step id step [] = []
with_step id step (other ∷ older) = if id == length (other ∷ older) then step ∷ older else other ∷ with_step id step older

-- the sequences after one moved to a step; unchanged if there is no step
abbrev pub stepped : ℕ → Option SeqStep → SequencesValue → SequencesValue
stepped id None s = s
stepped id (Some step) s = record s { steps = with_step id (Some step) s.steps }

-- the sequences after one ended
abbrev pub finished : ℕ → SequencesValue → SequencesValue
finished id s = record s { steps = with_step id None s.steps }

-- each parent was started before its child, and each priority is at least 1
abbrev pub AreStarted : List Start → Type 0
AreStarted [] = Unit {0}
AreStarted (start ∷ older) = ForSome start.parent (λ parent. parent < length (start ∷ older)) × (0 < start.priority) × AreStarted older

-- what is true of all sequences: the starts satisfy `AreStarted`, and each has an entry for its step, which is none once the sequence has ended
pub record IsSequences (s : SequencesValue) : Type 0 where
  pub started : AreStarted s.started
  pub steps : length s.steps ≡ length s.started
