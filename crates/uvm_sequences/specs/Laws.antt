-- The laws that follow from the definitions.
use Rattle.std.specs.Prelude.{◌≡◌, ◌==◌, ◌≤◌, ℕ, List, [], ◌∷◌, length, Option, IsSome, option_map, if◌then◌else◌}
use Rattle.std.specs.Option.{option_map_or}
use Rattle.uvm_sequences.specs.declared.starts.SeqStep.{SeqStep}
use Rattle.uvm_sequences.specs.Sequences.{Start, SequencesValue, IsSequences, AreStarted, ancestors_of, numbered, parent_of, step_at, with_step}

-- the law that the ancestors of a sequence are its parent and the ancestors of its parent
abbrev pub AncestorsByParents : Type 0
AncestorsByParents = (started : List Start) → AreStarted started → (id : ℕ) → ancestors_of started id ≡ option_map_or (λ parent. parent ∷ ancestors_of started parent) (parent_of started id) []

-- the law that the ancestors of a sequence that was started stay the same when another sequence is started
abbrev pub AncestorsStay : Type 0
AncestorsStay = (start : Start) (started : List Start) (id : ℕ) → id ≤ length started → ancestors_of (start ∷ started) id ≡ ancestors_of started id

-- the law that each active sequence was started
abbrev pub LiveIsStarted : Type 0
LiveIsStarted = (s : SequencesValue) → IsSequences s → (id : ℕ) → IsSome (step_at s.steps id) → IsSome (numbered s.started id)

-- the law that a change of the step of one sequence leaves the steps of all others
abbrev pub StepsChangeAlone : Type 0
StepsChangeAlone = (steps : List (Option SeqStep)) (id : ℕ) (step : Option SeqStep) (other : ℕ) →
    numbered (with_step id step steps) other ≡ (if other == id then option_map (λ _. step) (numbered steps other) else numbered steps other)
