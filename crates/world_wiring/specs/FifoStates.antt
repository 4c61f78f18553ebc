-- What changes at the FIFOs of a run.
use Rattle.std.specs.Prelude.{◌≡◌, ℕ, Bool, true, false, ◌==◌, nat_eq, List, [], ◌∷◌, ◌++◌, Option, Some, None, option_map, option_and_then, if◌then◌else◌}
use Rattle.std.specs.List.{list_any}
use Rattle.std.specs.Option.{option_or}
use Rattle.std.specs.declared.hash.FoldHasher.{FoldHasher}
use Rattle.std.specs.declared.hash.BuildHasherDefault.{BuildHasherDefault}
use Rattle.std.specs.HashMap.{HashMap, get}
use Rattle.uvm_phase.specs.declared.phases.Phase.{Phase}
use Rattle.uvm_phase.specs.Phases.{phase_number}
use Rattle.uvm_tlm.specs.declared.items.Item.{Item}
use Rattle.uvm_tlm.specs.Fifos.{FifoValue, new_fifo, with_item, without_item, next_move, after_move, can_put, cleared}
use Rattle.uvm_object.specs.declared.entries.Passage.{Passage}
use Rattle.bench_history.specs.declared.requesters.Requester.{Requester}
use Rattle.bench_history.specs.Passing.{passage_in}

-- the FIFOs by their nodes
abbrev pub FifoMap : Type 0
FifoMap = HashMap ℕ (FifoValue Requester) (BuildHasherDefault FoldHasher)

-- an empty FIFO of this size is added at a node, if there is a size
abbrev pub AddsFifoState : Option ℕ → ℕ → FifoMap → FifoMap → Type 0
AddsFifoState size node old new = (n : ℕ) → get nat_eq new n ≡ option_or (if node == n then option_map new_fifo size else None) (get nat_eq old n)

-- the next transfer at a node, with the node
abbrev pub passing_in : FifoMap → ℕ → Option (ℕ × Passage)
passing_in fifo_states fifo = option_map (λ passage. (fifo, passage)) (option_and_then passage_in (get nat_eq fifo_states fifo))

-- the FIFO at one node changes, and no other
abbrev pub ChangesAt : ℕ → (FifoValue Requester → FifoValue Requester) → FifoMap → FifoMap → Type 0
ChangesAt fifo change old new = (n : ℕ) → get nat_eq new n ≡ (if fifo == n then option_map change (get nat_eq old n) else get nat_eq old n)

-- each FIFO changes
abbrev pub ChangesEach : (FifoValue Requester → FifoValue Requester) → FifoMap → FifoMap → Type 0
ChangesEach change old new = (n : ℕ) → get nat_eq new n ≡ option_map change (get nat_eq old n)

-- a FIFO with one more waiting take or peek
abbrev pub with_taker : Requester → Bool → FifoValue Requester → FifoValue Requester
with_taker requester peeks f = record f { takes = f.takes ++ record { owner = requester; peeks = peeks } ∷ [] }

-- with one more item, if it is put immediately; otherwise the same
abbrev pub with_stored_if : Bool → Item → FifoValue Requester → FifoValue Requester
with_stored_if true item f = with_item item f
with_stored_if false item f = f

-- without the first item, if one is taken immediately; otherwise the same
abbrev pub without_first_if : Option Item → FifoValue Requester → FifoValue Requester
without_first_if (Some item) f = without_item f
without_first_if None f = f

-- after the next move; the same if there is none
abbrev pub after_passage : FifoValue Requester → FifoValue Requester
after_passage f = after_move (next_move f) f

-- without the puts, takes and peeks that were requested in a phase
abbrev pub without_waits : Phase → FifoValue Requester → FifoValue Requester
without_waits phase = cleared (λ (requester : Requester). phase_number requester.phase) (phase_number phase)

-- with one more item, if the FIFO can take it immediately; otherwise the same
abbrev pub stored_once : Item → FifoValue Requester → FifoValue Requester
stored_once item f = with_stored_if (can_put f) item f

-- an item is put into each FIFO among some nodes that can take it immediately
abbrev pub StoresAll : Item → List ℕ → FifoMap → FifoMap → Type 0
StoresAll item targets old new = (n : ℕ) → get nat_eq new n ≡ (if list_any (nat_eq n) targets then option_map (stored_once item) (get nat_eq old n) else get nat_eq old n)
