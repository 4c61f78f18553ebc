-- The value of a kernel in contracts, and what is true of each kernel.
use Rattle.std.specs.Prelude.{◌≡◌, ◌≢◌, ℕ, Bool, true, false, ◌||◌, List, [], ◌∷◌, length, All, Contains, Option, Some, None, is_some, not, if◌then◌else◌}
use Rattle.std.specs.List.{IsDistinct}
use Rattle.std.specs.Map.{keys_of}
use Rattle.std.specs.Option.{option_map_or}
use Rattle.uvm_tree.specs.Nodes.{path_at}
use Rattle.uvm_acts.specs.declared.acts.Who.{Who}
use Rattle.uvm_acts.specs.declared.acts.Who.TheVariants.{Node, Sequence}
use Rattle.uvm_acts.specs.declared.acts.Act.{Act}
use Rattle.uvm_object.specs.Objects.{View, Says, IsHonestNow, life_of, same_who}
use Rattle.uvm_object.specs.declared.entries.Outcome.{Outcome}
use Rattle.uvm_object.specs.declared.entries.Outcome.TheVariants.{Made, Started}
use Rattle.uvm_object.specs.declared.entries.Entry.{Entry}
use Rattle.uvm_object.specs.declared.entries.Entry.TheVariants.{Did}
use Rattle.bench_script.specs.Scripts.{ScriptValue}
use Rattle.bench_history.specs.History.{nodes_of, components_of, is_over}
use Rattle.bench_history.specs.Sequences.{all_begun, starts_of, sequences_of, start_by}
use Rattle.bench_history.specs.Laws.{AreRising, IsLiving}
use Rattle.bench_history.specs.Next.{EachIsNext, need_in, next_of}
use Rattle.bench_core.specs.Cores.{IsAskedNext, CoreValue, is_good, need_of}
use Rattle.bench_history.specs.declared.needs.Need.{Need}
use Rattle.bench_core.specs.declared.cores.Health.{Health}
use Rattle.bench_core.specs.declared.cores.Health.TheVariants.{Good}
use Rattle.bench_kernel.specs.SequenceSeats.{AreRisingWithin}

-- the value of a kernel: the core; the held objects, each with its component or sequence; whether it has failed; whose call has no entry in the log
pub record KernelValue (O : Type 0) : Type 0 where
  pub core : CoreValue
  pub held : List (Who × O)
  pub failed : Bool
  pub unknown : Option Who

-- whether a kernel has failed: it was abandoned, a call has no entry in the log, or the core has failed
abbrev pub failed_of : Bool → Option Who → Health → Bool
failed_of abandoned unknown health = abandoned || (is_some unknown || not (is_good health))

-- the components and sequences whose objects are held
abbrev pub who_held : {O : Type 0} → KernelValue O → List Who
who_held kernel = keys_of kernel.held

-- the object that is needed; none if the kernel has failed
abbrev pub open_need : {O : Type 0} → KernelValue O → Option Need
open_need kernel = if kernel.failed then None else need_of kernel.core.standing

-- the name of the type of the object that is needed; the empty name if none is
abbrev pub wanted_in : {O : Type 0} → KernelValue O → List ℕ
wanted_in kernel = option_map_or (λ need. need.type_name) (open_need kernel) []

-- the run has ended or the kernel has failed, so objects can be returned
abbrev pub is_done : {O : Type 0} → KernelValue O → Bool
is_done kernel = kernel.failed || is_over kernel.core.history

-- the kernel after `abandon`: it has failed, unless the run has ended
abbrev pub abandoned : {O : Type 0} → KernelValue O → KernelValue O
abandoned kernel = if is_over kernel.core.history then kernel else record kernel { failed = true }

-- the name of the type of the object that comes next in a log as needed; the empty name if none does
abbrev pub needed_type : ScriptValue → List Entry → List ℕ
needed_type script history = option_map_or (λ need. need.type_name) (need_in (next_of script history)) []

-- the components and sequences that were made, after an action: one more, if it created a component or started a sequence
abbrev pub types_after : List ℕ → List Entry → List (Who × List ℕ) → Who → Outcome → Act → List (Who × List ℕ)
types_after needed before types performer (Made type_name) act = (Node (length (nodes_of before)), type_name) ∷ types
types_after needed before types performer (Started id) act = (Sequence (start_by (nodes_of before) (sequences_of before) performer act).home id, needed) ∷ types
types_after needed before types performer outcome act = types

-- all components and sequences that were made, each with the name of its type: by the log for a component, by the object that was needed
-- for a sequence
abbrev pub types_made : ScriptValue → List Entry → List (Who × List ℕ)
types_made script [] = []
types_made script (Did performer outcome act ∷ before) = types_after (needed_type script before) before (types_made script before) performer outcome act
types_made script (entry ∷ before) = types_made script before

module _ {O : Type 0} (view : O → View) (says : O → Says) where
  -- each held object conforms to its calls and answers in the log, except that of the component or sequence for which a call has no entry
  abbrev pub LiveHonestly : List (Who × O) → Option Who → List Entry → Type 0
  LiveHonestly held unknown history = All (λ seat. unknown ≢ Some seat.0 → IsHonestNow (says seat.1) (view seat.1) (life_of seat.0 history)) held

  -- each object of a kernel conforms to the log (`LiveHonestly`)
  abbrev pub AreHonest : KernelValue O → Type 0
  AreHonest kernel = LiveHonestly kernel.held kernel.unknown kernel.core.history

-- a component was made, or a sequence was started
abbrev pub WasMade : List Entry → Who → Type 0
WasMade history (Node node) = Contains (components_of history) node
WasMade history (Sequence home id) = Contains (all_begun (starts_of history)) (Sequence home id)

-- the object of each component is held, of each active sequence, and of each ended sequence that was not reported yet
pub record AreAllHeld (history : List Entry) (leaving held : List Who) : Type 0 where
  pub components : All (λ node. Contains held (Node node)) (components_of history)
  pub living : (id home : ℕ) → IsLiving history id home → Contains held (Sequence home id)
  pub ended : All (Contains held) leaving

-- what is true of the held objects: no two are of the same component or sequence, each was made, and has the type that was made. Until the
-- kernel is done all are held that must be (`AreAllHeld`)
pub record AreHeld {O : Type 0} (name : O → List ℕ) (done : Bool) (script : ScriptValue) (history : List Entry) (leaving : List Who) (held : List (Who × O)) : Type 0 where
  pub distinct : IsDistinct same_who (keys_of held)
  pub made : All (WasMade history) (keys_of held)
  pub named : All (λ seat. Contains (types_made script history) (seat.0, name seat.1)) held
  pub whole : done ≡ false → AreAllHeld history leaving (keys_of held)

-- a sequence has ended; never true of a component
abbrev pub HasEnded : List Entry → Who → Type 0
HasEnded history (Node node) = ⊥
HasEnded history (Sequence home id) = IsLiving history id home → ⊥

-- the sequences that are still to be reported have ended, and are in ascending order of number; after the end of the run there are none
pub record AreToldNext (history : List Entry) (leaving : List Who) : Type 0 where
  pub have_ended : All (HasEnded history) leaving
  pub rising : AreRising leaving
  pub over : is_over history ≡ true → leaving ≡ []

-- each component has a slot with the path of its node; the sequences are in ascending order of number, and as many were stored as were
-- started
pub record AreSeated {O : Type 0} (history : List Entry) (paths : List (List (List ℕ) × ℕ)) (count : ℕ) (sequences : List (Who × O)) : Type 0 where
  pub placed : All (λ place. path_at (nodes_of history) place.1 ≡ place.0) paths
  pub rising : AreRisingWithin 0 count (keys_of sequences)
  pub started : count ≡ length (starts_of history)

-- what is true of each kernel: each entry of its log was next, its objects conform to the log, and `AreHeld`. Until the kernel fails, its
-- core has not failed, and its open request is what comes next. Its ended sequences are reported in order, and each call has its entry
pub record IsKernel {O : Type 0} (view : O → View) (name : O → List ℕ) (says : O → Says) (kernel : KernelValue O) : Type 0 where
  pub each : EachIsNext kernel.core.script kernel.core.history
  pub honest : AreHonest view says kernel
  pub custody : AreHeld name (is_done kernel) kernel.core.script kernel.core.history kernel.core.leaving kernel.held
  pub good : kernel.failed ≡ false → kernel.core.health ≡ Good
  pub comes : kernel.failed ≡ false → IsAskedNext kernel.core.standing (next_of kernel.core.script kernel.core.history)
  pub told : kernel.failed ≡ false → AreToldNext kernel.core.history kernel.core.leaving
  pub known : kernel.failed ≡ false → kernel.unknown ≡ None
