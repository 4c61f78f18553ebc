-- Why actions are refused: for each action the reasons, in the order of their checks. Before these checks an action is refused that is not
-- open to its performer. After them an action is refused whose needed object is declined (Next, `Allows`).
use Rattle.std.specs.Prelude.{ℕ, Bool, true, false, not, ◌&&◌, ◌||◌, ◌==◌, List, [], ◌∷◌, ◌++◌, length, slice_get, Option, Some, None, option_map, option_and_then, is_none, is_some, nat_le, nat_lt, if◌then◌else◌}
use Rattle.std.specs.List.{list_any}
use Rattle.std.specs.Option.{option_map_or}
use Rattle.uvm_glob.specs.Faults.{fault_if}
use Rattle.uvm_glob.specs.Lists.{first_given}
use Rattle.uvm_glob.specs.Paths.{path_fault, path_text}
use Rattle.uvm_factory.specs.declared.types.Kind.{Kind}
use Rattle.uvm_factory.specs.declared.types.Kind.TheVariants.{Component, Sequence}
use Rattle.uvm_factory.specs.declared.overrides.Override.{Override}
use Rattle.uvm_factory.specs.Faults.{Types, type_named, is_same_kind}
use Rattle.uvm_factory.specs.Overrides.{made_type}
use Rattle.uvm_config.specs.Answers.{most_settings}
use Rattle.uvm_tlm.specs.declared.ends.End.{End}
use Rattle.uvm_tlm.specs.Wirings.{are_known, may_connect}
use Rattle.bench_history.specs.Limits.{most_ticks}
use Rattle.uvm_phase.specs.declared.phases.Phase.{Phase}
use Rattle.bench_history.specs.History.{in_task}
use Rattle.uvm_tree.specs.declared.faults.TreeFault.{TreeFault}
use Rattle.uvm_tree.specs.declared.faults.TreeFault.TheVariants.{NameTaken}
use Rattle.uvm_tree.specs.Nodes.{Node, path_at, add_fault}
use Rattle.uvm_acts.specs.declared.acts.Who.{Who}
use Rattle.uvm_acts.specs.declared.acts.Who.TheVariants as who
use Rattle.uvm_acts.specs.declared.acts.Act.{Act}
use Rattle.uvm_acts.specs.declared.acts.Act.TheVariants.{Create, Add, Connect, Put, TryPut, Take, TryTake, Peek, Write, Ask, ItemDone, Request, Lock, Grab, Unlock, Send, EndStep}
use Rattle.uvm_object.specs.declared.fatals.Fatal.{Fatal}
use Rattle.uvm_sequencer.specs.Drivers.{grant_of, hand_of, is_idle}
use Rattle.uvm_sequencer.specs.Queues.{is_held, is_item_of, is_lock_of}
use Rattle.uvm_sequencer.specs.Sequencers.{SequencerValue}
use Rattle.uvm_object.specs.declared.fatals.Fatal.TheVariants.{CreatedAfterBuild, InvalidType, ChildTaken, TreeLimit, OverrideLoop, TooManySettings, ConnectedTooLate, UnknownNode, KindsDiffer, NoPort, NoSequencer, AskedTwice, NothingOut, NotGranted, NotHeld, OutsideTask, ObjectionBelowZero, OutOfRange}

-- the data of a creation: the type name, the new name, the node of the parent, and what it depends on; the newest override is first
pub record Creation : Type 0 where
  pub built : Bool
  pub types : Types
  pub overrides : List Override
  pub nodes : List Node
  pub parent : ℕ
  pub type_name : List ℕ
  pub name : List ℕ

-- the path of the new node
abbrev pub created_path : Creation → List (List ℕ)
created_path creation = path_at creation.nodes creation.parent ++ creation.name ∷ []

-- the number of the type of a name, if it is of a kind
abbrev pub named_of_kind : Kind → Types → List ℕ → Option ℕ
named_of_kind kind types name = option_and_then (λ type_id. if option_map_or (λ t. is_same_kind t.1 kind) (slice_get types type_id) false then Some type_id else None) (type_named types name)

-- the type that is requested, if it is a component type
abbrev pub type_asked : Creation → Option ℕ
type_asked creation = named_of_kind Component creation.types creation.type_name

-- the type that the factory makes for a creation; none if its type is not a component type, or the overrides form a loop
abbrev pub type_made : Creation → Option ℕ
type_made creation = option_and_then (made_type creation.overrides (length creation.types) (path_text (created_path creation))) (type_asked creation)

-- the fatal report for an error of the tree, if there is an error
abbrev pub fatal_of : Option TreeFault → Option Fatal
fatal_of None = None
fatal_of (Some NameTaken) = Some ChildTaken
fatal_of (Some fault) = Some TreeLimit

-- why a new child of a name is refused: the name is taken; or there is no such parent, no name, or a limit of the tree is exceeded
abbrev pub child_refusal : List Node → ℕ → List ℕ → Option Fatal
child_refusal nodes parent name = fatal_of (add_fault nodes parent name)

-- why a creation is refused: build has ended, the type is not a component type, the child is refused, or the overrides form a loop
unfoldable pub creation_refusal : Creation → Option Fatal
creation_refusal creation =
    first_given (
    fault_if creation.built CreatedAfterBuild
    ∷ fault_if (is_none (type_asked creation)) InvalidType
    ∷ child_refusal creation.nodes creation.parent creation.name
    ∷ fault_if (is_none (type_made creation)) OverrideLoop
    ∷ [])

-- why an addition is refused: build has ended, or the child is refused
unfoldable pub addition_refusal : Bool → List Node → ℕ → List ℕ → Option Fatal
addition_refusal built nodes parent name = first_given (fault_if built CreatedAfterBuild ∷ child_refusal nodes parent name ∷ [])

-- the data of a start: the type name, the sequencer, the path and the priority, and what it depends on
pub record Starting : Type 0 where
  pub phase : Option Phase
  pub types : Types
  pub overrides : List Override
  pub type_name : List ℕ
  pub home : Option ℕ
  pub path : List (List ℕ)
  pub priority : Option ℕ

-- the number of the type with this name, if it is a sequence type
abbrev pub sequence_named : Types → List ℕ → Option ℕ
sequence_named types name = named_of_kind Sequence types name

-- the type that the factory makes for a start; none if its type is not a sequence type, or the overrides form a loop
abbrev pub sequence_made : Starting → Option ℕ
sequence_made starting = option_and_then (made_type starting.overrides (length starting.types) (path_text starting.path)) (sequence_named starting.types starting.type_name)

-- a priority of 0 is given
abbrev pub is_none_at_all : Option ℕ → Bool
is_none_at_all given = option_map_or (λ priority. priority == 0) given false

-- why a start is refused: its phase takes no time, the priority is 0, or the type is not a sequence type. Further, there is no sequencer, the path
-- exceeds the limits of paths, or the overrides form a loop
unfoldable pub starting_refusal : Starting → Option Fatal
starting_refusal starting =
    first_given (
    fault_if (not (in_task starting.phase)) OutsideTask
    ∷ fault_if (is_none_at_all starting.priority) OutOfRange
    ∷ fault_if (is_none (sequence_named starting.types starting.type_name)) InvalidType
    ∷ fault_if (is_none starting.home) NoSequencer
    ∷ fault_if (is_some (path_fault starting.path)) TreeLimit
    ∷ fault_if (is_none (sequence_made starting)) OverrideLoop
    ∷ [])

-- why a setting is refused: there are `most_settings` already, including those of the script
unfoldable pub setting_refusal : ℕ → Option Fatal
setting_refusal count = fault_if (nat_le most_settings count) TooManySettings

-- the kind of the type with this name, if there is one
abbrev pub kind_named : Types → List ℕ → Option Kind
kind_named types name = option_and_then (λ type_id. option_map (λ t. t.1) (slice_get types type_id)) (type_named types name)

-- both kinds are known, and they are the same
abbrev pub are_of_one_kind : Option Kind → Option Kind → Bool
are_of_one_kind (Some original) (Some new) = is_same_kind original new
are_of_one_kind original new = false

-- why an override is refused: a type is unknown, or the types are of different kinds
unfoldable pub overriding_refusal : Types → List ℕ → List ℕ → Option Fatal
overriding_refusal types original new = fault_if (not (are_of_one_kind (kind_named types original) (kind_named types new))) InvalidType

-- why a connection is refused: connect has ended, an end is unknown, or the ends do not fit
unfoldable pub connection_refusal : Bool → Option End → Option End → Option Fatal
connection_refusal connected from to =
    first_given (
    fault_if connected ConnectedTooLate
    ∷ fault_if (not (are_known from to)) UnknownNode
    ∷ fault_if (not (may_connect from to)) KindsDiffer
    ∷ [])

-- why an action through a port is refused: its phase takes no time, or there is no correctly connected port
unfoldable pub passing_refusal : Option Phase → Bool → Option Fatal
passing_refusal phase is_there = first_given (fault_if (not (in_task phase)) OutsideTask ∷ fault_if (not is_there) NoPort ∷ [])

-- why a driver's request for an item is refused: the driver is not idle
abbrev pub ask_refusal : SequencerValue → Option Fatal
ask_refusal s = fault_if (not (is_idle s.driver)) AskedTwice

-- why a driver's completion of an item is refused: the driver holds none
abbrev pub done_refusal : SequencerValue → Option Fatal
done_refusal s = fault_if (is_none (hand_of s.driver)) NothingOut

-- why an action of a driver is refused: its phase takes no time, there is no correctly connected port, or this reason
unfoldable pub driving_refusal : Option Phase → Bool → Option Fatal → Option Fatal
driving_refusal phase is_there refusal = first_given (fault_if (not (in_task phase)) OutsideTask ∷ fault_if (not is_there) NoPort ∷ refusal ∷ [])

-- why a request for an item is refused: the sequence already waits to send one, or has a grant and has not sent its item
abbrev pub item_refusal : ℕ → SequencerValue → Option Fatal
item_refusal id s = fault_if (list_any (is_item_of id) s.queue || is_some (grant_of id s.driver)) AskedTwice

-- why a request for an item with a priority is refused: the priority is 0, or this reason
unfoldable pub request_refusal : Option ℕ → Option Fatal → Option Fatal
request_refusal given refusal = first_given (fault_if (is_none_at_all given) OutOfRange ∷ refusal ∷ [])

-- why a request for a lock is refused: the sequence already waits for one
abbrev pub lock_refusal : ℕ → SequencerValue → Option Fatal
lock_refusal id s = fault_if (list_any (is_lock_of id) s.queue) AskedTwice

-- why the release of a lock is refused: the sequence holds none
abbrev pub unlock_refusal : ℕ → SequencerValue → Option Fatal
unlock_refusal id s = fault_if (not (is_held id s.holders)) NotHeld

-- why a send is refused: the sequence has no grant for which it has not sent its item
abbrev pub send_refusal : ℕ → SequencerValue → Option Fatal
send_refusal id s = fault_if (is_none (grant_of id s.driver)) NotGranted

-- why a raise is refused: its phase takes no time
unfoldable pub raise_refusal : Option Phase → Option Fatal
raise_refusal phase = fault_if (not (in_task phase)) OutsideTask

-- why a drop is refused: its phase takes no time, or less was raised at the node
unfoldable pub drop_refusal : Option Phase → ℕ → ℕ → Option Fatal
drop_refusal phase raised count = first_given (fault_if (not (in_task phase)) OutsideTask ∷ fault_if (nat_lt raised count) ObjectionBelowZero ∷ [])

-- why a drain time is refused: it is longer than `most_ticks`; a drain time may be set in any phase
unfoldable pub drain_refusal : ℕ → Option Fatal
drain_refusal ticks = fault_if (nat_lt most_ticks ticks) OutOfRange

-- why a wait is refused: its phase takes no time and the wait is longer than 0 ticks, or it is longer than `most_ticks`
unfoldable pub wait_refusal : Option Phase → ℕ → Option Fatal
wait_refusal phase ticks = first_given (fault_if (nat_lt 0 ticks && not (in_task phase)) OutsideTask ∷ fault_if (nat_lt most_ticks ticks) OutOfRange ∷ [])

-- the performer is a component, not a sequence
abbrev pub is_component : Who → Bool
is_component (who.Node node) = true
is_component (who.Sequence home id) = false

-- an action is open to its performer: to components, to sequences, or to both
abbrev pub is_open_to : Act → Who → Bool
is_open_to (Create type_name name) performer = is_component performer
is_open_to (Add name what) performer = is_component performer
is_open_to (Connect from to) performer = is_component performer
is_open_to (Put port item) performer = is_component performer
is_open_to (TryPut port item) performer = is_component performer
is_open_to (Take port) performer = is_component performer
is_open_to (TryTake port) performer = is_component performer
is_open_to (Peek port) performer = is_component performer
is_open_to (Write port item) performer = is_component performer
is_open_to (Ask port how) performer = is_component performer
is_open_to (ItemDone port response) performer = is_component performer
is_open_to (Request priority) performer = not (is_component performer)
is_open_to Lock performer = not (is_component performer)
is_open_to Grab performer = not (is_component performer)
is_open_to Unlock performer = not (is_component performer)
is_open_to (Send item) performer = not (is_component performer)
is_open_to EndStep performer = not (is_component performer)
is_open_to act performer = true
