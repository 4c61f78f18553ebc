-- The names of other crates and of this crate's specs that its proofs cite, passed on from one place. Declares nothing.
pub use Rattle.std.proofs.Common.{Bool, IfSome, IsSome, IsTrue, List, None, Option, Some, [], ap, arith, cond, drop, false, filter, if◌then◌else◌, is_some, length, length-append, length-drop, ltb, max, nat_eq, nat_le, nat_lt, not, refl, rules, subst, suc, sum_by, sym, take, tests, true, zero, ℕ, ◌%◌, ◌*◌, ◌++◌, ◌+◌, ◌-◌, ◌<◌, ◌∙◌, ◌∷◌, ◌≡◌, ◌≤◌}
pub use Rattle.std.proofs.Math.Nat.{mod-lt}
pub use Rattle.std.proofs.lemmas.Bool.Decides.{nat_tests}
pub use Rattle.std.proofs.lemmas.Fn.{filter_same}
pub use Rattle.std.proofs.lemmas.Grind.{common_steps}
pub use Rattle.std.proofs.lemmas.Iterator.Search.{position_from_yields_List}
pub use Rattle.std.proofs.lemmas.Iterator.{YieldsList-from_slice}
pub use Rattle.std.proofs.lemmas.List.Elements.{All-cons, All-contains, All-contains_itself, All-filter, All-head, All-nil, All-tail, All-weaker, filter-append, filter_passes}
pub use Rattle.std.proofs.lemmas.List.Sums.{prefix_len-le-length, sum_by-cons}
pub use Rattle.std.proofs.lemmas.List.{append_assoc, drop-drop, drop_at, length-take-le}
pub use Rattle.std.proofs.lemmas.Option.{get_or_from_slice_get, slice_get_read}
pub use Rattle.std.specs.HashSet.{contains}
pub use Rattle.std.specs.List.{copy_within, list_all, list_any, position_or_len, slice_get, slice_index_or}
pub use Rattle.std.specs.Option.{IsSomeAnd, option_and_then, option_map, option_map_or, unwrap_or}
pub use Rattle.std.specs.Prelude.{All, Contains, remove, ◌&&◌, ◌==◌, ◌||◌, ◌↔◌}
pub use Rattle.uvm_glob.specs.Faults.{fault_if}
pub use Rattle.uvm_sequencer.specs.Choices.{choice, contenders, drawn, first_over, is_drawn, is_greatest, is_random, is_strict, readiness}
pub use Rattle.uvm_sequencer.specs.Contending.{bar_of, contending, highest, is_contending}
pub use Rattle.uvm_sequencer.specs.Drivers.{grant_of, hand_of, wait_of}
pub use Rattle.uvm_sequencer.specs.Laws.{EachGrantEndsAWait, FifoOrder, HoldersStayNested, IsFirst, IsFree, IsOut, LockExcludes, OneItemOut, PassedStays, StartsChangeNothing, StrictPriority, WaitsStaySingle, WeightsShareTheDraws, are_known, are_nested, is_as_urgent}
pub use Rattle.uvm_sequencer.specs.Marks.{has_priority}
pub use Rattle.uvm_sequencer.specs.Passed.{IsPassed}
pub use Rattle.uvm_sequencer.specs.Queues.{AreSingle, candidates, is_blocked, is_candidate, is_held, is_item, is_item_of, is_lock_of, is_of, item_request, leading, leading_lock, lock_in, lock_request, priority_of, released, without, without_item, without_lock}
pub use Rattle.uvm_sequencer.specs.Rooms.{locks}
pub use Rattle.uvm_sequencer.specs.Sequencers.{SequencerValue, candidates_at, choice_at, granted, is_driver, is_live_at, lock_at, locked, ready_at}
pub use Rattle.uvm_sequencer.specs.declared.drivers.Driver.TheVariants.{Granted, Idle, InHand, Waiting}
pub use Rattle.uvm_sequencer.specs.declared.drivers.Driver.{Driver}
pub use Rattle.uvm_sequencer.specs.declared.drivers.How.{How}
pub use Rattle.uvm_sequencer.specs.declared.faults.SeqFault.TheVariants.{NoDriver, Twice}
pub use Rattle.uvm_sequencer.specs.declared.modes.Mode.TheVariants.{Fifo, Random, StrictFifo, StrictRandom, Weighted}
pub use Rattle.uvm_sequencer.specs.declared.modes.Mode.{Mode}
pub use Rattle.uvm_sequencer.specs.declared.requests.Request.{Request}
pub use Rattle.uvm_sequencer.specs.declared.requests.Want.TheVariants.{Item, Lock}
pub use Rattle.uvm_sequencer.specs.declared.requests.Want.{Want}
pub use Rattle.uvm_sequences.specs.Laws.{AncestorsStay}
pub use Rattle.uvm_sequences.specs.Sequences.{Start, ancestors_of, is_under}
