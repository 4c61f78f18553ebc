-- The names of other crates and of this crate's specs that its proofs cite, passed on from one place. Declares nothing.
pub use Rattle.bench_core.specs.Cores.{Asked, CoreValue, IsAskedNext, IsNextTurn, IsRefusedTurn, IsToldTurn, IsTurn, Needed, Nothing, Standing, answer_in, call_of, core_after, failed_from, need_of}
pub use Rattle.bench_core.specs.Worlds.{made_who}
pub use Rattle.bench_core.specs.declared.cores.Health.TheVariants.{Broken, Good}
pub use Rattle.bench_core.specs.declared.cores.Health.{Health}
pub use Rattle.bench_core.specs.declared.cores.Turn.TheVariants.{Ask, Moved}
pub use Rattle.bench_core.specs.declared.faults.CoreFault.TheVariants.{Failed, LogFull, Memory, NoTest}
pub use Rattle.bench_core.specs.declared.faults.CoreFault.{CoreFault}
pub use Rattle.bench_history.specs.Cases.{Answer, Exactly, Next}
pub use Rattle.bench_history.specs.History.{components_of, is_over, nodes_of}
pub use Rattle.bench_history.specs.Laws.{AreLeaving, HasBegun, HasGrown, IsLiving, IsLivingSequence, IsMachines, IsMadeBy, IsSomething, IsThere, LivingLived, MachineEntriesAreSilent, NodesStay, NothingAfterOver, number_of}
pub use Rattle.bench_history.specs.Limits.{log_limit}
pub use Rattle.bench_history.specs.Next.{Allows, EachIsNext, IsNext, declined_in, made_in, need_in, next_of}
pub use Rattle.bench_history.specs.Sequences.{StartRecord, all_begun, leaving_of, sequences_of, start_by, starts_of}
pub use Rattle.bench_history.specs.declared.needs.Need.{Need}
pub use Rattle.bench_kernel.specs.Asked.{IsAsked}
pub use Rattle.bench_kernel.specs.Kernels.{AreAllHeld, AreHeld, AreSeated, AreToldNext, failed_of, HasEnded, IsKernel, KernelValue, LiveHonestly, WasMade, is_done, needed_type, open_need, types_made, wanted_in, who_held}
pub use Rattle.bench_kernel.specs.Laws.{IsMadeNew, LogLaws, MadeAreNew, NobodyIsMadeTwice, OthersMakeNobody}
pub use Rattle.bench_kernel.specs.Numbered.{AreNumbered, AreSequenceSeats, IsLeft, IsNumbered, key_of, place_in, place_of, sitter_at, sitter_of, sitters_in}
pub use Rattle.bench_kernel.specs.Orders.{GoesBefore, IsFirstBack}
pub use Rattle.bench_kernel.specs.Places.{AreSeats, IsSeat, Place, place_cmp, seat_at, taken_in}
pub use Rattle.bench_kernel.specs.Seating.{IsFree, IsSeated, all_held}
pub use Rattle.bench_kernel.specs.Seats.{IsTakenOut, Taken, held_in, paths_in}
pub use Rattle.bench_kernel.specs.SequenceSeats.{AreRisingWithin, IsWithout, SequenceSeatsValue}
pub use Rattle.bench_kernel.specs.Steps.{IsBack, IsMoved, IsReady, IsRefusedStep, IsSameLog, IsSupplied, IsWaiting, WasGiven, unanswered_from}
pub use Rattle.bench_kernel.specs.declared.seats.Seat.{Seat}
pub use Rattle.bench_kernel.specs.declared.sequence_seats.SequenceSeat.{SequenceSeat}
pub use Rattle.bench_script.specs.Scripts.{ScriptValue}
pub use Rattle.slab.proofs.SlabLemmas.{ContainsKey-within, Updates-with_value}
pub use Rattle.slab.specs.Slab.{Slab, Updates, get, slab_len, with_value}
pub use Rattle.std.proofs.Common.{Bool, Err, IfNone, IfSome, IsSome, List, None, Ok, Option, Result, Some, [], ap, arith, cond, drop, false, get_or, heap_items, if◌then◌else◌, inl, inr, length, map, nat_eq, option_map, refl, remove, rules, slice_set, subst, suc, sym, take, true, unwrap_or, zero, ℕ, ◌++◌, ◌+◌, ◌<◌, ◌==◌, ◌∙◌, ◌∷◌, ◌≡◌, ◌≢◌, ◌≤◌}
pub use Rattle.std.proofs.lemmas.Bool.Decides.{nat_tests}
pub use Rattle.std.proofs.lemmas.List.Elements.{All-append, All-cons, All-contains, All-head, All-map, All-nil, All-push, All-tail, All-weaker, Contains-append_cases, Contains-append_left, Contains-get_or, Contains-push, Contains-push_cases, filter_map-append}
pub use Rattle.std.proofs.lemmas.List.Sorted.{All-permutation, Contains-permutation, IsPermutation-append_comm, IsPermutation-append_left, IsPermutation-append_right, IsPermutation-map, IsPermutation-middle, IsPermutation-remove, IsPermutation-sym, IsPermutation-trans}
pub use Rattle.std.proofs.lemmas.List.Sums.{sum_by-set}
pub use Rattle.std.proofs.lemmas.List.{length-append, map-append}
pub use Rattle.std.proofs.lemmas.Map.Keys.{IsDistinct-IsPermutation, IsDistinct-cons, IsDistinct-from_apart, IsDistinct-head, IsDistinct-tail}
pub use Rattle.std.proofs.lemmas.Option.{none-some, same_Some}
pub use Rattle.std.specs.BinaryHeap.{IsHeap, IsUpperBound}
pub use Rattle.std.specs.List.Sorted.{IsPermutation}
pub use Rattle.std.specs.List.{AllByRecursion, cons_option, filter_map, slice_index_or}
unfoldable pub use Rattle.std.specs.List.{IsDistinct}
pub use Rattle.std.specs.Map.{keys_of, lookup}
pub use Rattle.std.specs.Option.{option_copied}
pub use Rattle.std.specs.Ordering.{is_lt, nat_cmp, ordering_then}
pub use Rattle.std.specs.Prelude.{All, Contains, count_by, is_some, ◌⊎◌}
pub use Rattle.std.specs.declared.alloc.AllocError.{AllocError}
pub use Rattle.std.specs.declared.cmp.Ordering.TheVariants.{Equal, Greater, Less}
pub use Rattle.std.specs.declared.cmp.Ordering.{Ordering}
pub use Rattle.uvm_acts.specs.Acts.{node_of}
pub use Rattle.uvm_acts.specs.declared.acts.Act.{Act}
pub use Rattle.uvm_acts.specs.declared.acts.Call.{Call}
pub use Rattle.uvm_acts.specs.declared.acts.Who.TheVariants.{Node, Sequence}
pub use Rattle.uvm_acts.specs.declared.acts.Who.{Who}
pub use Rattle.uvm_glob.specs.Orders.{down_cmp}
pub use Rattle.uvm_object.specs.Objects.{Exchange, IsHonest, IsHonestNow, SameSays, Says, View, exchanged_in, life_of, same_who}
pub use Rattle.uvm_object.specs.declared.entries.Entry.TheVariants.{Did, Granted, Heard}
pub use Rattle.uvm_object.specs.declared.entries.Entry.{Entry}
pub use Rattle.uvm_object.specs.declared.entries.Origin.{Origin}
pub use Rattle.uvm_object.specs.declared.entries.Outcome.TheVariants.{Made, Refused, Started}
pub use Rattle.uvm_object.specs.declared.entries.Outcome.{Outcome}
pub use Rattle.uvm_object.specs.declared.fatals.Fatal.TheVariants.{NoObject}
pub use Rattle.uvm_sequences.specs.Sequences.{numbered}
pub use Rattle.uvm_tree.specs.Nodes.{path_at}
