-- The names of other crates and of this crate's specs that its proofs cite, passed on from one place. Declares nothing.
pub use Rattle.bench_history.specs.Cases.{Answer, Exactly, Need, Next, by_act, by_effect, chosen_at}
pub use Rattle.bench_history.specs.Effects.{ComesTo, Effect, Needs, effect_of, starting_now}
pub use Rattle.bench_history.specs.Laws.{ActsAreInPhase, ConnectFollowsBuild, DriversAreThere, IsBegun, IsCreated, IsCreation, IsMadeBy, IsSettled, IsThere, PerformersAreThere, is_at_check}
unfoldable pub use Rattle.bench_history.specs.Limits.{log_limit}
pub use Rattle.bench_history.specs.Next.{Allows, EachIsNext, IsAct, IsLegal, IsNext, need_in, next_of}
pub use Rattle.bench_history.specs.Sequences.{StartRecord, finished_of, home_asked, leaving_after, leaving_of, sequence_in, sequences_of, start_by, starts_of}
pub use Rattle.bench_world.specs.Worlds.{Asked, IsActed, IsPrepared, IsReady, IsWorld, MayAnswer, Needed, Nothing, Standing, WorldValue, call_in, made_who, need_of, parts_in, standing_of}
pub use Rattle.bench_world.specs.declared.pending.Pending.TheVariants.{Call, Creation}
pub use Rattle.bench_world.specs.declared.pending.Pending.{Pending}
pub use Rattle.bench_world.specs.declared.pending.PendingCall.{PendingCall}
pub use Rattle.uvm_object.specs.Logs.{LogValue}
pub use Rattle.uvm_object.specs.declared.fatals.Fatal.TheVariants.{NoObject}
pub use Rattle.uvm_tree.specs.Nodes.{Node, node_at}
pub use Rattle.world_acts_tree.proofs.Common.{act_phase}
pub use Rattle.world_acts_sequencers.proofs.Common.{Refused, home_for, numbered-map}
pub use Rattle.world_acts_sequencers.proofs.Finished.{there-begun}
pub use Rattle.world_entries.proofs.Common.{Grant, Granted, known-there, ◌^◌}
pub use Rattle.world_entries.specs.Coming.{Comes, IsComing, IsEntryContext, PreservesMatch}
pub use Rattle.world_entries.specs.KernelEntries.{CanEnter, entry_of}
pub use Rattle.world_entries.specs.Rooms.{GiveTheSame}
pub use Rattle.world_entries.specs.StoredActs.{IsEntered, WaitsForObject}
pub use Rattle.world_entries.specs.declared.kernel_entries.KernelEntry.TheVariants.{Begin, Drained, End, Locked, Note, Over, Time}
pub use Rattle.world_entries.specs.declared.kernel_entries.KernelEntry.{KernelEntry}
pub use Rattle.world_entries.specs.declared.making.PendingParts.{PendingParts}
pub use Rattle.world_sequencing.proofs.Common.{Ended, IsSome, Start, ended_of, in_progress, is_some, nodes_of, numbered}
pub use Rattle.world_sequencing.proofs.Sequenced.{sequencing-same}
pub use Rattle.world_services.proofs.Acting.{acts-first, acts-settled, acts-some, ok-not-err, unrefused, wanted, wanted-need}
pub use Rattle.world_services.proofs.Answered.{answer-head, answer-open, head-left}
pub use Rattle.world_services.proofs.Common.{Fatal, Heard, Made, Passed, ServicesMatch, Started, delivered_causes, in_task, performer_of, scheduled_events, test_creation, wiring_of}
pub use Rattle.world_services.proofs.Entered.{for-some}
pub use Rattle.world_services.proofs.Later.{refused-taken-in, scene-of}
pub use Rattle.world_services.proofs.Rounding.{phase_cursors-same}
pub use Rattle.world_services.proofs.Settling.{each-few, each-numbered, objectings-same}
pub use Rattle.world_services.specs.ActResults.{IsActContext, IsPerformed, PreservesMatchByAct, one_done}
pub use Rattle.world_services.specs.CreationsMatch.{CanMake, outcome_made, who_made}
pub use Rattle.world_services.specs.declared.services.AnswerCursor.{AnswerCursor}
pub use Rattle.world_services.specs.declared.services.Services.{Services}
pub use Rattle.world_state.proofs.Common.{Bool, Entry, IsAgenda, List, None, Option, Phase, ScriptValue, Some, Who, [], ap, arith, false, if◌then◌else◌, inl, inr, length, list_any, node_of, option_map, refl, rules, same_phase, subst, suc, sym, true, ℕ, ◌<◌, ◌==◌, ◌∙◌, ◌∷◌, ◌≡◌, ◌≤◌, ◌⊎◌}
pub use Rattle.world_wiring.proofs.Common.{Act, Did, IsClosing, IsConnecting, Outcome, end_at, is_closed, late_fault, path_order, remaining_acts, rest_of, stage_of, unwrap_or}
pub use Rattle.world_wiring.proofs.Connected.{building-open, closing-now, connectable-open, connecting-closed, ends-ordered, unused}
