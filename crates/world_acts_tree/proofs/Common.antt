-- The names of other crates and of this crate's specs that its proofs cite, passed on from one place. Declares nothing.
pub use Rattle.bench_history.specs.Configuration.{settings_of}
pub use Rattle.bench_history.specs.Dues.{caused_at, delivered_causes, due_events, is_open, scheduled_events}
pub use Rattle.bench_history.specs.Effects.{Needs, creation_effect, creation_now}
pub use Rattle.bench_history.specs.History.{act_phase, ended_of, in_task, is_built, is_of_phase, kind_of, nodes_of, now_of, overrides_of, performer_of}
pub use Rattle.bench_history.specs.Limits.{most_ticks}
pub use Rattle.bench_history.specs.Objections.{given_below, objections_after, objections_of, with_new}
pub use Rattle.bench_history.specs.Ports.{fifo_size}
pub use Rattle.bench_history.specs.Refusals.{addition_refusal, creation_refusal, overriding_refusal, wait_refusal}
unfoldable pub use Rattle.bench_history.specs.Refusals.{connection_refusal, drain_refusal, drop_refusal, raise_refusal, setting_refusal}
pub use Rattle.bench_history.specs.Sequences.{finished_of}
pub use Rattle.bench_history.specs.Wires.{end_below, end_of, ends_connect, is_past_connect, node_below, wiring_of}
pub use Rattle.std.proofs.Common.{Bool, Err, List, None, Option, Some, [], ap, arith, false, filter, if◌then◌else◌, length, nat_le, nat_lt, not, refl, rules, subst, suc, sym, true, w64, ℕ, ◌++◌, ◌+◌, ◌<◌, ◌||◌, ◌∙◌, ◌∷◌, ◌≡◌, ◌≤◌}
pub use Rattle.uvm_acts.specs.declared.acts.Act.TheVariants.{Add, Connect, Create, DropObjection, OverrideInst, OverrideType, RaiseObjection, Set, SetDrain, Wait}
pub use Rattle.uvm_config.specs.Answers.{config_answer, most_settings}
pub use Rattle.uvm_factory.specs.declared.overrides.Override.TheVariants.{Instance, Whole}
pub use Rattle.uvm_object.specs.declared.entries.Outcome.TheVariants.{Done, Made}
pub use Rattle.uvm_object.specs.declared.fatals.Fatal.TheVariants.{ConnectedTooLate, ObjectionBelowZero, OutOfRange, OutsideTask, TooManySettings}
pub use Rattle.uvm_objection.specs.Nodes.{dropped, raised, source_of, with_drain}
pub use Rattle.uvm_tlm.specs.Wirings.{is_closed}
pub use Rattle.world_sequencing.proofs.Arbiting.{arbitrating-added}
pub use Rattle.world_sequencing.proofs.Common.{path_text}
pub use Rattle.world_sequencing.proofs.Contested.{none-locked, none-served}
pub use Rattle.world_services.proofs.Answered.{length-snoc}
pub use Rattle.world_services.proofs.Common.{AreObjecting, child, objecting-changed, objecting-later, objecting-same, to_z-of_z}
pub use Rattle.world_services.proofs.Configured.{value-found}
pub use Rattle.world_services.proofs.Later.{acted, refused-act_result, refused-here}
pub use Rattle.world_services.proofs.Opened.{scene-open}
pub use Rattle.world_services.proofs.Overriding.{factory-more}
pub use Rattle.world_services.proofs.Preserved.{added-kept, joined-kept}
pub use Rattle.world_services.proofs.Rounding.{phase_cursors-more}
pub use Rattle.world_services.proofs.Settling.{ChangesOne, objectings-more, settling}
pub use Rattle.world_services.specs.ActResults.{IsRefusing}
pub use Rattle.world_state.proofs.Common.{AreEvents, Drain, Entry, Event, IsHeldUntilDue, IsObjecting, NodesGrow, Object, ObjectionsValue, Phase, PlacesStay, ScriptValue, Who, is_task, list_any, nat_tests, node_of, nodes_in, same_phase, settled, total}
pub use Rattle.world_state.proofs.Drained.{due-dropped, due-raised, events-all, events-told, held-made, held-with-drain}
pub use Rattle.world_state.proofs.Scheduled.{agenda-event}
pub use Rattle.world_state.specs.declared.faults.DropFault.TheVariants.{BelowZero}
pub use Rattle.world_wiring.proofs.Common.{Act, Did, IsClosedPast, IsClosing, path_at}
pub use Rattle.world_wiring.proofs.Connected.{both-closed, closing-next, connecting-both, connecting-more}
