-- The names of other crates and of this crate's specs that its proofs cite, passed on from one place. Declares nothing.
pub use Rattle.script_answers.specs.AnswerActs.{IsAlone, act_with, answer_act_line}
pub use Rattle.script_answers.specs.Keys.{fixed, item_in}
pub use Rattle.script_answers.specs.Laws.{AnswerActsTell}
pub use Rattle.script_answers.specs.declared.answer_acts.AnswerAct.{AnswerAct}
pub use Rattle.script_objects.specs.Answers.{TypeValue, rules_named}
pub use Rattle.script_objects.specs.FirstFaults.{Fault, FaultAt, Given, HasAnswersFault, HasFirstFault, HasLineFault, HasLinesFault, HasRuleFault, HasRulesFault, HasTypeFault, IsFirst, IsKey, IsLine, IsLineFault, IsRule, IsType, OrMemory, OrMemoryAt, are_answers, are_texts, begins_with_array, elements, entries, is_text, named_fault, texts_of, told_in}
pub use Rattle.script_objects.specs.Laws.{AnswersAreFunctions, TablesTellTypes}
pub use Rattle.script_objects.specs.Rules.{RuleValue, answer_at, answers_to, is_longer, length_key}
pub use Rattle.script_objects.specs.Scripted.{IsAnswer, ScriptedSays, ScriptedValue, one_more}
pub use Rattle.script_objects.specs.Seats.{ChangesAt, acts_by, acts_in, counts_in, first_answer, object_after}
pub use Rattle.script_objects.specs.Tables.{AreRulesOf, AreTypesOf, IsRead, answer_act_data, answer_data, data_of, entry_in, entry_of, members_from, only_data}
pub use Rattle.script_objects.specs.declared.faults.AnswerFault.{AnswerFault}
pub use Rattle.script_objects.specs.declared.faults.FaultyAnswer.{FaultyAnswer}
pub use Rattle.std.proofs.Common.{All, Bool, Err, IfOk, List, None, Ok, OnOk, Option, Result, Some, String, [], add-one, ap, append_assoc, arith, cond, drop, false, if◌then◌else◌, inl, inr, is_some, length, map, not, option_map, refl, rules, string_bytes, subst, suc, sym, tests, true, ℕ, ◌&&◌, ◌++◌, ◌+◌, ◌<◌, ◌==◌, ◌∙◌, ◌∷◌, ◌≡◌}
pub use Rattle.std.proofs.lemmas.Bool.Decides.{nat_tests}
pub use Rattle.std.proofs.lemmas.Bool.{and_parts}
pub use Rattle.std.proofs.lemmas.Cmp.{nat_cmp_total}
pub use Rattle.std.proofs.lemmas.Fn.{always_returns_same}
pub use Rattle.std.proofs.lemmas.Grind.{common_steps}
pub use Rattle.std.proofs.lemmas.Iterator.Search.{all_from_yields_List}
pub use Rattle.std.proofs.lemmas.Iterator.{YieldsList-from_slice}
pub use Rattle.std.proofs.lemmas.List.Elements.{All-append, All-cons, All-head, All-map, All-nil, All-push, All-tail, All-weaker}
pub use Rattle.std.proofs.lemmas.List.MinMax.{IsStrictWeakOrder-flip, ranks_by}
pub use Rattle.std.proofs.lemmas.List.Sorted.{sorted_far}
pub use Rattle.std.specs.Cmp.{IsStrictWeakOrder}
pub use Rattle.std.specs.Fn.{Called, ComputesKey}
pub use Rattle.std.specs.List.Sorted.{IsSortedBy, IsSortedByKey, IsStableByKey, ties}
pub use Rattle.std.specs.List.{enumerate_from, filter, filter_map, list_all, zip}
pub use Rattle.std.specs.Map.{lookup}
pub use Rattle.std.specs.Ordering.{is_lt, nat_cmp}
pub use Rattle.std.specs.Prelude.{slice_get}
pub use Rattle.std.specs.declared.alloc.Global.{Global}
pub use Rattle.std.specs.declared.cmp.Ordering.{Ordering}
pub use Rattle.toml.specs.Data.{Data, Items, array, as_array, as_str, boolean, datetime, float, integer, member, no_members, string, table}
pub use Rattle.toml.specs.View.{items_of, items_view, members_of, members_view, table_view, view}
pub use Rattle.toml.specs.declared.value.Value.{Value}
pub use Rattle.uvm_acts.specs.declared.acts.Act.{Act}
pub use Rattle.uvm_acts.specs.declared.acts.Call.{Call}
pub use Rattle.uvm_acts.specs.declared.acts.Who.TheVariants.{Node, Sequence}
pub use Rattle.uvm_acts.specs.declared.acts.Who.{Who}
pub use Rattle.uvm_glob.specs.Names.{name_fault}
pub use Rattle.uvm_lines.specs.Lines.{call_text}
pub use Rattle.uvm_object.specs.Objects.{View, same_who}
pub use Rattle.uvm_tlm.specs.declared.items.Item.{Item}
