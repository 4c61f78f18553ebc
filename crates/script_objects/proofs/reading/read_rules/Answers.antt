use Rattle.script_objects.proofs.Common.{rules, ◌≡◌, ◌∙◌, All, ◌∷◌, ◌++◌, List, String, ap, inl, inr, map, subst, sym, All-push, Global, Value, RuleValue, IsRead, entry_in, entry_of, table_view, FaultAt, HasRulesFault, told_in}
use Rattle.script_objects.proofs.FirstFaults.{rules-fault}
use Rattle.script_objects.proofs.Entries.{one-read}
use Rattle.script_objects.proofs.reading.read_rules.Goals as goal

-- one more rule was read
pub loop-call-preserved : goal.loop-call-preserved
loop-call-preserved c =
    let entry : String Global × Value = (c.in-Some.call.now, c.in-Some.value.now) in
    let left : map entry_of c.loop-call.rules.items ++ map entry_in (entry ∷ c.next.new.self) ≡ map entry_in c.args.table.now.entries = search (rules, c.loop-call.invariant.entries, c.in-Some.ensures.steps) in
    record {
      entries = subst (λ (items : List RuleValue). map entry_of items ++ map entry_in c.next.new.self ≡ map entry_in c.args.table.now.entries) (sym c.in-Ok-push.ensures.items)
          (one-read c.loop-call.rules.items c.in-Ok.rule entry c.next.new.self (map entry_in c.args.table.now.entries) (c.in-Ok.ensures.key ∙ c.as_str-call.ensures.value) c.in-Ok.ensures.data left);
      read = subst (λ (items : List RuleValue). All IsRead items) (sym c.in-Ok-push.ensures.items) (All-push IsRead c.loop-call.rules.items c.in-Ok.rule c.loop-call.invariant.read c.in-Ok.ensures.read);
    }

-- its first fault
pub returns-in-Err-clause-name : goal.returns-in-Err-clause-name
returns-in-Err-clause-name c = ap (λ (at : FaultAt). at.type_name) c.at_call.ensures

pub returns-in-Err-clause-err : goal.returns-in-Err-clause-err
returns-in-Err-clause-err c =
    let entry : String Global × Value = (c.in-Some.call.now, c.in-Some.value.now) in
    let left : map entry_of c.loop-call.rules.items ++ map entry_in (entry ∷ c.next.new.self) ≡ map entry_in c.args.table.now.entries = search (rules, c.loop-call.invariant.entries, c.in-Some.ensures.steps) in
    elim c.in-Err.ensures.err [
      | inl none ↦ inl (ap (λ (at : FaultAt). at.fault) c.at_call.ensures ∙ none)
      | inr bad ↦ inr (subst (HasRulesFault (table_view c.args.table.now)) (sym c.at_call.ensures) (rules-fault c.loop-call.rules.items entry c.next.new.self c.args.table.now.entries c.as_str-call.result.now c.args.type_name.now (told_in (c.in-Err.fault, c.in-Err.act)) c.loop-call.invariant.read c.as_str-call.ensures.value left bad))
    ]

-- memory ran out
pub returns-in_default-clause-name : goal.returns-in_default-clause-name
returns-in_default-clause-name c = ap (λ (at : FaultAt). at.type_name) c.at_call-in_default.ensures

pub returns-in_default-clause-err : goal.returns-in_default-clause-err
returns-in_default-clause-err c = inl (ap (λ (at : FaultAt). at.fault) c.at_call-in_default.ensures)
