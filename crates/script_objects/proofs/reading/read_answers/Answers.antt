use Rattle.script_objects.proofs.Common.{rules, ◌≡◌, ℕ, List, [], ◌∷◌, ◌++◌, String, append_assoc, subst, sym, ◌∙◌, Global, Value, table_view, view, name_fault, HasFirstFault, HasTypeFault, OrMemoryAt, None}
use Rattle.script_objects.proofs.FirstFaults.{first-type, or-memory-at, types-more}
use Rattle.script_objects.proofs.Types.{AreOf, all-read, one-more}
use Rattle.script_objects.proofs.reading.read_answers.Goals as goal

pub loop-type_name-preserved : goal.loop-type_name-preserved
loop-type_name-preserved c =
    let kept = c.loop-type_name.invariant in
    let entry : String Global × Value = (c.in-Some.type_name.now, c.in-Some.value.now) in (
      kept.0 ++ entry ∷ [],
      append_assoc kept.0 (entry ∷ []) c.next.new.self ∙ search (rules, kept.1, c.in-Some.ensures.steps),
      subst (AreOf (kept.0 ++ entry ∷ [])) (sym c.in-Ok.ensures.items)
          (one-more kept.0 c.loop-type_name.types.items entry c.in_ok-rules.rules kept.2 (c.in_ok-rules.ensures.name.0 ∙ c.as_str.ensures.value) c.in_ok-rules.ensures.rules),
      types-more kept.0 entry kept.3 (subst (λ (name : List ℕ). name_fault name ≡ None) c.as_str.ensures.value c.in_ok-rules.ensures.name.1) c.in_ok-rules.rules.rules c.in_ok-rules.ensures.rules,
    )

-- the first fault is behind types that were read
pub returns-in_err-rules-clause-err : goal.returns-in_err-rules-clause-err
returns-in_err-rules-clause-err c =
    let kept = c.loop-type_name.invariant in
    let entry : String Global × Value = (c.in-Some.type_name.now, c.in-Some.value.now) in
    let left : kept.0 ++ entry ∷ c.next.new.self ≡ c.args.table.now.entries = search (rules, kept.1, c.in-Some.ensures.steps) in
    let told : OrMemoryAt (HasFirstFault (table_view c.args.table.now)) c.in_err-rules.field-0.0 =
    or-memory-at (HasTypeFault (c.as_str.result.now, view c.in-Some.value.now)) (HasFirstFault (table_view c.args.table.now)) c.in_err-rules.field-0.0
    (λ at bad. first-type kept.0 entry c.next.new.self c.args.table.now.entries at kept.3 left (subst (λ (name : List ℕ). HasTypeFault (name, view entry.1) at) c.as_str.ensures.value bad))
    c.in_err-rules.ensures.err in
    search (rules, told, c.from_residual.ensures)

pub returns-clause-types : goal.returns-clause-types
returns-clause-types c =
    let kept = c.loop-type_name.invariant in
    rw c.of.ensures (all-read c.args.table.now.entries kept.0 c.loop-type_name.types.items (search (rules, kept.1, c.in-None.ensures.steps)) kept.2)
