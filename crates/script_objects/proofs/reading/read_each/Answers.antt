use Rattle.script_objects.proofs.Common.{◌≡◌, ◌∙◌, All, List, [], ◌∷◌, ◌++◌, ◌+◌, arith, drop, map, ap, subst, sym, rules, common_steps, All-push, Data, array, as_array, items_of, items_view, view, IsAlone, AnswerAct, Given, HasLinesFault, OrMemory, answer_data, Some}
use Rattle.script_objects.proofs.FirstFaults.{are-texts-at, array-is, first-answer, lists-all, or-memory}
use Rattle.script_objects.proofs.reading.read_each.Goals as goal

-- each value is an array of texts
pub read_answer-requires : goal.read_answer-requires
read_answer-requires c =
    let said = view c.value-item.result in
    let is : as_array said ≡ Some (items_view c.as_slice.result.now) = search (rules, c.as_array.ensures, c.as_slice.ensures.value) in
    let left : map answer_data (map (λ answer. answer.items) c.loop-value.answers.items) ++ said ∷ map view (drop (c.loop-value.value-index + 1) c.args.values.now) ≡ map view c.args.values.now =
    grind (arith, common_steps, c.loop-value.invariant.read, c.value-item.is) in
    sym (are-texts-at said c.as_slice.result.now is) ∙ lists-all (map answer_data (map (λ answer. answer.items) c.loop-value.answers.items)) said (map view (drop (c.loop-value.value-index + 1) c.args.values.now)) (map view c.args.values.now) left c.requires

-- the texts before it are those of the answers that were read
pub returns-in_err-answer-clause-err : goal.returns-in_err-answer-clause-err
returns-in_err-answer-clause-err c =
    let kept = c.loop-value.invariant in
    let said = view c.value-item.result in
    let is : said ≡ array (items_view c.as_slice.result.now) = array-is said (items_view c.as_slice.result.now) (search (rules, c.as_array.ensures, c.as_slice.ensures.value)) in
    let left : map answer_data (map (λ answer. answer.items) c.loop-value.answers.items) ++ said ∷ map view (drop (c.loop-value.value-index + 1) c.args.values.now) ≡ map view c.args.values.now =
    grind (arith, common_steps, c.loop-value.invariant.read, c.value-item.is) in
    let told : OrMemory (HasLinesFault c.args.has_item (items_view c.args.values.now)) c.in_err-answer.field-0.0 =
    or-memory (HasLinesFault c.args.has_item (items_view c.as_slice.result.now)) (HasLinesFault c.args.has_item (items_view c.args.values.now)) c.in_err-answer.field-0.0
    (λ fault bad. first-answer c.args.has_item (map (λ answer. answer.items) c.loop-value.answers.items) said (map view (drop (c.loop-value.value-index + 1) c.args.values.now)) (map view c.args.values.now) (items_view c.as_slice.result.now) fault kept.alone kept.given is left bad)
    c.in_err-answer.ensures.err in
    search (rules, told, c.from_residual.ensures)

-- one more answer was read
pub loop-value-preserved : goal.loop-value-preserved
loop-value-preserved c =
    let kept = c.loop-value.invariant in
    let said = view c.value-item.result in
    let answer = c.in_ok-answer.answer.items in
    let before = map (λ answer. answer.items) c.loop-value.answers.items in
    let is : said ≡ array (items_view c.as_slice.result.now) = array-is said (items_view c.as_slice.result.now) (search (rules, c.as_array.ensures, c.as_slice.ensures.value)) in
    let lists : answer_data answer ≡ said = ap (λ (values : List Data). array (items_of values)) c.in_ok-answer.ensures.data ∙ sym is in
    let grown : map (λ answer. answer.items) c.push.new.self.items ≡ before ++ answer ∷ [] = grind (arith, common_steps, c.in-Ok.ensures.items) in
    record {
      read = grind (arith, common_steps, grown, lists, c.loop-value.invariant.read, c.value-item.is);
      alone = subst (λ (answers : List (List AnswerAct)). All (All IsAlone) answers) (sym grown) (All-push (All IsAlone) before answer kept.alone c.in_ok-answer.ensures.alone);
      given = subst (λ (answers : List (List AnswerAct)). All (All (Given c.args.has_item)) answers) (sym grown) (All-push (All (Given c.args.has_item)) before answer kept.given c.in_ok-answer.ensures.given);
    }
