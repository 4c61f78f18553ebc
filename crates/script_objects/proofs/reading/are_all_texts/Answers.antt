use Rattle.script_objects.proofs.Common.{◌≡◌, ◌∙◌, sym, rules, tests, list_all, YieldsList-from_slice, all_from_yields_List, view, Value, is_text}
use Rattle.script_objects.proofs.FirstFaults.{all-viewed}
use Rattle.script_objects.proofs.reading.are_all_texts.Goals as goal

pub returns : goal.returns
returns c =
    let values = c.args.values.now in
    let each : c.all.result ≡ list_all (λ (value : Value). is_text (view value)) values =
    all_from_yields_List (λ (value : Value). is_text (view value)) _ _ c.all.result c.all.ensures.ran (YieldsList-from_slice values cc) (λ x b q k. search (rules, tests)) in
    each ∙ sym (all-viewed is_text values)
