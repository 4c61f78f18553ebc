use Rattle.script_objects.proofs.Common.{◌≡◌, ◌∙◌, sym, rules, as_array, items_view, view, Some}
use Rattle.script_objects.proofs.FirstFaults.{are-texts-at}
use Rattle.script_objects.proofs.reading.are_texts.Goals as goal

pub returns-in-Some : goal.returns-in-Some
returns-in-Some c =
    let is : as_array (view c.args.value.now) ≡ Some (items_view c.as_slice.result.now) = search (rules, c.as_array.ensures, c.as_slice.ensures.value) in
    c.are_all_texts.ensures ∙ sym (are-texts-at (view c.args.value.now) c.as_slice.result.now is)
