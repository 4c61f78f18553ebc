use Rattle.script_objects.proofs.Common.{◌≡◌, ◌∙◌, map, sym, rules, list_all, as_array, items_view, view, are_texts, begins_with_array, is_text, Some, if◌then◌else◌}
use Rattle.script_objects.proofs.FirstFaults.{answers-at, array-is}
use Rattle.script_objects.proofs.reading.answers_in.Goals as goal
use Rattle.script_objects.proofs.reading.answers_in.Goals.{then-begins_with_array, else-begins_with_array}

pub returns-then-is_sound-clause-some : goal.returns-then-is_sound-clause-some
returns-then-is_sound-clause-some c =
    let said = view c.args.value.now in
    let values = c.as_slice-values.result.now in
    let is : as_array said ≡ Some (items_view values) = search (rules, c.as_array.ensures, c.as_slice-values.ensures.value) in
    let told : (if begins_with_array (map view values) then list_all are_texts (map view values) else list_all is_text (map view values)) ≡ c.if-begins_with_array.is_sound = elim c.if-begins_with_array.branch [
      | then-begins_with_array w ↦ rw (sym c.begins_with_array.ensures.value ∙ w.if-begins_with_array.true) (sym (w.is_sound-is ∙ w.are_all_lists-is_sound.ensures))
      | else-begins_with_array w ↦ rw (sym c.begins_with_array.ensures.value ∙ w.if-begins_with_array.false) (sym (w.is_sound-is ∙ w.are_all_texts-is_sound.ensures))
    ] in
    (array-is said (items_view values) is, answers-at said values is ∙ (told ∙ c.if-is_sound.true))

pub returns-else-is_sound-clause-none : goal.returns-else-is_sound-clause-none
returns-else-is_sound-clause-none c =
    let said = view c.args.value.now in
    let values = c.as_slice-values.result.now in
    let is : as_array said ≡ Some (items_view values) = search (rules, c.as_array.ensures, c.as_slice-values.ensures.value) in
    let told : (if begins_with_array (map view values) then list_all are_texts (map view values) else list_all is_text (map view values)) ≡ c.if-begins_with_array.is_sound = elim c.if-begins_with_array.branch [
      | then-begins_with_array w ↦ rw (sym c.begins_with_array.ensures.value ∙ w.if-begins_with_array.true) (sym (w.is_sound-is ∙ w.are_all_lists-is_sound.ensures))
      | else-begins_with_array w ↦ rw (sym c.begins_with_array.ensures.value ∙ w.if-begins_with_array.false) (sym (w.is_sound-is ∙ w.are_all_texts-is_sound.ensures))
    ] in
    answers-at said values is ∙ (told ∙ c.if-is_sound.false)
