use Rattle.script_tables.proofs.Common.{◌≡◌, drop, map, view, items_view, text_after, rows_from, texts_in}
use Rattle.script_tables.proofs.report_tables.texts.Given as goal

-- the texts so far, and those of the elements that are left
abbrev pub invariant-loop-element : goal.invariant-loop-element
invariant-loop-element l =
    texts_in (view l.value) ≡ rows_from text_after (map (λ text. text.now) l.texts.items) (items_view (drop l.element-index l.element-items))
