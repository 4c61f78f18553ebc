use Rattle.script_answers.proofs.Common.{◌≡◌, inr, refl, sym, ◌∙◌, true, has_whole_words}
use Rattle.script_answers.proofs.KeyReads.{lacks-item, no-example, not-for, same-for}
use Rattle.script_answers.proofs.keys.Key.read.Goals as goal

-- there is no example
pub returns-in-Err : goal.returns-in-Err
returns-in-Err c = record {
  text = tt;
  calls = tt;
  whole = tt;
  item = tt;
  err = no-example c.key_fault.result c.in-Err.fault c.args.text.now c.key_fault.ensures c.calls_have_words.ensures c.in-Err.ensures.none;
}

-- the example has no item
pub returns-then-is_for-clause-item : goal.returns-then-is_for-clause-item
returns-then-is_for-clause-item c =
    let whole : has_whole_words c.args.text.now ≡ true = sym c.has_whole_words.ensures ∙ c.if-not-has_whole_words.false in
    lacks-item c.args.text.now _ _ c.calls_have_words.ensures whole c.in-Ok.ensures.tells

-- the key is not for the example
pub returns-clause-err : goal.returns-clause-err
returns-clause-err c =
    let copied = c.in_ok-from_slice.ensures.items ∙ c.as_bytes.ensures.value in
    let off = same-for c.is_for.result c.in_ok-from_slice.field-0.items c.args.text.now _ _ c.is_for.ensures copied c.as_slice.ensures.value c.if-is_for.false in
    inr (refl, not-for c.args.text.now _ _ c.calls_have_words.ensures c.in-Ok.ensures.tells off)
