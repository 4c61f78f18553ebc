use Rattle.script_answers.proofs.Common.{sym, ap, ◌∙◌, example_by, first_or, given_left, goes_on}
use Rattle.script_answers.proofs.CallReads.{can-example, finished-example, named-words, short-words}
use Rattle.script_answers.proofs.examples.call_by.Goals as goal

-- the words that were read are those of the example, so that is the call
pub returns-in_ok-word_or : goal.returns-in_ok-word_or
returns-in_ok-word_or c = λ call can plain same begins.
    let given = given_left c.args.words.now in
    let after = given_left c.word_or.new.self in
    let named = sym c.is_named.ensures ∙ c.if-is_named.true in
    let second = c.in_ok-word_or.ensures.word ∙ ap (λ example. first_or example after) c.last_example.ensures in
    c.named_call.ensures (example_by given call) (can-example given call can) (finished-example given call plain)
    (named-words c.args.keyword.now _ _ given after (goes_on c.args.words.now) call named c.in_ok-name.ensures.word c.in_ok-name.ensures.left second plain same begins)

pub returns-in_ok-word_or-2 : goal.returns-in_ok-word_or-2
returns-in_ok-word_or-2 c = λ call can plain same begins.
    let given = given_left c.args.words.now in
    let unnamed = sym c.is_named.ensures ∙ c.if-is_named.false in
    let short = sym c.is_short.ensures ∙ c.if-is_short.true in
    let first = c.in_ok-word_or-2.ensures.word ∙ ap (λ example. first_or example given) c.last_example-then-is_short.ensures in
    c.short_call.ensures (example_by given call) (can-example given call can) (finished-example given call plain)
    (short-words c.args.keyword.now _ given (goes_on c.args.words.now) call unnamed short first plain same begins)
