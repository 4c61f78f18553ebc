use Rattle.script_answers.proofs.Common.{◌≡◌, ap, arith, pos, slice_index_or, word_text, Ok}
use Rattle.script_answers.proofs.Digits.{all_four, item-is, item-read, last_three, last_two, word-fits}
use Rattle.script_answers.proofs.items.item_of.Goals as goal

pub returns-in_err-words : goal.returns-in_err-words
returns-in_err-words c = λ item sound is.
    absurd (c.in_err-words.ensures (all_four item) (omega arith) (omega arith) (item-is item c.args.word.now is))

pub returns-in_err-first : goal.returns-in_err-first
returns-in_err-first c = λ item sound is.
    let words = c.in_ok-words.ensures (all_four item) (omega arith) (omega arith) (item-is item c.args.word.now is) in
    absurd (c.in_err-first.ensures (slice_index_or item.0 0 (pos 0)) (last_three item) (word-fits item 0 sound (omega arith)) words)

pub returns-in_err-second : goal.returns-in_err-second
returns-in_err-second c = λ item sound is.
    let words = c.in_ok-words.ensures (all_four item) (omega arith) (omega arith) (item-is item c.args.word.now is) in
    let one = c.in_ok-first.ensures (slice_index_or item.0 0 (pos 0)) (last_three item) (word-fits item 0 sound (omega arith)) words in
    absurd (c.in_err-second.ensures (slice_index_or item.0 1 (pos 0)) (last_two item) (word-fits item 1 sound (omega arith)) one.1)

pub returns-in_err-third : goal.returns-in_err-third
returns-in_err-third c = λ item sound is.
    let words = c.in_ok-words.ensures (all_four item) (omega arith) (omega arith) (item-is item c.args.word.now is) in
    let one = c.in_ok-first.ensures (slice_index_or item.0 0 (pos 0)) (last_three item) (word-fits item 0 sound (omega arith)) words in
    let two = c.in_ok-second.ensures (slice_index_or item.0 1 (pos 0)) (last_two item) (word-fits item 1 sound (omega arith)) one.1 in
    absurd (c.in_err-third.ensures (slice_index_or item.0 2 (pos 0)) (word_text item 3) (word-fits item 2 sound (omega arith)) two.1)

pub returns-in_err-integer_of : goal.returns-in_err-integer_of
returns-in_err-integer_of c = λ item sound is.
    let words = c.in_ok-words.ensures (all_four item) (omega arith) (omega arith) (item-is item c.args.word.now is) in
    let one = c.in_ok-first.ensures (slice_index_or item.0 0 (pos 0)) (last_three item) (word-fits item 0 sound (omega arith)) words in
    let two = c.in_ok-second.ensures (slice_index_or item.0 1 (pos 0)) (last_two item) (word-fits item 1 sound (omega arith)) one.1 in
    let three = c.in_ok-third.ensures (slice_index_or item.0 2 (pos 0)) (word_text item 3) (word-fits item 2 sound (omega arith)) two.1 in
    cc (c.in_err-integer_of.ensures (slice_index_or item.0 3 (pos 0)) (word-fits item 3 sound (omega arith)) three.1)

pub returns : goal.returns
returns c = λ item sound is.
    let words = c.in_ok-words.ensures (all_four item) (omega arith) (omega arith) (item-is item c.args.word.now is) in
    let one = c.in_ok-first.ensures (slice_index_or item.0 0 (pos 0)) (last_three item) (word-fits item 0 sound (omega arith)) words in
    let two = c.in_ok-second.ensures (slice_index_or item.0 1 (pos 0)) (last_two item) (word-fits item 1 sound (omega arith)) one.1 in
    let three = c.in_ok-third.ensures (slice_index_or item.0 2 (pos 0)) (word_text item 3) (word-fits item 2 sound (omega arith)) two.1 in
    let four = c.in_ok-integer_of.ensures (slice_index_or item.0 3 (pos 0)) (word-fits item 3 sound (omega arith)) three.1 in
    let last : c.in_ok-integer_of.field-0 ≡ slice_index_or item.0 3 (pos 0) = cc in
    ap Ok (item-read item sound _ _ _ _ one.0 two.0 three.0 last)
