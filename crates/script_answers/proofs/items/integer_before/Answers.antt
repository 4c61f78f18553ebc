use Rattle.script_answers.proofs.Common.{◌≡◌, arith, w64, to_z-of_z, split_after, signed_decimal, None}
use Rattle.script_answers.proofs.Digits.{signed-lacks}
use Rattle.script_answers.proofs.items.integer_before.Goals as goal

pub returns-in_err-first : goal.returns-in_err-first
returns-in_err-first c = λ first others fits is.
    let parts = split_after 44 c.args.text.now (signed_decimal first) others c.split_once.result c.split_once.ensures.cases (omega arith) is (signed-lacks first fits) in
    let none : c.split_once.result ≡ None = grind arith in
    absurd (rw none at parts)

pub returns-in_err-integer_of : goal.returns-in_err-integer_of
returns-in_err-integer_of c = λ first others fits is.
    let parts = split_after 44 c.args.text.now (signed_decimal first) others c.split_once.result c.split_once.ensures.cases (omega arith) is (signed-lacks first fits) in
    let both = rw c.in_ok-first.ensures.ok_part at parts in
    absurd (cc (c.in_err-integer_of.ensures first fits both.0))

pub returns : goal.returns
returns c = λ first others fits is.
    let parts = split_after 44 c.args.text.now (signed_decimal first) others c.split_once.result c.split_once.ensures.cases (omega arith) is (signed-lacks first fits) in
    let both = rw c.in_ok-first.ensures.ok_part at parts in
    let read = c.in_ok-integer_of.ensures first fits both.0 in
    let same : c.in_ok-integer_of.field-0 ≡ first = cc in
    (rw same (to_z-of_z w64 first (record { sfits = fits })), both.1)
