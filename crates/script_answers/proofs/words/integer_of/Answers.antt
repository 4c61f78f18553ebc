use Rattle.script_answers.proofs.Common.{◌≡◌, ap, w64, parse-signed_decimal, to_z-of_z, Ok}
use Rattle.script_answers.proofs.words.integer_of.Goals as goal

pub returns-in-Ok : goal.returns-in-Ok
returns-in-Ok c = λ z fits is.
    let parsed = parse-signed_decimal w64 z c.args.word.now c.parse.result (record { sfits = fits }) fits is c.parse.ensures.value.0 in
    let same : c.in-Ok.number ≡ z = cc in
    rw same (ap Ok (to_z-of_z w64 z (record { sfits = fits })))

pub returns-in-Err : goal.returns-in-Err
returns-in-Err c = λ z fits is. cc (parse-signed_decimal w64 z c.args.word.now c.parse.result (record { sfits = fits }) fits is c.parse.ensures.value.0)
