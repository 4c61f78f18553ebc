use Rattle.script_answers.proofs.Common.{arith, parse-decimal}
use Rattle.script_answers.proofs.words.small_of.Goals as goal

pub returns-in-Ok : goal.returns-in-Ok
returns-in-Ok c = λ n fits is. cc (parse-decimal 16 n c.args.word.now c.parse.result fits (omega arith) is c.parse.ensures.value.0)

pub returns-in-Err : goal.returns-in-Err
returns-in-Err c = λ n fits is. cc (parse-decimal 16 n c.args.word.now c.parse.result fits (omega arith) is c.parse.ensures.value.0)
