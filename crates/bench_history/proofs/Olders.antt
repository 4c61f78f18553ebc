-- The older parts of a legal log.
use Rattle.bench_history.proofs.Common.{◌≤◌, List, [], ◌∷◌, ◌++◌, length, arith, Entry, ScriptValue, EachIsNext, OlderLogsAreLegal, length-append}

pub older-each : (script : ScriptValue) (later before : List Entry) → EachIsNext script (later ++ before) → EachIsNext script before
older-each script [] before each = each
older-each script (entry ∷ later) before each = older-each script later before each.1

fewer : (before : List Entry) (later : List Entry) (limit : _) → length (later ++ before) ≤ limit → length before ≤ limit
fewer before later limit few =
    let both = length-append later before in
    omega (arith, both, few)

pub older_logs_are_legal : OlderLogsAreLegal
older_logs_are_legal script later before legal = record { each = older-each script later before legal.each; few = fewer before later _ legal.few }
