-- The limits of a log and of an answer.
use Rattle.std.specs.Prelude.{◌^◌, ◌==◌, ℕ, if◌then◌else◌}
use Rattle.bench_script.specs.Scripts.{ScriptValue}

-- the maximum number of entries of a log
unfoldable pub log_limit : ScriptValue → ℕ
log_limit script = if script.version == 2 then 8000000 else 1000000

-- the maximum number of ticks of a wait or a drain time
abbrev pub most_ticks : ℕ
most_ticks = 10 ^ 15

-- the maximum number of actions of an answer
abbrev pub most_acts : ℕ
most_acts = 64

-- the default priority: that of a sequence that is given none and has no parent sequence
abbrev pub usual_priority : ℕ
usual_priority = 100
