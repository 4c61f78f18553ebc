-- Time stays within its limit.
use Rattle.bench_history.proofs.Common.{◌≤◌, List, [], ◌∷◌, arith, Entry, Time, ScriptValue, now_of, IsNext, TimeStaysWithin}
use Rattle.bench_history.proofs.Inversion.{comes}

within-more : (script : ScriptValue) (before : List Entry) (entry : Entry) → IsNext script before entry → now_of before ≤ script.time_limit → now_of (entry ∷ before) ≤ script.time_limit
within-more script before (Time time) next low = (comes script before (Time time) next).within
within-more script before entry next low = low

pub time_stays_within : TimeStaysWithin
time_stays_within script [] each = omega arith
time_stays_within script (entry ∷ before) each = within-more script before entry each.0 (time_stays_within script before each.1)
