-- The phases of sequences that live.
use Rattle.bench_history.proofs.Common.{◌≡◌, ℕ, Bool, true, false, not, ◌&&◌, List, Option, Some, None, option_and_then, refl, not-true, list_any, option_map_or, OrderKeepsAll, EventTarget, Call, Phase, same_phase, numbered, Entry, stage_of, ended_of, in_progress, StartRecord, starts_of, is_live, is_over_phase, lives, LivingRun, is_going, All, LockExcludes}
use Rattle.bench_history.proofs.Called.{start_records-stand}
use Rattle.bench_history.proofs.Living.{Stands, numbered-holds, runs-still}

-- the phase in which a sequence was started runs, or has ended
abbrev IsStanding : List Entry → StartRecord → Type 0
IsStanding history start_record = (phase : Phase) → start_record.phase ≡ Some phase → Stands history phase

-- one that has not ended is that of the stage
phase-runs : (history : List Entry) (phase : Option Phase) (unfinished : Bool) → unfinished && not (is_over_phase (ended_of history) phase) ≡ true → ((p : Phase) → phase ≡ Some p → Stands history p) → is_going phase (in_progress (stage_of history)) ≡ true
phase-runs history phase false e stands = cc
phase-runs history None true e stands = cc
phase-runs history (Some phase) true e stands = runs-still history phase (stands phase refl) (not-true (list_any (same_phase phase) (ended_of history)) e)

found-runs :
    (history : List Entry) (id : ℕ) (found : Option StartRecord) → numbered (starts_of history) id ≡ found → option_map_or (lives history id) found false ≡ true → All (IsStanding history) (starts_of history)
    → is_going (option_and_then (λ start_record. start_record.phase) found) (in_progress (stage_of history)) ≡ true
found-runs history id None is e all = cc
found-runs history id (Some start_record) is e all = phase-runs history start_record.phase _ e (numbered-holds (IsStanding history) (starts_of history) id start_record all is)

module _ (keeps : OrderKeepsAll EventTarget (Option Call)) (excludes : LockExcludes) where
  pub living_run : LivingRun
  unfolding is_live
  living_run script history id home each on living = found-runs history id (numbered (starts_of history) id) refl living.lives (start_records-stand keeps excludes script history each on)
