-- When a kernel has failed.
use Rattle.bench_kernel.proofs.Common.{◌≡◌, Bool, true, false, Option, Some, None, Err, refl, Who, Standing, Nothing, Needed, Asked, Health, Good, CoreValue, CoreFault, Memory, LogFull, Failed, NoTest, IsRefusedTurn, IsNextTurn, failed_of, Entry, IfSome, IsSome, ap, core_after, Need, if◌then◌else◌}
use Rattle.bench_core.specs.Cores.{is_good}

-- one whose core has failed has
fails-with : (abandoned : Bool) (unknown : Option Who) (health : Health) → is_good health ≡ false → failed_of abandoned unknown health ≡ true
fails-with true unknown health bad = refl
fails-with false (Some who) health bad = refl
fails-with false None health bad = rw bad refl

-- one that has a call without an entry has
pub unanswered-fails : (abandoned : Bool) (who : Who) (health : Health) → failed_of abandoned (Some who) health ≡ true
unanswered-fails true who health = refl
unanswered-fails false who health = refl

-- one that has not failed has not failed after an answer either
pub answered-goes : (abandoned : Bool) (unknown : Option Who) (health later : Health) → failed_of abandoned unknown health ≡ false → later ≡ health → failed_of abandoned None later ≡ false
answered-goes true unknown health later going same = cc
answered-goes false (Some who) health later going same = cc
answered-goes false None health later going same = rw same going

-- the error of a step leaves a core that has failed
refused-bad : (fault : CoreFault) (old new : CoreValue) → old.health ≡ Good → IsRefusedTurn fault old new → is_good new.health ≡ false
refused-bad Memory old new good t = rw t.3 refl
refused-bad LogFull old new good t = rw t.3 refl
refused-bad Failed old new good t = let bad = rw good at t.0 in cc
refused-bad NoTest old new good t = absurd t

refused-bad-at : (standing : Standing) (fault : CoreFault) (old new : CoreValue) → old.health ≡ Good → IsNextTurn standing (Err fault) old new → is_good new.health ≡ false
refused-bad-at Nothing fault old new good t = refused-bad fault old new good t
refused-bad-at (Needed need) fault old new good t = let e = t.0 in cc
refused-bad-at (Asked hearer call origin) fault old new good t = let e = t.0 in cc

pub refused-fails : (abandoned : Bool) (unknown : Option Who) (fault : CoreFault) (old new : CoreValue) → old.health ≡ Good → IsNextTurn old.standing (Err fault) old new → failed_of abandoned unknown new.health ≡ true
refused-fails abandoned unknown fault old new good t = fails-with abandoned unknown new.health (refused-bad-at old.standing fault old new good t)

-- a core with one more entry has failed if it had
pub entered-health : (found : Option Entry) (old new : CoreValue) → IfSome found (λ entry. new ≡ core_after entry old) → IsSome found → new.health ≡ old.health
entered-health None old new is one = cc
entered-health (Some entry) old new is one = ap (λ (core : CoreValue). core.health) is

-- one that has not failed needs what its core needs
pub needs-open : (failed : Bool) (need : Need) → failed ≡ false → IsSome (if failed then None else Some need)
needs-open true need going = cc
needs-open false need going = refl
