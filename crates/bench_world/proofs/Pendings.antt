-- What a world waits for.
use Rattle.bench_world.proofs.Common.{◌≡◌, Option, None, Some, IsSome, refl, PendingCall, PendingParts, Pending, Call, Creation, call_in, need_of, parts_in, standing_of}

-- whose data are given, that waits
pub creation-waits : (pending : Option Pending) (parts : PendingParts) → parts_in pending ≡ Some parts → pending ≡ Some (Creation parts)
creation-waits None parts is = cc
creation-waits (Some (Call call)) parts is = cc
creation-waits (Some (Creation creation)) parts is = let same : creation ≡ parts = cc in rw same refl

-- where an object is needed, data are given
pub parts-needed : (pending : Option Pending) → IsSome (need_of (standing_of pending)) → parts_in pending ≡ None → ⊥
parts-needed None needed none = cc
parts-needed (Some (Call call)) needed none = cc
parts-needed (Some (Creation creation)) needed none = cc

-- the call that is given waits
pub call-waits : (pending : Option Pending) (call : PendingCall) → call_in pending ≡ Some call → pending ≡ Some (Call call)
call-waits None call is = cc
call-waits (Some (Creation creation)) call is = cc
call-waits (Some (Call asked)) call is = let same : asked ≡ call = cc in rw same refl
