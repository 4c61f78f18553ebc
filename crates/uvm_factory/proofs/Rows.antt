-- One step of a row.
use Rattle.std.proofs.Common.{◌≡◌, ℕ, zero, suc, ◌<◌, ◌-◌, Option, Some, None, ap, arith}
use Rattle.uvm_factory.specs.Steps.{made}

-- a row ends where there is no next type
pub made_ends : (next : ℕ → Option ℕ) (left type_id : ℕ) → next type_id ≡ None → made next left type_id ≡ Some type_id
unfolding made
made_ends next zero type_id none = rw none
made_ends next (suc left) type_id none = rw none

-- it goes on from the next type
pub made_goes : (next : ℕ → Option ℕ) (left type_id to : ℕ) → next type_id ≡ Some to → 0 < left → made next left type_id ≡ made next (left - 1) to
unfolding made
made_goes next zero type_id to some more = absurd (omega arith)
made_goes next (suc left) type_id to some more = rw some (ap (λ n. made next n to) (omega arith))

-- and has no end where no step is left
pub made_stops : (next : ℕ → Option ℕ) (left type_id to : ℕ) → next type_id ≡ Some to → left ≡ 0 → made next left type_id ≡ None
unfolding made
made_stops next zero type_id to some none = rw some
made_stops next (suc left) type_id to some none = absurd (omega arith)

pub ruleset rows = (made_ends, made_goes, made_stops)
