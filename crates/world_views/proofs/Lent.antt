-- A sequencer that is lent.
use Rattle.std.proofs.Common.{◌≡◌, ℕ, Bool, List, Option, Some, None, Bor, IfSome, option_map, option_copied, ap, refl}
use Rattle.uvm_object.specs.declared.entries.Entry.{Entry}
use Rattle.uvm_sequencer.specs.declared.modes.Mode.{Mode}
use Rattle.bench_history.specs.Arbitration.{driver_requester, mode_at}
use Rattle.world_sequencing.specs.Arbiters.{ArbiterValue}
use Rattle.world_sequencing.specs.ArbitersMatch.{arbiter_of, arbiter_with, ledger_at}

pub sequencer-lent : (lent : Option (Bor ArbiterValue)) → option_map (λ (a : Bor ArbiterValue). a.now.sequencer) lent ≡ option_map (λ (a : ArbiterValue). a.sequencer) (option_copied lent)
sequencer-lent None = refl
sequencer-lent (Some a) = refl

-- its driver is the one that asked last
pub driver-lent : (live : ℕ → Bool) (history : List Entry) (node : ℕ) (lent : Option (Bor ArbiterValue)) → option_copied lent ≡ arbiter_of live (ledger_at history node)
    → IfSome lent (λ a. a.now.driver ≡ driver_requester history node)
driver-lent live history node lent is = by lent (mode_at history node) is where
  by : (lent : Option (Bor ArbiterValue)) (mode : Option Mode) → option_copied lent ≡ option_map (arbiter_with live (ledger_at history node)) mode → IfSome lent (λ a. a.now.driver ≡ driver_requester history node)
  by None mode is = tt
  by (Some a) None is = absurd (cc is)
  by (Some a) (Some mode) is = let same : a.now ≡ arbiter_with live (ledger_at history node) mode = cc is in ap (λ (a : ArbiterValue). a.driver) same
