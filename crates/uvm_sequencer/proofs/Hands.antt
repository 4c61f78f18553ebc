-- What is said of an item in hand.
use Rattle.uvm_sequencer.proofs.Common.{◌≡◌, Bool, true, false, Some, IsSome, refl, if◌then◌else◌, Driver, Idle, Waiting, Granted, InHand, NoDriver, Twice, hand_of, SequencerValue, is_driver, IsOut, OneItemOut}

busy_by : (drives : Bool) → IsSome (if drives then Some Twice else Some NoDriver)
busy_by true = refl
busy_by false = refl

out_by : (s : SequencerValue) (driver : Driver) → s.driver ≡ driver → IsSome (hand_of driver) → IsOut s
out_by s Idle is out = absurd cc
out_by s (Waiting how) is out = absurd cc
out_by s (Granted seq how) is out = absurd cc
out_by s (InHand seq) is out = record {
  asks = λ port. rw is (busy_by (is_driver s.port port));
  waits = rw is refl;
  sends = λ other. rw is refl;
  stays = λ other. rw is refl;
}

pub one_item_out : OneItemOut
one_item_out s out = out_by s s.driver refl out
