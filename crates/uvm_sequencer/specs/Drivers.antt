-- The state of the driver of a sequencer, and how each call changes it.
use Rattle.std.specs.Prelude.{ℕ, Bool, true, false, ◌==◌, Option, Some, None, if◌then◌else◌}
use Rattle.std.specs.Option.{option_map_or}
use Rattle.uvm_sequencer.specs.declared.drivers.Asked.{Asked}
use Rattle.uvm_sequencer.specs.declared.drivers.Asked.TheVariants.{Nothing, Waits}
use Rattle.uvm_sequencer.specs.declared.drivers.How.{How}
use Rattle.uvm_sequencer.specs.declared.drivers.How.TheVariants.{Try, Get}
use Rattle.uvm_sequencer.specs.declared.drivers.Driver.{Driver}
use Rattle.uvm_sequencer.specs.declared.drivers.Driver.TheVariants.{Idle, Waiting, Granted, InHand}

-- whether the driver may request an item
abbrev pub is_idle : Driver → Bool
is_idle Idle = true
is_idle driver = false

-- how the driver requested an item, if no sequence is granted yet
abbrev pub wait_of : Driver → Option How
wait_of (Waiting how) = Some how
wait_of driver = None

-- how the driver requested an item, if this sequence is granted and has not sent
abbrev pub grant_of : ℕ → Driver → Option How
grant_of seq (Granted other how) = if other == seq then Some how else None
grant_of seq driver = None

-- the sequence whose item the driver holds, if any
abbrev pub hand_of : Driver → Option ℕ
hand_of (InHand seq) = Some seq
hand_of driver = None

-- the driver after it requested an item: it waits, unless the request is already answered
abbrev pub asked_by : How → Asked → Driver → Driver
asked_by how Nothing driver = driver
asked_by how Waits driver = Waiting how

-- the driver after a sequence was granted, if the driver waited
abbrev pub granted_by : ℕ → Driver → Driver
granted_by seq (Waiting how) = Granted seq how
granted_by seq driver = driver

-- the driver after the granted sequence sent its item: it holds the item, except for a `get`, whose item is done
abbrev pub sent : ℕ → How → Driver
sent seq Get = Idle
sent seq how = InHand seq

-- the driver after a grant without a sent item was withdrawn: a `try` is answered, any other request waits again
abbrev pub lapsed : How → Driver
lapsed Try = Idle
lapsed how = Waiting how

-- the driver after a sequence left: a grant of that sequence without a sent item is withdrawn
abbrev pub left_by : Option How → Driver → Driver
left_by how driver = option_map_or lapsed how driver

-- whether the withdrawn grant was that of a `try`
abbrev pub is_try : Option How → Bool
is_try (Some Try) = true
is_try how = false

-- how the driver requested an item, if the granted sequence has not sent and has ended
abbrev pub lost_grant : (ℕ → Bool) → Driver → Option How
lost_grant live (Granted seq how) = if live seq then None else Some how
lost_grant live driver = None

-- the driver after a phase ended: idle if its request ends too; otherwise a grant of a sequence that has ended is withdrawn, and an item that the
-- driver holds stays
abbrev pub kept_on : Bool → (ℕ → Bool) → Driver → Driver
kept_on true live driver = Idle
kept_on false live driver = left_by (lost_grant live driver) driver

-- whether the end of a phase withdraws the grant of a `try`
abbrev pub loses_try : Bool → (ℕ → Bool) → Driver → Bool
loses_try true live driver = false
loses_try false live driver = is_try (lost_grant live driver)
