-- The built-in objects of all types.
use Rattle.std.specs.Prelude.{ℕ, List, [], ◌∷◌, Option, option_map}
use Rattle.uvm_glob.specs.Lists.{first_given}
use Rattle.uvm_object.specs.Objects.{Says, View}
use Rattle.bus_objects.specs.BusAgent.{BusAgentSays, bus_agent_named, bus_agent_view}
use Rattle.bus_objects.specs.BusDriver.{BusDriverSays, bus_driver_named, bus_driver_view}
use Rattle.bus_objects.specs.BusEnv.{BusEnvSays, bus_env_named, bus_env_view}
use Rattle.bus_objects.specs.BusMem.{BusMemSays, bus_mem_named, bus_mem_view}
use Rattle.bus_objects.specs.BusMemBad.{BusMemBadSays, bus_mem_bad_named, bus_mem_bad_view}
use Rattle.bus_objects.specs.BusMonitor.{BusMonitorSays, bus_monitor_named, bus_monitor_view}
use Rattle.bus_objects.specs.BusScoreboard.{BusScoreboardSays, bus_scoreboard_named, bus_scoreboard_view}
use Rattle.bus_objects.specs.BusTest.{BusTestSays, bus_test_named, bus_test_view}
use Rattle.bus_objects.specs.Idle.{IdleSays, idle_named, idle_view}
use Rattle.bus_objects.specs.Loud.{LoudSays, loud_named, loud_view}
use Rattle.bus_objects.specs.Pulse.{PulseSays, pulse_named, pulse_view}
use Rattle.bus_objects.specs.SeqBurst.{SeqBurstSays, seq_burst_named, seq_burst_view}
use Rattle.bus_objects.specs.SeqPair.{SeqPairSays, seq_pair_named, seq_pair_view}
use Rattle.bus_objects.specs.SeqSmoke.{SeqSmokeSays, seq_smoke_named, seq_smoke_view}
use Rattle.bus_objects.specs.Sleeper.{SleeperSays, sleeper_named, sleeper_view}
use Rattle.bus_objects.specs.SlowDriver.{SlowDriverSays, slow_driver_named, slow_driver_view}
use Rattle.bus_objects.specs.Spinner.{SpinnerSays, spinner_named, spinner_view}
use Rattle.bus_objects.specs.declared.objects.BusObject.{BusObject}
use Rattle.bus_objects.specs.declared.objects.BusObject.TheVariants.{BusAgent, BusDriver, BusEnv, BusMem, BusMemBad, BusMonitor, BusScoreboard, BusTest, Idle, Loud, Pulse, SeqBurst, SeqPair, SeqSmoke, Sleeper, SlowDriver, Spinner}

-- The new object of the type with this name, if its objects move to the heap at their first call. These have more state than a name and a
-- byte.
abbrev pub large_named : List ℕ → Option BusObject
large_named name =
    first_given (
    option_map BusMem (bus_mem_named name)
    ∷ option_map BusMemBad (bus_mem_bad_named name)
    ∷ option_map BusScoreboard (bus_scoreboard_named name)
    ∷ option_map Sleeper (sleeper_named name)
    ∷ option_map SlowDriver (slow_driver_named name)
    ∷ [])

-- the new object of the type with this name, if it is the type of a component of the bus without state
abbrev pub part_named : List ℕ → Option BusObject
part_named name =
    first_given (
    option_map BusAgent (bus_agent_named name)
    ∷ option_map BusDriver (bus_driver_named name)
    ∷ option_map BusEnv (bus_env_named name)
    ∷ option_map BusMonitor (bus_monitor_named name)
    ∷ option_map BusTest (bus_test_named name)
    ∷ [])

-- the new object of the type with this name, if it is the type of a sequence
abbrev pub sequence_named : List ℕ → Option BusObject
sequence_named name =
    first_given (
    option_map SeqBurst (seq_burst_named name)
    ∷ option_map SeqPair (seq_pair_named name)
    ∷ option_map SeqSmoke (seq_smoke_named name)
    ∷ [])

-- the new object of the type with this name, if its objects are held in place
abbrev pub small_named : List ℕ → Option BusObject
small_named name =
    first_given (
    part_named name
    ∷ sequence_named name
    ∷ option_map Idle (idle_named name)
    ∷ option_map Loud (loud_named name)
    ∷ option_map Pulse (pulse_named name)
    ∷ option_map Spinner (spinner_named name)
    ∷ [])

-- the new object of the type with this name; `None` if the type is not built in
abbrev pub object_named : List ℕ → Option BusObject
object_named name = first_given (large_named name ∷ small_named name ∷ [])

-- the view of a built-in object
abbrev pub view_of : BusObject → View
view_of (BusAgent bus_agent) = bus_agent_view bus_agent
view_of (BusDriver bus_driver) = bus_driver_view bus_driver
view_of (BusEnv bus_env) = bus_env_view bus_env
view_of (BusMem bus_mem) = bus_mem_view bus_mem
view_of (BusMemBad bus_mem_bad) = bus_mem_bad_view bus_mem_bad
view_of (BusMonitor bus_monitor) = bus_monitor_view bus_monitor
view_of (BusScoreboard bus_scoreboard) = bus_scoreboard_view bus_scoreboard
view_of (BusTest bus_test) = bus_test_view bus_test
view_of (Idle idle) = idle_view idle
view_of (Loud loud) = loud_view loud
view_of (Pulse pulse) = pulse_view pulse
view_of (SeqBurst seq_burst) = seq_burst_view seq_burst
view_of (SeqPair seq_pair) = seq_pair_view seq_pair
view_of (SeqSmoke seq_smoke) = seq_smoke_view seq_smoke
view_of (Sleeper sleeper) = sleeper_view sleeper
view_of (SlowDriver slow_driver) = slow_driver_view slow_driver
view_of (Spinner spinner) = spinner_view spinner

-- the type name of a built-in object
abbrev pub name_of : BusObject → List ℕ
name_of (BusAgent bus_agent) = bus_agent.type_name
name_of (BusDriver bus_driver) = bus_driver.type_name
name_of (BusEnv bus_env) = bus_env.type_name
name_of (BusMem bus_mem) = bus_mem.type_name
name_of (BusMemBad bus_mem_bad) = bus_mem_bad.type_name
name_of (BusMonitor bus_monitor) = bus_monitor.type_name
name_of (BusScoreboard bus_scoreboard) = bus_scoreboard.type_name
name_of (BusTest bus_test) = bus_test.type_name
name_of (Idle idle) = idle.type_name
name_of (Loud loud) = loud.type_name
name_of (Pulse pulse) = pulse.type_name
name_of (SeqBurst seq_burst) = seq_burst.type_name
name_of (SeqPair seq_pair) = seq_pair.type_name
name_of (SeqSmoke seq_smoke) = seq_smoke.type_name
name_of (Sleeper sleeper) = sleeper.type_name
name_of (SlowDriver slow_driver) = slow_driver.type_name
name_of (Spinner spinner) = spinner.type_name

-- the relation of a built-in object
abbrev pub says_of : BusObject → Says
says_of (BusAgent bus_agent) = BusAgentSays
says_of (BusDriver bus_driver) = BusDriverSays
says_of (BusEnv bus_env) = BusEnvSays
says_of (BusMem bus_mem) = BusMemSays
says_of (BusMemBad bus_mem_bad) = BusMemBadSays
says_of (BusMonitor bus_monitor) = BusMonitorSays
says_of (BusScoreboard bus_scoreboard) = BusScoreboardSays
says_of (BusTest bus_test) = BusTestSays
says_of (Idle idle) = IdleSays
says_of (Loud loud) = LoudSays
says_of (Pulse pulse) = PulseSays
says_of (SeqBurst seq_burst) = SeqBurstSays
says_of (SeqPair seq_pair) = SeqPairSays
says_of (SeqSmoke seq_smoke) = SeqSmokeSays
says_of (Sleeper sleeper) = SleeperSays
says_of (SlowDriver slow_driver) = SlowDriverSays
says_of (Spinner spinner) = SpinnerSays
