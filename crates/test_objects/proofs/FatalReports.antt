-- The ids and texts of the kernel's fatal reports, and what is told of a log's faults.
use Rattle.std.proofs.Common.{◌≡◌, ℕ, List, refl}
use Rattle.std.specs.Prelude.{codes}
use Rattle.uvm_object.specs.declared.fatals.Fatal.{Fatal}
use Rattle.uvm_object.specs.declared.fatals.Fatal.TheVariants.{NotOpen, NoSequencer, NoDriver, AskedTwice, NothingOut, NotGranted, NotHeld, CreatedAfterBuild, TooManyActs, InvalidType, ChildTaken, TreeLimit, OverrideLoop, NoObject, TooManySettings, ConnectedTooLate, UnknownNode, KindsDiffer, TooFewConnections, TooManyConnections, NoPort}
use Rattle.uvm_object.specs.declared.logs.LogFault.TheVariants.{Full, Memory}
use Rattle.uvm_object.specs.Fatals.{id_of, text_of}
use Rattle.uvm_object.specs.Logs.{fault_text}

-- the id and the text of a report
abbrev told : Fatal → List ℕ × List ℕ
told fatal = (id_of fatal, text_of fatal)

not-open : told NotOpen ≡ (codes "ILLACT", codes "act not open to this object")
not-open = refl

no-sequencer : told NoSequencer ≡ (codes "NOSQR", codes "no such sequencer")
no-sequencer = refl

no-driver : told NoDriver ≡ (codes "SQRERR", codes "no driver")
no-driver = refl

asked-twice : told AskedTwice ≡ (codes "SQRERR", codes "asked twice")
asked-twice = refl

nothing-out : told NothingOut ≡ (codes "SQRERR", codes "nothing out")
nothing-out = refl

not-granted : told NotGranted ≡ (codes "SQRERR", codes "not granted")
not-granted = refl

not-held : told NotHeld ≡ (codes "SQRERR", codes "not held")
not-held = refl

created-after-build : told CreatedAfterBuild ≡ (codes "ILLCRT", codes "created after build")
created-after-build = refl

too-many-acts : told TooManyActs ≡ (codes "ACTLIM", codes "more than 64 acts")
too-many-acts = refl

invalid-type : told InvalidType ≡ (codes "INVTYP", codes "type unknown or of another kind")
invalid-type = refl

child-taken : told ChildTaken ≡ (codes "CLDEXT", codes "child name taken")
child-taken = refl

tree-limit : told TreeLimit ≡ (codes "TREELIM", codes "tree limit reached")
tree-limit = refl

override-loop : told OverrideLoop ≡ (codes "OVRDLOOP", codes "override loop")
override-loop = refl

no-object : told NoObject ≡ (codes "FCTTYP", codes "no object supplied")
no-object = refl

too-many-settings : told TooManySettings ≡ (codes "CFGFULL", codes "too many settings")
too-many-settings = refl

connected-too-late : told ConnectedTooLate ≡ (codes "CONNERR", codes "connected too late")
connected-too-late = refl

unknown-node : told UnknownNode ≡ (codes "CONNERR", codes "unknown node")
unknown-node = refl

kinds-differ : told KindsDiffer ≡ (codes "CONNERR", codes "kinds differ")
kinds-differ = refl

too-few-connections : told TooFewConnections ≡ (codes "CONNERR", codes "too few connections")
too-few-connections = refl

too-many-connections : told TooManyConnections ≡ (codes "CONNERR", codes "too many connections")
too-many-connections = refl

no-port : told NoPort ≡ (codes "NOPORT", codes "no such port")
no-port = refl

log-full : fault_text Full ≡ codes "log full"
log-full = refl

log-out-of-memory : fault_text Memory ≡ codes "out of memory"
log-out-of-memory = refl
