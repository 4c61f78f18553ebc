-- The ids and texts of the kernel's fatal reports.
use Rattle.std.specs.Prelude.{ℕ, List, codes}
use Rattle.uvm_report.specs.declared.severities.Severity.TheVariants as severity
use Rattle.uvm_report.specs.declared.messages.Report.{Report}
use Rattle.uvm_object.specs.declared.fatals.Fatal.{Fatal}
use Rattle.uvm_object.specs.declared.fatals.Fatal.TheVariants.{NotOpen, CreatedAfterBuild, TooManyActs, InvalidType, ChildTaken, TreeLimit, OverrideLoop, NoObject, TooManySettings, ConnectedTooLate, UnknownNode, KindsDiffer, TooFewConnections, TooManyConnections, NoPort, NoSequencer, NoDriver, AskedTwice, NothingOut, NotGranted, NotHeld, OutsideTask, ObjectionBelowZero, OutOfRange, Timeout, Stall}

-- the id of each fatal report
abbrev pub id_of : Fatal → List ℕ
id_of NotOpen = codes "ILLACT"
id_of CreatedAfterBuild = codes "ILLCRT"
id_of TooManyActs = codes "ACTLIM"
id_of InvalidType = codes "INVTYP"
id_of ChildTaken = codes "CLDEXT"
id_of TreeLimit = codes "TREELIM"
id_of OverrideLoop = codes "OVRDLOOP"
id_of NoObject = codes "FCTTYP"
id_of TooManySettings = codes "CFGFULL"
id_of ConnectedTooLate = codes "CONNERR"
id_of UnknownNode = codes "CONNERR"
id_of KindsDiffer = codes "CONNERR"
id_of TooFewConnections = codes "CONNERR"
id_of TooManyConnections = codes "CONNERR"
id_of NoPort = codes "NOPORT"
id_of NoSequencer = codes "NOSQR"
id_of NoDriver = codes "SQRERR"
id_of AskedTwice = codes "SQRERR"
id_of NothingOut = codes "SQRERR"
id_of NotGranted = codes "SQRERR"
id_of NotHeld = codes "SQRERR"
id_of OutsideTask = codes "NOTTASK"
id_of ObjectionBelowZero = codes "OBJTN_ZERO"
id_of OutOfRange = codes "ACTRNG"
id_of Timeout = codes "PH_TIMEOUT"
id_of Stall = codes "STALL"

-- the text of each fatal report
abbrev pub text_of : Fatal → List ℕ
text_of NotOpen = codes "act not open to this object"
text_of CreatedAfterBuild = codes "created after build"
text_of TooManyActs = codes "more than 64 acts"
text_of InvalidType = codes "type unknown or of another kind"
text_of ChildTaken = codes "child name taken"
text_of TreeLimit = codes "tree limit reached"
text_of OverrideLoop = codes "override loop"
text_of NoObject = codes "no object supplied"
text_of TooManySettings = codes "too many settings"
text_of ConnectedTooLate = codes "connected too late"
text_of UnknownNode = codes "unknown node"
text_of KindsDiffer = codes "kinds differ"
text_of TooFewConnections = codes "too few connections"
text_of TooManyConnections = codes "too many connections"
text_of NoPort = codes "no such port"
text_of NoSequencer = codes "no such sequencer"
text_of NoDriver = codes "no driver"
text_of AskedTwice = codes "asked twice"
text_of NothingOut = codes "nothing out"
text_of NotGranted = codes "not granted"
text_of NotHeld = codes "not held"
text_of OutsideTask = codes "act outside a task phase"
text_of ObjectionBelowZero = codes "objection dropped below zero"
text_of OutOfRange = codes "value out of range"
text_of Timeout = codes "time limit passed"
text_of Stall = codes "objection stands and nothing is due"

-- the fatal report of the kernel, with verbosity 0
abbrev pub fatal_report : Fatal → Report
fatal_report fatal = record { severity = severity.Fatal; id = id_of fatal; text = text_of fatal; verbosity = 0 }
