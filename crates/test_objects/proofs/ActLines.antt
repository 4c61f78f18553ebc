-- The lines of acts but for those on ports and those of sequences.
use Rattle.std.proofs.Common.{◌≡◌, [], ◌∷◌, Some, None, refl}
use Rattle.std.specs.Prelude.{codes, pos, negsuc, true, false}
use Rattle.std.specs.Fmt.{digits}
use Rattle.uvm_report.specs.declared.severities.Severity.TheVariants as severity
use Rattle.uvm_report.specs.declared.settings.Which.TheVariants as which
use Rattle.uvm_sequencer.specs.declared.modes.Mode.TheVariants as mode
use Rattle.uvm_tlm.specs.declared.ends.PortKind.TheVariants as kind
use Rattle.uvm_acts.specs.declared.acts.Act.TheVariants as act
use Rattle.uvm_acts.specs.declared.acts.What.TheVariants as what
use Rattle.uvm_acts.specs.declared.acts.Who.TheVariants as who
use Rattle.uvm_object.specs.declared.entries.Entry.TheVariants.{Did}
use Rattle.uvm_object.specs.declared.entries.Outcome.TheVariants as outcome
use Rattle.uvm_object.specs.declared.fatals.Fatal.TheVariants.{InvalidType}
use Rattle.test_objects.proofs.Shown.{shown, did, done}

a-creation-says-what-was-made : shown (Did (who.Node 0) (outcome.Made (codes "t")) (act.Create (codes "t") (codes "uvm_test_top"))) ≡ codes "did uvm_top create t uvm_test_top: made t\n"
unfolding digits
a-creation-says-what-was-made = refl

add-a-fifo : done (act.Add (codes "f") (what.Fifo 1)) ≡ codes "did uvm_test_top add f fifo 1: done\n"
unfolding digits
add-a-fifo = refl

add-a-put-port : done (act.Add (codes "p") (what.Port kind.Put)) ≡ codes "did uvm_test_top add p port put: done\n"
unfolding digits
add-a-put-port = refl

add-a-seq-port : done (act.Add (codes "p") (what.Port kind.Seq)) ≡ codes "did uvm_test_top add p port seq: done\n"
unfolding digits
add-a-seq-port = refl

add-a-get-export : done (act.Add (codes "p") (what.Export kind.Get)) ≡ codes "did uvm_test_top add p export get: done\n"
unfolding digits
add-a-get-export = refl

add-an-analysis-export : done (act.Add (codes "p") (what.Export kind.Analysis)) ≡ codes "did uvm_test_top add p export analysis: done\n"
unfolding digits
add-an-analysis-export = refl

add-an-imp : done (act.Add (codes "p") what.Imp) ≡ codes "did uvm_test_top add p imp: done\n"
unfolding digits
add-an-imp = refl

add-a-fifo-sequencer : done (act.Add (codes "q") (what.Sequencer mode.Fifo)) ≡ codes "did uvm_test_top add q sequencer FIFO: done\n"
unfolding digits
add-a-fifo-sequencer = refl

add-a-weighted-sequencer : done (act.Add (codes "q") (what.Sequencer mode.Weighted)) ≡ codes "did uvm_test_top add q sequencer WEIGHTED: done\n"
unfolding digits
add-a-weighted-sequencer = refl

add-a-random-sequencer : done (act.Add (codes "q") (what.Sequencer mode.Random)) ≡ codes "did uvm_test_top add q sequencer RANDOM: done\n"
unfolding digits
add-a-random-sequencer = refl

add-a-strict-fifo-sequencer : done (act.Add (codes "q") (what.Sequencer mode.StrictFifo)) ≡ codes "did uvm_test_top add q sequencer STRICT_FIFO: done\n"
unfolding digits
add-a-strict-fifo-sequencer = refl

add-a-strict-random-sequencer : done (act.Add (codes "q") (what.Sequencer mode.StrictRandom)) ≡ codes "did uvm_test_top add q sequencer STRICT_RANDOM: done\n"
unfolding digits
add-a-strict-random-sequencer = refl

a-refused-override : did (outcome.Refused InvalidType) (act.OverrideType (codes "x") (codes "y") true) ≡ codes "did uvm_test_top override x y replace: refused INVTYP\n"
unfolding digits
a-refused-override = refl

an-override-of-an-instance-says-where-it-holds : shown (Did (who.Node 2) outcome.Done (act.OverrideInst (codes "x") (codes "y") (codes "*.b"))) ≡ codes "did uvm_test_top.a override x y at (*.b): done\n"
unfolding digits
an-override-of-an-instance-says-where-it-holds = refl

a-connection-has-its-paths-as-given : done (act.Connect (codes "agent" ∷ codes "drv" ∷ codes "req" ∷ []) (codes "reqf" ∷ [])) ≡ codes "did uvm_test_top connect (agent.drv.req) (reqf): done\n"
unfolding digits
a-connection-has-its-paths-as-given = refl

a-setting : done (act.Set [] (codes "f") (negsuc 8)) ≡ codes "did uvm_test_top set () f -9: done\n"
unfolding digits
a-setting = refl

a-field-that-has-a-value : did (outcome.Value (Some (pos 7))) (act.Get (codes "f")) ≡ codes "did uvm_test_top get f: value 7\n"
unfolding digits
a-field-that-has-a-value = refl

a-report : done (act.Report (record { severity = severity.Error; id = codes "E"; text = codes "one"; verbosity = 0 })) ≡ codes "did uvm_test_top report ERROR E: done\n"
unfolding digits
a-report = refl

a-level-of-all-reports : done (act.Verbosity which.All 300) ≡ codes "did uvm_test_top verbosity all 300: done\n"
unfolding digits
a-level-of-all-reports = refl

a-level-of-a-severity : done (act.Verbosity (which.Severity severity.Error) 300) ≡ codes "did uvm_test_top verbosity ERROR 300: done\n"
unfolding digits
a-level-of-a-severity = refl

a-level-of-an-id : done (act.Verbosity (which.Id (codes "E")) 300) ≡ codes "did uvm_test_top verbosity id E 300: done\n"
unfolding digits
a-level-of-an-id = refl

a-level-of-a-severity-and-an-id : done (act.Verbosity (which.Both severity.Error (codes "E")) 300) ≡ codes "did uvm_test_top verbosity ERROR E 300: done\n"
unfolding digits
a-level-of-a-severity-and-an-id = refl

all-actions : done (act.Actions which.All (record { display = true; count = true; exit = true })) ≡ codes "did uvm_test_top actions all display,count,exit: done\n"
unfolding digits
all-actions = refl

one-action : done (act.Actions which.All (record { display = false; count = true; exit = false })) ≡ codes "did uvm_test_top actions all count: done\n"
unfolding digits
one-action = refl

two-actions : done (act.Actions which.All (record { display = true; count = false; exit = true })) ≡ codes "did uvm_test_top actions all display,exit: done\n"
unfolding digits
two-actions = refl

no-action : done (act.Actions which.All (record { display = false; count = false; exit = false })) ≡ codes "did uvm_test_top actions all none: done\n"
unfolding digits
no-action = refl

a-change-of-a-severity : done (act.Severity severity.Error None severity.Info) ≡ codes "did uvm_test_top severity ERROR none INFO: done\n"
unfolding digits
a-change-of-a-severity = refl

a-change-of-a-severity-with-an-id : done (act.Severity severity.Error (Some (codes "E")) severity.Info) ≡ codes "did uvm_test_top severity ERROR E INFO: done\n"
unfolding digits
a-change-of-a-severity-with-an-id = refl
