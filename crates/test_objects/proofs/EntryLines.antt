-- The lines of entries that are no acts.
use Rattle.std.proofs.Common.{◌≡◌, ℕ, List, [], ◌∷◌, Some, None, refl}
use Rattle.std.specs.Prelude.{codes, pos}
use Rattle.std.specs.Fmt.{digits}
use Rattle.uvm_phase.specs.declared.phases.Phase.TheVariants as phase
use Rattle.uvm_tlm.specs.declared.fifos.MoveKind.{MoveKind}
use Rattle.uvm_tlm.specs.declared.fifos.MoveKind.TheVariants as move
use Rattle.uvm_acts.specs.declared.acts.Who.TheVariants as who
use Rattle.uvm_acts.specs.declared.acts.Act.TheVariants as act
use Rattle.uvm_acts.specs.declared.acts.Call.TheVariants as call
use Rattle.uvm_object.specs.declared.entries.Entry.TheVariants as entry
use Rattle.uvm_object.specs.declared.entries.Reason.TheVariants.{NoTest, Exit, Finished}
use Rattle.uvm_object.specs.declared.fatals.Fatal.TheVariants.{TooManyActs}
use Rattle.test_objects.proofs.Shown.{shown, heard_by}

-- what `uvm_test_top` had asked for at the FIFO `a`
abbrev passed : MoveKind → List ℕ
passed kind = shown (entry.Passed 2 (record { kind = kind; who = who.Node 1; port = codes "req"; item = record { 0 = pos 1 ∷ pos 2 ∷ pos 10 ∷ pos 0 ∷ [] }; request = 7; phase = phase.Run }))

the-begin-of-a-phase : shown (entry.Begin phase.Build) ≡ codes "begin build\n"
unfolding digits
the-begin-of-a-phase = refl

the-end-of-a-phase : shown (entry.End phase.EndOfElaboration) ≡ codes "end end_of_elaboration\n"
unfolding digits
the-end-of-a-phase = refl

a-note-of-the-kernel : shown (entry.Note TooManyActs 1) ≡ codes "note ACTLIM uvm_test_top\n"
unfolding digits
a-note-of-the-kernel = refl

over-without-a-test : shown (entry.Over NoTest) ≡ codes "over no_test\n"
unfolding digits
over-without-a-test = refl

over-by-exit : shown (entry.Over Exit) ≡ codes "over exit\n"
unfolding digits
over-by-exit = refl

over-when-finished : shown (entry.Over Finished) ≡ codes "over finished\n"
unfolding digits
over-when-finished = refl

an-answer-counts-its-acts : shown (entry.Heard (who.Node 1) None (call.Phase phase.Build) (act.Lock ∷ act.Lock ∷ act.Lock ∷ [])) ≡ codes "heard uvm_test_top build: 3\n"
unfolding digits
an-answer-counts-its-acts = refl

a-root-sequence-has-its-home-its-name-and-its-number : heard_by (who.Sequence 2 1) call.Body ≡ codes "heard uvm_test_top.a@@a#1 body: 0\n"
unfolding digits
a-root-sequence-has-its-home-its-name-and-its-number = refl

a-child-has-the-names-from-its-root-sequence-on : heard_by (who.Sequence 2 2) call.Body ≡ codes "heard uvm_test_top.a@@a.b#2 body: 0\n"
unfolding digits
a-child-has-the-names-from-its-root-sequence-on = refl

a-lock-that-is-held : shown (entry.Locked 2 1) ≡ codes "locked uvm_test_top.a uvm_test_top.a@@a#1\n"
unfolding digits
a-lock-that-is-held = refl

a-grant-without-a-word : shown (entry.Granted 2 (record { id = 2; word = None })) ≡ codes "granted uvm_test_top.a uvm_test_top.a@@a.b#2\n"
unfolding digits
a-grant-without-a-word = refl

a-grant-by-a-word : shown (entry.Granted 2 (record { id = 2; word = Some 30 })) ≡ codes "granted uvm_test_top.a uvm_test_top.a@@a.b#2 word 30\n"
unfolding digits
a-grant-by-a-word = refl

a-put-that-came-to-pass : passed move.Put ≡ codes "passed uvm_test_top.a put uvm_test_top\n"
unfolding digits
a-put-that-came-to-pass = refl

a-take-that-came-to-pass : passed move.Take ≡ codes "passed uvm_test_top.a take uvm_test_top\n"
unfolding digits
a-take-that-came-to-pass = refl

a-peek-that-came-to-pass : passed move.Peek ≡ codes "passed uvm_test_top.a peek uvm_test_top\n"
unfolding digits
a-peek-that-came-to-pass = refl
