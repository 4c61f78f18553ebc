-- The lines of acts on ports and of acts of sequences.
use Rattle.std.proofs.Common.{◌≡◌, [], ◌∷◌, Some, None, refl}
use Rattle.std.specs.Prelude.{codes, pos, negsuc, true, false}
use Rattle.std.specs.Fmt.{digits}
use Rattle.uvm_sequencer.specs.declared.drivers.How.TheVariants as how
use Rattle.uvm_tlm.specs.declared.items.Item.{Item}
use Rattle.uvm_acts.specs.declared.acts.Act.TheVariants as act
use Rattle.uvm_object.specs.declared.entries.Outcome.TheVariants as outcome
use Rattle.test_objects.proofs.Shown.{did, done}

abbrev item : Item
item = record { 0 = pos 1 ∷ negsuc 1 ∷ pos 10 ∷ pos 0 ∷ [] }

abbrev sent : Item
sent = record { 0 = pos 1 ∷ pos 0 ∷ pos 10 ∷ pos 0 ∷ [] }

put : done (act.Put (codes "req") item) ≡ codes "did uvm_test_top put req [1,-2,10,0]: done\n"
unfolding digits
put = refl

write : done (act.Write (codes "req") item) ≡ codes "did uvm_test_top write req [1,-2,10,0]: done\n"
unfolding digits
write = refl

take : done (act.Take (codes "req")) ≡ codes "did uvm_test_top take req: done\n"
unfolding digits
take = refl

peek : done (act.Peek (codes "req")) ≡ codes "did uvm_test_top peek req: done\n"
unfolding digits
peek = refl

a-put-that-is-tried-and-succeeds : did (outcome.Stored true) (act.TryPut (codes "req") item) ≡ codes "did uvm_test_top try_put req [1,-2,10,0]: yes\n"
unfolding digits
a-put-that-is-tried-and-succeeds = refl

a-put-that-is-tried-and-does-not : did (outcome.Stored false) (act.TryPut (codes "req") item) ≡ codes "did uvm_test_top try_put req [1,-2,10,0]: no\n"
unfolding digits
a-put-that-is-tried-and-does-not = refl

a-take-that-is-tried-and-succeeds : did (outcome.Taken (Some item)) (act.TryTake (codes "req")) ≡ codes "did uvm_test_top try_take req: yes\n"
unfolding digits
a-take-that-is-tried-and-succeeds = refl

a-take-that-is-tried-and-does-not : did (outcome.Taken None) (act.TryTake (codes "req")) ≡ codes "did uvm_test_top try_take req: no\n"
unfolding digits
a-take-that-is-tried-and-does-not = refl

ask-for-the-next-item : did outcome.Done (act.Ask (codes "sqp") how.Next) ≡ codes "did uvm_test_top ask sqp next: done\n"
unfolding digits
ask-for-the-next-item = refl

a-try-that-waits : did (outcome.Waits true) (act.Ask (codes "sqp") how.Try) ≡ codes "did uvm_test_top ask sqp try: yes\n"
unfolding digits
a-try-that-waits = refl

a-try-that-does-not : did (outcome.Waits false) (act.Ask (codes "sqp") how.Try) ≡ codes "did uvm_test_top ask sqp try: no\n"
unfolding digits
a-try-that-does-not = refl

get-an-item : did outcome.Done (act.Ask (codes "sqp") how.Get) ≡ codes "did uvm_test_top ask sqp get: done\n"
unfolding digits
get-an-item = refl

done-without-a-response : done (act.ItemDone (codes "sqp") None) ≡ codes "did uvm_test_top item_done sqp none: done\n"
unfolding digits
done-without-a-response = refl

done-with-a-response : done (act.ItemDone (codes "sqp") (Some sent)) ≡ codes "did uvm_test_top item_done sqp [1,0,10,0]: done\n"
unfolding digits
done-with-a-response = refl

a-start-with-its-path-and-priority-as-given : did (outcome.Started 1) (act.Start (codes "t") (codes "s") (codes "a" ∷ []) (Some 200)) ≡ codes "did uvm_test_top start t s (a) 200: started 1\n"
unfolding digits
a-start-with-its-path-and-priority-as-given = refl

a-start-with-neither : did (outcome.Started 1) (act.Start (codes "t") (codes "s") [] None) ≡ codes "did uvm_test_top start t s () none: started 1\n"
unfolding digits
a-start-with-neither = refl

a-request-without-a-priority : done (act.Request None) ≡ codes "did uvm_test_top request none: done\n"
unfolding digits
a-request-without-a-priority = refl

a-request-with-a-priority : done (act.Request (Some 7)) ≡ codes "did uvm_test_top request 7: done\n"
unfolding digits
a-request-with-a-priority = refl

lock : done act.Lock ≡ codes "did uvm_test_top lock: done\n"
unfolding digits
lock = refl

grab : done act.Grab ≡ codes "did uvm_test_top grab: done\n"
unfolding digits
grab = refl

unlock : done act.Unlock ≡ codes "did uvm_test_top unlock: done\n"
unfolding digits
unlock = refl

send : done (act.Send sent) ≡ codes "did uvm_test_top send [1,0,10,0]: done\n"
unfolding digits
send = refl

the-end-of-a-step : done act.EndStep ≡ codes "did uvm_test_top end_step: done\n"
unfolding digits
the-end-of-a-step = refl

the-end-of-the-last-step-says-that-it-finished : did outcome.Finished act.EndStep ≡ codes "did uvm_test_top end_step: finished\n"
unfolding digits
the-end-of-the-last-step-says-that-it-finished = refl
