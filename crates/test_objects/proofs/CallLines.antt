-- The lines of what an object is told.
use Rattle.std.proofs.Common.{◌≡◌, [], ◌∷◌, Some, None, refl}
use Rattle.std.specs.Prelude.{codes, pos, negsuc, true, false}
use Rattle.std.specs.Fmt.{digits}
use Rattle.uvm_tlm.specs.declared.items.Item.{Item}
use Rattle.uvm_acts.specs.declared.acts.Call.TheVariants as call
use Rattle.test_objects.proofs.Shown.{heard}

abbrev item : Item
item = record { 0 = pos 1 ∷ negsuc 1 ∷ pos 10 ∷ pos 0 ∷ [] }

abbrev sent : Item
sent = record { 0 = pos 1 ∷ pos 0 ∷ pos 10 ∷ pos 0 ∷ [] }

stored : heard (call.Stored (codes "req")) ≡ codes "heard uvm_test_top stored req: 0\n"
unfolding digits
stored = refl

stored-at-once : heard (call.TryStored (codes "req") true) ≡ codes "heard uvm_test_top try_stored req yes: 0\n"
unfolding digits
stored-at-once = refl

not-stored-at-once : heard (call.TryStored (codes "req") false) ≡ codes "heard uvm_test_top try_stored req no: 0\n"
unfolding digits
not-stored-at-once = refl

taken : heard (call.Taken (codes "req") item) ≡ codes "heard uvm_test_top taken req [1,-2,10,0]: 0\n"
unfolding digits
taken = refl

taken-at-once : heard (call.TryTaken (codes "req") (Some item)) ≡ codes "heard uvm_test_top try_taken req [1,-2,10,0]: 0\n"
unfolding digits
taken-at-once = refl

nothing-taken-at-once : heard (call.TryTaken (codes "req") None) ≡ codes "heard uvm_test_top try_taken req none: 0\n"
unfolding digits
nothing-taken-at-once = refl

peeked : heard (call.Peeked (codes "req") item) ≡ codes "heard uvm_test_top peeked req [1,-2,10,0]: 0\n"
unfolding digits
peeked = refl

written : heard (call.Written (codes "bus") item) ≡ codes "heard uvm_test_top written bus [1,-2,10,0]: 0\n"
unfolding digits
written = refl

a-field-without-a-value : heard (call.Config (codes "f") None) ≡ codes "heard uvm_test_top config f none: 0\n"
unfolding digits
a-field-without-a-value = refl

the-next-item : heard (call.NextItem (codes "sqp") (Some sent)) ≡ codes "heard uvm_test_top next_item sqp [1,0,10,0]: 0\n"
unfolding digits
the-next-item = refl

no-next-item : heard (call.NextItem (codes "sqp") None) ≡ codes "heard uvm_test_top next_item sqp none: 0\n"
unfolding digits
no-next-item = refl

before-the-body : heard call.PreStart ≡ codes "heard uvm_test_top pre_start: 0\n"
unfolding digits
before-the-body = refl

behind-the-body : heard call.PostStart ≡ codes "heard uvm_test_top post_start: 0\n"
unfolding digits
behind-the-body = refl

granted : heard call.Grant ≡ codes "heard uvm_test_top grant: 0\n"
unfolding digits
granted = refl

done-with-a-response : heard (call.ItemDone (Some sent)) ≡ codes "heard uvm_test_top item_done [1,0,10,0]: 0\n"
unfolding digits
done-with-a-response = refl

done-without-a-response : heard (call.ItemDone None) ≡ codes "heard uvm_test_top item_done none: 0\n"
unfolding digits
done-without-a-response = refl

held : heard call.Held ≡ codes "heard uvm_test_top held: 0\n"
unfolding digits
held = refl

a-sequence-has-finished : heard (call.Finished (codes "s") 1) ≡ codes "heard uvm_test_top finished s 1: 0\n"
unfolding digits
a-sequence-has-finished = refl
