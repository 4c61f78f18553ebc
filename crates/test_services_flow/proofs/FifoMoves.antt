-- What passes at a FIFO, step by step: after each thing that is asked, which move comes next and what can be done at once.
use Rattle.std.proofs.Common.{◌≡◌, ℕ, [], ◌∷◌, Some, None, refl}
use Rattle.std.specs.Prelude.{pos, true, false, Option, length, slice_get}
use Rattle.uvm_tlm.specs.declared.items.Item.{Item}
use Rattle.uvm_tlm.specs.declared.fifos.Move.{Move}
use Rattle.uvm_tlm.specs.declared.fifos.MoveKind.{MoveKind}
use Rattle.uvm_tlm.specs.declared.fifos.MoveKind.TheVariants.{Put, Take, Peek}
use Rattle.uvm_tlm.specs.declared.fifos.Owner.{Owner}
use Rattle.uvm_tlm.specs.Fifos.{FifoValue, new_fifo, with_item, with_put, with_take, with_peek, without_item, next_move, after_move, can_put, can_take, cleared, waiting_count}

abbrev item : ℕ → Item
item n = record { 0 = pos n ∷ pos 0 ∷ pos 0 ∷ pos 0 ∷ [] }

-- a port that asked in the phase run, and one that asked in the phase of a number
abbrev port : ℕ → Owner
port n = record { node = n; phase = 4 }

abbrev asked_in : ℕ → Owner
asked_in phase = record { node = 1; phase = phase }

abbrev move : MoveKind → ℕ → ℕ → Option (Move Owner)
move kind n i = Some (record { kind = kind; owner = port n; item = item i })

-- after the move that comes next
abbrev settled : FifoValue Owner → FifoValue Owner
unfolding next_move
settled f = after_move (next_move f) f

-- takes go before puts, and each in its order

abbrev one_put : FifoValue Owner
one_put = with_put (port 1) (item 7) (new_fifo 1)

a-put-goes-in-where-there-is-room : next_move one_put ≡ move Put 1 7
unfolding next_move settled
a-put-goes-in-where-there-is-room = refl

abbrev full : FifoValue Owner
full = with_put (port 2) (item 8) (settled one_put)

a-put-waits-where-it-is-full : next_move full ≡ None
unfolding next_move settled
a-put-waits-where-it-is-full = refl

abbrev two_wait : FifoValue Owner
two_wait = with_put (port 3) (item 9) full

a-second-put-waits : next_move two_wait ≡ None
unfolding next_move settled
a-second-put-waits = refl

two-puts-wait : waiting_count two_wait ≡ 2
unfolding next_move settled
two-puts-wait = refl

abbrev take_asked : FifoValue Owner
take_asked = with_take (port 4) two_wait

a-take-goes-before-the-puts : next_move take_asked ≡ move Take 4 7
unfolding next_move settled
a-take-goes-before-the-puts = refl

the-first-put-goes-in-after-the-take : next_move (settled take_asked) ≡ move Put 2 8
unfolding next_move settled
the-first-put-goes-in-after-the-take = refl

abbrev taken_again : FifoValue Owner
taken_again = with_take (port 4) (settled (settled take_asked))

the-next-take-gets-what-was-put-next : next_move taken_again ≡ move Take 4 8
unfolding next_move settled
the-next-take-gets-what-was-put-next = refl

the-second-put-goes-in-after-the-next-take : next_move (settled taken_again) ≡ move Put 3 9
unfolding next_move settled
the-second-put-goes-in-after-the-next-take = refl

abbrev last_one : FifoValue Owner
last_one = settled (settled taken_again)

nobody-waits-after-the-puts-and-takes : next_move last_one ≡ None
unfolding next_move settled
nobody-waits-after-the-puts-and-takes = refl

one-item-is-left : last_one.items ≡ item 9 ∷ []
unfolding next_move settled
one-item-is-left = refl

no-item-is-put-at-once-where-it-is-full : can_put last_one ≡ false
unfolding can_put next_move settled
no-item-is-put-at-once-where-it-is-full = refl

an-item-is-taken-at-once-where-nobody-waits : can_take last_one ≡ true
unfolding can_take next_move settled
an-item-is-taken-at-once-where-nobody-waits = refl

the-item-that-is-left-is-the-last-that-was-put : slice_get last_one.items 0 ≡ Some (item 9)
unfolding next_move settled
the-item-that-is-left-is-the-last-that-was-put = refl

none-is-taken-at-once-where-there-is-none : can_take (without_item last_one) ≡ false
unfolding can_take next_move settled
none-is-taken-at-once-where-there-is-none = refl

-- a take and two peeks wait, and then two items come

abbrev three_asked : FifoValue Owner
three_asked = with_peek (port 3) (with_take (port 2) (with_peek (port 1) (new_fifo 2)))

an-item-can-be-put-while-takes-wait : can_put three_asked ≡ true
unfolding can_put
an-item-can-be-put-while-takes-wait = refl

abbrev one_came : FifoValue Owner
one_came = with_item (item 1) three_asked

a-second-item-can-be-put-while-takes-wait : can_put one_came ≡ true
unfolding can_put
a-second-item-can-be-put-while-takes-wait = refl

abbrev two_came : FifoValue Owner
two_came = with_item (item 2) one_came

a-peek-is-shown-the-first-item : next_move two_came ≡ move Peek 1 1
unfolding next_move settled
a-peek-is-shown-the-first-item = refl

a-take-behind-it-gets-that-item : next_move (settled two_came) ≡ move Take 2 1
unfolding next_move settled
a-take-behind-it-gets-that-item = refl

a-peek-behind-the-take-is-shown-the-second : next_move (settled (settled two_came)) ≡ move Peek 3 2
unfolding next_move settled
a-peek-behind-the-take-is-shown-the-second = refl

a-peek-leaves-the-item : length (settled (settled (settled two_came))).items ≡ 1
unfolding next_move settled
a-peek-leaves-the-item = refl

-- a try goes before none that waits

abbrev put_waits : FifoValue Owner
put_waits = with_put (port 1) (item 1) (new_fifo 3)

none-is-put-at-once-before-a-put-that-waits : can_put put_waits ≡ false
unfolding can_put
none-is-put-at-once-before-a-put-that-waits = refl

the-put-that-waits-goes-in : next_move put_waits ≡ move Put 1 1
unfolding next_move settled
the-put-that-waits-goes-in = refl

an-item-is-put-at-once-after-the-put-that-waited : can_put (settled put_waits) ≡ true
unfolding can_put next_move settled
an-item-is-put-at-once-after-the-put-that-waited = refl

abbrev peek_waits : FifoValue Owner
peek_waits = with_peek (port 1) (with_item (item 2) (settled put_waits))

none-is-taken-at-once-before-a-peek-that-waits : can_take peek_waits ≡ false
unfolding can_take next_move settled
none-is-taken-at-once-before-a-peek-that-waits = refl

the-peek-that-waits-is-shown-the-first : next_move peek_waits ≡ move Peek 1 1
unfolding next_move settled
the-peek-that-waits-is-shown-the-first = refl

an-item-is-taken-at-once-after-the-peek-that-waited : can_take (settled peek_waits) ≡ true
unfolding can_take next_move settled
an-item-is-taken-at-once-after-the-peek-that-waited = refl

the-first-item-is-taken-after-the-peek : slice_get (settled peek_waits).items 0 ≡ Some (item 1)
unfolding next_move settled
the-first-item-is-taken-after-the-peek = refl

-- what waits ends with its phase, and the items stay

abbrev ask_all : ℕ → FifoValue Owner → FifoValue Owner
ask_all = λ phase f. with_put (asked_in phase) (item phase) (with_take (asked_in phase) (with_peek (asked_in phase) f))

abbrev phase_over : FifoValue Owner
phase_over = cleared (λ (owner : Owner). owner.phase) 4 (ask_all 5 (ask_all 4 (with_item (item 1) (new_fifo 1))))

waits-of-another-phase-stay : waiting_count phase_over ≡ 3
waits-of-another-phase-stay = refl

abbrev later : MoveKind → ℕ → Option (Move Owner)
later = λ kind i. Some (record { kind = kind; owner = asked_in 5; item = item i })

the-peek-that-stayed-is-shown-the-item-that-stayed : next_move phase_over ≡ later Peek 1
unfolding next_move settled
the-peek-that-stayed-is-shown-the-item-that-stayed = refl

the-take-that-stayed-gets-it : next_move (settled phase_over) ≡ later Take 1
unfolding next_move settled
the-take-that-stayed-gets-it = refl

the-put-that-stayed-goes-in : next_move (settled (settled phase_over)) ≡ later Put 5
unfolding next_move settled
the-put-that-stayed-goes-in = refl

no-wait-is-left-after-the-moves : waiting_count (settled (settled (settled phase_over))) ≡ 0
unfolding next_move settled
no-wait-is-left-after-the-moves = refl
