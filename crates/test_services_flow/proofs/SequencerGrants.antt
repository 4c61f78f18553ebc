-- Whom a sequencer grants, case by case: after each thing that was asked of it, what its calls answer.
use Rattle.std.proofs.Common.{◌≡◌, ℕ, List, [], ◌∷◌, Some, None, refl}
use Rattle.std.specs.Prelude.{Bool, true, false, Option, Ok, Err, Result, length, codes}
use Rattle.uvm_sequencer.specs.declared.drivers.Asked.{Asked}
use Rattle.uvm_sequencer.specs.declared.drivers.Asked.TheVariants.{Nothing, Waits}
use Rattle.uvm_sequencer.specs.declared.drivers.How.{How}
use Rattle.uvm_sequencer.specs.declared.drivers.How.TheVariants.{Next, Try, Get}
use Rattle.uvm_sequencer.specs.declared.faults.SeqFault.{SeqFault}
use Rattle.uvm_sequencer.specs.declared.faults.SeqFault.TheVariants.{NoDriver, Twice, NothingOut, NotGranted, NotHeld, Memory}
use Rattle.uvm_sequencer.specs.declared.modes.Mode.{Mode}
use Rattle.uvm_sequencer.specs.declared.modes.Mode.TheVariants.{Fifo, Weighted, Random, StrictFifo, StrictRandom}
use Rattle.uvm_sequences.specs.declared.starts.SeqStep.TheVariants.{PreStart}
use Rattle.uvm_sequencer.specs.Drivers.{grant_of, is_try, loses_try}
use Rattle.uvm_sequencer.specs.Faults.{fault_text, or_fault}
use Rattle.uvm_sequences.specs.declared.starts.SeqStep.{SeqStep}
use Rattle.uvm_sequences.specs.Sequences.{Start}
use Rattle.uvm_sequencer.specs.Sequencers.{SequencerValue, new_sequencer, with_port, with_item, with_lock, with_grab, locked, unlocked, after_ask, granted, after_send, with_idle, after_leave, after_phase, is_live_at, request_fault, lock_fault, ask_fault, answer, done_by, unlocked_by, candidates_at, lock_at, ready_at, choice_at}

-- a sequence that no sequence started, four of them, and a child of one
abbrev root : Start
root = record { home = 0; parent = None; name = codes "s"; priority = 100 }

abbrev roots : List Start
roots = root ∷ root ∷ root ∷ root ∷ []

abbrev child_of : ℕ → Start
child_of parent = record root { parent = Some parent }

-- a sequencer that the port 9 drives
abbrev fresh : Mode → SequencerValue
fresh mode = with_port 9 (new_sequencer mode)

-- after the driver asked and waits
abbrev asked : How → SequencerValue → SequencerValue
asked how s = after_ask how Waits s

-- what asking is answered, if it is not refused
abbrev answered : How → SequencerValue → Option SeqFault × Asked
answered how s = (ask_fault s 9, answer how (candidates_at roots s))

-- after a sequence sent its item, and after the driver is done with it
abbrev item_sent : ℕ → SequencerValue → SequencerValue
item_sent seq s = after_send seq Next (granted seq s)

abbrev served : ℕ → SequencerValue → SequencerValue
served seq s = with_idle (item_sent seq (asked Next s))

-- what sending is answered
abbrev sending : ℕ → SequencerValue → Result How SeqFault
sending seq s = or_fault (grant_of seq s.driver) NotGranted

-- whether the grant of a `try` lapses where a sequence leaves
abbrev leaving : ℕ → SequencerValue → Bool
leaving seq s = is_try (grant_of seq s.driver)

-- whether a sequence can be granted an item and by a word, and who is, without a word
abbrev chosen : List Start → SequencerValue → Option Bool × Option ℕ
chosen started s = (ready_at started s, choice_at started s None)

-- locks and grabs keep others back

nothing-is-out-at-first : done_by (fresh Fifo) 9 ≡ Err NothingOut
nothing-is-out-at-first = refl

a-sequence-may-request : request_fault (fresh Fifo) 1 ≡ None
a-sequence-may-request = refl

a-second-may-lock-behind-it : lock_fault (with_item 1 100 (fresh Fifo)) 2 ≡ None
a-second-may-lock-behind-it = refl

a-third-may-request-behind-them : request_fault (with_lock 2 (with_item 1 100 (fresh Fifo))) 3 ≡ None
a-third-may-request-behind-them = refl

a-fourth-may-grab-before-them : lock_fault (with_item 3 100 (with_lock 2 (with_item 1 100 (fresh Fifo)))) 4 ≡ None
a-fourth-may-grab-before-them = refl

abbrev all_asked : SequencerValue
all_asked = with_grab 4 (with_item 3 100 (with_lock 2 (with_item 1 100 (fresh Fifo))))

a-grab-leads : lock_at roots all_asked ≡ Some 4
a-grab-leads = refl

a-driver-may-ask-while-a-sequence-holds : answered Next (locked 4 all_asked) ≡ (None, Waits)
a-driver-may-ask-while-a-sequence-holds = refl

abbrev grabbed : SequencerValue
grabbed = asked Next (locked 4 all_asked)

a-holder-keeps-all-others-back : candidates_at roots grabbed ≡ []
a-holder-keeps-all-others-back = refl

nobody-is-ready-while-all-are-kept-back : ready_at roots grabbed ≡ None
nobody-is-ready-while-all-are-kept-back = refl

a-holder-gives-back-its-lock : unlocked_by grabbed 4 ≡ Ok tt
a-holder-gives-back-its-lock = refl

abbrev given_back : SequencerValue
given_back = unlocked 4 grabbed

a-lock-behind-a-request-waits : lock_at roots given_back ≡ None
a-lock-behind-a-request-waits = refl

the-first-request-is-granted-after-a-grab : chosen roots given_back ≡ (Some false, Some 1)
the-first-request-is-granted-after-a-grab = refl

a-lock-leads-once-the-request-before-it-is-granted : lock_at roots (granted 1 given_back) ≡ Some 2
a-lock-leads-once-the-request-before-it-is-granted = refl

abbrev lock_held : SequencerValue
lock_held = locked 2 (granted 1 given_back)

a-granted-sequence-sends-while-another-holds : sending 1 lock_held ≡ Ok Next
a-granted-sequence-sends-while-another-holds = refl

the-driver-is-done-with-its-item : done_by (after_send 1 Next lock_held) 9 ≡ Ok 1
the-driver-is-done-with-its-item = refl

abbrev done_once : SequencerValue
done_once = with_idle (after_send 1 Next lock_held)

the-driver-asks-again : answered Next done_once ≡ (None, Waits)
the-driver-asks-again = refl

abbrev asked_again : SequencerValue
asked_again = asked Next done_once

a-lock-keeps-the-last-request-back : candidates_at roots asked_again ≡ []
a-lock-keeps-the-last-request-back = refl

one-request-waits : length asked_again.queue ≡ 1
one-request-waits = refl

a-holder-leaves-without-a-grant : leaving 2 asked_again ≡ false
a-holder-leaves-without-a-grant = refl

after-the-holder-left-the-last-request-is-granted : chosen roots (after_leave 2 asked_again) ≡ (Some false, Some 3)
after-the-holder-left-the-last-request-is-granted = refl

a-sequence-that-holds-nothing-gives-nothing-back : unlocked_by (granted 3 (after_leave 2 asked_again)) 1 ≡ Err NotHeld
a-sequence-that-holds-nothing-gives-nothing-back = refl

-- the greatest priority goes first, and of those with it the one that asked first

abbrev by_rank : SequencerValue
by_rank = with_item 3 30 (with_item 2 30 (with_item 1 10 (fresh StrictFifo)))

the-first-of-the-greatest-priority-goes-first : chosen roots (asked Next by_rank) ≡ (Some false, Some 2)
the-first-of-the-greatest-priority-goes-first = refl

the-other-of-that-priority-goes-second : chosen roots (asked Next (served 2 by_rank)) ≡ (Some false, Some 3)
the-other-of-that-priority-goes-second = refl

the-least-priority-goes-last : chosen roots (asked Next (served 3 (served 2 by_rank))) ≡ (Some false, Some 1)
the-least-priority-goes-last = refl

the-driver-is-done-with-each : done_by (item_sent 2 (asked Next by_rank)) 9 ≡ Ok 2
the-driver-is-done-with-each = refl

-- weights divide the words

abbrev one_weight : SequencerValue
one_weight = asked Next (with_item 1 10 (fresh Weighted))

one-candidate-wants-no-word : ready_at roots one_weight ≡ Some false
one-candidate-wants-no-word = refl

abbrev three_weights : SequencerValue
three_weights = with_item 3 30 (with_item 2 20 one_weight)

three-candidates-want-a-word : ready_at roots three_weights ≡ Some true
three-candidates-want-a-word = refl

the-last-word-of-the-second : choice_at roots three_weights (Some 29) ≡ Some 2
the-last-word-of-the-second = refl

the-first-word-of-the-third : choice_at roots three_weights (Some 30) ≡ Some 3
the-first-word-of-the-third = refl

words-begin-again-after-the-sum : choice_at roots three_weights (Some 60) ≡ Some 1
words-begin-again-after-the-sum = refl

-- each mode chooses in its own way, of the priorities 1, 5, 3 and 5: by the word 10, number 10 mod 4, number 10 mod 2 of those with 5, and the draw 10 mod 14

abbrev four_ask : Mode → SequencerValue
four_ask mode = with_item 4 5 (with_item 3 3 (with_item 2 5 (with_item 1 1 (fresh mode))))

abbrev by_ten : Mode → Option Bool × Option ℕ
by_ten mode = (ready_at roots (asked Next (four_ask mode)), choice_at roots (asked Next (four_ask mode)) (Some 10))

nobody-is-ready-before-the-driver-asks-in-mode-fifo : ready_at roots (four_ask Fifo) ≡ None
nobody-is-ready-before-the-driver-asks-in-mode-fifo = refl

nobody-is-ready-before-the-driver-asks-in-mode-strict-fifo : ready_at roots (four_ask StrictFifo) ≡ None
nobody-is-ready-before-the-driver-asks-in-mode-strict-fifo = refl

nobody-is-ready-before-the-driver-asks-in-mode-random : ready_at roots (four_ask Random) ≡ None
nobody-is-ready-before-the-driver-asks-in-mode-random = refl

nobody-is-ready-before-the-driver-asks-in-mode-strict-random : ready_at roots (four_ask StrictRandom) ≡ None
nobody-is-ready-before-the-driver-asks-in-mode-strict-random = refl

nobody-is-ready-before-the-driver-asks-in-mode-weighted : ready_at roots (four_ask Weighted) ≡ None
nobody-is-ready-before-the-driver-asks-in-mode-weighted = refl

the-first-by-fifo : chosen roots (asked Next (four_ask Fifo)) ≡ (Some false, Some 1)
the-first-by-fifo = refl

the-first-of-the-greatest-by-strict-fifo : chosen roots (asked Next (four_ask StrictFifo)) ≡ (Some false, Some 2)
the-first-of-the-greatest-by-strict-fifo = refl

the-word-counts-all-by-random : by_ten Random ≡ (Some true, Some 3)
the-word-counts-all-by-random = refl

the-word-counts-the-greatest-by-strict-random : by_ten StrictRandom ≡ (Some true, Some 2)
the-word-counts-the-greatest-by-strict-random = refl

the-word-counts-priorities-by-weight : by_ten Weighted ≡ (Some true, Some 4)
the-word-counts-priorities-by-weight = refl

-- strict random draws among the greatest alone

one-with-the-greatest-priority-wants-no-word : chosen roots (asked Next (with_item 2 30 (with_item 1 10 (fresh StrictRandom)))) ≡ (Some false, Some 2)
one-with-the-greatest-priority-wants-no-word = refl

-- a try is answered at once

a-try-finds-nothing : answered Try (fresh Fifo) ≡ (None, Nothing)
a-try-finds-nothing = refl

a-try-waits-for-a-candidate : answered Try (with_item 1 100 (fresh Fifo)) ≡ (None, Waits)
a-try-waits-for-a-candidate = refl

abbrev tried : SequencerValue
tried = asked Try (with_item 1 100 (fresh Fifo))

a-try-is-granted : chosen roots tried ≡ (Some false, Some 1)
a-try-is-granted = refl

a-try-has-its-answer-where-the-granted-sequence-leaves : leaving 1 (granted 1 tried) ≡ true
a-try-has-its-answer-where-the-granted-sequence-leaves = refl

the-driver-may-try-again-after-its-grant-lapsed : answered Try (after_leave 1 (granted 1 tried)) ≡ (None, Nothing)
the-driver-may-try-again-after-its-grant-lapsed = refl

-- what is got is done when it is sent

abbrev got : SequencerValue
got = asked Get (with_item 2 100 (with_item 1 100 (fresh Fifo)))

a-get-waits : answered Get (with_item 2 100 (with_item 1 100 (fresh Fifo))) ≡ (None, Waits)
a-get-waits = refl

a-get-is-granted-to-the-first : chosen roots got ≡ (Some false, Some 1)
a-get-is-granted-to-the-first = refl

the-first-leaves-and-no-try-lapses : leaving 1 (granted 1 got) ≡ false
the-first-leaves-and-no-try-lapses = refl

abbrev got_again : SequencerValue
got_again = after_leave 1 (granted 1 got)

the-driver-waits-again-and-the-second-is-granted : chosen roots got_again ≡ (Some false, Some 2)
the-driver-waits-again-and-the-second-is-granted = refl

the-second-learns-that-it-was-a-get : sending 2 (granted 2 got_again) ≡ Ok Get
the-second-learns-that-it-was-a-get = refl

abbrev got_sent : SequencerValue
got_sent = after_send 2 Get (granted 2 got_again)

nothing-is-out-after-a-get : done_by got_sent 9 ≡ Err NothingOut
nothing-is-out-after-a-get = refl

the-driver-may-ask-after-a-get : answered Next got_sent ≡ (None, Waits)
the-driver-may-ask-after-a-get = refl

-- an item in hand stays until it is done

abbrev in_hand : SequencerValue
in_hand = item_sent 1 (asked Next (with_item 1 100 (fresh Fifo)))

a-sequence-may-request-again-once-it-sent : request_fault in_hand 1 ≡ None
a-sequence-may-request-again-once-it-sent = refl

a-sequence-leaves-while-its-item-is-in-hand : leaving 1 (with_item 1 100 in_hand) ≡ false
a-sequence-leaves-while-its-item-is-in-hand = refl

abbrev left : SequencerValue
left = after_leave 1 (with_item 1 100 in_hand)

the-request-of-one-that-left-is-gone : length left.queue ≡ 0
the-request-of-one-that-left-is-gone = refl

the-item-of-one-that-left-is-done : done_by left 9 ≡ Ok 1
the-item-of-one-that-left-is-done = refl

the-driver-asks-after-the-item-is-done : answered Next (with_idle left) ≡ (None, Waits)
the-driver-asks-after-the-item-is-done = refl

the-driver-asks-again-once-its-asking-is-ended : answered Next (with_idle (asked Next (with_idle left))) ≡ (None, Waits)
the-driver-asks-again-once-its-asking-is-ended = refl

-- a request that comes while the driver waits is granted and sent at once

abbrev late_request : SequencerValue
late_request = with_item 1 100 (asked Next (fresh Fifo))

a-request-that-comes-late-is-granted : chosen roots late_request ≡ (Some false, Some 1)
a-request-that-comes-late-is-granted = refl

a-late-request-is-sent : sending 1 (granted 1 late_request) ≡ Ok Next
a-late-request-is-sent = refl

a-late-request-is-not-sent-twice : sending 1 (item_sent 1 late_request) ≡ Err NotGranted
a-late-request-is-not-sent-twice = refl

-- wrong calls are refused; the port 0 drives nothing

a-port-that-drives-nothing-may-not-ask : ask_fault (fresh Fifo) 0 ≡ Some NoDriver
a-port-that-drives-nothing-may-not-ask = refl

a-port-that-drives-nothing-is-not-done : done_by (fresh Fifo) 0 ≡ Err NoDriver
a-port-that-drives-nothing-is-not-done = refl

abbrev waits : SequencerValue
waits = asked Next (fresh Fifo)

the-driver-does-not-ask-twice : ask_fault waits 9 ≡ Some Twice
the-driver-does-not-ask-twice = refl

who-was-not-granted-does-not-send : sending 1 waits ≡ Err NotGranted
who-was-not-granted-does-not-send = refl

who-holds-nothing-gives-nothing-back : unlocked_by waits 1 ≡ Err NotHeld
who-holds-nothing-gives-nothing-back = refl

nobody-requests-twice : request_fault (with_item 1 100 waits) 1 ≡ Some Twice
nobody-requests-twice = refl

nobody-requests-between-its-grant-and-its-item : request_fault (granted 1 (with_item 1 100 waits)) 1 ≡ Some Twice
nobody-requests-between-its-grant-and-its-item = refl

a-granted-sequence-may-lock : lock_fault (granted 1 (with_item 1 100 waits)) 1 ≡ None
a-granted-sequence-may-lock = refl

nobody-waits-for-two-locks : lock_fault (with_lock 1 (granted 1 (with_item 1 100 waits))) 1 ≡ Some Twice
nobody-waits-for-two-locks = refl

-- the latest grab leads

abbrev lock_behind : SequencerValue
lock_behind = with_lock 3 (with_item 1 100 (fresh Fifo))

a-lock-that-waits-does-not-lead : lock_at roots lock_behind ≡ None
a-lock-that-waits-does-not-lead = refl

a-lock-that-waits-keeps-nobody-back : length (candidates_at roots lock_behind) ≡ 1
a-lock-that-waits-keeps-nobody-back = refl

a-grab-may-come-before-a-lock-that-waits : lock_fault lock_behind 1 ≡ None
a-grab-may-come-before-a-lock-that-waits = refl

a-second-grab-may-come-before-it : lock_fault (with_grab 1 lock_behind) 2 ≡ None
a-second-grab-may-come-before-it = refl

abbrev two_grabs : SequencerValue
two_grabs = with_grab 2 (with_grab 1 lock_behind)

the-latest-of-two-grabs-leads : lock_at roots two_grabs ≡ Some 2
the-latest-of-two-grabs-leads = refl

three-others-wait : length (locked 2 two_grabs).queue ≡ 3
three-others-wait = refl

the-latest-gives-back : unlocked_by (locked 2 two_grabs) 2 ≡ Ok tt
the-latest-gives-back = refl

abbrev one_grab : SequencerValue
one_grab = unlocked 2 (locked 2 two_grabs)

the-earlier-grab-leads-after-the-latest : lock_at roots one_grab ≡ Some 1
the-earlier-grab-leads-after-the-latest = refl

two-others-wait : length (locked 1 one_grab).queue ≡ 2
two-others-wait = refl

the-earlier-gives-back : unlocked_by (locked 1 one_grab) 1 ≡ Ok tt
the-earlier-gives-back = refl

-- a child of the holder is not blocked: a stranger 1, the holder 2 and its child 3

abbrev family : List Start
family = child_of 2 ∷ root ∷ root ∷ []

abbrev stranger_waits : SequencerValue
stranger_waits = with_grab 2 (with_item 1 100 (fresh Fifo))

the-grab-leads-before-the-stranger : lock_at family stranger_waits ≡ Some 2
the-grab-leads-before-the-stranger = refl

a-child-may-request-while-its-parent-holds : request_fault (locked 2 stranger_waits) 3 ≡ None
a-child-may-request-while-its-parent-holds = refl

abbrev child_asks : SequencerValue
child_asks = with_item 3 100 (locked 2 stranger_waits)

the-child-is-granted-before-the-stranger : chosen family (asked Next child_asks) ≡ (Some false, Some 3)
the-child-is-granted-before-the-stranger = refl

the-driver-is-done-with-the-item-of-the-child : done_by (item_sent 3 (asked Next child_asks)) 9 ≡ Ok 3
the-driver-is-done-with-the-item-of-the-child = refl

the-child-may-lock-what-its-parent-holds : lock_fault (served 3 child_asks) 3 ≡ None
the-child-may-lock-what-its-parent-holds = refl

abbrev child_locks : SequencerValue
child_locks = with_lock 3 (served 3 child_asks)

the-lock-of-the-child-leads-before-the-blocked-request : lock_at family child_locks ≡ Some 3
the-lock-of-the-child-leads-before-the-blocked-request = refl

the-child-keeps-its-parent-back : candidates_at family (with_item 2 100 (locked 3 child_locks)) ≡ []
the-child-keeps-its-parent-back = refl

-- what a dead holder held is gone: the holder 1, its child 2 and a stranger 3

abbrev kin : List Start
kin = root ∷ child_of 1 ∷ root ∷ []

a-lock-is-granted : lock_at kin (with_lock 1 (fresh Fifo)) ≡ Some 1
a-lock-is-granted = refl

abbrev holds_one : SequencerValue
holds_one = locked 1 (with_lock 1 (fresh Fifo))

a-holder-may-lock-again : lock_fault holds_one 1 ≡ None
a-holder-may-lock-again = refl

a-holder-is-granted-a-second-lock : lock_at kin (with_lock 1 holds_one) ≡ Some 1
a-holder-is-granted-a-second-lock = refl

abbrev holds_two : SequencerValue
holds_two = locked 1 (with_lock 1 holds_one)

a-holder-gives-back-one-of-two-locks : unlocked_by holds_two 1 ≡ Ok tt
a-holder-gives-back-one-of-two-locks = refl

abbrev one_left : SequencerValue
one_left = with_item 2 100 (with_item 3 100 (unlocked 1 holds_two))

one-of-its-two-locks-is-left : length (candidates_at kin one_left) ≡ 1
one-of-its-two-locks-is-left = refl

the-dead-holder-leaves-without-a-grant : leaving 1 one_left ≡ false
the-dead-holder-leaves-without-a-grant = refl

the-stranger-is-granted-after-the-holder-left : chosen kin (asked Next (after_leave 1 one_left)) ≡ (Some false, Some 3)
the-stranger-is-granted-after-the-holder-left = refl

the-dead-holder-holds-nothing : unlocked_by (served 3 (after_leave 1 one_left)) 1 ≡ Err NotHeld
the-dead-holder-holds-nothing = refl

-- with a phase ends what the dead asked for and hold: 1 has died, and 2 lives

who-holds-the-sequencer-may-request : request_fault (locked 1 (with_lock 1 (fresh Fifo))) 1 ≡ None
who-holds-the-sequencer-may-request = refl

abbrev before_end : SequencerValue
before_end = asked Next (with_item 2 100 (with_item 1 100 (locked 1 (with_lock 1 (fresh Fifo)))))

the-dead-was-granted : chosen roots before_end ≡ (Some false, Some 1)
the-dead-was-granted = refl

-- of the two sequences the newest lives, 2, which stands first
abbrev steps_left : List (Option SeqStep)
steps_left = Some PreStart ∷ None ∷ []

abbrev phase_over : SequencerValue
phase_over = after_phase steps_left true (granted 1 before_end)

one-request-is-left-after-the-phase : length phase_over.queue ≡ 1
one-request-is-left-after-the-phase = refl

the-driver-is-idle-after-the-phase : answered Next phase_over ≡ (None, Waits)
the-driver-is-idle-after-the-phase = refl

nobody-holds-the-sequencer-after-the-phase : chosen roots (asked Next phase_over) ≡ (Some false, Some 2)
nobody-holds-the-sequencer-after-the-phase = refl

-- where the driver's ask is of another phase it goes on: a grant of the dead lapses, and an item in hand stays there

abbrev asks_on : SequencerValue
asks_on = after_phase steps_left false (granted 1 before_end)

the-dead-is-granted-no-longer : sending 1 asks_on ≡ Err NotGranted
the-dead-is-granted-no-longer = refl

the-driver-waits-on-after-the-phase-of-another : chosen roots asks_on ≡ (Some false, Some 2)
the-driver-waits-on-after-the-phase-of-another = refl

no-try-lapses-with-a-next : loses_try false (is_live_at steps_left) (granted 1 before_end).driver ≡ false
no-try-lapses-with-a-next = refl

a-try-lapses-with-the-dead : loses_try false (is_live_at steps_left) (granted 1 (asked Try (with_item 1 100 (fresh Fifo)))).driver ≡ true
a-try-lapses-with-the-dead = refl

a-try-of-the-ended-phase-is-told-nothing : loses_try true (is_live_at steps_left) (granted 1 (asked Try (with_item 1 100 (fresh Fifo)))).driver ≡ false
a-try-of-the-ended-phase-is-told-nothing = refl

the-grant-of-the-living-stays : sending 2 (after_phase steps_left false (granted 2 (asked Next (with_item 2 100 (fresh Fifo))))) ≡ Ok Next
the-grant-of-the-living-stays = refl

the-item-of-the-dead-stays-in-hand : done_by (after_phase steps_left false (item_sent 1 before_end)) 9 ≡ Ok 1
the-item-of-the-dead-stays-in-hand = refl

-- what is told of each fault

told-no-driver : fault_text NoDriver ≡ codes "no driver"
told-no-driver = refl

told-asked-twice : fault_text Twice ≡ codes "asked twice"
told-asked-twice = refl

told-nothing-out : fault_text NothingOut ≡ codes "nothing out"
told-nothing-out = refl

told-not-granted : fault_text NotGranted ≡ codes "not granted"
told-not-granted = refl

told-not-held : fault_text NotHeld ≡ codes "not held"
told-not-held = refl

told-out-of-memory : fault_text Memory ≡ codes "out of memory"
told-out-of-memory = refl
