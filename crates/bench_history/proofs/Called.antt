-- Who is called: a component, which is a node of the tree, or a sequence that lives.
use Rattle.bench_history.proofs.Common.{◌≡◌, ℕ, ◌<◌, ◌≤◌, ◌==◌, ◌⊎◌, inl, inr, true, false, List, [], ◌∷◌, length, Option, Some, None, option_and_then, IfSome, refl, ap, ◌∙◌, sym, subst, arith, option_map, and_parts, path_order, numbered, SequencerValue, candidates_at, choice_at, lock_at, hand_of, loses_try, lock_request, choice, Mode, Phase, DriverPort, all_requests, driver_requester, driver_move, driver_state, sequence_on, wish_in, locking_at, mode_at, next_locked, request_queue, sequencer_with, still_waits, ends_ask, nat_tests, All-nil, All-cons, All-head, All-append, All-weaker, All-contains, OrderKeepsAll, node_of, exchanged_in, Who, Sequence, Call, NotOpen, Act, EndStep, Outcome, Finished, Refused, Passage, Entry, Begin, End, Heard, Did, Passed, Drained, Note, Over, Granted, Locked, Ended, StartRecord, starts_of, sequences_of, is_live, lives, phase_begun, Origin, ScriptValue, EventTarget, stage_of, now_of, nodes_of, components_of, remaining_acts, rest_of, performer_of, test_creation, act_phase, ended_of, phase_heard, puts_asked, takes_asked, put_in, take_in, call_to_performer, call_of_passage, calls_caused, calls_numbered, due_after, due_from, calls_from, moves_drains, caused_at, scheduled_events, lapsed_with, lapsed_at, Exactly, Answer, Nothing, chosen_at, next_of, IsAct, IsNext, EachIsNext, IsComponent, IsLiving, IsLivingSequence, IsThere, AskedAreThere, WaitersAreComponents, PerformersAreThere, NewNodesAreUnasked, NewSequencesAreUnasked, ActsAreInPhase, HasNotEnded, IsInPhase, IsActEntry, Request, LockExcludes, All}
use Rattle.std.proofs.Common.{flat_map}
use Rattle.bench_history.proofs.Served.{IsBy, move-kept, wish-all, asked-by, awaits, hand-sequence, queue-all, end-kept, lapse-told}
use Rattle.uvm_acts.specs.declared.acts.Who.TheVariants.{Node}
use Rattle.uvm_acts.specs.declared.acts.Call.TheVariants as call
use Rattle.uvm_object.specs.declared.entries.Grant as entries
use Rattle.uvm_tlm.specs.declared.ends.PortKind.TheVariants as through
use Rattle.bench_history.proofs.Ended.{nothing-comes, none-after}
use Rattle.bench_history.proofs.Inversion.{comes}
use Rattle.bench_history.proofs.ActEntries.{closed-refused, finished-next}
use Rattle.bench_history.proofs.Asking.{asked-more, passing-holds, puts-wait, takes-wait, given-holds}
use Rattle.bench_history.proofs.Performed.{passages_go_in_order}
use Rattle.bench_history.proofs.Living.{Stands, Runs, numbered-within, begun-count, begin-left, end-left, sequence-more, stands-more}
use Rattle.bench_history.proofs.Phased.{phases_in_progress_are_open}
use Rattle.bench_history.proofs.Grown.{nodes-more}
use Rattle.bench_history.proofs.Expected.{GoesOn, IsGoing, going-did, IsStartedBy, expected-stands, IsCallTo, IsDriver, IsExpected, IsOneIn, IsRequester, acting-more, one-more, more-one, more-driver, requester-more, requester-expected, component-expected, IsPerformer, ParticipantsExist, NoneLeft, Opens, Speaking, Speaks, driver_requester-more, asks-one, begun-starters, closed-asks, closed-puts, closed-takes, component-more, component-or, components_are_nodes, act_entry-owner, due-owner, expected-unless, granted-served, heard-one, imps-more, moved-call, numbered-owners, test_creation-asks, test_creation-puts, test_creation-takes, test_creation-tells, test_creation-wishes, owners-more, performer-stays, performer-there, speaking-did, speaking-on, starters-more, told-owners, unless-test_creation, wanting-more, wishes-by, with-drains-call, IsTold, IsHearer, requester-hears}

-- a driver whose grant lapses with a phase is told that there is no item
each-flat : {A B : Type 0} (P : B → Type 0) (f : A → List B) (xs : List A) → ((x : A) → All P (f x)) → All P (flat_map f xs)
each-flat P f [] each = All-nil P
each-flat P f (x ∷ xs) each = All-append P (f x) (flat_map f xs) (each x) (each-flat P f xs each)

pub lapsed-owners : (script : ScriptValue) (before : List Entry) (phase : Phase) → IsNext script before (End phase) → GoesOn (End phase ∷ before) → ParticipantsExist script before → All (IsTold (End phase ∷ before)) (lapsed_with phase before)
lapsed-owners script before phase next on known = each-flat (IsTold (End phase ∷ before)) (lapsed_at phase before) (path_order (nodes_of before)) told
  where
    told : (node : ℕ) → All (IsTold (End phase ∷ before)) (lapsed_at phase before node)
    told node =
        lapse-told (IsTold (End phase ∷ before)) (IsHearer (End phase ∷ before)) (λ phase who call hears. hears) (loses_try (ends_ask phase (driver_requester before node)) (is_live (End phase ∷ before)) (driver_state before node)) (driver_requester before node)
        (requester-hears (End phase ∷ before) (driver_requester before node) (driver_requester-more script before (End phase) (driver_requester before node) next on (known.requesters node)))

module _ (keeps : OrderKeepsAll EventTarget (Option Call)) (excludes : LockExcludes) where
  speaking-more : (script : ScriptValue) (before : List Entry) (entry : Entry) → ParticipantsExist script before → IsNext script before entry → GoesOn (entry ∷ before) → Speaking script (entry ∷ before)
  speaking-more script before (Heard performer origin call acts) known next on = Speaks (performer-stays script before (Heard performer origin call acts) (phase_heard call origin) performer next on refl refl (heard-one keeps script before performer call origin acts known next).0)
  speaking-more script before (Did performer outcome act) known next on = speaking-did script before performer outcome act next on known.performer
  speaking-more script before (Begin phase) known next on = NoneLeft (begin-left script before phase next)
  speaking-more script before (End phase) known next on = NoneLeft (end-left script before phase next)
  speaking-more script before (Note fatal node) known next on = NoneLeft refl
  speaking-more script before (Over reason) known next on = absurd (on refl)
  speaking-more script before entry known next on = speaking-on script before entry next on refl refl refl refl refl known.performer

  -- an act keeps what is known
  known-did : (script : ScriptValue) (before : List Entry) (performer : Who) (outcome : Outcome) (act : Act) → ParticipantsExist script before → IsNext script before (Did performer outcome act) → GoesOn (Did performer outcome act ∷ before) → ParticipantsExist script (Did performer outcome act ∷ before)
  known-did script before performer outcome act known next on =
      let entry = Did performer outcome act in
      let act_entry = comes script before (Did performer outcome act) next in
      let components = components_of (entry ∷ before) in
      let phase = act_phase before in
      let who = act_entry-owner script before performer outcome act act_entry known.performer in
      let closed = closed-refused script before performer outcome act act_entry in
      record {
        owners =
            All-append (IsCallTo (entry ∷ before)) (calls_numbered (now_of before) (length before) 0 (calls_caused before performer outcome act)) _
            (numbered-owners (entry ∷ before) (now_of before) (length before) 0 (calls_caused before performer outcome act) (told-owners script before performer outcome act known next on who))
            (All-append (IsCallTo (entry ∷ before)) (calls_from outcome act performer phase (now_of before) (length before)) _
            (due-owner (entry ∷ before) (call_to_performer outcome act) performer phase (due_after (now_of before) act) (caused_at (length before)) (expected-unless script before performer outcome act next on known.acting (unless-test_creation (λ act. call_to_performer outcome act ≡ None) script act (test_creation-tells script outcome) who)))
            (moved-call script (entry ∷ before) (moves_drains outcome act) phase entry before (scheduled_events script before) (owners-more script before entry next on known)));
        acting = acting-more script before entry (act_phase before) next on known.acting;
        going = going-did script before performer outcome act known.going;
        starters = begun-starters script before performer outcome act known next on who;
        performer = speaking-did script before performer outcome act next on known.performer;
        putters = λ fifo. asked-more (IsOneIn (entry ∷ before)) before fifo performer through.Put (put_in outcome act) (puts_asked before fifo)
            (one-more script before entry (puts_asked before fifo) next on (known.putters fifo))
            (more-one script before entry performer next on known.acting (component-or (put_in outcome act ≡ None) before performer (λ id home same. closed-puts outcome act id home (rw same at closed)) (unless-test_creation (λ act. put_in outcome act ≡ None) script act (test_creation-puts script outcome) who)));
        takers = λ fifo. asked-more (IsOneIn (entry ∷ before)) before fifo performer through.Get (take_in outcome act) (takes_asked before fifo)
            (one-more script before entry (takes_asked before fifo) next on (known.takers fifo))
            (more-one script before entry performer next on known.acting (component-or (take_in outcome act ≡ None) before performer (λ id home same. closed-takes outcome act id home (rw same at closed)) (unless-test_creation (λ act. take_in outcome act ≡ None) script act (test_creation-takes script outcome) who)));
        imps = imps-more script before performer outcome act known.imps who (λ id home same. closed);
        wanting = λ node. wish-all (IsRequester (entry ∷ before) node) (sequences_of before) (length before) (wish_in outcome act) (sequence_on node performer) (all_requests before node)
            (wanting-more script before entry node (all_requests before node) next on (known.wanting node)) (wishes-by script before performer outcome act node next on (unless-test_creation (λ act. wish_in outcome act ≡ None) script act (test_creation-wishes script outcome) who));
        served = λ node id e. requester-more script before entry node id next on (known.served node id (move-kept before node performer (driver_move outcome act) (driver_state before node) id e));
        requesters = λ node. asked-by (IsDriver (entry ∷ before)) before node performer (driver_move outcome act) (driver_requester before node) (driver_requester-more script before entry (driver_requester before node) next on (known.requesters node))
            (more-driver script before entry performer next on known.acting (component-or (awaits (driver_move outcome act) ≡ false) before performer (λ id home same. closed-asks outcome act id home (rw same at closed)) (unless-test_creation (λ act. awaits (driver_move outcome act) ≡ false) script act (test_creation-asks script outcome) who)));
      }

  -- what passes is a component's
  known-passed : (script : ScriptValue) (before : List Entry) (fifo : ℕ) (passage : Passage) → ParticipantsExist script before → IsNext script before (Passed fifo passage) → GoesOn (Passed fifo passage ∷ before) → ParticipantsExist script (Passed fifo passage ∷ before)
  known-passed script before fifo passage known next on =
      let entry = Passed fifo passage in
      let passes = comes script before (Passed fifo passage) next in
      let has : IsOneIn before passage.who passage.phase = subst (λ (passed : Option (ℕ × Passage)). IfSome passed (λ passed. IsOneIn before passed.1.who passed.1.phase)) passes (passing-holds (IsOneIn before) before (λ at. puts-wait (IsOneIn before) before at (known.putters at)) (λ at. takes-wait (IsOneIn before) before at (known.takers at))) in
      record {
        owners = All-append (IsCallTo (entry ∷ before)) (due_from (Some (call_of_passage passage.kind passage)) passage.who (Some passage.phase) (now_of before) (caused_at (length before))) (scheduled_events script before)
            (due-owner (entry ∷ before) (Some (call_of_passage passage.kind passage)) passage.who (Some passage.phase) (now_of before) (caused_at (length before)) (inr (λ p is. let at : passage.phase ≡ p = cc in subst (λ (one : Phase). IsExpected (entry ∷ before) one passage.who) at (component-expected (entry ∷ before) passage.phase passage.who (component-more entry before passage.who has.0) (stands-more script before entry passage.phase next on has.1)))))
            (owners-more script before entry next on known);
        acting = acting-more script before entry (act_phase before) next on known.acting;
        going = known.going;
        starters = starters-more script before entry next on known;
        performer = speaking-on script before entry next on refl refl refl refl refl known.performer;
        putters = λ fifo. one-more script before entry (puts_asked before fifo) next on (known.putters fifo);
        takers = λ fifo. one-more script before entry (takes_asked before fifo) next on (known.takers fifo);
        imps = known.imps;
        wanting = λ node. wanting-more script before entry node (all_requests before node) next on (known.wanting node);
        served = λ node id e. requester-more script before entry node id next on (known.served node id e);
        requesters = λ node. driver_requester-more script before entry (driver_requester before node) next on (known.requesters node);
      }

  -- a lock that is granted, and an item, are told to a sequence of the phase that runs
  queue-served : (script : ScriptValue) (history : List Entry) (node : ℕ) → ParticipantsExist script history → All (λ request. IsRequester history node request.seq) (request_queue history node)
  queue-served script history node known =
      queue-all history node (IsRequester history node) (all_requests history node)
      (All-weaker (IsBy (IsRequester history node)) (λ w. still_waits history node w ≡ true → IsRequester history node w.request.seq) (λ w r waits. r) (all_requests history node) (known.wanting node))

  -- what holds of all that waits holds of who is granted a lock
  pub locking-holds : (P : ℕ → ℕ → Type 0) (history : List Entry) → ((node : ℕ) → All (λ request. P node request.seq) (request_queue history node)) → IfSome (next_locked history) (λ led. P led.0 led.1)
  unfolding next_locked
  locking-holds P history all = given-holds (locking_at history) (λ (led : ℕ × ℕ). P led.0 led.1) (path_order (nodes_of history)) (λ node. by node (mode_at history node))
    where
      found : (node : ℕ) (s : SequencerValue) (led : Option ℕ) → lock_at (sequences_of history) s ≡ led → All (λ request. P node request.seq) s.queue → IfSome {T = ℕ × ℕ} (option_map (λ (id : ℕ). (node, id)) led) (λ led. P led.0 led.1)
      found node s None is all = tt
      found node s (Some id) is all = All-contains (λ request. P node request.seq) s.queue (lock_request id) all (excludes.locks (sequences_of history) s id is).waits

      by : (node : ℕ) (mode : Option Mode) → IfSome {T = ℕ × ℕ} (option_map (λ (id : ℕ). (node, id)) (option_and_then (lock_at (sequences_of history)) (option_map (sequencer_with history node) mode))) (λ led. P led.0 led.1)
      by node None = tt
      by node (Some mode) = found node (sequencer_with history node mode) (lock_at (sequences_of history) (sequencer_with history node mode)) refl (all node)

  -- and of who is granted an item
  pub chosen-holds : (P : ℕ → Type 0) (history : List Entry) (node id : ℕ) (word : Option ℕ) → All (λ request. P request.seq) (request_queue history node) → chosen_at history node word ≡ Some id → P id
  chosen-holds P history node id word all e = by (mode_at history node) e
    where
      picked : (s : SequencerValue) (one : Option Request) → choice s.mode (candidates_at (sequences_of history) s) word ≡ one → All (λ request. P request.seq) s.queue → option_map (λ request. request.seq) one ≡ Some id → P id
      picked s None is all e = cc
      picked s (Some request) is all e =
          let same : request.seq ≡ id = cc in
          subst P same (All-contains (λ request. P request.seq) s.queue request all (excludes.items (sequences_of history) s word request is).1.waits)

      by : (mode : Option Mode) → option_and_then (λ s. choice_at (sequences_of history) s word) (option_map (sequencer_with history node) mode) ≡ Some id → P id
      by None e = cc
      by (Some mode) e = picked (sequencer_with history node mode) (choice (sequencer_with history node mode).mode (candidates_at (sequences_of history) (sequencer_with history node mode)) word) refl all e

  known-locked : (script : ScriptValue) (before : List Entry) (node id : ℕ) → ParticipantsExist script before → IsNext script before (Locked node id) → GoesOn (Locked node id ∷ before) → ParticipantsExist script (Locked node id ∷ before)
  known-locked script before node id known next on =
      let entry = Locked node id in
      let s : IsRequester before node id = subst (λ (led : Option (ℕ × ℕ)). IfSome led (λ led. IsRequester before led.0 led.1)) (comes script before (Locked node id) next) (locking-holds (IsRequester before) before (λ at. queue-served script before at known)) in
      record {
        owners = All-append (IsCallTo (entry ∷ before)) (due_from (Some call.Held) (Sequence node id) (phase_begun before id) (now_of before) (caused_at (length before))) (scheduled_events script before)
            (due-owner (entry ∷ before) (Some call.Held) (Sequence node id) (phase_begun before id) (now_of before) (caused_at (length before)) (inr (λ p runs. sequence-more script before entry p id node next on (requester-expected before node id p runs s))))
            (owners-more script before entry next on known);
        acting = acting-more script before entry (act_phase before) next on known.acting;
        going = known.going;
        starters = starters-more script before entry next on known;
        performer = speaking-on script before entry next on refl refl refl refl refl known.performer;
        putters = λ fifo. one-more script before entry (puts_asked before fifo) next on (known.putters fifo);
        takers = λ fifo. one-more script before entry (takes_asked before fifo) next on (known.takers fifo);
        imps = known.imps;
        wanting = λ at. wanting-more script before entry at (all_requests before at) next on (known.wanting at);
        served = λ at other e. requester-more script before entry at other next on (known.served at other e);
        requesters = λ at. driver_requester-more script before entry (driver_requester before at) next on (known.requesters at);
      }

  known-granted : (script : ScriptValue) (before : List Entry) (node : ℕ) (grant : entries.Grant) → ParticipantsExist script before → IsNext script before (Granted node grant) → GoesOn (Granted node grant ∷ before) → ParticipantsExist script (Granted node grant ∷ before)
  known-granted script before node grant known next on =
      let entry = Granted node grant in
      let id = grant.id in
      let s = chosen-holds (IsRequester before node) before node id grant.word (queue-served script before node known) (comes script before (Granted node grant) next).chosen in
      record {
        owners = All-append (IsCallTo (entry ∷ before)) (due_from (Some call.Grant) (Sequence node id) (phase_begun before id) (now_of before) (caused_at (length before))) (scheduled_events script before)
            (due-owner (entry ∷ before) (Some call.Grant) (Sequence node id) (phase_begun before id) (now_of before) (caused_at (length before)) (inr (λ p runs. sequence-more script before entry p id node next on (requester-expected before node id p runs s))))
            (owners-more script before entry next on known);
        acting = acting-more script before entry (act_phase before) next on known.acting;
        going = known.going;
        starters = starters-more script before entry next on known;
        performer = speaking-on script before entry next on refl refl refl refl refl known.performer;
        putters = λ fifo. one-more script before entry (puts_asked before fifo) next on (known.putters fifo);
        takers = λ fifo. one-more script before entry (takes_asked before fifo) next on (known.takers fifo);
        imps = known.imps;
        wanting = λ at. wanting-more script before entry at (all_requests before at) next on (known.wanting at);
        served = λ at other e. requester-more script before entry at other next on (granted-served before node at id other s (known.served at other) e);
        requesters = λ at. driver_requester-more script before entry (driver_requester before at) next on (known.requesters at);
      }

  -- so does each entry that is next
  known-more : (script : ScriptValue) (before : List Entry) (entry : Entry) → ParticipantsExist script before → IsNext script before entry → GoesOn (entry ∷ before) → ParticipantsExist script (entry ∷ before)
  known-more script before (Did performer outcome act) known next on = known-did script before performer outcome act known next on
  known-more script before (Passed fifo passage) known next on = known-passed script before fifo passage known next on
  known-more script before (Drained node origin) known next on = record {
    owners = with-drains-call script (Drained node origin ∷ before) (Some origin.phase) (Drained node origin) before (scheduled_events script before) (owners-more script before (Drained node origin) next on known);
    acting = acting-more script before (Drained node origin) (act_phase before) next on known.acting;
    going = known.going;
    starters = starters-more script before (Drained node origin) next on known;
    performer = speaking-on script before (Drained node origin) next on refl refl refl refl refl known.performer;
    putters = λ fifo. one-more script before (Drained node origin) (puts_asked before fifo) next on (known.putters fifo);
    takers = λ fifo. one-more script before (Drained node origin) (takes_asked before fifo) next on (known.takers fifo);
    imps = known.imps;
    wanting = λ at. wanting-more script before (Drained node origin) at (all_requests before at) next on (known.wanting at);
    served = λ at id e. requester-more script before (Drained node origin) at id next on (known.served at id e);
    requesters = λ at. driver_requester-more script before (Drained node origin) (driver_requester before at) next on (known.requesters at);
  }
  known-more script before (Over reason) known next on = absurd (on refl)
  known-more script before (Locked node id) known next on = known-locked script before node id known next on
  known-more script before (Granted node grant) known next on = known-granted script before node grant known next on
  known-more script before (Begin phase) known next on = record {
    owners = owners-more script before (Begin phase) next on known;
    acting = acting-more script before (Begin phase) (act_phase before) next on known.acting;
    going = inl (begin-left script before phase next);
    starters = starters-more script before (Begin phase) next on known;
    performer = speaking-more script before (Begin phase) known next on;
    putters = λ fifo. one-more script before (Begin phase) (puts_asked before fifo) next on (known.putters fifo);
    takers = λ fifo. one-more script before (Begin phase) (takes_asked before fifo) next on (known.takers fifo);
    imps = known.imps;
    wanting = λ node. wanting-more script before (Begin phase) node (all_requests before node) next on (known.wanting node);
    served = λ node id e. requester-more script before (Begin phase) node id next on (known.served node id e);
    requesters = λ node. driver_requester-more script before (Begin phase) (driver_requester before node) next on (known.requesters node);
  }
  known-more script before (End phase) known next on = record {
    owners = All-append (IsCallTo (End phase ∷ before)) (calls_numbered (now_of before) (length before) 0 (lapsed_with phase before)) (scheduled_events script before)
        (numbered-owners (End phase ∷ before) (now_of before) (length before) 0 (lapsed_with phase before) (lapsed-owners script before phase next on known)) (owners-more script before (End phase) next on known);
    acting = acting-more script before (End phase) (act_phase before) next on known.acting;
    going = inl (end-left script before phase next);
    starters = starters-more script before (End phase) next on known;
    performer = speaking-more script before (End phase) known next on;
    putters = λ fifo. one-more script before (End phase) (puts_asked before fifo) next on (known.putters fifo);
    takers = λ fifo. one-more script before (End phase) (takes_asked before fifo) next on (known.takers fifo);
    imps = known.imps;
    wanting = λ node. wanting-more script before (End phase) node (all_requests before node) next on (known.wanting node);
    served = λ node id e. requester-more script before (End phase) node id next on (known.served node id (end-kept (ends_ask phase (driver_requester before node)) (is_live (End phase ∷ before)) (driver_state before node) id e));
    requesters = λ node. driver_requester-more script before (End phase) (driver_requester before node) next on (known.requesters node);
  }
  known-more script before (Heard performer origin call acts) known next on =
      let entry = Heard performer origin call acts in
      record {
        acting = acting-more script before entry (phase_heard call origin) next on (λ p is. Runs ((heard-one keeps script before performer call origin acts known next).1 p is));
        going = inr (heard-one keeps script before performer call origin acts known next).1;
        owners = owners-more script before entry next on known;
        starters = starters-more script before entry next on known;
        performer = speaking-more script before entry known next on;
        putters = λ fifo. one-more script before entry (puts_asked before fifo) next on (known.putters fifo);
        takers = λ fifo. one-more script before entry (takes_asked before fifo) next on (known.takers fifo);
        imps = known.imps;
        wanting = λ node. wanting-more script before entry node (all_requests before node) next on (known.wanting node);
        served = λ node id e. requester-more script before entry node id next on (known.served node id e);
        requesters = λ node. driver_requester-more script before entry (driver_requester before node) next on (known.requesters node);
      }
  known-more script before (Note fatal at) known next on = record {
    owners = owners-more script before (Note fatal at) next on known;
    acting = acting-more script before (Note fatal at) (act_phase before) next on known.acting;
    going = inl refl;
    starters = starters-more script before (Note fatal at) next on known;
    performer = speaking-more script before (Note fatal at) known next on;
    putters = λ fifo. one-more script before (Note fatal at) (puts_asked before fifo) next on (known.putters fifo);
    takers = λ fifo. one-more script before (Note fatal at) (takes_asked before fifo) next on (known.takers fifo);
    imps = known.imps;
    wanting = λ node. wanting-more script before (Note fatal at) node (all_requests before node) next on (known.wanting node);
    served = λ node id e. requester-more script before (Note fatal at) node id next on (known.served node id e);
    requesters = λ node. driver_requester-more script before (Note fatal at) (driver_requester before node) next on (known.requesters node);
  }
  known-more script before entry known next on = record {
    owners = owners-more script before entry next on known;
    going = known.going;
    acting = acting-more script before entry (act_phase before) next on known.acting;
    starters = starters-more script before entry next on known;
    performer = speaking-more script before entry known next on;
    putters = λ fifo. one-more script before entry (puts_asked before fifo) next on (known.putters fifo);
    takers = λ fifo. one-more script before entry (takes_asked before fifo) next on (known.takers fifo);
    imps = known.imps;
    wanting = λ node. wanting-more script before entry node (all_requests before node) next on (known.wanting node);
    served = λ node id e. requester-more script before entry node id next on (known.served node id e);
    requesters = λ node. driver_requester-more script before entry (driver_requester before node) next on (known.requesters node);
  }

  -- so that it is known of every log that goes on, of which each entry was next
  went-on : (script : ScriptValue) (before : List Entry) (entry : Entry) → IsNext script before entry → GoesOn before
  went-on script before entry next ended = none-after script before entry next ended

  known-of : (script : ScriptValue) (history : List Entry) → EachIsNext script history → GoesOn history → ParticipantsExist script history
  known-of script [] each on = record {
    acting = λ phase is. cc;
    going = inr (λ phase is. cc);
    owners = All-nil _;
    starters = All-nil _;
    performer = Opens (All-cons (λ one. one ≡ test_creation script) (test_creation script) [] refl (All-nil (λ one. one ≡ test_creation script)));
    putters = λ fifo. All-nil _;
    takers = λ fifo. All-nil _;
    imps = λ node is. cc;
    wanting = λ node. All-nil _;
    served = λ node id e. absurd cc;
    requesters = λ node. tt;
  }
  known-of script (entry ∷ before) each on = known-more script before entry (known-of script before each.1 (went-on script before entry each.0)) each.0 on

  -- the phases in which sequences were started are in progress, or have ended, and so is that of the acts
  pub start_records-stand : (script : ScriptValue) (history : List Entry) → EachIsNext script history → GoesOn history → All (λ start_record. (phase : Phase) → start_record.phase ≡ Some phase → Stands history phase) (starts_of history)
  start_records-stand script history each on =
      All-weaker (IsStartedBy history) (λ start_record. (phase : Phase) → start_record.phase ≡ Some phase → Stands history phase)
      (λ start_record by phase is. expected-stands history phase start_record.starter (by phase is)) (starts_of history) (known-of script history each on).starters

  -- where an act is next its phase is in progress, and a sequence acts in the phase in which it was started
  pub acts_are_in_phase : ActsAreInPhase
  acts_are_in_phase script history act each is left =
      let known = known-of script history each (λ ended. subst IsAct (nothing-comes script history ended) is) in
      let on = goes known.going in
      record { going = on; unended = not-ended (act_phase history) on; own = owned known.performer }
    where
      some : {Goal : Type 0} → remaining_acts script history ≡ [] → Goal
      some none = let both : act ∷ rest_of (remaining_acts script history) ≡ [] = sym left ∙ none in cc

      goes : (remaining_acts script history ≡ []) ⊎ IsGoing history (act_phase history) → IsGoing history (act_phase history)
      goes (inl none) = some none
      goes (inr on) = on

      not-ended : (acting : Option Phase) → IsGoing history acting → HasNotEnded (ended_of history) acting
      not-ended None on = tt
      not-ended (Some phase) on = phases_in_progress_are_open script history phase each (on phase refl)

      in-phase : (who : Who) → IsPerformer history (act_phase history) who → IsInPhase history who
      in-phase (Node node) has = tt
      in-phase (Sequence home id) s = ap (option_and_then (λ (start_record : StartRecord). start_record.phase)) s.sequence.begun ∙ s.sequence.phase_is ∙ sym s.own

      owned : Speaking script history → (act ≡ test_creation script) ⊎ IsInPhase history (performer_of history)
      owned (NoneLeft none) = some none
      owned (Opens opens) = inl (All-head (λ one. one ≡ test_creation script) act (rest_of (remaining_acts script history)) (subst (All (λ one. one ≡ test_creation script)) left opens))
      owned (Speaks speaks) = inr (in-phase (performer_of history) speaks)

  pub acting-stands : (script : ScriptValue) (history : List Entry) → EachIsNext script history → GoesOn history → (phase : Phase) → act_phase history ≡ Some phase → Stands history phase
  acting-stands script history each on = (known-of script history each on).acting

  -- who is asked is there
  asked-speaks : (script : ScriptValue) (history : List Entry) (performer : Who) (call : Call) (origin : Option Origin) → EachIsNext script history → next_of script history ≡ Answer performer call origin → IsPerformer history (phase_heard call origin) performer
  asked-speaks script history performer call origin each e =
      (asks-one keeps script history performer call origin (known-of script history each (λ ended. let none : Nothing ≡ Answer performer call origin = sym (nothing-comes script history ended) ∙ e in cc)) e).0

  pub asked_are_there : AskedAreThere
  asked_are_there script history performer call origin each e = performer-there history (phase_heard call origin) performer (asked-speaks script history performer call origin each e)

  -- so is who performs an act, but the script
  acts-before-end : (script : ScriptValue) (history : List Entry) → IsAct (next_of script history) → GoesOn history
  acts-before-end script history is ended = subst IsAct (nothing-comes script history ended) is

  -- who drives a sequencer is a component
  pub requesters-known : (script : ScriptValue) (history : List Entry) → EachIsNext script history → GoesOn history → (node : ℕ) → IfSome (driver_requester history node) (λ driver. IsComponent (components_of history) driver.who)
  requesters-known script history each on node = component-of (driver_requester history node) ((known-of script history each on).requesters node)
    where
      component-of : (requester : Option DriverPort) → IfSome requester (λ driver. IsDriver history driver.who driver.phase) → IfSome requester (λ driver. IsComponent (components_of history) driver.who)
      component-of None has = tt
      component-of (Some requester) has = has.0

  pub drivers-known : (script : ScriptValue) (history : List Entry) → EachIsNext script history → IsAct (next_of script history) → (node : ℕ) → IfSome (driver_requester history node) (λ driver. IsComponent (components_of history) driver.who)
  drivers-known script history each is node = requesters-known script history each (acts-before-end script history is) node

  -- whose item is in hand was started there
  pub hands-known :
      (script : ScriptValue) (history : List Entry) → EachIsNext script history → IsAct (next_of script history) → (node id : ℕ) → hand_of (driver_state history node) ≡ Some id
      → option_map (λ start_record. start_record.start.home) (numbered (starts_of history) id) ≡ Some node
  hands-known script history each is node id hand =
      let r = (known-of script history each (acts-before-end script history is)).served node id (hand-sequence (driver_state history node) id hand) in
      rw (r.sequence.begun, r.sequence.home_is) refl

  -- who waits for a sequencer lives, and runs there
  pub queue-living : (script : ScriptValue) (history : List Entry) (node : ℕ) → EachIsNext script history → (stage_of history ≡ Ended → ⊥) → All (λ request. IsLiving history request.seq node) (request_queue history node)
  queue-living script history node each on =
      queue-all history node (λ id. IsLiving history id node) (all_requests history node)
      (All-weaker (IsBy (IsRequester history node)) (λ w. still_waits history node w ≡ true → IsLiving history w.request.seq node) (λ w r waits. living w.request.seq r (and_parts _ _ waits).0) (all_requests history node) ((known-of script history each on).wanting node))
    where
      living : (id : ℕ) → IsRequester history node id → is_live history id ≡ true → IsLiving history id node
      living id r lives = record { lives = lives; home_is = ap (option_map (λ (start_record : StartRecord). start_record.start.home)) r.sequence.begun ∙ ap (λ (h : ℕ). Some h) r.sequence.home_is }

  act-performer-there : (script : ScriptValue) (history : List Entry) (act : Act) → remaining_acts script history ≡ act ∷ rest_of (remaining_acts script history) → Speaking script history → (act ≡ test_creation script) ⊎ IsThere history (performer_of history)
  act-performer-there script history act left (NoneLeft none) = let both : act ∷ rest_of (remaining_acts script history) ≡ [] = sym left ∙ none in cc
  act-performer-there script history act left (Opens opens) =
      let first = subst (All (λ one. one ≡ test_creation script)) left opens in
      inl (All-head (λ one. one ≡ test_creation script) act (rest_of (remaining_acts script history)) first)
  act-performer-there script history act left (Speaks speaks) = inr (performer-there history (act_phase history) (performer_of history) speaks)

  pub performers_are_there : PerformersAreThere
  performers_are_there script history act each is left = act-performer-there script history act left (known-of script history each (acts-before-end script history is)).performer

  -- an answer of another is not the node's
  apart : (performer : Who) (node : ℕ) (call : Call) (origin : Option Origin) (acts : List Act) → node_of performer < node → exchanged_in (Node node) (Heard performer origin call acts) ≡ []
  apart (Node other) node call origin acts lt =
      let differs : (other == node) ≡ false = grind (arith, nat_tests) in
      rw differs refl
  apart (Sequence home id) node call origin acts lt = refl

  -- who has an answer had spoken
  answered : (script : ScriptValue) (before : List Entry) (performer : Who) (call : Call) (origin : Option Origin) (acts : List Act) → EachIsNext script before → IsNext script before (Heard performer origin call acts) → IsPerformer before (phase_heard call origin) performer
  answered script before performer call origin acts each next = (heard-one keeps script before performer call origin acts (known-of script before each (went-on script before (Heard performer origin call acts) next)) next).0

  unasked-node : (script : ScriptValue) (before : List Entry) (node : ℕ) (performer : Who) (call : Call) (origin : Option Origin) (acts : List Act) → EachIsNext script before → IsPerformer before (phase_heard call origin) performer → length (nodes_of before) ≤ node → exchanged_in (Node node) (Heard performer origin call acts) ≡ []
  unasked-node script before node (Node other) call origin acts each has le =
      let lt : other < length (nodes_of before) = All-contains (λ other. other < length (nodes_of before)) (components_of before) other (components_are_nodes script before each) has in
      apart (Node other) node call origin acts (omega (arith, lt, le))
  unasked-node script before node (Sequence home id) call origin acts each speaks le = refl

  -- an entry that is next asks no node behind those of the tree
  unasked-in : (script : ScriptValue) (before : List Entry) (node : ℕ) (entry : Entry) → EachIsNext script before → IsNext script before entry → length (nodes_of before) ≤ node → exchanged_in (Node node) entry ≡ []
  unasked-in script before node (Heard performer origin call acts) each next le = unasked-node script before node performer call origin acts each (answered script before performer call origin acts each next) le
  unasked-in script before node entry each next le = refl

  -- behind the nodes of the tree no component or sequence was asked
  pub new_nodes_are_unasked : NewNodesAreUnasked
  new_nodes_are_unasked script [] node each le = refl
  new_nodes_are_unasked script (entry ∷ before) node each le =
      let more = nodes-more entry before in
      let fewer : length (nodes_of before) ≤ node = omega (arith, more, le) in
      rw (unasked-in script before node entry each.1 each.0 fewer) (new_nodes_are_unasked script before node each.1 fewer)

  -- nor behind the sequences that were started
  unasked-sequence : (before : List Entry) (id home : ℕ) (performer : Who) (call : Call) (origin : Option Origin) (acts : List Act) → IsPerformer before (phase_heard call origin) performer → length (starts_of before) < id → exchanged_in (Sequence home id) (Heard performer origin call acts) ≡ []
  unasked-sequence before id home (Node node) call origin acts has lt = refl
  unasked-sequence before id home (Sequence at other) call origin acts speaks lt =
      let low = numbered-within (starts_of before) other speaks.sequence.start_record speaks.sequence.begun in
      let differs : (other == id) ≡ false = grind (arith, nat_tests, low, lt) in
      rw differs refl

  unstarted-in : (script : ScriptValue) (before : List Entry) (id home : ℕ) (entry : Entry) → EachIsNext script before → IsNext script before entry → length (starts_of before) < id → exchanged_in (Sequence home id) entry ≡ []
  unstarted-in script before id home (Heard performer origin call acts) each next lt = unasked-sequence before id home performer call origin acts (answered script before performer call origin acts each next) lt
  unstarted-in script before id home entry each next lt = refl

  pub new_sequences_are_unasked : NewSequencesAreUnasked
  new_sequences_are_unasked script [] id home each lt = refl
  new_sequences_are_unasked script (entry ∷ before) id home each lt =
      let more = begun-count entry before in
      let fewer : length (starts_of before) < id = omega (arith, more, lt) in
      rw (unstarted-in script before id home entry each.1 each.0 fewer) (new_sequences_are_unasked script before id home each.1 fewer)

  -- who finishes is a sequence that lived
  finisher-there : (script : ScriptValue) (before : List Entry) (performer : Who) (act : Act) → IsNext script before (Did performer Finished act) → IsActEntry script before performer Finished act → (act ≡ test_creation script) ⊎ IsPerformer before (act_phase before) performer → IsLivingSequence before performer
  finisher-there script before performer act next act_entry (inl opens) =
      let ends = finished-next script before performer act next in
      let e : EndStep ≡ test_creation script = sym ends ∙ opens in cc
  finisher-there script before (Node node) act next act_entry (inr speaks) =
      let ends = finished-next script before (Node node) act next in
      let e : Finished ≡ Refused NotOpen = closed-refused script before (Node node) Finished act act_entry (rw ends refl) in cc
  finisher-there script before (Sequence home id) act next act_entry (inr speaks) = performer-there before (act_phase before) (Sequence home id) speaks

  pub finisher_lives : (script : ScriptValue) (before : List Entry) (performer : Who) (act : Act) → EachIsNext script before → IsNext script before (Did performer Finished act) → IsLivingSequence before performer
  finisher_lives script before performer act each next =
      let act_entry = comes script before (Did performer Finished act) next in
      let known = known-of script before each (went-on script before (Did performer Finished act) next) in
      finisher-there script before performer act next act_entry (act_entry-owner script before performer Finished act act_entry known.performer)

  -- who waited at a FIFO is a component
  pub waiters_are_components : WaitersAreComponents
  waiters_are_components script history fifo passage each is =
      let known = known-of script history each (λ ended. let none : Nothing ≡ Exactly (Passed fifo passage) = sym (nothing-comes script history ended) ∙ is in cc) in
      (subst (λ (passed : Option (ℕ × Passage)). IfSome passed (λ passed. IsOneIn history passed.1.who passed.1.phase)) (passages_go_in_order script history fifo passage is) (passing-holds (IsOneIn history) history (λ at. puts-wait (IsOneIn history) history at (known.putters at)) (λ at. takes-wait (IsOneIn history) history at (known.takers at)))).0
