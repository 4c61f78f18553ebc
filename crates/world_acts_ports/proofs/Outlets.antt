-- What goes through FIFOs, once an item is written.
use Rattle.world_acts_ports.proofs.Common.{◌≡◌, ℕ, ◌==◌, nat_eq, Bool, true, false, ◌&&◌, is_none, map, List, [], ◌∷◌, length, filter, Option, Some, None, is_some, option_map, option_and_then, ◌⊎◌, inl, inr, IsTrue, Contains, refl, ap, sym, ◌∙◌, subst, arith, if◌then◌else◌, list_any, filter_map, option_map_or, nat_tests, All-contains, path_order, End, Analysis, PortKind, Item, accepts, same_kind, can_put, has_room, TargetsAcceptTheKind, accepts_at, IsWiring, WiringValue, end_at, is_target_at, kind_at, reaches, targets_in, targets_of, wire_fault, Act, Write, Done, Passage, Entry, Did, Fatal, ScriptValue, Phase, calls_caused, written_to, act_phase, nodes_of, ended_of, in_task, fifo_size, fifos_below, if_sound, imps_below, is_imp, is_imp_at, is_sound_port, outlets_below, port_below, size_of, FifoValue, Requester, answered_at, fifo_items, is_no_put, is_put, items_entered, items_left, passage_in, puts_asked, puts_waiting, fifo_state_at, fifo_state_of, takes_asked, takes_waiting, waiting_put, passing_refusal, closed_wiring, wiring_of, Services, port_in, CanPerform, IsActContext, ServicesMatch, FifoMap, StoresAll, stored_once, with_stored_if, IsKept, closed-same, node-stored, port-known, refusal-known, settled-all, blocked-is, changed_if, item-stored, any-contained, any-filter, any-passes, filter-contains, members-kept, Node}
use Rattle.uvm_tlm.specs.declared.ends.End.TheVariants as end

-- an analysis port is open after a log, and this is what it reaches
pub record IsOutlet (history : List Entry) (services : Services) (name : List ℕ) (targets : List ℕ) : Type 0 where
  pub task : in_task (act_phase history) ≡ true
  pub found : is_some (port_below history services.answer.performer Analysis name) ≡ true
  pub outlets : outlets_below history services.answer.performer name ≡ targets
  pub reached : ℕ → Bool
  pub are : targets ≡ filter reached (path_order (nodes_of history))
  pub sizes : (n : ℕ) (size : ℕ) → Contains targets n → fifo_size (wiring_of history) n ≡ Some size → size ≡ 0

-- an analysis port reaches FIFOs without a limit alone
unlimited : (found : Option End) (size : ℕ) → option_and_then size_of found ≡ Some size → option_map_or (λ end. accepts end Analysis) found false ≡ true → size ≡ 0
unlimited None size is accepted = cc
unlimited (Some (end.Fifo own)) size is accepted =
    let zero' : own ≡ 0 = grind (arith, nat_tests) in
    let same : own ≡ size = cc in
    sym same ∙ zero'
unlimited (Some other) size is accepted = cc

analysis-kind : (kind : Option PortKind) → option_map_or (same_kind Analysis) kind false ≡ true → kind ≡ Some Analysis
analysis-kind None is = cc
analysis-kind (Some Analysis) is = refl
analysis-kind (Some other) is = cc

sound-kind : (wiring : WiringValue) (node : Option ℕ) (port : ℕ) → option_and_then (if_sound wiring Analysis) node ≡ Some port → kind_at wiring.ends port ≡ Some Analysis
sound-kind wiring None port is = cc
sound-kind wiring (Some node) port is = tested (is_sound_port wiring Analysis node) refl is
  where
    first : (a b : Bool) → a && b ≡ true → a ≡ true
    first true b e = refl
    first false b e = cc

    tested : (sound : Bool) → is_sound_port wiring Analysis node ≡ sound → (if sound then Some node else None) ≡ Some port → kind_at wiring.ends port ≡ Some Analysis
    tested true sound e =
        let same : node ≡ port = cc in
        subst (λ (n : ℕ). kind_at wiring.ends n ≡ Some Analysis) same (analysis-kind (kind_at wiring.ends node) (first (option_map_or (same_kind Analysis) (kind_at wiring.ends node) false) (is_none (wire_fault wiring node)) sound))
    tested false sound e = cc

targets-are : (wiring : WiringValue) (order : List ℕ) (port : ℕ) → wiring.order ≡ Some order → targets_of wiring port ≡ filter (λ n. is_target_at wiring.ends n && reaches wiring.connections port n) order
unfolding targets_of targets_in
targets-are wiring order port is = rw is refl

pub outlet-open :
    {script : ScriptValue} {history : List Entry} {services : Services} {name : List ℕ} {port : ℕ} → ServicesMatch script history services → CanPerform services → TargetsAcceptTheKind → IsWiring services.wiring
    → (in_task services.answer.phase ≡ true) × (port_in services.tree.nodes services.wiring services.answer.performer Analysis name ≡ Some port) → IsOutlet history services name (targets_of services.wiring port)
outlet-open {history = history} {services} {name} {port} m can accept wiring open_ =
    let closed = can.closed open_.0 in
    let same = closed-same m.connecting closed in
    let leads = port-known m Analysis name closed ∙ open_.1 in
    let kind = sound-kind services.wiring _ port open_.1 in
    record {
      task = ap in_task (sym m.answer.phase) ∙ open_.0;
      found = ap is_some leads;
      outlets = rw leads (ap (λ (w : WiringValue). targets_of w port) (sym same));
      reached = λ n. is_target_at services.wiring.ends n && reaches services.wiring.connections port n;
      are = targets-are services.wiring (path_order (nodes_of history)) port (ap (λ (w : WiringValue). w.order) same);
      sizes = λ n size there is.
          unlimited (end_at services.wiring.ends n) size (rw m.connecting.ends is) (All-contains (λ target. IsTrue (accepts_at services.wiring.ends Analysis target)) (targets_of services.wiring port) n (accept services.wiring wiring port Analysis kind) there);
    }

-- the calls to the owners of the imps among it
pub calls-are :
    {script : ScriptValue} {history : List Entry} {services : Services} {name targets : List ℕ} (item : Item) → ServicesMatch script history services → IsOutlet history services name targets
    → filter_map (written_to services.answer.phase services.tree.nodes item) (filter (is_imp_at services.wiring) targets) ≡ calls_caused history services.answer.performer Done (Write name item)
unfolding imps_below
calls-are {history = history} {services} {name} {targets} item m o =
    ap (λ (phase : Option Phase). filter_map (written_to phase services.tree.nodes item) (filter (is_imp_at services.wiring) targets)) m.answer.phase
    ∙ ap (λ (nodes : List Node). filter_map (written_to (act_phase history) nodes item) (filter (is_imp_at services.wiring) targets)) m.tree
    ∙ ap (λ (ends : List (ℕ × End)). filter_map (written_to (act_phase history) (nodes_of history) item) (filter (λ n. option_map_or is_imp (end_at ends n) false) targets)) m.connecting.ends
    ∙ ap (λ (outlets : List ℕ). filter_map (written_to (act_phase history) (nodes_of history) item) (filter (is_imp_at (closed_wiring history)) outlets)) (sym o.outlets)

-- so that nothing is refused there
pub outlet-does : {history : List Entry} {services : Services} {name targets : List ℕ} → IsOutlet history services name targets → passing_refusal (act_phase history) (is_some (port_below history services.answer.performer Analysis name)) ≡ None
unfolding passing_refusal
outlet-does o = rw (o.found, o.task) refl

-- and else it is refused for that for which there is none
pub outlet-refuses :
    {script : ScriptValue} {history : List Entry} {services : Services} → ServicesMatch script history services → CanPerform services → (name : List ℕ) (fatal : Fatal)
    → passing_refusal services.answer.phase (is_some (port_in services.tree.nodes services.wiring services.answer.performer Analysis name)) ≡ Some fatal
    → passing_refusal (act_phase history) (is_some (port_below history services.answer.performer Analysis name)) ≡ Some fatal
outlet-refuses {history = history} {services} m can name fatal why =
    ap (λ (phase : Option Phase). passing_refusal phase (is_some (port_below history services.answer.performer Analysis name))) (sym m.answer.phase)
    ∙ refusal-known services.answer.phase (is_some (port_below history services.answer.performer Analysis name)) (is_some (port_in services.tree.nodes services.wiring services.answer.performer Analysis name)) (λ task. ap is_some (port-known m Analysis name (can.closed task)))
    ∙ why

-- a FIFO without a limit at which nothing passes takes an item at once
takes-all : (history : List Entry) (n size : ℕ) → size ≡ 0 → passage_in (fifo_state_of history n size) ≡ None → can_put (fifo_state_of history n size) ≡ true
unfolding can_put
takes-all history n size is none =
    let b = blocked-is size (fifo_items history n) (puts_waiting history n) (takes_waiting history n) none in
    emptied b.puts_are
  where
    emptied : (puts_waiting history n ≡ []) ⊎ (has_room (fifo_state_of history n size) ≡ false) → has_room (fifo_state_of history n size) && (length (map waiting_put (puts_waiting history n)) == 0) ≡ true
    emptied (inl none) = rw (is, none) refl
    emptied (inr full) = let clash : true ≡ false = rw is at full in cc

not-passing : (n : ℕ) (passage : Option Passage) → option_map {U = ℕ × Passage} (λ passage. (n, passage)) passage ≡ None → passage ≡ None
not-passing n None e = refl
not-passing n (Some passage) e = cc

module _ {script : ScriptValue} {history : List Entry} {act : Act} {place : ℕ} {services : Services} (s : IsActContext script history act place services) {name targets fifos_to_settle : List ℕ} (item : Item) (new : FifoMap) (o : IsOutlet history services name targets) (all : StoresAll item targets services.fifo_states new) (is : fifos_to_settle ≡ targets) where
  abbrev is_fifo : ℕ → Bool
  is_fifo n = is_some (fifo_size (wiring_of history) n)

  fifos-are : fifos_below history services.answer.performer name ≡ filter is_fifo targets
  unfolding fifos_below
  fifos-are = ap (filter is_fifo) o.outlets

  -- what a FIFO among them comes to
  once : (n : ℕ) (size : Option ℕ) → fifo_size (wiring_of history) n ≡ size → changed_if (list_any (nat_eq n) (filter is_fifo targets)) (with_stored_if true item) (option_map (fifo_state_of history n) size) ≡ (if list_any (nat_eq n) targets then option_map (stored_once item) (option_map (fifo_state_of history n) size) else option_map (fifo_state_of history n) size)
  once n None sized = none (list_any (nat_eq n) (filter is_fifo targets)) (list_any (nat_eq n) targets)
    where
      none : (a b : Bool) → changed_if a (with_stored_if true item) None ≡ (if b then option_map (stored_once item) None else None)
      none true true = refl
      none true false = refl
      none false true = refl
      none false false = refl
  once n (Some size) sized = rw (any-filter n is_fifo targets (rw sized refl)) (among (list_any (nat_eq n) targets) refl)
    where
      among : (b : Bool) → list_any (nat_eq n) targets ≡ b → changed_if b (with_stored_if true item) (Some (fifo_state_of history n size)) ≡ (if b then Some (stored_once item (fifo_state_of history n size)) else Some (fifo_state_of history n size))
      among false e = refl
      among true e =
          let zero' = o.sizes n size (any-contained n targets e) sized in
          let none = settled-all history s.known.fifos_to_settle s.settled.unpassed n in
          let blocked = not-passing n (passage_in (fifo_state_of history n size)) (subst (λ (size : Option ℕ). option_map {U = ℕ × Passage} (λ passage. (n, passage)) (option_and_then passage_in (option_map (fifo_state_of history n) size)) ≡ None) sized none) in
          rw (takes-all history n size zero' blocked) refl

  changes : (n : ℕ) → fifo_state_at (Did services.answer.performer Done (Write name item) ∷ history) n ≡ (if list_any (nat_eq n) targets then option_map (stored_once item) (fifo_state_at history n) else fifo_state_at history n)
  changes n =
      item-stored (fifo_size (wiring_of history) n) (items_entered history n) (items_left history n) (puts_asked history n) (answered_at is_put history n) (takes_asked history n) (answered_at is_no_put history n) (ended_of history) _
      (list_any (nat_eq n) (filter is_fifo targets)) item (rw fifos-are refl) (s.known.passed.each n).few
      ∙ once n (fifo_size (wiring_of history) n) refl

  pub written-kept : IsKept (Did services.answer.performer Done (Write name item) ∷ history) new fifos_to_settle
  written-kept =
      let m = s.known in
      record {
        fifo_states_are = record { each = λ n. all n ∙ rw (m.fifo_states.each n) (sym (changes n)) };
        passed = record { each = λ n. node-stored (m.passed.each n) _ (list_any (nat_eq n) (filter is_fifo targets)) item (rw fifos-are refl) (sized n) };
        fifos_to_settle_are = record {
          among = λ n. list_any (nat_eq n) targets;
          kept_are = rw (is, o.are) (members-kept o.reached (path_order (nodes_of history)));
          others = λ n none. ap (λ (fifo_state : Option (FifoValue Requester)). option_map {U = ℕ × Passage} (λ passage. (n, passage)) (option_and_then passage_in fifo_state)) (changes n ∙ rw none refl) ∙ settled-all history m.fifos_to_settle s.settled.unpassed n;
          held = λ n there. ordered n (any-contained n targets there);
        };
      }
    where
      sized : (n : ℕ) → list_any (nat_eq n) (filter is_fifo targets) ≡ true → fifo_size (wiring_of history) n ≡ None → ⊥
      sized n there none = let passes = any-passes n is_fifo targets there in let clash : false ≡ true = (rw none at passes) in cc

      ordered : (n : ℕ) → Contains targets n → Contains (path_order (nodes_of history)) n
      ordered n there = filter-contains o.reached (path_order (nodes_of history)) n (subst (λ (ts : List ℕ). Contains ts n) o.are there)
