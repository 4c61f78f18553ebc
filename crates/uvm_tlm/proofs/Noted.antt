-- What a loop over connections, nodes, ports or targets has noted, one step further.
use Rattle.uvm_tlm.proofs.Common.{◌≡◌, ◌+◌, ◌<◌, ℕ, Bool, true, false, ◌||◌, ◌&&◌, not, eqb, nat_eq, List, [], ◌∷◌, ◌++◌, length, get_or, take, find, Option, Some, None, is_some, if◌then◌else◌, refl, sym, ap, ◌∙◌, arith, IsDistinct, option_or, eqb-true, false≢true, append-nil, take_more, get_or-take, length-take-le, get_or_default, filter_more, find-append, list_any-append, list_any_more, list_any_none, apart_from_distinct, insert_key, End, Connection, has, is_some_of, is_target_at, reaches, targets_in, is_connected}
use Rattle.uvm_tlm.proofs.Lists.{eqb-flip, has_push, or-false}

and-true : (b : Bool) → (b && true) ≡ b
and-true true = refl
and-true false = refl

and-false : (b : Bool) → (b && false) ≡ false
and-false true = refl
and-false false = refl

-- the start of one more connection, at its end
pub start_noted : (connections : List Connection) (i : ℕ) (c : Connection) (old new : ℕ → List ℕ)
    → i < length connections → c ≡ get_or connections i c
    → ((n : ℕ) → new n ≡ (if eqb n c.to then old n ++ c.from ∷ [] else old n))
    → ((from to : ℕ) → has (old to) from ≡ is_connected (take i connections) from to)
    → (from to : ℕ) → has (new to) from ≡ is_connected (take (i + 1) connections) from to
start_noted connections i c old new more is pushed so_far from to =
    ap (λ l. has l from) (pushed to)
    ∙ by (eqb to c.to)
    ∙ ap (λ d. is_connected (take i connections) from to || (eqb from d.from && eqb to d.to)) is
    ∙ sym (list_any_more (λ d. eqb from d.from && eqb to d.to) connections i c more)
  where
    by : (b : Bool) → has (if b then old to ++ c.from ∷ [] else old to) from ≡ (is_connected (take i connections) from to || (eqb from c.from && b))
    by true = has_push (old to) c.from from ∙ ap (λ b. b || eqb from c.from) (so_far from to) ∙ ap (λ b. is_connected (take i connections) from to || b) (sym (and-true (eqb from c.from)))
    by false = so_far from to ∙ sym (or-false (is_connected (take i connections) from to)) ∙ ap (λ b. is_connected (take i connections) from to || b) (sym (and-false (eqb from c.from)))

and-first : (a b : Bool) → (a && b) ≡ true → a ≡ true
and-first true b h = refl
and-first false b h = h

and-second : (a b : Bool) → (a && b) ≡ true → b ≡ true
and-second true b h = h
and-second false b h = absurd (false≢true h)

-- a test that follows from another adds nothing to it
absorbed : (a b : Bool) → (b ≡ true → a ≡ true) → a ≡ (a || b)
absorbed true b f = refl
absorbed false false f = refl
absorbed false true f = f refl

-- two nodes are those of a connection that is among some
connected_as : (connections : List Connection) (c : Connection) (from to : ℕ) → is_connected connections c.from c.to ≡ true → (eqb from c.from && eqb to c.to) ≡ true → is_connected connections from to ≡ true
connected_as connections c from to there same =
    ap (λ n. is_connected connections n to) (eqb-true from c.from (and-first (eqb from c.from) (eqb to c.to) same))
    ∙ ap (λ n. is_connected connections c.from n) (eqb-true to c.to (and-second (eqb from c.from) (eqb to c.to) same))
    ∙ there

-- one more connection
connected_more : (connections : List Connection) (i : ℕ) (c : Connection) (from to : ℕ) → i < length connections → c ≡ get_or connections i c
    → is_connected (take (i + 1) connections) from to ≡ (is_connected (take i connections) from to || (eqb from c.from && eqb to c.to))
connected_more connections i c from to more is =
    list_any_more (λ d. eqb from d.from && eqb to d.to) connections i c more
    ∙ ap (λ d. is_connected (take i connections) from to || (eqb from d.from && eqb to d.to)) (sym is)

-- two connections are the same
abbrev pub is_same : Connection → Connection → Bool
is_same a b = eqb a.from b.from && eqb a.to b.to

-- one more connection, which is kept once
pub made_noted : (connections keys grown : List Connection) (i : ℕ) (c : Connection)
    → i < length connections → c ≡ get_or connections i c → grown ≡ insert_key is_same keys c
    → ((from to : ℕ) → is_connected keys from to ≡ is_connected (take i connections) from to)
    → (from to : ℕ) → is_connected grown from to ≡ is_connected (take (i + 1) connections) from to
made_noted connections keys grown i c more is added so_far from to =
    ap (λ ks. is_connected ks from to) added
    ∙ by (is_connected keys c.from c.to) refl
    ∙ ap (λ b. b || (eqb from c.from && eqb to c.to)) (so_far from to)
    ∙ sym (connected_more connections i c from to more is)
  where
    by : (b : Bool) → is_connected keys c.from c.to ≡ b → is_connected (if b then keys else keys ++ c ∷ []) from to ≡ (is_connected keys from to || (eqb from c.from && eqb to c.to))
    by true held = absorbed (is_connected keys from to) (eqb from c.from && eqb to c.to) (connected_as keys c from to held)
    by false held = list_any-append (λ d. eqb from d.from && eqb to d.to) keys (c ∷ []) ∙ ap (λ b. is_connected keys from to || b) (or-false (eqb from c.from && eqb to c.to))

-- what is not new is among them
pub not-new : (added held : Bool) → added ≡ not held → added ≡ false → held ≡ true
not-new added true is none = refl
not-new added false is none = absurd (false≢true (sym none ∙ is))

-- one more connection that was made before
pub start_known : (connections : List Connection) (i : ℕ) (c : Connection) (starts : ℕ → List ℕ)
    → i < length connections → c ≡ get_or connections i c → is_connected (take i connections) c.from c.to ≡ true
    → ((from to : ℕ) → has (starts to) from ≡ is_connected (take i connections) from to)
    → (from to : ℕ) → has (starts to) from ≡ is_connected (take (i + 1) connections) from to
start_known connections i c starts more is there so_far from to =
    so_far from to
    ∙ absorbed (is_connected (take i connections) from to) (eqb from c.from && eqb to c.to) (connected_as (take i connections) c from to there)
    ∙ sym (connected_more connections i c from to more is)

-- a key of a set is none of those before it
new_key : (keys : List ℕ) (i d : ℕ) → IsDistinct nat_eq keys → i < length keys → has (take i keys) (get_or keys i d) ≡ false
new_key keys i d distinct within =
    list_any_none (eqb (get_or keys i d)) (take i keys)
    (λ k e before.
    let earlier : k < i = omega (arith, before, length-take-le i keys (omega arith)) in
    ap (eqb (get_or keys i d)) (get_or-take i keys k e earlier ∙ get_or_default keys k e d (omega arith))
    ∙ eqb-flip (get_or keys i d) (get_or keys k d)
    ∙ apart_from_distinct nat_eq keys k i d distinct earlier within)

-- an element that stands behind the others at one more key
pub element_noted : (keys : List ℕ) (i node element : ℕ) (first old new : ℕ → List ℕ)
    → IsDistinct nat_eq keys → i < length keys → node ≡ get_or keys i node
    → ((n : ℕ) → new n ≡ (if eqb n node then old n ++ element ∷ [] else old n))
    → ((n : ℕ) → old n ≡ first n ++ (if has (take i keys) n then element ∷ [] else []))
    → (n : ℕ) → new n ≡ first n ++ (if has (take (i + 1) keys) n then element ∷ [] else [])
element_noted keys i node element first old new distinct more is pushed so_far n =
    pushed n
    ∙ by (eqb n node) refl
    ∙ ap (λ m. first n ++ (if has (take i keys) n || eqb n m then element ∷ [] else [])) is
    ∙ ap (λ b. first n ++ (if b then element ∷ [] else [])) (sym (list_any_more (eqb n) keys i node more))
  where
    alone : eqb n node ≡ true → has (take i keys) n ≡ false
    alone e = ap (has (take i keys)) (eqb-true n node e ∙ is) ∙ new_key keys i node distinct more

    by : (b : Bool) → eqb n node ≡ b → (if b then old n ++ element ∷ [] else old n) ≡ first n ++ (if has (take i keys) n || b then element ∷ [] else [])
    by true e = rw (so_far n, alone e) (ap (λ l. l ++ element ∷ []) (append-nil (first n)))
    by false e = so_far n ∙ ap (λ b. first n ++ (if b then element ∷ [] else [])) (sym (or-false (has (take i keys) n)))

or-none : (found : Option ℕ) → found ≡ option_or found None
or-none None = refl
or-none (Some n) = refl

-- the first of some that passes a test, among one more
found_more : (test : ℕ → Bool) (order : List ℕ) (i d : ℕ) → i < length order → find test (take (i + 1) order) ≡ option_or (find test (take i order)) (if test (get_or order i d) then Some (get_or order i d) else None)
found_more test order i d more = ap (find test) (take_more order i d more) ∙ find-append test (take i order) (get_or order i d ∷ [])

-- one more port that does not pass, or where one was found
pub driver_stays : (test : ℕ → Bool) (order : List ℕ) (i port : ℕ) (found : Option ℕ)
    → i < length order → port ≡ get_or order i port → (test port ≡ true → is_some found ≡ true)
    → found ≡ find test (take i order) → found ≡ find test (take (i + 1) order)
driver_stays test order i port found more is known so_far =
    by found (test port) known
    ∙ ap (λ o. option_or o (if test port then Some port else None)) so_far
    ∙ ap (λ n. option_or (find test (take i order)) (if test n then Some n else None)) is
    ∙ sym (found_more test order i port more)
  where
    by : (o : Option ℕ) (b : Bool) → (b ≡ true → is_some o ≡ true) → o ≡ option_or o (if b then Some port else None)
    by (Some n) b f = refl
    by None true f = absurd (false≢true (f refl))
    by None false f = refl

-- one more port that passes where none was found
pub driver_noted : (test : ℕ → Bool) (order : List ℕ) (i port : ℕ) (old new : Option ℕ)
    → i < length order → port ≡ get_or order i port
    → new ≡ (if test port then Some port else old) → (test port ≡ true → old ≡ None)
    → old ≡ find test (take i order) → new ≡ find test (take (i + 1) order)
driver_noted test order i port old new more is noted none so_far =
    noted
    ∙ by (test port) none
    ∙ ap (λ o. option_or o (if test port then Some port else None)) so_far
    ∙ ap (λ n. option_or (find test (take i order)) (if test n then Some n else None)) is
    ∙ sym (found_more test order i port more)
  where
    by : (b : Bool) → (b ≡ true → old ≡ None) → (if b then Some port else old) ≡ option_or old (if b then Some port else None)
    by true f = rw (f refl) refl
    by false f = or-none old

pub no_targets : (ends : List (ℕ × End)) (connections : List Connection) (n : ℕ) → targets_in ends connections [] n ≡ []
unfolding targets_in
no_targets ends connections n = refl

targets_more : (ends : List (ℕ × End)) (connections : List Connection) (order : List ℕ) (i n d : ℕ) → i < length order
    → targets_in ends connections (take (i + 1) order) n ≡ targets_in ends connections (take i order) n ++ (if is_target_at ends (get_or order i d) && reaches connections n (get_or order i d) then get_or order i d ∷ [] else [])
unfolding targets_in
targets_more ends connections order i n d more = filter_more (λ t. is_target_at ends t && reaches connections n t) order i d more

-- one more target, at the nodes that reach it
pub target_noted : (ends : List (ℕ × End)) (connections : List Connection) (order : List ℕ) (i n target : ℕ) (old : List ℕ) (source : Bool)
    → i < length order → target ≡ get_or order i target → is_target_at ends target ≡ true → source ≡ reaches connections n target
    → old ≡ targets_in ends connections (take i order) n
    → old ++ (if source then target ∷ [] else []) ≡ targets_in ends connections (take (i + 1) order) n
target_noted ends connections order i n target old source more is ends_here sources so_far =
    ap (λ l. l ++ (if source then target ∷ [] else [])) so_far
    ∙ ap (λ b. targets_in ends connections (take i order) n ++ (if b then target ∷ [] else [])) (sources ∙ ap (λ b. b && reaches connections n target) (sym ends_here))
    ∙ ap (λ t. targets_in ends connections (take i order) n ++ (if is_target_at ends t && reaches connections n t then t ∷ [] else [])) is
    ∙ sym (targets_more ends connections order i n target more)

-- and what is none is passed over
pub no_target_noted : (ends : List (ℕ × End)) (connections : List Connection) (order : List ℕ) (i n target : ℕ) (old : List ℕ)
    → i < length order → target ≡ get_or order i target → is_target_at ends target ≡ false
    → old ≡ targets_in ends connections (take i order) n
    → old ≡ targets_in ends connections (take (i + 1) order) n
no_target_noted ends connections order i n target old more is passed so_far =
    so_far
    ∙ sym (append-nil (targets_in ends connections (take i order) n))
    ∙ ap (λ b. targets_in ends connections (take i order) n ++ (if b && reaches connections n target then target ∷ [] else [])) (sym passed)
    ∙ ap (λ t. targets_in ends connections (take i order) n ++ (if is_target_at ends t && reaches connections n t then t ∷ [] else [])) is
    ∙ sym (targets_more ends connections order i n target more)

-- where a port drives a sequencer that is known, or not, so is each that it drives
pub driven_known : (drivers : ℕ → Option ℕ) (sequencer n : ℕ) (driven : Option ℕ) (known : Bool) → driven ≡ Some sequencer → is_some (drivers sequencer) ≡ known → is_some_of n driven ≡ true → is_some (drivers n) ≡ known
driven_known drivers sequencer n driven known is there passes =
    ap (λ m. is_some (drivers m)) (sym (eqb-true sequencer n (ap (is_some_of n) (sym is) ∙ passes))) ∙ there

pub nothing_driven : (n : ℕ) (driven : Option ℕ) (goal : Bool) → driven ≡ None → is_some_of n driven ≡ true → goal ≡ true
nothing_driven n driven goal none passes = absurd (false≢true (ap (is_some_of n) (sym none) ∙ passes))

pub none_from : (o : Option ℕ) → is_some o ≡ false → o ≡ None
none_from None h = refl
none_from (Some n) h = absurd (false≢true (sym h))
