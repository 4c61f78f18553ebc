-- The search for what reaches a target.
use Rattle.uvm_tlm.proofs.Common.{◌≡◌, ◌+◌, ◌<◌, ◌≤◌, ℕ, Bool, true, false, ◌||◌, ◌&&◌, cond, eqb, nat_eq, List, [], ◌∷◌, ◌++◌, length, get_or, take, map, Some, sym, ap, ◌∙◌, inl, inr, arith, rules, list_any, IsDistinct, lookup, IsSome, nat_eq_equiv, and_from, eqb-true, false≢true, or_cases, or_left, or_right, take_all, take_more, length-map, list_any_at, length-le_from_keys, insert_all, Connection, has, reaches, is_connected}
use Rattle.uvm_tlm.proofs.Lists.{eqb-same, has_push, has-insert_all, longer-insert_all, or-assoc, same_answer}
use Rattle.uvm_tlm.proofs.Reached.{reaches_connected, reaches_through, reaches_starts, reached_all}

-- while a search stands before the found node of a number: what was found reaches the target, and of the target and of the
-- nodes before that one each start of a connection was found
pub record IsSearch (connections : List Connection) (target : ℕ) (found : List ℕ) (next : ℕ) : Type 0 where
  pub sound : (n : ℕ) → has found n ≡ true → reaches connections n target ≡ true
  pub settled : (from to : ℕ) → is_connected connections from to ≡ true → (eqb to target || has (take next found) to) ≡ true → has found from ≡ true
  pub within : next ≤ length found

-- where the connections to the target start
pub search-start : (connections : List Connection) (target : ℕ) (found none starts : List ℕ)
    → none ≡ [] → found ≡ insert_all nat_eq none starts
    → ((from : ℕ) → has starts from ≡ is_connected connections from target)
    → IsSearch connections target found 0
search-start connections target found none starts empty is found_starts =
    let all : (n : ℕ) → has found n ≡ has starts n = λ n. ap (λ l. has l n) is ∙ has-insert_all none starts n ∙ ap (λ l. has l n || has starts n) empty in
    record {
      sound = λ n h. reaches_connected connections n target (sym (found_starts n) ∙ sym (all n) ∙ h);
      settled = λ from to c h. elim (or_cases (eqb to target) false h) [
        | inl same ↦ all from ∙ found_starts from ∙ ap (λ n. is_connected connections from n) (sym (eqb-true to target same)) ∙ c
        | inr never ↦ absurd (false≢true never)
      ];
      within = omega arith;
    }

-- one more found node is looked at
pub search-step : (connections : List Connection) (target node next : ℕ) (found found' starts : List ℕ)
    → next < length found → node ≡ get_or found next node → found' ≡ insert_all nat_eq found starts
    → ((from : ℕ) → has starts from ≡ is_connected connections from node)
    → IsSearch connections target found next
    → IsSearch connections target found' (next + 1)
search-step connections target node next found found' starts more is grown found_starts so_far =
    let front : take (next + 1) found' ≡ take next found ++ node ∷ [] =
    ap (take (next + 1)) grown ∙ (longer-insert_all found starts).front (next + 1) (omega arith) ∙ take_more found next node more ∙ ap (λ n. take next found ++ n ∷ []) (sym is) in
    let there : has found node ≡ true = list_any_at (eqb node) found next node more (ap (eqb node) (sym is) ∙ eqb-same node) in
    let all : (n : ℕ) → has found' n ≡ (has found n || has starts n) = λ n. ap (λ l. has l n) grown ∙ has-insert_all found starts n in
    record {
      sound = λ n h. elim (or_cases (has found n) (has starts n) (sym (all n) ∙ h)) [
        | inl old ↦ so_far.sound n old
        | inr new ↦ reaches_through connections n node target (sym (found_starts n) ∙ new) (so_far.sound node there)
      ];
      settled = λ from to c h. all from ∙ elim (or_cases (eqb to target || has (take next found) to) (eqb to node)
          (or-assoc (eqb to target) (has (take next found) to) (eqb to node) ∙ ap (λ b. eqb to target || b) (sym (has_push (take next found) node to) ∙ ap (λ l. has l to) (sym front)) ∙ h)) [
            | inl old ↦ or_left (has found from) (has starts from) (so_far.settled from to c old)
            | inr same ↦ or_right (has found from) (has starts from) (found_starts from ∙ ap (λ n. is_connected connections from n) (sym (eqb-true to node same)) ∙ c)
          ];
      within = omega (arith, ap length grown, (longer-insert_all found starts).longer);
    }

-- at the end the search has found what reaches the target
pub search-end : (connections : List Connection) (target next : ℕ) (found : List ℕ) (n : ℕ) → length found ≤ next → IsSearch connections target found next → has found n ≡ reaches connections n target
search-end connections target next found n end so_far =
    same_answer (has found n) (reaches connections n target) (so_far.sound n)
    (reached_all connections target n (has found)
    (λ k d within h. so_far.settled _ _ (itself k d within) (ap (λ l. eqb (get_or connections k d).to target || has l (get_or connections k d).to) (take_all next found end) ∙ h))
    (eqb-same target))
  where
    itself : (k : ℕ) (d : Connection) → k < length connections → is_connected connections (get_or connections k d).from (get_or connections k d).to ≡ true
    itself k d within = list_any_at (λ c. eqb (get_or connections k d).from c.from && eqb (get_or connections k d).to c.to) connections k d within (and_from _ _ (eqb-same (get_or connections k d).from) (eqb-same (get_or connections k d).to))

-- the connections as the entries of a map, by their starts
abbrev entries_of : List Connection → List (ℕ × Connection)
entries_of connections = map (λ c. (c.from, c)) connections

keyed : (q : ℕ) (connections : List Connection) → list_any (λ c. eqb q c.from) connections ≡ true → IsSome (lookup (nat_eq q) (entries_of connections))
keyed q [] h = absurd (false≢true h)
keyed q (c ∷ connections) h = by (eqb q c.from) (keyed q connections) h
  where
    by : (b : Bool) → (list_any (λ c. eqb q c.from) connections ≡ true → IsSome (lookup (nat_eq q) (entries_of connections)))
        → (b || list_any (λ c. eqb q c.from) connections) ≡ true → IsSome (cond b (Some c) (lookup (nat_eq q) (entries_of connections)))
    by true rest h = search rules
    by false rest h = rest h

-- no more nodes are found than there are connections
pub few_found : (connections : List Connection) (target next : ℕ) (found : List ℕ) → IsDistinct nat_eq found → IsSearch connections target found next → length found ≤ length connections
few_found connections target next found distinct so_far =
    let keys = length-le_from_keys nat_eq_equiv found (entries_of connections) distinct (λ q h. keyed q connections (reaches_starts connections q target (so_far.sound q h))) in
    omega (arith, keys, length-map {B = ℕ × Connection} connections (λ c. (c.from, c)))
