-- A start changes nothing for those that wait.
use Rattle.uvm_sequencer.proofs.Common.{◌≡◌, ◌≤◌, ℕ, zero, suc, Bool, true, false, not, List, [], ◌∷◌, length, take, Some, refl, ap, ◌∙◌, arith, if◌then◌else◌, nat_le, ◌==◌, ◌||◌, ◌&&◌, nat_tests, list_all, list_any, option_and_then, Request, Start, candidates, is_blocked, is_candidate, is_item, leading, lock_in, StartsChangeNothing, are_known, AncestorsStay}

le_of : (m n : ℕ) (b : Bool) → (nat_le m n && b) ≡ true → m ≤ n
le_of m n b e = first (nat_le m n) b refl e
  where
    first : (a b : Bool) → nat_le m n ≡ a → (a && b) ≡ true → m ≤ n
    first true b e f = grind (arith, nat_tests)
    first false b e f = absurd cc

rest_of : (a b : Bool) → (a && b) ≡ true → b ≡ true
rest_of true b e = e
rest_of false b e = absurd cc

module _ (stay : AncestorsStay) (start : Start) (older : List Start) (holders : List ℕ) where
  blocked-started : (id : ℕ) → id ≤ length older → is_blocked (start ∷ older) holders id ≡ is_blocked older holders id
  blocked-started id old = ap (λ l. list_any (λ holder. not ((id == holder) || list_any (λ ancestor. ancestor == holder) l)) holders) (stay start older id old)

  candidates-started : (queue : List Request) → are_known older queue ≡ true → candidates (start ∷ older) holders queue ≡ candidates older holders queue
  candidates-started [] known = refl
  candidates-started (r ∷ rs) known =
      ap (λ b. if is_item r && not b then r ∷ candidates (start ∷ older) holders rs else candidates (start ∷ older) holders rs) (blocked-started r.seq (le_of r.seq (length older) (are_known older rs) known))
      ∙ ap (λ l. if is_candidate older holders r then r ∷ l else l) (candidates-started rs (rest_of (nat_le r.seq (length older)) (are_known older rs) known))

  leading-started : (queue : List Request) → are_known older queue ≡ true → leading (start ∷ older) holders queue ≡ leading older holders queue
  leading-started [] known = refl
  leading-started (r ∷ rs) known =
      ap (λ b. if not b then Some r else leading (start ∷ older) holders rs) (blocked-started r.seq (le_of r.seq (length older) (are_known older rs) known))
      ∙ ap (λ found. if not (is_blocked older holders r.seq) then Some r else found) (leading-started rs (rest_of (nat_le r.seq (length older)) (are_known older rs) known))

  blocked-started_all : (queue : List Request) (known : ℕ) → are_known older queue ≡ true
      → list_all (λ r. is_blocked (start ∷ older) holders r.seq) (take known queue) ≡ list_all (λ r. is_blocked older holders r.seq) (take known queue)
  blocked-started_all queue zero all = refl
  blocked-started_all [] (suc known) all = refl
  blocked-started_all (r ∷ rs) (suc known) all =
      ap (λ b. b && list_all (λ x. is_blocked (start ∷ older) holders x.seq) (take known rs)) (blocked-started r.seq (le_of r.seq (length older) (are_known older rs) all))
      ∙ ap (λ b. is_blocked older holders r.seq && b) (blocked-started_all rs known (rest_of (nat_le r.seq (length older)) (are_known older rs) all))

pub starts_change_nothing : AncestorsStay → StartsChangeNothing
starts_change_nothing stay = record {
  locks = λ start started s known. ap (option_and_then lock_in) (leading-started stay start started s.holders s.queue known);
  items = λ start started s known. candidates-started stay start started s.holders s.queue known;
  blocked = λ start started s all known. blocked-started_all stay start started s.holders s.queue known all;
}
