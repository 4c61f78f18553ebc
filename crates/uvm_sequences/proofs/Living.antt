-- What is said of sequences by their parents and their steps.
use Rattle.uvm_sequences.proofs.Common.{◌≡◌, ◌<◌, ℕ, suc, Bool, true, false, List, [], ◌∷◌, ◌++◌, length, Option, Some, None, IsSome, IfSome, refl, ap, sym, ◌∙◌, arith, append_assoc, if◌then◌else◌, ◌==◌, nat_tests, filter_map, option_and_then, option_map, option_map_or, option_to_list, SeqStep, Start, AreStarted, ancestors_of, name_at, numbered, parent_of, with_step, AncestorsByParents, LiveIsStarted, StepsChangeAlone}
use Rattle.uvm_sequences.proofs.Unders.{ancestors-none, ancestors-parent, parent-older}

by_parent : (started : List Start) (id : ℕ) (found : Option ℕ) → parent_of started id ≡ found → IfSome found (λ parent. parent < id) → ancestors_of started id ≡ option_map_or (λ parent. parent ∷ ancestors_of started parent) found []
by_parent started id None is older = ancestors-none started id is
by_parent started id (Some parent) is older = ancestors-parent started id parent older is

pub ancestors_by_parents : AncestorsByParents
ancestors_by_parents started are id = by_parent started id (parent_of started id) refl (parent-older started id are)

-- a sequence and its ancestors, if there is one
abbrev pub lineage : List Start → Option ℕ → List ℕ
lineage started None = []
lineage started (Some id) = id ∷ ancestors_of started id

-- it is the sequence, and then its parent with its ancestors
parents_by : (started : List Start) (parent : Option ℕ) → option_map_or (λ above. above ∷ ancestors_of started above) parent [] ≡ lineage started parent
parents_by started None = refl
parents_by started (Some parent) = refl

pub lineage-parent : (started : List Start) (id : ℕ) → AreStarted started → lineage started (Some id) ≡ id ∷ lineage started (parent_of started id)
lineage-parent started id are = ap (λ above. id ∷ above) (ancestors_by_parents started are id ∙ parents_by started (parent_of started id))

-- the name of its first goes before the names of the others
joined : (started : List Start) (id : ℕ) (names : List (List ℕ)) (above : List ℕ) (found : Option (List ℕ)) → name_at started id ≡ found → (names ++ option_to_list found) ++ filter_map (name_at started) above ≡ names ++ filter_map (name_at started) (id ∷ above)
joined started id names above None is = rw is (append_assoc names [] (filter_map (name_at started) above))
joined started id names above (Some name) is = rw is (append_assoc names (name ∷ []) (filter_map (name_at started) above))

pub names-parent : (started : List Start) (id : ℕ) (names : List (List ℕ)) → AreStarted started
    → (names ++ option_to_list (name_at started id)) ++ filter_map (name_at started) (lineage started (parent_of started id)) ≡ names ++ filter_map (name_at started) (lineage started (Some id))
names-parent started id names are =
    joined started id names (lineage started (parent_of started id)) (name_at started id) refl ∙ ap (λ up. names ++ filter_map (name_at started) up) (sym (lineage-parent started id are))

-- lists of one length have the same numbers
as_long_by : {X Y : Type 0} (y : Y) (xs : Option X) (ys : Option Y) (x : X) (b : Bool) → (IsSome xs → IsSome ys) → IsSome (if b then Some x else xs) → IsSome (if b then Some y else ys)
as_long_by y xs ys x true rest some = refl
as_long_by y xs ys x false rest some = rest some

as-long : {X Y : Type 0} (xs : List X) (ys : List Y) (n : ℕ) → length xs ≡ length ys → IsSome (numbered xs n) → IsSome (numbered ys n)
as-long [] ys n size some = absurd cc
as-long (x ∷ xs) [] n size some = absurd (omega arith)
as-long (x ∷ xs) (y ∷ ys) n size some =
    as_long_by y (numbered xs n) (numbered ys n) x (n == length (y ∷ ys)) (as-long xs ys n (omega arith)) (rw size at some)

found-step : (found : Option (Option SeqStep)) → IsSome (option_and_then (λ step. step) found) → IsSome found
found-step None some = absurd cc
found-step (Some step) some = refl

pub live_is_started : LiveIsStarted
live_is_started s are id live = as-long s.steps s.started id are.steps (found-step (numbered s.steps id) live)

-- one written
size_by : (step s : Option SeqStep) (older : List (Option SeqStep)) (rest : List (Option SeqStep)) (b : Bool) → length rest ≡ length older → length (if b then step ∷ older else s ∷ rest) ≡ length (s ∷ older)
size_by step s older rest true size = omega arith
size_by step s older rest false size = omega arith

size : (id : ℕ) (step : Option SeqStep) (steps : List (Option SeqStep)) → length (with_step id step steps) ≡ length steps
size id step [] = refl
size id step (s ∷ older) = size_by step s older (with_step id step older) (id == length (s ∷ older)) (size id step older)

module _ (id other : ℕ) (step s : Option SeqStep) (older : List (Option SeqStep)) where
  abbrev changed : Option (Option SeqStep) → Option (Option SeqStep)
  changed found = if other == id then option_map (λ _. step) found else found

  at_last : (a b : Bool) → (id == length (s ∷ older)) ≡ true → (other == id) ≡ a → (other == length (s ∷ older)) ≡ b
      → (if b then Some step else numbered older other) ≡ (if a then option_map (λ _. step) (if b then Some s else numbered older other) else (if b then Some s else numbered older other))
  at_last true true e f g = refl
  at_last true false e f g = let one : id ≡ length (s ∷ older) = grind (arith, nat_tests) in let two : other ≡ id = grind (arith, nat_tests) in let no : (other == length (s ∷ older)) ≡ true = grind (arith, nat_tests) in absurd cc
  at_last false true e f g = let one : id ≡ length (s ∷ older) = grind (arith, nat_tests) in let two : other ≡ length (s ∷ older) = grind (arith, nat_tests) in let no : (other == id) ≡ true = grind (arith, nat_tests) in absurd cc
  at_last false false e f g = refl

  before_last : (a b : Bool) → (id == length (s ∷ older)) ≡ false → (other == id) ≡ a → (other == length (s ∷ older)) ≡ b
      → (if b then Some s else (if a then option_map (λ _. step) (numbered older other) else numbered older other)) ≡ (if a then option_map (λ _. step) (if b then Some s else numbered older other) else (if b then Some s else numbered older other))
  before_last true true e f g = let one : other ≡ id = grind (arith, nat_tests) in let two : other ≡ length (s ∷ older) = grind (arith, nat_tests) in let no : (id == length (s ∷ older)) ≡ true = grind (arith, nat_tests) in absurd cc
  before_last true false e f g = refl
  before_last false true e f g = refl
  before_last false false e f g = refl

  written_by : (l : Bool) → (id == length (s ∷ older)) ≡ l → numbered (with_step id step older) other ≡ changed (numbered older other)
      → numbered (if l then step ∷ older else s ∷ with_step id step older) other ≡ changed (numbered (s ∷ older) other)
  written_by true e rest = at_last (other == id) (other == length (s ∷ older)) e refl refl
  written_by false e rest =
      ap (λ n. if other == suc n then Some s else numbered (with_step id step older) other) (size id step older)
      ∙ ap (λ found. if other == length (s ∷ older) then Some s else found) rest
      ∙ before_last (other == id) (other == length (s ∷ older)) e refl refl

none_same : (a : Bool) (step : Option SeqStep) → None ≡ (if a then option_map {T = Option SeqStep} (λ _. step) None else None)
none_same true step = refl
none_same false step = refl

pub steps_change_alone : StepsChangeAlone
steps_change_alone [] id step other = none_same (other == id) step
steps_change_alone (s ∷ older) id step other = written_by id other step s older (id == length (s ∷ older)) refl (steps_change_alone older id step other)
