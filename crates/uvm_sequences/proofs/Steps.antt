-- What is written of one sequence, and one sequence more.
use Rattle.uvm_sequences.proofs.Common.{◌≡◌, ◌<◌, ◌≤◌, ◌+◌, ℕ, zero, suc, Bool, true, false, List, [], ◌∷◌, ◌++◌, length, reverse, map, Option, Some, None, IsSome, refl, sym, ap, ◌∙◌, arith, slice_set, length-append, if◌then◌else◌, ◌==◌, nat_tests, slice_index_or, ForSome, reverse-append, map-set, map-append, length-map, length-reverse, map-set_same, Sequence, SeqStep, numbered, with_step, AreStarted, IsSequences, place_in, start_of, starts_of, steps_of}
use Rattle.uvm_sequences.proofs.Numbers.{numbered-within, place-number, same_suc}

abbrev Step : Type 0
Step = Option SeqStep

-- the oldest is written
oldest_by : (step x y : Step) (ys : List Step) (b : Bool) → (1 == length (y ∷ (ys ++ x ∷ []))) ≡ b → with_step 1 step (ys ++ x ∷ []) ≡ ys ++ step ∷ []
    → (if b then step ∷ (ys ++ x ∷ []) else y ∷ with_step 1 step (ys ++ x ∷ [])) ≡ y ∷ (ys ++ step ∷ [])
oldest_by step x y ys true e rest =
    let two : length (ys ++ x ∷ []) ≡ length ys + 1 = length-append ys (x ∷ []) in
    let more : 1 ≡ length (y ∷ (ys ++ x ∷ [])) = grind (arith, nat_tests) in
    absurd (omega arith)
oldest_by step x y ys false e rest = ap (λ l. y ∷ l) rest

oldest : (step x : Step) (ys : List Step) → with_step 1 step (ys ++ x ∷ []) ≡ ys ++ step ∷ []
oldest step x [] = refl
oldest step x (y ∷ ys) = oldest_by step x y ys (1 == length (y ∷ (ys ++ x ∷ []))) refl (oldest step x ys)

-- a newer one is written
newer_by : (k : ℕ) (step x y : Step) (ys : List Step) (b : Bool)
    → with_step (suc (suc k)) step (ys ++ x ∷ []) ≡ with_step (suc k) step ys ++ x ∷ []
    → (if b then step ∷ (ys ++ x ∷ []) else y ∷ with_step (suc (suc k)) step (ys ++ x ∷ [])) ≡ (if b then step ∷ ys else y ∷ with_step (suc k) step ys) ++ x ∷ []
newer_by k step x y ys true rest = refl
newer_by k step x y ys false rest = ap (λ l. y ∷ l) rest

size_more : (x y : Step) (ys : List Step) → length (y ∷ (ys ++ x ∷ [])) ≡ suc (length (y ∷ ys))
size_more x y ys = let more = length-append ys (x ∷ []) in omega (arith, more)

not_one : (k : ℕ) → (suc (suc k) == 1) ≡ false
not_one k = grind (arith, nat_tests)

newer : (k : ℕ) (step x : Step) (ys : List Step) → with_step (suc (suc k)) step (ys ++ x ∷ []) ≡ with_step (suc k) step ys ++ x ∷ []
newer k step x [] = rw (not_one k) refl
newer k step x (y ∷ ys) =
    ap (λ b. if b then step ∷ (ys ++ x ∷ []) else y ∷ with_step (suc (suc k)) step (ys ++ x ∷ [])) (ap (λ n. suc (suc k) == n) (size_more x y ys) ∙ same_suc (suc k) (length (y ∷ ys)))
    ∙ newer_by k step x y ys (suc k == length (y ∷ ys)) (newer k step x ys)

-- what is written at a place is the step of the number after it
pub set-reverse : (steps : List Step) (at : ℕ) (step : Step) → at < length steps → reverse (slice_set steps at step) ≡ with_step (suc at) step (reverse steps)
set-reverse [] at step within = absurd (omega arith)
set-reverse (s ∷ steps) zero step within =
    reverse-append (step ∷ []) steps ∙ sym (oldest step s (reverse steps)) ∙ ap (with_step 1 step) (sym (reverse-append (s ∷ []) steps))
set-reverse (s ∷ steps) (suc at) step within =
    reverse-append (s ∷ []) (slice_set steps at step)
    ∙ ap (λ l. l ++ s ∷ []) (set-reverse steps at step (omega arith))
    ∙ sym (newer at step s (reverse steps))
    ∙ ap (with_step (suc (suc at)) step) (sym (reverse-append (s ∷ []) steps))

-- where there is no such number nothing is written
absent_by : (id : ℕ) (step s : Step) (older : List Step) (b : Bool) → (id == length (s ∷ older)) ≡ b → length (s ∷ older) < id → with_step id step older ≡ older
    → (if b then step ∷ older else s ∷ with_step id step older) ≡ s ∷ older
absent_by id step s older true e past rest = let is : id ≡ length (s ∷ older) = grind (arith, nat_tests) in absurd (omega arith)
absent_by id step s older false e past rest = ap (λ l. s ∷ l) rest

past-all : (id : ℕ) (step : Step) (steps : List Step) → length steps < id → with_step id step steps ≡ steps
past-all id step [] past = refl
past-all id step (s ∷ older) past = absent_by id step s older (id == length (s ∷ older)) refl past (past-all id step older (omega arith))

zero_by : (step s : Step) (older : List Step) (b : Bool) → (0 == length (s ∷ older)) ≡ b → with_step 0 step older ≡ older → (if b then step ∷ older else s ∷ with_step 0 step older) ≡ s ∷ older
zero_by step s older true e rest = let is : 0 ≡ length (s ∷ older) = grind (arith, nat_tests) in absurd (omega arith)
zero_by step s older false e rest = ap (λ l. s ∷ l) rest

no-number : (step : Step) (steps : List Step) → with_step 0 step steps ≡ steps
no-number step [] = refl
no-number step (s ∷ older) = zero_by step s older (0 == length (s ∷ older)) refl (no-number step older)

pub written-none : (sequences : List Sequence) (id : ℕ) (step : Step) → place_in id ≡ None → steps_of sequences ≡ with_step id step (steps_of sequences)
written-none sequences zero step none = sym (no-number step (steps_of sequences))
written-none sequences (suc n) step none = absurd cc

size_of : (sequences : List Sequence) → length (steps_of sequences) ≡ length sequences
size_of sequences = length-reverse (map (λ (s : Sequence). s.step) sequences) ∙ length-map sequences (λ (s : Sequence). s.step)

pub written-past : (sequences : List Sequence) (id at : ℕ) (step : Step) → place_in id ≡ Some at → length sequences ≤ at → steps_of sequences ≡ with_step id step (steps_of sequences)
written-past sequences id at step place past =
    let number = place-number id at place in
    let size = size_of sequences in
    sym (past-all id step (steps_of sequences) (omega arith))

pub written-step : (sequences : List Sequence) (id at : ℕ) (sequence : Sequence) → place_in id ≡ Some at → at < length sequences → steps_of (slice_set sequences at sequence) ≡ with_step id sequence.step (steps_of sequences)
written-step sequences id at sequence place within =
    let steps = map (λ (s : Sequence). s.step) sequences in
    let size : at < length steps = simp length-map within in
    ap reverse (map-set (λ (s : Sequence). s.step) sequences at sequence)
    ∙ set-reverse steps at sequence.step size
    ∙ ap (λ n. with_step n sequence.step (reverse steps)) (sym (place-number id at place))

pub written-start : (sequences : List Sequence) (at : ℕ) (sequence was : Sequence) → was ≡ slice_index_or sequences at was → start_of sequence ≡ start_of was → starts_of (slice_set sequences at sequence) ≡ starts_of sequences
written-start sequences at sequence was is same = ap reverse (map-set_same start_of sequences at sequence was (same ∙ ap start_of is))

-- one more
pub starts-push : (sequences : List Sequence) (sequence : Sequence) → starts_of (sequences ++ sequence ∷ []) ≡ start_of sequence ∷ starts_of sequences
starts-push sequences sequence = ap reverse (map-append start_of sequences (sequence ∷ [])) ∙ reverse-append (map start_of sequences) (start_of sequence ∷ [])

pub steps-push : (sequences : List Sequence) (sequence : Sequence) → steps_of (sequences ++ sequence ∷ []) ≡ sequence.step ∷ steps_of sequences
steps-push sequences sequence = ap reverse (map-append (λ (s : Sequence). s.step) sequences (sequence ∷ [])) ∙ reverse-append (map (λ (s : Sequence). s.step) sequences) (sequence.step ∷ [])

pub started-push : (sequences : List Sequence) (sequence : Sequence) → AreStarted (starts_of sequences) → ForSome sequence.parent (λ parent. IsSome (numbered (starts_of sequences) parent)) → 0 < sequence.priority → AreStarted (starts_of (sequences ++ sequence ∷ []))
started-push sequences sequence are known positive =
    rw (starts-push sequences sequence) ((λ parent is. let h = numbered-within (starts_of sequences) parent (known parent is) in omega arith), positive, are)

-- what is kept is such sequences
pub are-sequences : (sequences : List Sequence) (spare : ℕ) → AreStarted (starts_of sequences) → IsSequences (record { started = starts_of sequences; steps = steps_of sequences; spare = spare })
are-sequences sequences spare are =
    let starts = length-reverse (map start_of sequences) ∙ length-map sequences start_of in
    record { started = are; steps = size_of sequences ∙ sym starts }
