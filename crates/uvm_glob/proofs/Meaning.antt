-- The test `matches` says what the relation `Matches` says.
use Rattle.uvm_glob.proofs.Common.{◌≡◌, ◌≢◌, ◌↔◌, inl, inr, ℕ, Bool, true, false, cond, ◌==◌, MatchBool, List, [], ◌∷◌, ◌++◌, length, refl, sym, ap, arith, eq-eqb, list_any, or_cases, or_left, or_right, and_parts, and_from, nil_from_length, SomeSplit, Matches, rests_of, after_one, matches, eqb-true}

-- a split of the text is one of the longer text
longer_split : (b : ℕ) (text : List ℕ) (Q : List ℕ → Type 0) → SomeSplit text (λ u v. Q v) → SomeSplit (b ∷ text) (λ u v. Q v)
longer_split b text Q (u, v, e, q) = (b ∷ u, v, ap (λ xs. b ∷ xs) e, q)

-- a rest that passes is the second part of a split
split_from_rests : (p : List ℕ → Bool) (Q : List ℕ → Type 0) → ((v : List ℕ) → p v ≡ true → Q v) → (text : List ℕ) → list_any p (rests_of text) ≡ true → SomeSplit text (λ u v. Q v)
split_from_rests p Q tells [] h =
    elim (or_cases (p []) false h) [ inl e ↦ ([], [], refl, tells [] e) | inr e ↦ cc ]
split_from_rests p Q tells (b ∷ text) h =
    elim (or_cases (p (b ∷ text)) (list_any p (rests_of text)) h) [
      | inl e ↦ ([], b ∷ text, refl, tells (b ∷ text) e)
      | inr e ↦ longer_split b text Q (split_from_rests p Q tells text e)
    ]

-- the second part of a split is one of the rests
rests_from_split : (p : List ℕ → Bool) (u v : List ℕ) → p v ≡ true → list_any p (rests_of (u ++ v)) ≡ true
rests_from_split p [] [] h = or_left (p []) false h
rests_from_split p [] (b ∷ v) h = or_left (p (b ∷ v)) (list_any p (rests_of v)) h
rests_from_split p (b ∷ u) v h = or_right (p (b ∷ (u ++ v))) (list_any p (rests_of (u ++ v))) (rests_from_split p u v h)

-- the tests say what the facts say, and so does a choice of them
choose : (q : Bool) {s t : Bool} {A B : Type 0} → (s ≡ true) ↔ A → (t ≡ true) ↔ B → (cond q s t ≡ true) ↔ MatchBool q A B
choose true one other = one
choose false one other = other

-- zero or more characters
any_split : (p : List ℕ → Bool) (Q : List ℕ → Type 0) → ((v : List ℕ) → (p v ≡ true) ↔ Q v) → (text : List ℕ) → (list_any p (rests_of text) ≡ true) ↔ SomeSplit text (λ u v. Q v)
any_split p Q means text = (
  split_from_rests p Q (λ v. (means v).0) text,
  λ (u, v, e, q). rw e (rests_from_split p u v ((means v).1 q)),
)

-- one or more characters
more_split : (p : List ℕ → Bool) (Q : List ℕ → Type 0) → ((v : List ℕ) → (p v ≡ true) ↔ Q v) → (text : List ℕ) → (after_one (λ _. true) (λ left. list_any p (rests_of left)) text ≡ true) ↔ SomeSplit text (λ u v. (u ≢ []) × Q v)
more_split p Q means text = (gives text, λ (u, v, e, (some, q)). rw e (from u v some q))
  where
    gives : (text : List ℕ) → after_one (λ _. true) (λ left. list_any p (rests_of left)) text ≡ true → SomeSplit text (λ u v. (u ≢ []) × Q v)
    gives [] h = cc
    gives (b ∷ text) h =
        let (u, v, e, q) = split_from_rests p Q (λ v. (means v).0) text h in
        (b ∷ u, v, ap (λ xs. b ∷ xs) e, ((λ none. cc), q))

    from : (u v : List ℕ) → (u ≢ []) → Q v → after_one (λ _. true) (λ left. list_any p (rests_of left)) (u ++ v) ≡ true
    from [] v some q = absurd (some refl)
    from (b ∷ u) v some q = rests_from_split p u v ((means v).1 q)

-- exactly one character
one_split : (p : List ℕ → Bool) (Q : List ℕ → Type 0) → ((v : List ℕ) → (p v ≡ true) ↔ Q v) → (text : List ℕ) → (after_one (λ _. true) p text ≡ true) ↔ SomeSplit text (λ u v. (length u ≡ 1) × Q v)
one_split p Q means text = (gives text, λ (u, v, e, (one, q)). rw e (from u v one q))
  where
    gives : (text : List ℕ) → after_one (λ _. true) p text ≡ true → SomeSplit text (λ u v. (length u ≡ 1) × Q v)
    gives [] h = cc
    gives (b ∷ v) h = (b ∷ [], v, refl, (refl, (means v).0 h))

    from : (u v : List ℕ) → length u ≡ 1 → Q v → after_one (λ _. true) p (u ++ v) ≡ true
    from [] v one q = absurd (omega arith)
    from (b ∷ []) v one q = (means v).1 q
    from (b ∷ (d ∷ u)) v one q = absurd (omega arith)

-- the character c
same_split : (c : ℕ) (p : List ℕ → Bool) (Q : List ℕ → Type 0) → ((v : List ℕ) → (p v ≡ true) ↔ Q v) → (text : List ℕ) → (after_one (λ b. c == b) p text ≡ true) ↔ SomeSplit text (λ u v. (u ≡ c ∷ []) × Q v)
same_split c p Q means text =
    (gives text, λ (u, v, e, (one, q)). rw (e, one) (and_from (c == c) (p v) (eq-eqb c c refl) ((means v).1 q)))
  where
    gives : (text : List ℕ) → after_one (λ b. c == b) p text ≡ true → SomeSplit text (λ u v. (u ≡ c ∷ []) × Q v)
    gives [] h = cc
    gives (b ∷ v) h =
        let both = and_parts (c == b) (p v) h in
        (b ∷ [], v, refl, (ap (λ x. x ∷ []) (sym (eqb-true c b both.0)), (means v).0 both.1))

-- a glob matches just where the test says so
pub matches_means : (glob text : List ℕ) → (matches glob text ≡ true) ↔ Matches glob text
unfolding matches
matches_means [] text = (λ h. nil_from_length text (eqb-true (length text) 0 h), λ e. eq-eqb (length text) 0 (ap length e))
matches_means (c ∷ rest) text =
    let means = λ (v : List ℕ). matches_means rest v in
    choose (c == 42) (any_split (matches rest) (Matches rest) means text)
    (choose (c == 43) (more_split (matches rest) (Matches rest) means text)
    (choose (c == 63) (one_split (matches rest) (Matches rest) means text)
    (same_split c (matches rest) (Matches rest) means text)))
