-- Who stands under whom.
use Rattle.uvm_sequences.proofs.Common.{◌≡◌, ◌≤◌, ◌<◌, ℕ, Bool, true, false, List, [], ◌∷◌, length, Option, Some, None, IsSome, IfSome, refl, sym, ap, subst, ◌∙◌, arith, if◌then◌else◌, ◌==◌, ◌||◌, nat_tests, list_any, option_and_then, option_map_or, ForSome, Start, numbered, parent_of, ancestors_of, is_under, AreStarted, AncestorsStay}
use Rattle.uvm_sequences.proofs.Numbers.{numbered-within}

not_last : (n m : ℕ) → n < m → (n == m) ≡ false
not_last n m less = grind (arith, nat_tests)

not_same : (n m : ℕ) → n < m → (m == n) ≡ false
not_same n m less = grind (arith, nat_tests)

same : (id : ℕ) → (id == id) ≡ true
same id = grind (arith, nat_tests)

-- an older one has the same ancestors, whoever is started
pub ancestors-older : (start : Start) (older : List Start) (id : ℕ) → id ≤ length older → ancestors_of (start ∷ older) id ≡ ancestors_of older id
ancestors-older start older id old = rw (not_last id (length (start ∷ older)) (omega arith)) refl

pub ancestors_stay : AncestorsStay
ancestors_stay start started id old = ancestors-older start started id old

there-more : (found : Option Start) (parent : ℕ) → option_and_then (λ s. s.parent) found ≡ Some parent → IsSome found
there-more None parent is = absurd cc
there-more (Some s) parent is = refl

there : (older : List Start) (id parent : ℕ) → parent_of older id ≡ Some parent → IsSome (numbered older id)
there older id parent is = there-more (numbered older id) parent is

if_some : (o : Option ℕ) (P : ℕ → Type 0) → ForSome o P → IfSome o P
if_some None P h = tt
if_some (Some p) P h = h p refl

module _ (start : Start) (older : List Start) (id : ℕ) where
  -- what is said of one is said by the test whether it is the newest
  abbrev parent_by : Bool → Option ℕ
  parent_by b = option_and_then (λ s. s.parent) (if b then Some start else numbered older id)

  abbrev ancestors_by : Bool → List ℕ
  ancestors_by b = if b then option_map_or (λ p. p ∷ ancestors_of older p) start.parent [] else ancestors_of older id

  through : (parent : ℕ) (b : Bool)
      → (id == length (start ∷ older)) ≡ b
      → (parent_of older id ≡ Some parent → ancestors_of older id ≡ parent ∷ ancestors_of older parent)
      → parent < id → parent_by b ≡ Some parent
      → ancestors_by b ≡ parent ∷ ancestors_of (start ∷ older) parent
  through parent true e rest less is =
      let same : id ≡ length (start ∷ older) = grind (arith, nat_tests) in
      ap (λ o. option_map_or (λ p. p ∷ ancestors_of older p) o []) is
      ∙ ap (λ l. parent ∷ l) (sym (ancestors-older start older parent (omega arith)))
  through parent false e rest less is =
      let old : id ≤ length older = numbered-within older id (there older id parent is) in
      rest is ∙ ap (λ l. parent ∷ l) (sym (ancestors-older start older parent (omega arith)))

  orphan : (b : Bool) → (parent_of older id ≡ None → ancestors_of older id ≡ []) → parent_by b ≡ None → ancestors_by b ≡ []
  orphan true rest is = ap (λ o. option_map_or (λ p. p ∷ ancestors_of older p) o []) is
  orphan false rest is = rest is

  parent_less : (b : Bool) → (id == length (start ∷ older)) ≡ b
      → ForSome start.parent (λ parent. parent < length (start ∷ older))
      → IfSome (parent_of older id) (λ parent. parent < id)
      → IfSome (parent_by b) (λ parent. parent < id)
  parent_less true e first rest =
      let same : length (start ∷ older) ≡ id = grind (arith, nat_tests) in
      if_some start.parent (λ parent. parent < id) (rw (← same) first)
  parent_less false e first rest = rest

-- the ancestors are the parent and its ancestors
pub ancestors-parent : (started : List Start) (id parent : ℕ) → parent < id → parent_of started id ≡ Some parent → ancestors_of started id ≡ parent ∷ ancestors_of started parent
ancestors-parent [] id parent less is = absurd cc
ancestors-parent (start ∷ older) id parent less is =
    through start older id parent (id == length (start ∷ older)) refl (λ h. ancestors-parent older id parent less h) less is

pub ancestors-none : (started : List Start) (id : ℕ) → parent_of started id ≡ None → ancestors_of started id ≡ []
ancestors-none [] id is = refl
ancestors-none (start ∷ older) id is = orphan start older id (id == length (start ∷ older)) (λ h. ancestors-none older id h) is

-- parents are older
pub parent-older : (started : List Start) (id : ℕ) → AreStarted started → IfSome (parent_of started id) (λ parent. parent < id)
parent-older [] id are = tt
parent-older (start ∷ older) id are = parent_less start older id (id == length (start ∷ older)) refl are.0 (parent-older older id are.2)

-- and so are all ancestors
abbrev pub is_among : ℕ → List ℕ → Bool
is_among above ancestors = list_any (λ ancestor. ancestor == above) ancestors

of_parent : (older : List Start) (size above : ℕ) (parent : Option ℕ) → size ≤ above → ForSome parent (λ p. p < size)
    → ((p : ℕ) → p < size → is_among above (ancestors_of older p) ≡ false)
    → is_among above (option_map_or (λ p. p ∷ ancestors_of older p) parent []) ≡ false
of_parent older size above None small first rest = refl
of_parent older size above (Some p) small first rest =
    let less : p < size = first p refl in
    ap (λ b. b || is_among above (ancestors_of older p)) (not_last p above (omega arith)) ∙ rest p less

none_by : (start : Start) (older : List Start) (id above : ℕ) (b : Bool) → (id == length (start ∷ older)) ≡ b → id ≤ above
    → ForSome start.parent (λ parent. parent < length (start ∷ older))
    → ((n : ℕ) → n ≤ above → is_among above (ancestors_of older n) ≡ false)
    → is_among above (ancestors_by start older id b) ≡ false
none_by start older id above true e small first rest =
    let same : id ≡ length (start ∷ older) = grind (arith, nat_tests) in
    of_parent older (length (start ∷ older)) above start.parent (omega arith) first (λ p less. rest p (omega arith))
none_by start older id above false e small first rest = rest id small

pub none-newer : (started : List Start) (id above : ℕ) → AreStarted started → id ≤ above → is_among above (ancestors_of started id) ≡ false
none-newer [] id above are small = refl
none-newer (start ∷ older) id above are small =
    none_by start older id above (id == length (start ∷ older)) refl small are.0 (λ n h. none-newer older n above are.2 h)

-- a newer one stands under the same as its parent
pub under-parent : (started : List Start) (id above parent : ℕ) → above < id → parent < id → parent_of started id ≡ Some parent → is_under started id above ≡ is_under started parent above
under-parent started id above parent newer less is =
    ap (λ l. (id == above) || is_among above l) (ancestors-parent started id parent less is)
    ∙ ap (λ b. b || ((parent == above) || is_among above (ancestors_of started parent))) (not_same above id newer)

-- who has no parent stands under no other
pub under-none : (started : List Start) (id above : ℕ) → above < id → parent_of started id ≡ None → is_under started id above ≡ false
under-none started id above newer is =
    ap (λ l. (id == above) || is_among above l) (ancestors-none started id is)
    ∙ ap (λ b. b || false) (not_same above id newer)

-- who is not newer stands under none but itself
pub under-same : (started : List Start) (id above : ℕ) → AreStarted started → id ≤ above → is_under started id above ≡ (id == above)
under-same started id above are small = ap (λ b. (id == above) || b) (none-newer started id above are small) ∙ or_false (id == above)
  where
    or_false : (b : Bool) → (b || false) ≡ b
    or_false true = refl
    or_false false = refl

-- each stands under itself
pub under-itself : (started : List Start) (id : ℕ) → is_under started id id ≡ true
under-itself started id = ap (λ b. b || is_among id (ancestors_of started id)) (same id)

-- each has a priority
positive_by : (start found : Start) (rest : Option Start) (b : Bool) → 0 < start.priority → (rest ≡ Some found → 0 < found.priority) → (if b then Some start else rest) ≡ Some found → 0 < found.priority
positive_by start found rest true first older is = let same : start ≡ found = cc in subst (λ (s : Start). 0 < s.priority) same first
positive_by start found rest false first older is = older is

pub positive-priority : (started : List Start) (id : ℕ) (found : Start) → AreStarted started → numbered started id ≡ Some found → 0 < found.priority
positive-priority [] id found are is = absurd cc
positive-priority (start ∷ older) id found are is =
    positive_by start found (numbered older id) (id == length (start ∷ older)) are.1 (λ h. positive-priority older id found are.2 h) is
