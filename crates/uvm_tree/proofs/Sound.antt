-- The paths of a tree have no fault.
use Rattle.uvm_tree.proofs.Common.{◌≡◌, ◌∷◌, ◌++◌, ◌∙◌, ℕ, Bool, true, false, List, [], Option, Some, None, OnSome, is_some, refl, ap, sym, All-push, first_given, fault_if, path_fault, NoParent, NameTaken, TooDeep, Full, NodeKind, Node, AreNodes, AreSound, add_fault, child, number_at, path_at, top}
use Rattle.uvm_tree.proofs.Finding.{found-at, read_path}

-- where none of four faults is given, the third is not there
third-none : (a b c d : Bool) → first_given (fault_if a NoParent ∷ fault_if b NameTaken ∷ fault_if c TooDeep ∷ fault_if d Full ∷ []) ≡ None → c ≡ false
third-none true b c d e = cc
third-none false true c d e = cc
third-none false false true d e = cc
third-none false false false d e = refl

none-given : {A : Type 0} (o : Option A) → is_some o ≡ false → o ≡ None
none-given None e = refl
none-given (Some a) e = cc

-- one more node that may be added has none
pub sound-added : (nodes : List Node) (parent : ℕ) (name : List ℕ) (kind : NodeKind) → add_fault nodes parent name ≡ None → AreSound nodes → AreSound (nodes ++ child nodes parent name kind ∷ [])
unfolding add_fault
sound-added nodes parent name kind free sound =
    All-push (λ node. path_fault node.path ≡ None) nodes (child nodes parent name kind) sound
    (none-given (path_fault (path_at nodes parent ++ name ∷ [])) (third-none _ _ _ _ free))

-- what is found at a path shows that it has no fault
pub found_sound : (nodes : List Node) → AreNodes nodes → AreSound nodes → (path : List (List ℕ)) (found : Option ℕ) → found ≡ number_at nodes path → OnSome found (path_fault path ≡ None)
found_sound nodes are sound path None e = tt
found_sound nodes are sound path (Some n) e =
    let found = found-at nodes are n path (sym e) in
    ap path_fault (sym (sym (read_path nodes n top found.0) ∙ found.1)) ∙ sound n top found.0
