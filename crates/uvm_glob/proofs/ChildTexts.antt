-- The path of a child, as one text and another.
use Rattle.uvm_glob.proofs.Common.{◌≡◌, ℕ, ◌+◌, ◌≤◌, List, [], ◌∷◌, ◌++◌, length, None, ◌∙◌, sym, ap, ltb-false, most_name_bytes, name_fault, names_of, path_fault, dotted, size_fault}
use Rattle.uvm_glob.proofs.PathTexts.{no_name_fault, names_of-name, fault-name, names_of-dotted, fault-dotted}

-- a name is short
pub name-short : (name : List ℕ) → name_fault name ≡ None → length name ≤ most_name_bytes
unfolding name_fault
name-short name good = ltb-false most_name_bytes (length name) (no_name_fault _ _ _ good).1

-- the names of a path with one more
one-more : (front name : List ℕ) → name_fault name ≡ None → names_of front ++ names_of name ≡ names_of front ++ name ∷ []
one-more front name good = ap (λ (names : List (List ℕ)). names_of front ++ names) (names_of-name name good)

as-path : (name : List ℕ) → name_fault name ≡ None → path_fault (names_of name) ≡ None
as-path name good = rw (names_of-name name good) (fault-name name good)

-- the fault of a child's path lies in its size
pub child-fault : (front name : List ℕ) → path_fault (names_of front) ≡ None → name_fault name ≡ None → path_fault (names_of front ++ name ∷ []) ≡ size_fault (length (dotted front name)) (length (names_of front) + length (names_of name))
child-fault front name path good = ap path_fault (sym (one-more front name good)) ∙ fault-dotted front name path (as-path name good)

pub child-names : (front name : List ℕ) → path_fault (names_of front) ≡ None → name_fault name ≡ None → path_fault (names_of front ++ name ∷ []) ≡ None → names_of (dotted front name) ≡ names_of front ++ name ∷ []
child-names front name path good fine =
    names_of-dotted front name path (as-path name good) (ap path_fault (one-more front name good) ∙ fine) ∙ one-more front name good
