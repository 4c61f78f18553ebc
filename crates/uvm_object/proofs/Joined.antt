-- Names with a dot between each two: the first, and then each other behind a dot.
use Rattle.std.proofs.Common.{◌≡◌, ◌≤◌, ◌∙◌, ℕ, List, [], ◌∷◌, ◌++◌, length, drop, ap, refl, sym, subst, append_assoc, codes}
use Rattle.std.proofs.lemmas.Bool.{and_from}
use Rattle.std.proofs.lemmas.List.{append-nil, drop_all}
use Rattle.std.proofs.lemmas.List.Folds.{list_all-append}
use Rattle.std.specs.List.{flat_map, list_all}
use Rattle.uvm_glob.specs.Paths.{path_text}
use Rattle.uvm_glob.specs.Printed.{IsPrinted, is_printed_byte}
use Rattle.uvm_object.specs.Sources.{sequence_text, shown_path}
use Rattle.uvm_sequences.specs.Sequences.{Start, names_of}
use Rattle.uvm_tree.specs.Nodes.{Node, path_at}

abbrev pub behind_dot : List ℕ → List ℕ
behind_dot name = 46 ∷ name

pub path_text-cons : (first : List ℕ) (others : List (List ℕ)) → path_text (first ∷ others) ≡ first ++ flat_map behind_dot others
path_text-cons first [] = sym (append-nil first)
path_text-cons first (next ∷ others) = ap (λ rest. first ++ 46 ∷ rest) (path_text-cons next others)

-- once none is left
pub ends : (before line : List ℕ) (first : List ℕ) (names others : List (List ℕ)) (i : ℕ) → names ≡ first ∷ others → length others ≤ i → line ++ flat_map behind_dot (drop i others) ≡ (before ++ first) ++ flat_map behind_dot others → line ≡ before ++ path_text names
ends before line first names others i whole over left =
    let none : drop i others ≡ [] = drop_all i others over in
    let last : line ++ [] ≡ (before ++ first) ++ flat_map behind_dot others = rw none at left in
    sym (append-nil line) ∙ (last ∙ (append_assoc before first (flat_map behind_dot others) ∙ rw whole (ap (λ t. before ++ t) (sym (path_text-cons first others)))))

-- WHAT IS PRINTED

pub printed-append : (front back : List ℕ) → IsPrinted front → IsPrinted back → IsPrinted (front ++ back)
printed-append front back one more = list_all-append is_printed_byte front back ∙ and_from (list_all is_printed_byte front) (list_all is_printed_byte back) one more

-- the names that are left from a place on, with the one there
pub more-printed : (others : List (List ℕ)) (i : ℕ) (name : List ℕ) (rest : List (List ℕ)) → drop i others ≡ name ∷ rest → IsPrinted name → IsPrinted (flat_map behind_dot rest) → IsPrinted (flat_map behind_dot (drop i others))
more-printed others i name rest here one more =
    subst (λ names. IsPrinted (flat_map behind_dot names)) (sym here) (printed-append (46 ∷ name) (flat_map behind_dot rest) one more)

-- once none is left
pub ends-printed : (first : List ℕ) (names others : List (List ℕ)) (i : ℕ) → names ≡ first ∷ others → length others ≤ i → IsPrinted first → (IsPrinted (flat_map behind_dot (drop i others)) → IsPrinted (flat_map behind_dot others)) → IsPrinted (path_text names)
ends-printed first names others i whole over one all =
    let none : drop i others ≡ [] = drop_all i others over in
    let last : IsPrinted (flat_map behind_dot others) = all (subst (λ left. IsPrinted (flat_map behind_dot left)) (sym none) refl) in
    subst (λ both. IsPrinted (path_text both)) (sym whole) (subst IsPrinted (sym (path_text-cons first others)) (printed-append first (flat_map behind_dot others) one last))

-- a sequence, by its home and its names
pub sequence_printed : (nodes : List Node) (started : List Start) (id home : ℕ) → IsPrinted (shown_path (path_at nodes home)) → IsPrinted (path_text (names_of started id)) → IsPrinted (sequence_text nodes started id home)
sequence_printed nodes started id home place names =
    printed-append (shown_path (path_at nodes home) ++ codes "@@") (path_text (names_of started id)) (printed-append (shown_path (path_at nodes home)) (codes "@@") place refl) names
