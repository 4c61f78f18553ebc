-- A path that goes on.
use Rattle.world_sequencing.proofs.Common.{◌≡◌, ℕ, ◌+◌, ◌<◌, ◌≤◌, get_or, Bool, true, false, not, ◌||◌, ◌&&◌, nat_eq, List, [], ◌∷◌, ◌++◌, length, take, drop, nat_lt, Option, Some, IsSome, refl, ap, ◌∙◌, sym, subst, arith, append_assoc, length-append, list_any, list_all, nat_tests, take-append-drop, take_more, list_all-append, list_any-append, PathFault, Empty, TooLong, BadByte, TooDeep, Memory, fault_if, refusal, first_given, most_name_bytes, is_name_byte, path_fault, path_text, MayFail}

abbrev faults : Bool → Bool → Bool → Bool → Bool → Option PathFault
faults empty long text bytes deep = first_given (fault_if empty Empty ∷ fault_if (long || text) TooLong ∷ fault_if (not bytes) BadByte ∷ fault_if deep TooDeep ∷ [])

-- what is wrong with the front is wrong with the whole
faults-more :
    (a b c d e a' b' c' d' e' : Bool) (fault : PathFault) → (a ≡ true → a' ≡ true) → (b ≡ true → b' ≡ true) → (c ≡ true → c' ≡ true) → (d ≡ false → d' ≡ false) → (e ≡ true → e' ≡ true)
    → faults a b c d e ≡ Some fault → IsSome (faults a' b' c' d' e')
faults-more a b c d e true b' c' d' e' fault ha hb hc hd he is = refl
faults-more a b c d e false true c' d' e' fault ha hb hc hd he is = refl
faults-more a b c d e false false true d' e' fault ha hb hc hd he is = refl
faults-more a b c d e false false false false e' fault ha hb hc hd he is = refl
faults-more a b c d e false false false true true fault ha hb hc hd he is = refl
faults-more true b c d e false false false true false fault ha hb hc hd he is = let no = ha refl in cc
faults-more false true c d e false false false true false fault ha hb hc hd he is = let no = hb refl in cc
faults-more false false true d e false false false true false fault ha hb hc hd he is = let no = hc refl in cc
faults-more false false false false e false false false true false fault ha hb hc hd he is = let no = hd refl in cc
faults-more false false false true true false false false true false fault ha hb hc hd he is = let no = he refl in cc
faults-more false false false true false false false false true false fault ha hb hc hd he is = cc

or-true : (a b : Bool) → a ≡ true → (a || b) ≡ true
or-true true b e = refl
or-true false b e = cc

and-false : (a b : Bool) → a ≡ false → (a && b) ≡ false
and-false true b e = cc
and-false false b e = refl

any-more : {X : Type 0} (p : X → Bool) (xs ys : List X) → list_any p xs ≡ true → list_any p (xs ++ ys) ≡ true
any-more p xs ys e = list_any-append p xs ys ∙ or-true (list_any p xs) (list_any p ys) e

all-fewer : {X : Type 0} (p : X → Bool) (xs ys : List X) → list_all p xs ≡ false → list_all p (xs ++ ys) ≡ false
all-fewer p xs ys e = list_all-append p xs ys ∙ and-false (list_all p xs) (list_all p ys) e

text-more : (front back : List (List ℕ)) → length (path_text front) ≤ length (path_text (front ++ back))
text-more [] back = omega arith
text-more (x ∷ []) [] = omega arith
text-more (x ∷ []) (y ∷ back) = let l = length-append x (46 ∷ path_text (y ∷ back)) in omega (arith, l)
text-more (x ∷ y ∷ front) back =
    let short = length-append x (46 ∷ path_text (y ∷ front)) in
    let long = length-append x (46 ∷ path_text (y ∷ front ++ back)) in
    let rest = text-more (y ∷ front) back in
    omega (arith, short, long, rest)

fault-more : (front back : List (List ℕ)) (fault : PathFault) → path_fault front ≡ Some fault → IsSome (path_fault (front ++ back))
unfolding path_fault
fault-more front back fault is =
    let text = text-more front back in
    let count = length-append front back in
    faults-more _ _ _ _ _ _ _ _ _ _ fault
    (any-more (λ name. nat_eq (length name) 0) front back)
    (any-more (λ name. nat_lt most_name_bytes (length name)) front back)
    (λ e. grind (arith, nat_tests, text))
    (all-fewer (list_all is_name_byte) front back)
    (λ e. grind (arith, nat_tests, count))
    is

pub longer-fails : (front back : List (List ℕ)) (fault : PathFault) → path_fault front ≡ refusal fault → MayFail (path_fault (front ++ back)) fault
longer-fails front back Empty is = fault-more front back Empty is
longer-fails front back TooLong is = fault-more front back TooLong is
longer-fails front back BadByte is = fault-more front back BadByte is
longer-fails front back TooDeep is = fault-more front back TooDeep is
longer-fails front back Memory is = tt

-- the names that are still to come
pub below-fails :
    (path names : List (List ℕ)) (i : ℕ) (parent name : List ℕ) (fault : PathFault) → i < length names → path_fault ((path ++ take i names) ++ get_or names i parent ∷ []) ≡ refusal fault → MayFail (path_fault (path ++ names ++ name ∷ [])) fault
below-fails path names i parent name fault lt is =
    let front = take i names ++ get_or names i parent ∷ [] in
    let more : take (i + 1) names ≡ front = take_more names i parent lt in
    let split : names ≡ front ++ drop (i + 1) names = sym (take-append-drop (i + 1) names) ∙ ap (λ (l : List (List ℕ)). l ++ drop (i + 1) names) more in
    let whole : (path ++ front) ++ (drop (i + 1) names ++ name ∷ []) ≡ path ++ names ++ name ∷ [] =
    sym (append_assoc (path ++ front) (drop (i + 1) names) (name ∷ [])) ∙ ap (λ (l : List (List ℕ)). l ++ name ∷ []) (append_assoc path front (drop (i + 1) names) ∙ ap (λ (l : List (List ℕ)). path ++ l) (sym split)) in
    let start : path_fault (path ++ front) ≡ refusal fault = ap path_fault (sym (append_assoc path (take i names) (get_or names i parent ∷ []))) ∙ is in
    subst (λ (l : List (List ℕ)). MayFail (path_fault l) fault) whole (longer-fails (path ++ front) (drop (i + 1) names ++ name ∷ []) fault start)
