-- The entries of a table, as keys and what stands there.
use Rattle.script_objects.proofs.Common.{◌≡◌, ◌∙◌, refl, ap, ℕ, List, [], ◌∷◌, ◌++◌, map, String, string_bytes, Global, Data, member, members_of, view, Value, RuleValue, data_of, entry_in, entry_of, members_from}

pub members_same : (entries : List (String Global × Value)) → members_of (map (λ m. (m.0, view m.1)) entries) ≡ members_from (map entry_in entries)
members_same [] = refl
members_same (entry ∷ entries) = ap (member (string_bytes entry.0) (view entry.1)) (members_same entries)

-- one more rule stands for the next entry
pub one-read : (rules : List RuleValue) (rule : RuleValue) (entry : String Global × Value) (left : List (String Global × Value)) (all : List (List ℕ × Data)) → rule.key ≡ string_bytes entry.0 → data_of rule ≡ view entry.1
    → map entry_of rules ++ map entry_in (entry ∷ left) ≡ all → map entry_of (rules ++ rule ∷ []) ++ map entry_in left ≡ all
one-read [] rule entry left all key said is = rw (key, said) is
one-read (other ∷ rules) rule entry left all key said is =
    ap (λ (entries : List (List ℕ × Data)). entry_of other ∷ entries) (one-read rules rule entry left (map entry_of rules ++ map entry_in (entry ∷ left)) key said refl) ∙ is
