-- One more type behind those that were read.
use Rattle.script_objects.proofs.Common.{List, [], ◌∷◌, ◌++◌, ◌≡◌, String, map, string_bytes, subst, sym, Global, members_view, view, Value, TypeValue, AreRulesOf, AreTypesOf, entry_in, members_from}
use Rattle.script_objects.proofs.Entries.{members_same}

-- the types are those of some entries
abbrev pub AreOf : List (String Global × Value) → List TypeValue → Type 0
AreOf entries types = AreTypesOf (members_from (map entry_in entries)) types

pub one-more : (entries : List (String Global × Value)) (types : List TypeValue) (entry : String Global × Value) (rules : TypeValue) → AreOf entries types
    → rules.type_name ≡ string_bytes entry.0 → AreRulesOf (view entry.1) rules.rules → AreOf (entries ++ entry ∷ []) (types ++ rules ∷ [])
one-more [] [] entry rules are name table = (name, table, tt)
one-more [] (other ∷ types) entry rules are name table = absurd are
one-more (other ∷ entries) [] entry rules are name table = absurd are
one-more (other ∷ entries) (others ∷ types) entry rules are name table = (are.0, are.1, one-more entries types entry rules are.2 name table)

-- once no entry is left, the types are those of the table
pub all-read : (entries done : List (String Global × Value)) (types : List TypeValue) → done ≡ entries → AreOf done types → AreTypesOf (members_view entries) types
all-read entries done types is are =
    subst (λ members. AreTypesOf members types) (sym (members_same entries)) (subst (λ of. AreOf of types) is are)
