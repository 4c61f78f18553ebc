-- A table of answers is that of no other types and rules.
use Rattle.script_objects.proofs.Common.{◌≡◌, ◌∙◌, ℕ, ◌<◌, refl, ap, sym, true, false, Bool, List, [], ◌∷◌, All, map, length, cond, arith, IsStrictWeakOrder, All-head, All-tail, filter, ties, is_lt, nat_cmp, nat_cmp_total, IsStrictWeakOrder-flip, ranks_by, Data, array, no_members, member, items_of, IsAlone, answer_act_line, TypeValue, fixed, AnswerActsTell, TablesTellTypes, RuleValue, is_longer, AreRulesOf, IsRead, answer_data, entry_of, members_from, only_data, answer_act_data, AnswerAct, Some}
use Rattle.script_objects.proofs.Unique.{same-in-order}

-- data of one form
items-same : (one other : List Data) → items_of one ≡ items_of other → one ≡ other
items-same [] [] same = refl
items-same [] (value ∷ other) same = cc
items-same (value ∷ one) [] same = cc
items-same (value ∷ one) (said ∷ other) same =
    let first : value ≡ said = cc in
    let rest : items_of one ≡ items_of other = cc in
    rw first (ap (λ (left : List Data). said ∷ left) (items-same one other rest))

array-same : (one other : List Data) → array (items_of one) ≡ array (items_of other) → one ≡ other
array-same one other same = let items : items_of one ≡ items_of other = cc in items-same one other items

-- values of which all parts are equal
entry-of : (key other : List ℕ) (value more : Data) → key ≡ other → value ≡ more → let one : List ℕ × Data = (key, value) in one ≡ (other, more)
entry-of key other value more keys values = rw (keys, values) refl

rule-of : (key other : List ℕ) (once later : Bool) (answers more : List (List AnswerAct)) → key ≡ other → once ≡ later → answers ≡ more
    → let one : RuleValue = record { key = key; once = once; answers = answers } in one ≡ record { key = other; once = later; answers = more }
rule-of key other once later answers more keys times said = rw (keys, times, said) refl

type-of : (name other : List ℕ) (rules more : List RuleValue) → name ≡ other → rules ≡ more
    → let one : TypeValue = record { type_name = name; rules = rules } in one ≡ record { type_name = other; rules = more }
type-of name other rules more names same = rw (names, same) refl

members-same : (one other : List (List ℕ × Data)) → members_from one ≡ members_from other → one ≡ other
members-same [] [] same = refl
members-same [] (entry ∷ other) same = cc
members-same (entry ∷ one) [] same = cc
members-same (entry ∷ one) (said ∷ other) same =
    let key : entry.0 ≡ said.0 = cc in
    let value : entry.1 ≡ said.1 = cc in
    let rest : members_from one ≡ members_from other = cc in
    let first : entry ≡ said = entry-of entry.0 said.0 entry.1 said.1 key value in
    rw first (ap (λ (left : List (List ℕ × Data)). said ∷ left) (members-same one other rest))

module _ (tell : AnswerActsTell) where
  answer_act-same : (one other : AnswerAct) → IsAlone one → IsAlone other → answer_act_data one ≡ answer_act_data other → one ≡ other
  answer_act-same one other alone others same = let text : answer_act_line other ≡ answer_act_line one = cc in tell other one others alone text

  answer-same : (one other : List AnswerAct) → All IsAlone one → All IsAlone other → map answer_act_data one ≡ map answer_act_data other → one ≡ other
  answer-same [] [] alone others same = refl
  answer-same [] (answer_act ∷ other) alone others same = cc
  answer-same (answer_act ∷ one) [] alone others same = cc
  answer-same (answer_act ∷ one) (said ∷ other) alone others same =
      let value : answer_act_data answer_act ≡ answer_act_data said = cc in
      let rest : map answer_act_data one ≡ map answer_act_data other = cc in
      let first : answer_act ≡ said = answer_act-same answer_act said (All-head IsAlone answer_act one alone) (All-head IsAlone said other others) value in
      rw first (ap (λ (left : List AnswerAct). said ∷ left) (answer-same one other (All-tail IsAlone answer_act one alone) (All-tail IsAlone said other others) rest))

  answer-of : (one other : List AnswerAct) → All IsAlone one → All IsAlone other → answer_data one ≡ answer_data other → one ≡ other
  answer-of one other alone others same = answer-same one other alone others (array-same (map answer_act_data one) (map answer_act_data other) same)

  answers-same : (one other : List (List AnswerAct)) → All (All IsAlone) one → All (All IsAlone) other → map answer_data one ≡ map answer_data other → one ≡ other
  answers-same [] [] alone others same = refl
  answers-same [] (answer ∷ other) alone others same = cc
  answers-same (answer ∷ one) [] alone others same = cc
  answers-same (answer ∷ one) (said ∷ other) alone others same =
      let value : answer_data answer ≡ answer_data said = cc in
      let rest : map answer_data one ≡ map answer_data other = cc in
      let first : answer ≡ said = answer-of answer said (All-head (All IsAlone) answer one alone) (All-head (All IsAlone) said other others) value in
      rw first (ap (λ (left : List (List AnswerAct)). said ∷ left) (answers-same one other (All-tail (All IsAlone) answer one alone) (All-tail (All IsAlone) said other others) rest))

  -- an array of texts is none of arrays, where it has an element
  no-text : (answer : List AnswerAct) (answers : List (List AnswerAct)) (answer_acts : List AnswerAct) → array (items_of (map answer_data (answer ∷ answers))) ≡ answer_data answer_acts → ⊥
  no-text answer answers [] same = cc
  no-text answer answers (answer_act ∷ answer_acts) same = cc

  IsCounted : Bool → List (List AnswerAct) → Type 0
  IsCounted once answers = (once ≡ false → length answers ≡ 1) × (once ≡ true → 0 < length answers)

  said_as : Bool → List (List AnswerAct) → Data
  said_as once answers = cond once (array (items_of (map answer_data answers))) (only_data answers)

  only-same : (one other : List (List AnswerAct)) → length one ≡ 1 → length other ≡ 1 → All (All IsAlone) one → All (All IsAlone) other → only_data one ≡ only_data other → one ≡ other
  only-same [] other none few alone others same = absurd (omega (arith, none))
  only-same (answer ∷ next ∷ one) other more few alone others same = absurd (omega (arith, more))
  only-same (answer ∷ []) [] single none alone others same = absurd (omega (arith, none))
  only-same (answer ∷ []) (said ∷ next ∷ other) single more alone others same = absurd (omega (arith, more))
  only-same (answer ∷ []) (said ∷ []) single few alone others same =
      ap (λ (first : List AnswerAct). first ∷ []) (answer-of answer said (All-head (All IsAlone) answer [] alone) (All-head (All IsAlone) said [] others) same)

  apart : (one other : List (List AnswerAct)) → 0 < length one → length other ≡ 1 → array (items_of (map answer_data one)) ≡ only_data other → ⊥
  apart [] other some single same = absurd (omega (arith, some))
  apart (answer ∷ one) [] some none same = absurd (omega (arith, none))
  apart (answer ∷ one) (answer_acts ∷ other) some single same = no-text answer one answer_acts same

  answers-by : (once other_once : Bool) (one other : List (List AnswerAct)) → IsCounted once one → IsCounted other_once other → All (All IsAlone) one → All (All IsAlone) other
      → said_as once one ≡ said_as other_once other → (once ≡ other_once) × (one ≡ other)
  unfolding IsCounted said_as
  answers-by true true one other counted others alone alones same = (refl, answers-same one other alone alones (array-same (map answer_data one) (map answer_data other) same))
  answers-by false false one other counted others alone alones same = (refl, only-same one other (counted.0 refl) (others.0 refl) alone alones same)
  answers-by true false one other counted others alone alones same = absurd (apart one other (counted.1 refl) (others.0 refl) same)
  answers-by false true one other counted others alone alones same = absurd (apart other one (others.1 refl) (counted.0 refl) (sym same))

  rule-same : (one other : RuleValue) → IsRead one → IsRead other → entry_of one ≡ entry_of other → one ≡ other
  unfolding IsCounted said_as
  rule-same one other read others same =
      let key : one.key ≡ other.key = ap (λ (entry : List ℕ × Data). entry.0) same in
      let value : said_as one.once one.answers ≡ said_as other.once other.answers = ap (λ (entry : List ℕ × Data). entry.1) same in
      let both : (one.once ≡ other.once) × (one.answers ≡ other.answers) =
      answers-by one.once other.once one.answers other.answers (read.always, read.once) (others.always, others.once) read.acts others.acts value in
      rule-of one.key other.key one.once other.once one.answers other.answers key both.0 both.1

  rules-same : (one other : List RuleValue) → All IsRead one → All IsRead other → map entry_of one ≡ map entry_of other → one ≡ other
  rules-same [] [] read others same = refl
  rules-same [] (rule ∷ other) read others same = cc
  rules-same (rule ∷ one) [] read others same = cc
  rules-same (rule ∷ one) (said ∷ other) read others same =
      let entry : entry_of rule ≡ entry_of said = cc in
      let rest : map entry_of one ≡ map entry_of other = cc in
      let first : rule ≡ said = rule-same rule said (All-head IsRead rule one read) (All-head IsRead said other others) entry in
      rw first (ap (λ (left : List RuleValue). said ∷ left) (rules-same one other (All-tail IsRead rule one read) (All-tail IsRead said other others) rest))

  -- the order of rules is one
  longer_order : IsStrictWeakOrder is_longer
  longer_order = IsStrictWeakOrder-flip (λ rule other. is_lt (nat_cmp (length (fixed rule.key)) (length (fixed other.key)))) (ranks_by nat_cmp_total (λ (rule : RuleValue). length (fixed rule.key)))

  of-one-table : (value : Data) (one other : List RuleValue) → AreRulesOf value one → AreRulesOf value other → one ≡ other
  of-one-table value one other are others =
      let tables : Some (members_from (map entry_of are.read)) ≡ Some (members_from (map entry_of others.read)) = sym are.table ∙ others.table in
      let table : members_from (map entry_of are.read) ≡ members_from (map entry_of others.read) = cc in
      let read : are.read ≡ others.read = rules-same are.read others.read are.each others.each (members-same (map entry_of are.read) (map entry_of others.read) table) in
      same-in-order is_longer longer_order one other are.longest_first others.longest_first
      (λ rule. are.in_order rule ∙ (ap (λ (rules : List RuleValue). filter (ties is_longer rule) rules) read ∙ sym (others.in_order rule)))

  pub tables_tell_types : TablesTellTypes
  tables_tell_types no_members [] [] are others = refl
  tables_tell_types no_members [] (rules ∷ other) are others = absurd others
  tables_tell_types no_members (rules ∷ one) other are others = absurd are
  tables_tell_types (member name value rest) [] other are others = absurd are
  tables_tell_types (member name value rest) (rules ∷ one) [] are others = absurd others
  tables_tell_types (member name value rest) (rules ∷ one) (more ∷ other) are others =
      let named : more.type_name ≡ rules.type_name = others.0 ∙ sym are.0 in
      let ruled : more.rules ≡ rules.rules = of-one-table value more.rules rules.rules others.1 are.1 in
      let first : more ≡ rules = type-of more.type_name rules.type_name more.rules rules.rules named ruled in
      rw first (ap (λ (left : List TypeValue). rules ∷ left) (tables_tell_types rest one other are.2 others.2))
