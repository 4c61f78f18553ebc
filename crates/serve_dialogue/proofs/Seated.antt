-- The scripted objects after an entry.
use Rattle.serve_dialogue.proofs.Common.{◌≡◌, ◌∙◌, ℕ, true, false, ◌==◌, if◌then◌else◌, List, [], ◌∷◌, ◌++◌, Option, Some, None, OnSome, option_map, inl, inr, refl, sym, ap, subst, arith, option_and_then, AllByRecursion, IsDistinct, keys_of, lookup, and_parts, cases_Bool, eqb-true, nat_tests, Act, Call, Who, Node, Sequence, Exchange, exchanged_in, life_of, same_who, NoObject, Outcome, Made, Refused, Started, Origin, Entry, Did, Heard, ScriptValue, Answer, Exactly, Grant, Need, Next, IsMachines, MachineEntriesAreSilent, Allows, EachIsNext, made_in, need_in, next_of, made_who, needed_type, types_made, IsMadeNew, MadeAreNew, NobodyIsMadeTwice, OthersMakeNobody, TypeValue, rules_named, RuleValue, ScriptedValue, new_of, ChangesAt, SeatsValue, object_after, object_of, AreSeated, IsByScript, after_calls, of_type, scripted_of, type_of, NeedFollows, SeatsFollow}
use Rattle.bench_history.specs.Cases.{Nothing}

-- WHO IS WHO

same-sym : (one other : Who) → same_who one other ≡ same_who other one
same-sym (Node a) (Node b) = grind (arith, nat_tests)
same-sym (Sequence home id) (Sequence there other) = grind (arith, nat_tests)
same-sym (Node a) (Sequence there other) = refl
same-sym (Sequence home id) (Node b) = refl

same-is : (one other : Who) → same_who one other ≡ true → one ≡ other
same-is (Node a) (Node b) same = ap Node (eqb-true a b same)
same-is (Sequence home id) (Sequence there other) same =
    let both = and_parts (id == other) (home == there) same in
    ap (λ h. Sequence h id) (eqb-true home there both.1) ∙ ap (λ n. Sequence there n) (eqb-true id other both.0)
same-is (Node a) (Sequence there other) same = cc
same-is (Sequence home id) (Node b) same = cc

-- THE OBJECT OF EACH

module _ (answers : List TypeValue) (script : ScriptValue) where
  -- an entry that calls no component or sequence and makes no component or sequence
  scripted-same : (entry : Entry) (history : List Entry) → types_made script (entry ∷ history) ≡ types_made script history → ((who : Who) → exchanged_in who entry ≡ [])
      → (who : Who) → scripted_of answers script (entry ∷ history) who ≡ scripted_of answers script history who
  scripted-same entry history types silent who =
      ap (λ calls. option_and_then (of_type answers (calls ++ life_of who history)) (type_of script (entry ∷ history) who)) (silent who)
      ∙ ap (λ (made : List (Who × List ℕ)). option_and_then (of_type answers (life_of who history)) (lookup (same_who who) made)) types

  -- one more call
  one-more : (exchange : Exchange) (calls : List Exchange) (type_name : Option (List ℕ)) → option_and_then (of_type answers (exchange ∷ calls)) type_name
      ≡ option_map (object_after exchange.0) (option_and_then (of_type answers calls) type_name)
  one-more exchange calls None = refl
  one-more exchange calls (Some type_name) = go (rules_named answers type_name)
    where
      go : (rules : Option (List RuleValue)) → option_map (λ r. after_calls (new_of type_name r) (exchange ∷ calls)) rules ≡ option_map (object_after exchange.0) (option_map (λ r. after_calls (new_of type_name r) calls) rules)
      go None = refl
      go (Some rules) = refl

  scripted-heard : (hearer : Who) (origin : Option Origin) (call : Call) (acts : List Act) (history : List Entry) (who : Who) → scripted_of answers script (Heard hearer origin call acts ∷ history) who
      ≡ (if same_who hearer who then option_map (object_after call) (scripted_of answers script history hearer) else scripted_of answers script history who)
  scripted-heard hearer origin call acts history who = elim (cases_Bool (same_who hearer who)) [
    | inl same ↦
        rw same (
        subst (λ (one : Who). option_and_then (of_type answers ((call, acts) ∷ life_of one history)) (type_of script history one) ≡ option_map (object_after call) (scripted_of answers script history hearer)) (same-is hearer who same)
        (one-more (call, acts) (life_of hearer history) (type_of script history hearer))
        )
    | inr other ↦ rw other refl
  ]

  -- an object that is made
  none-yet : (who : Who) (made : List (Who × List ℕ)) → AllByRecursion (λ other. same_who who other ≡ false) (keys_of made) → lookup (same_who who) made ≡ None
  none-yet who [] apart = refl
  none-yet who (first ∷ made) apart = rw apart.0 (none-yet who made apart.1)

  made-apart : (who : Who) (type_name : List ℕ) (made : List (Who × List ℕ)) → IsDistinct same_who (keys_of ((who, type_name) ∷ made)) → lookup (same_who who) made ≡ None
  unfolding IsDistinct
  made-apart who type_name made distinct = none-yet who made distinct.0

  scripted-made : (entry : Entry) (history : List Entry) (made_one : Who) (type_name : List ℕ) → types_made script (entry ∷ history) ≡ (made_one, type_name) ∷ types_made script history → life_of made_one history ≡ []
      → ((who : Who) → exchanged_in who entry ≡ []) → (who : Who)
      → scripted_of answers script (entry ∷ history) who ≡ (if same_who made_one who then option_map (new_of type_name) (rules_named answers type_name) else scripted_of answers script history who)
  scripted-made entry history made_one type_name types unasked silent who =
      ap (λ calls. option_and_then (of_type answers (calls ++ life_of who history)) (type_of script (entry ∷ history) who)) (silent who)
      ∙ ap (λ (made : List (Who × List ℕ)). option_and_then (of_type answers (life_of who history)) (lookup (same_who who) made)) types
      ∙ elim (cases_Bool (same_who made_one who)) [
        | inl same ↦
            rw (sym (same-sym made_one who) ∙ same, same) (
            subst (λ (one : Who). of_type answers (life_of one history) type_name ≡ option_map (new_of type_name) (rules_named answers type_name)) (same-is made_one who same)
            (ap (λ calls. of_type answers calls type_name) unasked)
            )
        | inr other ↦ rw (sym (same-sym made_one who) ∙ other, other) refl
      ]

-- THE SEATS

module _ (silent : MachineEntriesAreSilent) (new_made : MadeAreNew) (others : OthersMakeNobody) (once : NobodyIsMadeTwice) (script : ScriptValue) where
  pub seats_follow : (history : List Entry) (entry : Entry) (old new : SeatsValue) → EachIsNext script (entry ∷ history) → AreSeated script history old → SeatsFollow history (next_of script history) old new
      → IsByScript old.answers script history (next_of script history) entry → AreSeated script (entry ∷ history) new
  seats_follow history entry old new each seated follow by_script = go (next_of script history) refl each.0 follow by_script
    where
      unchanged : types_made script (entry ∷ history) ≡ types_made script history → ((who : Who) → exchanged_in who entry ≡ []) → new ≡ old → AreSeated script (entry ∷ history) new
      unchanged types calls_none same =
          subst (AreSeated script (entry ∷ history)) (sym same) (λ who. seated who ∙ sym (scripted-same old.answers script entry history types calls_none who))

      changed : (made_one : Who) (object : Option ScriptedValue) → ChangesAt made_one object old new
          → ((who : Who) → scripted_of old.answers script (entry ∷ history) who ≡ (if same_who made_one who then object else scripted_of old.answers script history who)) → AreSeated script (entry ∷ history) new
      changed made_one object change says who =
          change.objects who
          ∙ (ap (λ (before : Option ScriptedValue). if same_who made_one who then object else before) (seated who)
          ∙ (sym (says who) ∙ ap (λ (answers : List TypeValue). scripted_of answers script (entry ∷ history) who) (sym change.answers)))

      nobody : need_in (next_of script history) ≡ None → types_made script (entry ∷ history) ≡ types_made script history
      nobody unneeded = others script history entry unneeded each.0

      go : (comes : Next) → next_of script history ≡ comes → Allows comes entry → SeatsFollow history comes old new → IsByScript old.answers script history comes entry → AreSeated script (entry ∷ history) new
      go (Exactly expected) exact is same tells =
          let machines : IsMachines history expected = silent script history expected exact in
          unchanged (nobody (ap need_in exact)) (λ who. ap (exchanged_in who) is ∙ machines.silent who) same
      go (Answer hearer call origin) exact is change tells =
          changed hearer (option_map (object_after call) (object_of old hearer)) change (λ who.
          ap (λ (e : Entry). scripted_of old.answers script (e ∷ history) who) is.1
          ∙ (scripted-heard old.answers script hearer origin call is.0 history who
          ∙ ap (λ (object : Option ScriptedValue). if same_who hearer who then option_map (object_after call) object else scripted_of old.answers script history who) (sym (seated hearer))))
      go (Grant sequencer drawn chosen) exact is same tells =
          unchanged (nobody (ap need_in exact)) (λ who. ap (exchanged_in who) is.3) same
      go Nothing exact is same tells = absurd is
      go (Need need made performer act) needs (inl is) follows tells = filled (rules_named old.answers need.type_name) refl follows
        where
          quiet : (who : Who) → exchanged_in who entry ≡ []
          quiet who = ap (exchanged_in who) is

          named : needed_type script history ≡ need.type_name
          named = rw needs refl

          come : (who : Who) → made_who history (next_of script history) ≡ Some who → IsMadeNew script history entry who
          come who made_one = new_made script history entry who each.1 (ap made_in needs ∙ ap Some (sym is)) made_one

          types_are : (who : Who) → IsMadeNew script history entry who → types_made script (entry ∷ history) ≡ (who, need.type_name) ∷ types_made script history
          types_are who one = one.types ∙ ap (λ name. (who, name) ∷ types_made script history) named

          -- no component or sequence was this one before
          free : (who : Who) → IsMadeNew script history entry who → scripted_of old.answers script history who ≡ None
          free who one =
              let distinct : IsDistinct same_who (keys_of ((who, need.type_name) ∷ types_made script history)) = subst (λ (all : List (Who × List ℕ)). IsDistinct same_who (keys_of all)) (types_are who one) (once script (entry ∷ history) each).distinct in
              ap (option_and_then (of_type old.answers (life_of who history))) (made-apart old.answers script who need.type_name (types_made script history) distinct)

          same-none : (who : Who) → IsMadeNew script history entry who → rules_named old.answers need.type_name ≡ None → (other : Who)
              → (if same_who who other then option_map (new_of need.type_name) (rules_named old.answers need.type_name) else scripted_of old.answers script history other) ≡ scripted_of old.answers script history other
          same-none who one bare other = elim (cases_Bool (same_who who other)) [
            | inl same ↦ rw (same, bare) (sym (ap (scripted_of old.answers script history) (sym (same-is who other same)) ∙ free who one))
            | inr apart ↦ rw apart refl
          ]

          unscripted : (who : Option Who) → made_who history (Need need made performer act) ≡ who → rules_named old.answers need.type_name ≡ None → new ≡ old → AreSeated script (entry ∷ history) new
          unscripted (Some who) made_one bare same =
              let one = come who (ap (made_who history) needs ∙ made_one) in
              subst (AreSeated script (entry ∷ history)) (sym same) (λ other.
              seated other ∙ sym (scripted-made old.answers script entry history who need.type_name (types_are who one) one.unasked quiet other ∙ same-none who one bare other))
          unscripted None made_one bare same = unchanged (ap (λ (e : Entry). types_made script (e ∷ history)) is ∙ outcomes made made_one) quiet same
            where
              outcomes : (outcome : Outcome) → made_who history (Need need outcome performer act) ≡ None → types_made script (Did performer outcome act ∷ history) ≡ types_made script history
              outcomes (Made type_name) none = cc
              outcomes (Started id) none = cc
              outcomes outcome none = refl

          filled : (rules : Option (List RuleValue)) → rules_named old.answers need.type_name ≡ rules
              → NeedFollows history need made performer act old new rules → AreSeated script (entry ∷ history) new
          filled None bare same = unscripted (made_who history (Need need made performer act)) refl bare same
          filled (Some rules) has taken =
              let one = come taken.0 (ap (made_who history) needs ∙ taken.1) in
              changed taken.0 (Some (new_of need.type_name rules)) taken.2 (λ who.
              scripted-made old.answers script entry history taken.0 need.type_name (types_are taken.0 one) one.unasked quiet who
              ∙ ap (λ (r : Option (List RuleValue)). if same_who taken.0 who then option_map (new_of need.type_name) r else scripted_of old.answers script history who) has)
      go (Need need made performer act) needs (inr is) follows tells = declined (rules_named old.answers need.type_name) follows tells
        where
          declined : (rules : Option (List RuleValue))
              → NeedFollows history need made performer act old new rules
              → OnSome rules (entry ≡ Did performer made act) → AreSeated script (entry ∷ history) new
          declined None same tells = unchanged (ap (λ (e : Entry). types_made script (e ∷ history)) is) (λ who. ap (exchanged_in who) is) same
          declined (Some rules) taken made_is =
              let both : Did performer made act ≡ Did performer (Refused NoObject) act = sym made_is ∙ is in
              let refused : made ≡ Refused NoObject = cc in
              let none : Some taken.0 ≡ made_who history (Need need (Refused NoObject) performer act) = sym taken.1 ∙ ap (λ (m : Outcome). made_who history (Need need m performer act)) refused in
              cc
