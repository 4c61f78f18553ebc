-- The first fault of a list stands behind elements that are sound; and the texts of answers.
use Rattle.script_objects.proofs.Common.{◌≡◌, ◌∙◌, refl, ap, sym, subst, ℕ, Bool, true, false, All, List, [], ◌∷◌, ◌++◌, map, inl, inr, append_assoc, String, string_bytes, and_parts, All-nil, All-cons, All-head, All-tail, All-append, All-map, All-push, All-weaker, list_all, Global, Data, string, integer, float, boolean, datetime, array, table, Items, as_array, as_str, items_of, items_view, members_view, view, Value, name_fault, IsAlone, answer_act_line, AnswerAct, Fault, FaultAt, Given, HasLineFault, HasRuleFault, HasFirstFault, HasRulesFault, HasTypeFault, IsKey, IsRule, IsType, OrMemory, OrMemoryAt, HasAnswersFault, HasLinesFault, IsFirst, IsLine, IsLineFault, are_answers, are_texts, begins_with_array, elements, entries, is_text, texts_of, named_fault, told_in, RuleValue, AreRulesOf, IsRead, answer_data, entry_in, entry_of, answer_act_data, AnswerFault, FaultyAnswer, Option, Some, None, ◌&&◌, if◌then◌else◌}
use denote.Ref.{Bor}

module _ {X F : Type 0} (IsSound : X → Type 0) (HasFault : X → F → Type 0) where
  -- behind elements that are sound
  pub behind : (before later : List X) (fault : F) → All IsSound before → IsFirst IsSound HasFault later fault → IsFirst IsSound HasFault (before ++ later) fault
  behind [] later fault sound first = first
  behind (x ∷ before) later fault sound first = inr (All-head IsSound x before sound, behind before later fault (All-tail IsSound x before sound) first)

  -- and others may follow
  pub ahead : (xs later : List X) (fault : F) → IsFirst IsSound HasFault xs fault → IsFirst IsSound HasFault (xs ++ later) fault
  ahead [] later fault first = absurd first
  ahead (x ∷ xs) later fault (inl here) = inl here
  ahead (x ∷ xs) later fault (inr (sound, first)) = inr (sound, ahead xs later fault first)

pub elements-of : (values : List Data) → elements (items_of values) ≡ values
elements-of [] = refl
elements-of (said ∷ values) = ap (λ (later : List Data). said ∷ later) (elements-of values)

-- the texts of values, and of others behind them
pub texts-append : (values others : List Data) → texts_of (items_of (values ++ others)) ≡ texts_of (items_of values) ++ texts_of (items_of others)
texts-append [] others = refl
texts-append (string text ∷ values) others = ap (λ (later : List (List ℕ)). text ∷ later) (texts-append values others)
texts-append (array items ∷ values) others =
    ap (λ (later : List (List ℕ)). texts_of items ++ later) (texts-append values others) ∙ sym (append_assoc (texts_of items) (texts_of (items_of values)) (texts_of (items_of others)))
texts-append (integer z ∷ values) others = texts-append values others
texts-append (float x ∷ values) others = texts-append values others
texts-append (boolean b ∷ values) others = texts-append values others
texts-append (datetime d ∷ values) others = texts-append values others
texts-append (table keyed ∷ values) others = texts-append values others

-- the texts of actions
pub texts-answer_acts : (answer_acts : List AnswerAct) → texts_of (items_of (map answer_act_data answer_acts)) ≡ map answer_act_line answer_acts
texts-answer_acts [] = refl
texts-answer_acts (answer_act ∷ answer_acts) = ap (λ (later : List (List ℕ)). answer_act_line answer_act ∷ later) (texts-answer_acts answer_acts)

-- each text of an action that can be given is sound
pub lines-sound : (has_item : Bool) (answer_acts : List AnswerAct) → All IsAlone answer_acts → All (Given has_item) answer_acts → All (IsLine has_item) (texts_of (items_of (map answer_act_data answer_acts)))
lines-sound has_item answer_acts alone given = subst (All (IsLine has_item)) (sym (texts-answer_acts answer_acts)) (each answer_acts alone given)
  where
    each : (answer_acts : List AnswerAct) → All IsAlone answer_acts → All (Given has_item) answer_acts → All (IsLine has_item) (map answer_act_line answer_acts)
    each [] alone given = All-nil (IsLine has_item)
    each (answer_act ∷ answer_acts) alone given =
        All-cons (IsLine has_item) (answer_act_line answer_act) (map answer_act_line answer_acts)
        (record { answer_act = answer_act; alone = All-head IsAlone answer_act answer_acts alone; text = refl; given = All-head (Given has_item) answer_act answer_acts given })
        (each answer_acts (All-tail IsAlone answer_act answer_acts alone) (All-tail (Given has_item) answer_act answer_acts given))

-- and each of those of several answers
pub answers-sound : (has_item : Bool) (answers : List (List AnswerAct)) → All (All IsAlone) answers → All (All (Given has_item)) answers → All (IsLine has_item) (texts_of (items_of (map answer_data answers)))
answers-sound has_item [] alone given = All-nil (IsLine has_item)
answers-sound has_item (answer ∷ answers) alone given =
    All-append (IsLine has_item) (texts_of (items_of (map answer_act_data answer))) (texts_of (items_of (map answer_data answers)))
    (lines-sound has_item answer (All-head (All IsAlone) answer answers alone) (All-head (All (Given has_item)) answer answers given))
    (answers-sound has_item answers (All-tail (All IsAlone) answer answers alone) (All-tail (All (Given has_item)) answer answers given))

-- the first fault is at a text behind those of actions that can be given
pub first-line : (has_item : Bool) (answer_acts : List AnswerAct) (said : Data) (later all : List Data) (line : List ℕ) (fault : AnswerFault) → All IsAlone answer_acts → All (Given has_item) answer_acts
    → said ≡ string line → map answer_act_data answer_acts ++ said ∷ later ≡ all → IsLineFault has_item line fault → HasLinesFault has_item (items_of all) (fault, Some line)
first-line has_item answer_acts said later all line fault alone given text is bad =
    let of : Data = string line in
    let here : IsFirst (IsLine has_item) (HasLineFault has_item) (texts_of (items_of (of ∷ later))) (fault, Some line) = inl (refl, bad) in
    let there : IsFirst (IsLine has_item) (HasLineFault has_item) (texts_of (items_of (said ∷ later))) (fault, Some line) =
    subst (λ (d : Data). IsFirst (IsLine has_item) (HasLineFault has_item) (texts_of (items_of (d ∷ later))) (fault, Some line)) (sym text) here in
    let behind-them = behind (IsLine has_item) (HasLineFault has_item) (texts_of (items_of (map answer_act_data answer_acts))) (texts_of (items_of (said ∷ later))) (fault, Some line) (lines-sound has_item answer_acts alone given) there in
    subst (λ (values : List Data). HasLinesFault has_item (items_of values) (fault, Some line)) is
    (subst (λ (texts : List (List ℕ)). IsFirst (IsLine has_item) (HasLineFault has_item) texts (fault, Some line)) (sym (texts-append (map answer_act_data answer_acts) (said ∷ later))) behind-them)

-- and at a text of an answer behind others
pub first-answer : (has_item : Bool) (answers : List (List AnswerAct)) (said : Data) (later all : List Data) (items : Items) (fault : Fault) → All (All IsAlone) answers → All (All (Given has_item)) answers
    → said ≡ array items → map answer_data answers ++ said ∷ later ≡ all → HasLinesFault has_item items fault → HasLinesFault has_item (items_of all) fault
first-answer has_item answers said later all items fault alone given list is bad =
    let of : Data = array items in
    let here : IsFirst (IsLine has_item) (HasLineFault has_item) (texts_of (items_of (of ∷ later))) fault = ahead (IsLine has_item) (HasLineFault has_item) (texts_of items) (texts_of (items_of later)) fault bad in
    let there : IsFirst (IsLine has_item) (HasLineFault has_item) (texts_of (items_of (said ∷ later))) fault =
    subst (λ (d : Data). IsFirst (IsLine has_item) (HasLineFault has_item) (texts_of (items_of (d ∷ later))) fault) (sym list) here in
    let behind-them = behind (IsLine has_item) (HasLineFault has_item) (texts_of (items_of (map answer_data answers))) (texts_of (items_of (said ∷ later))) fault (answers-sound has_item answers alone given) there in
    subst (λ (values : List Data). HasLinesFault has_item (items_of values) fault) is
    (subst (λ (texts : List (List ℕ)). IsFirst (IsLine has_item) (HasLineFault has_item) texts fault) (sym (texts-append (map answer_data answers) (said ∷ later))) behind-them)

-- of values that are arrays of texts, each is one
pub lists-all : (before : List Data) (said : Data) (later all : List Data) → before ++ said ∷ later ≡ all → list_all are_texts all ≡ true → are_texts said ≡ true
lists-all [] said later all is good = (and_parts (are_texts said) (list_all are_texts later) (ap (list_all are_texts) is ∙ good)).0
lists-all (other ∷ before) said later all is good =
    lists-all before said later (before ++ said ∷ later) refl (and_parts (are_texts other) (list_all are_texts (before ++ said ∷ later)) (ap (list_all are_texts) is ∙ good)).1

-- VALUES AND WHAT THEY STAND FOR

pub all-viewed : (test : Data → Bool) (values : List Value) → list_all test (map view values) ≡ list_all (λ value. test (view value)) values
all-viewed test [] = refl
all-viewed test (value ∷ values) = ap (λ b. test (view value) && b) (all-viewed test values)

-- a value is the array or the text that it is read as
pub array-is : (said : Data) (items : Items) → as_array said ≡ Some items → said ≡ array items
array-is (array own) items is = ap array cc
array-is (string text) items is = absurd cc
array-is (integer z) items is = absurd cc
array-is (float x) items is = absurd cc
array-is (boolean b) items is = absurd cc
array-is (datetime d) items is = absurd cc
array-is (table keyed) items is = absurd cc

pub text-is : (said : Data) (text : List ℕ) → as_str said ≡ Some text → said ≡ string text
text-is (string own) text is = ap string cc
text-is (array items) text is = absurd cc
text-is (integer z) text is = absurd cc
text-is (float x) text is = absurd cc
text-is (boolean b) text is = absurd cc
text-is (datetime d) text is = absurd cc
text-is (table keyed) text is = absurd cc

pub are-texts-at : (said : Data) (values : List Value) → as_array said ≡ Some (items_view values) → are_texts said ≡ list_all is_text (map view values)
are-texts-at said values is = ap are_texts (array-is said (items_view values) is) ∙ ap (list_all is_text) (elements-of (map view values))

pub answers-at : (said : Data) (values : List Value) → as_array said ≡ Some (items_view values)
    → are_answers said ≡ (if begins_with_array (map view values) then list_all are_texts (map view values) else list_all is_text (map view values))
answers-at said values is =
    ap are_answers (array-is said (items_view values) is)
    ∙ ap (λ (all : List Data). if begins_with_array all then list_all are_texts all else list_all is_text all) (elements-of (map view values))

if_true : (b x y : Bool) → b ≡ true → (if b then x else y) ≡ x
if_true true x y is = refl
if_true false x y is = absurd cc

if_false : (b x y : Bool) → b ≡ false → (if b then x else y) ≡ y
if_false true x y is = absurd cc
if_false false x y is = refl

-- where each value of a list is an array of texts, and where each is a text
pub each-list : (values : List Value) → are_answers (array (items_view values)) ≡ true → begins_with_array (map view values) ≡ true → list_all are_texts (map view values) ≡ true
each-list values good first =
    sym (if_true (begins_with_array (map view values)) (list_all are_texts (map view values)) (list_all is_text (map view values)) first) ∙ (sym (answers-at (array (items_view values)) values refl) ∙ good)

pub each-text : (values : List Value) → are_answers (array (items_view values)) ≡ true → begins_with_array (map view values) ≡ false → list_all is_text (map view values) ≡ true
each-text values good first =
    sym (if_false (begins_with_array (map view values)) (list_all are_texts (map view values)) (list_all is_text (map view values)) first) ∙ (sym (answers-at (array (items_view values)) values refl) ∙ good)

-- FAULTS OF A RULE

-- what follows from a fault follows from the error
pub or-memory : (P Q : Fault → Type 0) (fault : AnswerFault × Option (Bor (List ℕ))) → ((told : Fault) → P told → Q told) → OrMemory P fault → OrMemory Q fault
or-memory P Q fault more (inl none) = inl none
or-memory P Q fault more (inr bad) = inr (more (told_in fault) bad)

pub or-memory-at : (P Q : FaultAt → Type 0) (faulty : FaultyAnswer) → ((told : FaultAt) → P told → Q told) → OrMemoryAt P faulty → OrMemoryAt Q faulty
or-memory-at P Q faulty more (inl none) = inl none
or-memory-at P Q faulty more (inr bad) = inr (more (named_fault faulty) bad)

-- a fault of a text names the text
none-first : (has_item : Bool) (texts : List (List ℕ)) (fault : AnswerFault) → IsFirst (IsLine has_item) (HasLineFault has_item) texts (fault, None) → ⊥
none-first has_item [] fault first = first
none-first has_item (text ∷ texts) fault (inl here) = absurd cc
none-first has_item (text ∷ texts) fault (inr (sound, first)) = none-first has_item texts fault first

pub rule-fault : (key : List ℕ) (said : Data) (items : Items) (has_item : Bool) (fault : Fault) → said ≡ array items → are_answers said ≡ true → IsKey key has_item → HasLinesFault has_item items fault → HasRuleFault (key, said) fault
rule-fault key said items has_item (fault, None) is good own bad = absurd (none-first has_item (texts_of items) fault bad)
rule-fault key said items has_item (fault, Some act) is good own bad =
    (good, (has_item, own, subst (λ (d : Data). HasAnswersFault has_item d (fault, Some act)) (sym is) bad))

-- the first fault of the rules of a type is behind rules that were read
pub first-rule : (rules : List RuleValue) (entry : String Global × Value) (later : List (String Global × Value)) (all : List (List ℕ × Data)) (key : List ℕ) (fault : Fault) → All IsRead rules → key ≡ string_bytes entry.0
    → map entry_of rules ++ map entry_in (entry ∷ later) ≡ all → HasRuleFault (key, view entry.1) fault → IsFirst IsRule (λ rule fault. (rule.0 ≡ key) × HasRuleFault rule fault) all fault
first-rule rules entry later all key fault read own is bad =
    let AtKey = λ (rule : List ℕ × Data) (fault : Fault). (rule.0 ≡ key) × HasRuleFault rule fault in
    let here : IsFirst IsRule AtKey (map entry_in (entry ∷ later)) fault = inl (sym own, subst (λ (k : List ℕ). HasRuleFault (k, view entry.1) fault) own bad) in
    subst (λ (rules : List (List ℕ × Data)). IsFirst IsRule AtKey rules fault) is
    (behind IsRule AtKey (map entry_of rules) (map entry_in (entry ∷ later)) fault (All-map IsRule entry_of rules (All-weaker IsRead (λ (rule : RuleValue). IsRule (entry_of rule)) (λ rule is. (rule, is, refl)) rules read)) here)

-- the entries of a table
pub entries-viewed : (members : List (String Global × Value)) → entries (members_view members) ≡ map entry_in members
entries-viewed [] = refl
entries-viewed (entry ∷ members) = ap (λ (later : List (List ℕ × Data)). entry_in entry ∷ later) (entries-viewed members)

pub rules-fault : (rules : List RuleValue) (entry : String Global × Value) (later members : List (String Global × Value)) (key type_name : List ℕ) (fault : Fault) → All IsRead rules → key ≡ string_bytes entry.0
    → map entry_of rules ++ map entry_in (entry ∷ later) ≡ map entry_in members → HasRuleFault (key, view entry.1) fault
    → HasRulesFault (members_view members) (record { fault = fault.0; type_name = type_name; call = Some key; act = fault.1 })
rules-fault rules entry later members key type_name fault read own is bad =
    first-rule rules entry later (entries (members_view members)) key fault read own (is ∙ sym (entries-viewed members)) bad

-- FAULTS OF TYPES

map_push : (done : List (String Global × Value)) (entry : String Global × Value) → map entry_in (done ++ entry ∷ []) ≡ map entry_in done ++ entry_in entry ∷ []
map_push [] entry = refl
map_push (other ∷ done) entry = ap (λ (later : List (List ℕ × Data)). entry_in other ∷ later) (map_push done entry)

-- one more type was read
pub types-more : (done : List (String Global × Value)) (entry : String Global × Value) → All IsType (map entry_in done) → name_fault (string_bytes entry.0) ≡ None
    → (rules : List RuleValue) → AreRulesOf (view entry.1) rules → All IsType (map entry_in (done ++ entry ∷ []))
types-more done entry are name rules said = subst (All IsType) (sym (map_push done entry)) (All-push IsType (map entry_in done) (entry_in entry) are (name, (rules, said)))

-- the first fault of a table is behind types that were read
map_append : (done later : List (String Global × Value)) → map entry_in (done ++ later) ≡ map entry_in done ++ map entry_in later
map_append [] later = refl
map_append (other ∷ done) later = ap (λ (rest : List (List ℕ × Data)). entry_in other ∷ rest) (map_append done later)

pub first-type : (done : List (String Global × Value)) (entry : String Global × Value) (later members : List (String Global × Value)) (at : FaultAt) → All IsType (map entry_in done)
    → done ++ entry ∷ later ≡ members → HasTypeFault (string_bytes entry.0, view entry.1) at → HasFirstFault (members_view members) at
first-type done entry later members at are is bad =
    let here : IsFirst IsType HasTypeFault (map entry_in (entry ∷ later)) at = inl bad in
    subst (λ (entries : List (List ℕ × Data)). IsFirst IsType HasTypeFault entries at) (sym (map_append done (entry ∷ later)) ∙ (ap (map entry_in) is ∙ sym (entries-viewed members)))
    (behind IsType HasTypeFault (map entry_in done) (map entry_in (entry ∷ later)) at are here)
