-- What comes of a question.
use Rattle.serve_dialogue.proofs.Common.{◌≡◌, ◌∙◌, ℕ, true, false, List, [], ◌++◌, Option, Some, None, IfSome, Result, Ok, Err, IfErr, OnOk, option_map, refl, sym, ap, subst, is_some, IsErrAnd, Who, Call, Entry, Origin, ScriptValue, need_in, next_of, Asked, Standing, call_of, need_of, TypeValue, rules_named, ScriptedValue, AreMarkedLines, ask_line, asked_in, backs_of, need_line, question_in, client_next, is_scripted, left_to_client, scripted_of, Spoken, answered, said, ServeError, Memory, append-nil}
use Rattle.bench_history.specs.declared.needs.Need as declared
use Rattle.bench_history.specs.Cases as next
use Rattle.serve_dialogue.proofs.Marked.{marked-append}

-- the question for an object of the client's
question-need : (answers : List TypeValue) (script : ScriptValue) (history : List Entry) (need : declared.Need) → Some need ≡ need_in (next_of script history) → is_some (rules_named answers need.type_name) ≡ false
    → question_in history (client_next answers script history) ≡ need_line need
question-need answers script history need comes bare = go (next_of script history) comes
  where
    go : (one : next.Next) → Some need ≡ need_in one → question_in history (left_to_client (is_scripted answers script history one) one) ≡ need_line need
    go (next.Need wanted made performer act) is =
        let same : wanted ≡ need = cc in
        let unscripted : is_some (rules_named answers wanted.type_name) ≡ false = ap (λ (n : declared.Need). is_some (rules_named answers n.type_name)) same ∙ bare in
        ap (λ b. question_in history (left_to_client b (next.Need wanted made performer act))) unscripted ∙ ap need_line same
    go (next.Exactly entry) is = cc
    go (next.Answer hearer call origin) is = cc
    go (next.Grant sequencer drawn chosen) is = cc
    go next.Nothing is = cc

-- the question for an answer of the client
question-call : (answers : List TypeValue) (script : ScriptValue) (history : List Entry) (who : Who) (call : Call) (origin : Option Origin) → next_of script history ≡ next.Answer who call origin → scripted_of answers script history who ≡ None
    → question_in history (client_next answers script history) ≡ ask_line history who call
question-call answers script history who call origin comes bare =
    ap (λ (one : next.Next). question_in history (left_to_client (is_scripted answers script history one) one)) comes ∙ ap (λ (object : Option ScriptedValue). question_in history (left_to_client (is_some object) (next.Answer who call origin))) bare

-- the notices and that question are what is asked of the client
pub asked_by_need : (answers : List TypeValue) (standing : Standing) (script : ScriptValue) (history : List Entry) (before text : List ℕ) (need : declared.Need) → need_of standing ≡ Some need → need_of standing ≡ need_in (next_of script history)
    → is_some (rules_named answers need.type_name) ≡ false → IfSome (need_of standing) (λ one. text ≡ before ++ need_line one) → before ≡ backs_of answers script history → text ≡ asked_in answers script history
asked_by_need answers standing script history before text need stands comes bare is backs =
    let asked : text ≡ before ++ need_line need = subst (λ (o : Option declared.Need). IfSome o (λ one. text ≡ before ++ need_line one)) stands is in
    asked ∙ (ap (λ front. front ++ need_line need) backs ∙ ap (λ question. backs_of answers script history ++ question) (sym (question-need answers script history need (sym stands ∙ comes) bare)))

pub asked_by_call : (answers : List TypeValue) (standing : Standing) (script : ScriptValue) (history : List Entry) (who : Who) (call : Call) (origin : Option Origin) (before text : List ℕ) → standing ≡ Asked who call origin
    → next_of script history ≡ next.Answer who call origin → scripted_of answers script history who ≡ None → IfSome (call_of standing) (λ asked. text ≡ before ++ ask_line history who asked) → before ≡ backs_of answers script history
    → text ≡ asked_in answers script history
asked_by_call answers standing script history who call origin before text stands comes bare is backs =
    let asked : text ≡ before ++ ask_line history who call = subst (λ (s : Standing). IfSome (call_of s) (λ one. text ≡ before ++ ask_line history who one)) stands is in
    asked ∙ (ap (λ front. front ++ ask_line history who call) backs ∙ ap (λ question. backs_of answers script history ++ question) (sym (question-call answers script history who call origin comes bare)))

-- of a scripted object nothing is asked of the client but the notices
pub asked_of_none : (answers : List TypeValue) (script : ScriptValue) (history : List Entry) (before : List ℕ) → is_scripted answers script history (next_of script history) ≡ true → before ≡ backs_of answers script history → before ≡ asked_in answers script history
asked_of_none answers script history before scripted backs =
    backs ∙ (sym (append-nil (backs_of answers script history)) ∙ ap (λ question. backs_of answers script history ++ question) (sym (ap (λ b. question_in history (left_to_client b (next_of script history))) scripted)))

pub need_is_scripted : (answers : List TypeValue) (script : ScriptValue) (history : List Entry) (need : declared.Need) → Some need ≡ need_in (next_of script history) → is_some (rules_named answers need.type_name) ≡ true
    → is_scripted answers script history (next_of script history) ≡ true
need_is_scripted answers script history need comes has = go (next_of script history) comes
  where
    go : (one : next.Next) → Some need ≡ need_in one → is_scripted answers script history one ≡ true
    go (next.Need wanted made performer act) is = let same : wanted ≡ need = cc in ap (λ (n : declared.Need). is_some (rules_named answers n.type_name)) same ∙ has
    go (next.Exactly entry) is = cc
    go (next.Answer hearer call origin) is = cc
    go (next.Grant sequencer drawn chosen) is = cc
    go next.Nothing is = cc

pub call_is_scripted : (answers : List TypeValue) (script : ScriptValue) (history : List Entry) (who : Who) (call : Call) (origin : Option Origin) (object : ScriptedValue) → next_of script history ≡ next.Answer who call origin
    → scripted_of answers script history who ≡ Some object → is_scripted answers script history (next_of script history) ≡ true
call_is_scripted answers script history who call origin object comes has = ap (is_scripted answers script history) comes ∙ ap is_some has

-- what is asked is questions and notices
pub need_marks : (answers : List TypeValue) (standing : Standing) (script : ScriptValue) (history : List Entry) (before : List ℕ) (need : declared.Need) → need_of standing ≡ Some need → need_of standing ≡ need_in (next_of script history)
    → is_some (rules_named answers need.type_name) ≡ false → IfSome (need_of standing) (λ one. AreMarkedLines (need_line one)) → before ≡ backs_of answers script history → AreMarkedLines before → AreMarkedLines (asked_in answers script history)
need_marks answers standing script history before need stands comes bare marks backs notices =
    let line : AreMarkedLines (need_line need) = subst (λ (o : Option declared.Need). IfSome o (λ one. AreMarkedLines (need_line one))) stands marks in
    marked-append (backs_of answers script history) (question_in history (client_next answers script history)) (subst AreMarkedLines backs notices) (subst AreMarkedLines (sym (question-need answers script history need (sym stands ∙ comes) bare)) line)

pub call_marks : (answers : List TypeValue) (standing : Standing) (script : ScriptValue) (history : List Entry) (who : Who) (call : Call) (origin : Option Origin) (before : List ℕ) → standing ≡ Asked who call origin
    → next_of script history ≡ next.Answer who call origin → scripted_of answers script history who ≡ None → IfSome (call_of standing) (λ asked. AreMarkedLines (ask_line history who asked)) → before ≡ backs_of answers script history
    → AreMarkedLines before → AreMarkedLines (asked_in answers script history)
call_marks answers standing script history who call origin before stands comes bare marks backs notices =
    let asked : AreMarkedLines (ask_line history who call) = subst (λ (s : Standing). IfSome (call_of s) (λ one. AreMarkedLines (ask_line history who one))) stands marks in
    marked-append (backs_of answers script history) (question_in history (client_next answers script history)) (subst AreMarkedLines backs notices) (subst AreMarkedLines (sym (question-call answers script history who call origin comes bare)) asked)

-- what comes next is the client's to answer
pub client_call : (answers : List TypeValue) (script : ScriptValue) (history : List Entry) (who : Who) (call : Call) (origin : Option Origin) → next_of script history ≡ next.Answer who call origin → scripted_of answers script history who ≡ None
    → client_next answers script history ≡ next.Answer who call origin
client_call answers script history who call origin comes bare =
    ap (λ (one : next.Next). left_to_client (is_scripted answers script history one) one) comes ∙ ap (λ (object : Option ScriptedValue). left_to_client (is_some object) (next.Answer who call origin)) bare

-- an object that answers nothing is none
pub none_mapped : {A B : Type 0} (map_one : A → B) (given : Option A) → option_map map_one given ≡ None → given ≡ None
none_mapped map_one None none = refl
none_mapped map_one (Some value) none = cc

pub if_ok : {A E P Q : Type 0} (result : Result A E) → (P → Q) → OnOk result P → OnOk result Q
if_ok (Ok value) then holds = then holds
if_ok (Err error) then holds = tt

pub if_memory : {A : Type 0} (result : Result A ServeError) (Then : ServeError → Type 0) → IfErr result (λ error. error ≡ Memory) → Then Memory → IfErr result Then
if_memory (Ok value) Then is holds = tt
if_memory (Err error) Then is holds = subst Then (sym is) holds

-- an error was passed on
pub error_comes : {A : Type 0} (result : Result A ServeError) (error : ServeError) (Then : ServeError → Type 0) → IsErrAnd result (λ other. other ≡ error) → Then error → IfErr result Then
error_comes (Ok given) error Then is holds = tt
error_comes (Err other) error Then is holds = subst Then (sym is) holds

-- memory ran out
pub memory_ran_out : {A : Type 0} (result : Result A ServeError) (Then : ServeError → Type 0) → IsErrAnd result (λ error. error ≡ Memory) → Then Memory → IfErr result Then
memory_ran_out (Ok given) Then is holds = tt
memory_ran_out (Err error) Then is holds = subst Then (sym is) holds

-- what was asked was answered
pub answered_so : {C : Type 0} (spoke : C → C → List Spoken → Type 0) (joined : (first half last : C) (front back : List Spoken) → spoke first half front → spoke half last back → spoke first last (front ++ back))
    (answers : List TypeValue) (script : ScriptValue) (history : List Entry) (first half last : C) (question answer : List ℕ) → question ≡ asked_in answers script history
    → spoke first half (said question) → spoke half last (answered answer) → spoke first last (said (asked_in answers script history) ++ answered answer)
answered_so spoke joined answers script history first half last question answer is asks answers_it =
    joined first half last (said (asked_in answers script history)) (answered answer) (subst (λ text. spoke first half (said text)) is asks) answers_it

-- nothing was asked of it
pub said_so : {C : Type 0} (spoke : C → C → List Spoken → Type 0) (answers : List TypeValue) (script : ScriptValue) (history : List Entry) (first last : C) (text : List ℕ) → text ≡ asked_in answers script history → spoke first last (said text)
    → spoke first last (said (asked_in answers script history) ++ answered [])
said_so spoke answers script history first last text is talk =
    subst (spoke first last) (sym (append-nil (said (asked_in answers script history)))) (subst (λ t. spoke first last (said t)) is talk)
