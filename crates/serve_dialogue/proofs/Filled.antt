-- One more entry, by what was needed or asked.
use Rattle.serve_dialogue.proofs.Common.{◌≡◌, ◌∙◌, ◌+◌, ℕ, Bool, true, false, List, [], ◌∷◌, ◌++◌, length, Option, Some, None, All, IfSome, OnSome, arith, refl, sym, ap, subst, is_some, Act, Call, Who, NoObject, Outcome, Made, Refused, Started, Origin, Entry, Did, Heard, ScriptValue, declined_in, made_in, need_in, next_of, Asked, CoreValue, Standing, answer_in, core_after, made_who, IsTellingAct, answer_text, count_after, made_text, TypeValue, rules_named, RuleValue, ScriptedValue, acts_by, AreMarkedLines, IsTold, answer_of, asked_in, lines_of, new_if, new_in, new_line, says_made, IsByScript, client_next, is_scripted, left_to_client, scripted_of, Spoken, answered, said, Grows, append-nil}
use Rattle.bench_history.specs.declared.needs.Need as declared
use Rattle.bench_history.specs.Cases as next
use Rattle.serve_dialogue.proofs.Marked.{marked-none}

-- no object is scripted for a type without answers
by-nothing : {A : Type 0} (rules : Option A) (Then : Type 0) → is_some rules ≡ false → OnSome rules Then
by-nothing None Then bare = tt
by-nothing (Some given) Then bare = cc

-- so many lines are as many, if there is none more
count-none : (count : ℕ) → count ≡ count_after count 0
count-none count = omega arith

-- what an object was made of
made-says : (need : declared.Need) (made : Outcome) (performer : Who) (act : Act) (history : List Entry) (who : Who) → made_who history (next.Need need made performer act) ≡ Some who → says_made (Did performer made act) ≡ true
made-says need (Made type_name) performer act history who is = refl
made-says need (Started id) performer act history who is = refl
made-says need made performer act history who is = cc

-- no component or sequence is new, if nothing comes
nobody-new : (made : Bool) (entry : Entry) (before : List Entry) → new_if made entry before next.Nothing ≡ []
nobody-new true entry before = refl
nobody-new false entry before = refl

module _ {C : Type 0} (spoke : C → C → List Spoken → Type 0) (ended : C → C → Type 0) (line : C → ℕ) (answers : List TypeValue) where
  -- an entry of an exchange with the client
  abbrev pub Exchanged : CoreValue → next.Next → Entry → C → C → Type 0
  Exchanged old comes entry client client' =
      spoke client client' (said (asked_in answers old.script old.history) ++ answered (answer_of comes entry)) × (line client' ≡ count_after (line client) (lines_of comes entry)) × IsTold comes entry

  with_client : (old new : CoreValue) (client client' : C) (left : List ℕ) (entry : Entry) (comes : next.Next) → client_next answers old.script old.history ≡ comes → new ≡ core_after entry old → AreMarkedLines (asked_in answers old.script old.history)
      → Exchanged old comes entry client client' → left ≡ new_in entry old.history comes → AreMarkedLines left → IsByScript answers old.script old.history (next_of old.script old.history) entry
      → Grows spoke ended line answers old new client client' left
  with_client old new client client' left entry comes is grown asks exchanged left_is notes by_script =
      let all = subst (λ (c : next.Next). Exchanged old c entry client client' × (left ≡ new_in entry old.history c)) (sym is) (exchanged, left_is) in
      record { entry = entry; is = grown; talk = all.0.0; asks = asks; left_is = all.1; notes = notes; lines = all.0.1; told = all.0.2; by_script = by_script }

  -- for a scripted object nothing is asked
  alone : (old new : CoreValue) (client client' : C) (text left : List ℕ) (entry : Entry) → client_next answers old.script old.history ≡ next.Nothing → new ≡ core_after entry old → text ≡ asked_in answers old.script old.history → AreMarkedLines text
      → spoke client client' (said text) → line client' ≡ line client → left ≡ [] → IsByScript answers old.script old.history (next_of old.script old.history) entry
      → Grows spoke ended line answers old new client client' left
  alone old new client client' text left entry is grown asked marks talk still none by_script =
      with_client old new client client' left entry next.Nothing is grown (subst AreMarkedLines asked marks) (
        subst (spoke client client') (sym (append-nil (said (asked_in answers old.script old.history)))) (subst (λ t. spoke client client' (said t)) asked talk),
        still ∙ count-none (line client),
        tt,
      )
      (none ∙ sym (nobody-new (says_made entry) entry old.history)) (subst AreMarkedLines (sym none) marked-none) by_script

  -- the needed object is scripted
  pub scripted_made : (old new : CoreValue) (client client' : C) (text left : List ℕ) (need : declared.Need) (rules : List RuleValue) → need_in (next_of old.script old.history) ≡ Some need → rules_named answers need.type_name ≡ Some rules
      → IfSome (made_in (next_of old.script old.history)) (λ entry. new ≡ core_after entry old) → text ≡ asked_in answers old.script old.history → AreMarkedLines text → spoke client client' (said text) → line client' ≡ line client → left ≡ []
      → Grows spoke ended line answers old new client client' left
  scripted_made old new client client' text left need rules needed has grown asked marks talk still none = go (next_of old.script old.history) refl needed grown
    where
      go : (comes : next.Next) → next_of old.script old.history ≡ comes → need_in comes ≡ Some need → IfSome (made_in comes) (λ entry. new ≡ core_after entry old) → Grows spoke ended line answers old new client client' left
      go (next.Need one made performer act) is same grows =
          let named : rules_named answers one.type_name ≡ Some rules = let needs : one ≡ need = cc in ap (λ (n : declared.Need). rules_named answers n.type_name) needs ∙ has in
          let scripted : is_scripted answers old.script old.history (next.Need one made performer act) ≡ true = ap is_some named in
          let client_is : client_next answers old.script old.history ≡ next.Nothing =
          ap (λ (c : next.Next). left_to_client (is_scripted answers old.script old.history c) c) is ∙ ap (λ b. left_to_client b (next.Need one made performer act)) scripted in
          alone old new client client' text left (Did performer made act) client_is grows asked marks talk still none
          (subst (λ (c : next.Next). IsByScript answers old.script old.history c (Did performer made act)) (sym is) (subst (λ (r : Option (List RuleValue)). OnSome r (Did performer made act ≡ Did performer made act)) (sym named) refl))
      go (next.Exactly entry) is same grows = cc
      go (next.Answer hearer call origin) is same grows = cc
      go (next.Grant sequencer drawn chosen) is same grows = cc
      go next.Nothing is same grows = cc

  -- it is the client's
  client-need : (script : ScriptValue) (history : List Entry) (need one : declared.Need) (made : Outcome) (performer : Who) (act : Act) → next_of script history ≡ next.Need one made performer act → need_in (next.Need one made performer act) ≡ Some need
      → is_some (rules_named answers need.type_name) ≡ false → client_next answers script history ≡ next.Need one made performer act
  client-need script history need one made performer act is same bare =
      let unscripted : is_scripted answers script history (next.Need one made performer act) ≡ false = let needs : one ≡ need = cc in ap (λ (n : declared.Need). is_some (rules_named answers n.type_name)) needs ∙ bare in
      ap (λ (c : next.Next). left_to_client (is_scripted answers script history c) c) is ∙ ap (λ b. left_to_client b (next.Need one made performer act)) unscripted

  untold-need : (script : ScriptValue) (history : List Entry) (need one : declared.Need) (made : Outcome) (performer : Who) (act : Act) (entry : Entry) → next_of script history ≡ next.Need one made performer act → need_in (next.Need one made performer act) ≡ Some need
      → is_some (rules_named answers need.type_name) ≡ false → IsByScript answers script history (next_of script history) entry
  untold-need script history need one made performer act entry is same bare =
      let bare_too : is_some (rules_named answers one.type_name) ≡ false = let needs : one ≡ need = cc in ap (λ (n : declared.Need). is_some (rules_named answers n.type_name)) needs ∙ bare in
      subst (λ (c : next.Next). IsByScript answers script history c entry) (sym is) (by-nothing (rules_named answers one.type_name) (entry ≡ Did performer made act) bare_too)

  -- what was asked of the client and answered by it
  exchanged : (joined : (first half last : C) (front back : List Spoken) → spoke first half front → spoke half last back → spoke first last (front ++ back)) → (script : ScriptValue) (history : List Entry) (client half client' : C) (question answer : List ℕ)
      → question ≡ asked_in answers script history → spoke client half (said question) → spoke half client' (answered answer) → spoke client client' (said (asked_in answers script history) ++ answered answer)
  exchanged joined script history client half client' question answer is asks answers_it =
      joined client half client' (said (asked_in answers script history)) (answered answer) (subst (λ text. spoke client half (said text)) is asks) answers_it

  module _ (joined : (first half last : C) (front back : List Spoken) → spoke first half front → spoke half last back → spoke first last (front ++ back)) where
    pub client_made : (old new : CoreValue) (client half client' : C) (question left : List ℕ) (need : declared.Need) (who : Who) → need_in (next_of old.script old.history) ≡ Some need → is_some (rules_named answers need.type_name) ≡ false
        → made_who old.history (next_of old.script old.history) ≡ Some who → IfSome (made_in (next_of old.script old.history)) (λ entry. new ≡ core_after entry old) → question ≡ asked_in answers old.script old.history
        → AreMarkedLines (asked_in answers old.script old.history) → spoke client half (said question) → line half ≡ line client → spoke half client' (answered (made_text true)) → line client' ≡ count_after (line half) 1
        → left ≡ new_line new.history (Some who) → AreMarkedLines left → Grows spoke ended line answers old new client client' left
    client_made old new client half client' question left need who needed bare is_who grown asked asks said_so still answers_it count left_is notes = go (next_of old.script old.history) refl needed is_who grown
      where
        go : (comes : next.Next) → next_of old.script old.history ≡ comes → need_in comes ≡ Some need → made_who old.history comes ≡ Some who → IfSome (made_in comes) (λ entry. new ≡ core_after entry old) → Grows spoke ended line answers old new client client' left
        go (next.Need one made performer act) is same made_is grows =
            let says : says_made (Did performer made act) ≡ true = made-says one made performer act old.history who made_is in
            let talk : spoke client client' (said (asked_in answers old.script old.history) ++ answered (made_text (says_made (Did performer made act)))) =
            subst (λ b. spoke client client' (said (asked_in answers old.script old.history) ++ answered (made_text b))) (sym says) (exchanged joined old.script old.history client half client' question (made_text true) asked said_so answers_it) in
            let told : left ≡ new_in (Did performer made act) old.history (next.Need one made performer act) =
            left_is ∙ (ap (λ (c : CoreValue). new_line c.history (Some who)) grows ∙ (ap (new_line (Did performer made act ∷ old.history)) (sym made_is) ∙ ap (λ b. new_if b (Did performer made act) old.history (next.Need one made performer act)) (sym says))) in
            with_client old new client client' left (Did performer made act) (next.Need one made performer act) (client-need old.script old.history need one made performer act is same bare) grows asks
            (talk, count ∙ ap (λ n. count_after n 1) still, tt) told notes (untold-need old.script old.history need one made performer act (Did performer made act) is same bare)
        go (next.Exactly entry) is same made_is grows = cc
        go (next.Answer hearer call origin) is same made_is grows = cc
        go (next.Grant sequencer drawn chosen) is same made_is grows = cc
        go next.Nothing is same made_is grows = cc

    pub client_declined : (old new : CoreValue) (client half client' : C) (question left : List ℕ) (need : declared.Need) → need_in (next_of old.script old.history) ≡ Some need → is_some (rules_named answers need.type_name) ≡ false
        → IfSome (declined_in (next_of old.script old.history)) (λ entry. new ≡ core_after entry old) → question ≡ asked_in answers old.script old.history
        → AreMarkedLines (asked_in answers old.script old.history) → spoke client half (said question) → line half ≡ line client → spoke half client' (answered (made_text false)) → line client' ≡ count_after (line half) 1
        → left ≡ [] → Grows spoke ended line answers old new client client' left
    client_declined old new client half client' question left need needed bare grown asked asks said_so still answers_it count none = go (next_of old.script old.history) refl needed grown
      where
        go : (comes : next.Next) → next_of old.script old.history ≡ comes → need_in comes ≡ Some need → IfSome (declined_in comes) (λ entry. new ≡ core_after entry old) → Grows spoke ended line answers old new client client' left
        go (next.Need one made performer act) is same grows =
            with_client old new client client' left (Did performer (Refused NoObject) act) (next.Need one made performer act) (client-need old.script old.history need one made performer act is same bare) grows asks
            (exchanged joined old.script old.history client half client' question (made_text false) asked said_so answers_it, count ∙ ap (λ n. count_after n 1) still, tt) none (subst AreMarkedLines (sym none) marked-none)
            (untold-need old.script old.history need one made performer act (Did performer (Refused NoObject) act) is same bare)
        go (next.Exactly entry) is same grows = cc
        go (next.Answer hearer call origin) is same grows = cc
        go (next.Grant sequencer drawn chosen) is same grows = cc
        go next.Nothing is same grows = cc

    -- a call of the client's object is answered
    pub client_answered : (old new : CoreValue) (client half client' : C) (question left : List ℕ) (who : Who) (call : Call) (origin : Option Origin) (acts : List Act) → old.standing ≡ Asked who call origin → next_of old.script old.history ≡ next.Answer who call origin
        → scripted_of answers old.script old.history who ≡ None → IfSome (answer_in old.standing acts) (λ entry. new ≡ core_after entry old) → question ≡ asked_in answers old.script old.history
        → AreMarkedLines (asked_in answers old.script old.history) → spoke client half (said question) → line half ≡ line client → spoke half client' (answered (answer_text acts)) → line client' ≡ count_after (line half) (length acts + 1)
        → All IsTellingAct acts → left ≡ [] → Grows spoke ended line answers old new client client' left
    client_answered old new client half client' question left who call origin acts stands is bare grown asked asks said_so still answers_it count told none =
        let grows : new ≡ core_after (Heard who origin call acts) old = subst (λ (s : Standing). IfSome (answer_in s acts) (λ entry. new ≡ core_after entry old)) stands grown in
        let unscripted : is_scripted answers old.script old.history (next.Answer who call origin) ≡ false = ap is_some bare in
        let client_is : client_next answers old.script old.history ≡ next.Answer who call origin =
        ap (λ (c : next.Next). left_to_client (is_scripted answers old.script old.history c) c) is ∙ ap (λ b. left_to_client b (next.Answer who call origin)) unscripted in
        with_client old new client client' left (Heard who origin call acts) (next.Answer who call origin) client_is grows asks
        (exchanged joined old.script old.history client half client' question (answer_text acts) asked said_so answers_it, count ∙ ap (λ n. count_after n (length acts + 1)) still, told) none (subst AreMarkedLines (sym none) marked-none)
        (subst (λ (c : next.Next). IsByScript answers old.script old.history c (Heard who origin call acts)) (sym is) (subst (λ (object : Option ScriptedValue). IfSome object (λ one. Heard who origin call acts ≡ Heard who origin call (acts_by call one))) (sym bare) tt))

  -- a call of a scripted object is answered
  pub scripted_answered : (old new : CoreValue) (client client' : C) (text left : List ℕ) (who : Who) (call : Call) (origin : Option Origin) (acts : List Act) (object : ScriptedValue) → old.standing ≡ Asked who call origin
      → next_of old.script old.history ≡ next.Answer who call origin → scripted_of answers old.script old.history who ≡ Some object → acts ≡ acts_by call object → IfSome (answer_in old.standing acts) (λ entry. new ≡ core_after entry old)
      → text ≡ asked_in answers old.script old.history → AreMarkedLines text → spoke client client' (said text) → line client' ≡ line client → left ≡ [] → Grows spoke ended line answers old new client client' left
  scripted_answered old new client client' text left who call origin acts object stands is has says grown asked marks talk still none =
      let grows : new ≡ core_after (Heard who origin call acts) old = subst (λ (s : Standing). IfSome (answer_in s acts) (λ entry. new ≡ core_after entry old)) stands grown in
      let scripted : is_scripted answers old.script old.history (next.Answer who call origin) ≡ true = ap is_some has in
      let client_is : client_next answers old.script old.history ≡ next.Nothing =
      ap (λ (c : next.Next). left_to_client (is_scripted answers old.script old.history c) c) is ∙ ap (λ b. left_to_client b (next.Answer who call origin)) scripted in
      alone old new client client' text left (Heard who origin call acts) client_is grows asked marks talk still none
      (subst (λ (c : next.Next). IsByScript answers old.script old.history c (Heard who origin call acts)) (sym is)
      (subst (λ (one : Option ScriptedValue). IfSome one (λ o. Heard who origin call acts ≡ Heard who origin call (acts_by call o))) (sym has) (ap (Heard who origin call) says)))
