-- The words of calls, and the examples that keys are read as.
use Rattle.script_answers.proofs.Common.{rules, ◌≡◌, ◌≢◌, ℕ, ◌<◌, ◌^◌, Bool, true, false, List, [], ◌∷◌, ◌++◌, refl, sym, ap, ◌∙◌, arith, subst, drop, ℤ, pos, negsuc, Option, Some, IfSome, Result, Err, IfOk, IfErr, decimal, join_with_byte, true≢false, and_parts, not-true, cond-true, cond-false, decimal_digit, Call, Item, Phase, LineFault, call_words, has_finished, is_named, is_short, keyword_of, last_example, phase_of, words_behind, NoneBehind, Tells, TellsBehind, example_by, example_for, given_or, zeros, Begins, first_or, CanBeCall, item_in, CallsHaveWords, PartsHaveNoBlanks, has_no_blank, answer_text, call_text, item_text, some_item_text, value_text, phase_name, IsItem, IsName, IsSigned, name_fault, ◌==◌, not, codes, None, Ok, is_some, words_of}
use Rattle.uvm_acts.specs.declared.acts.Call.TheVariants as call
use Rattle.uvm_phase.specs.declared.phases.Phase.TheVariants as phase
use Rattle.script_answers.specs.Calls.{later_words}
use Rattle.script_answers.proofs.Digits.{not-none}

-- NONE

-- the only value with the text `none` is none
pub value-none : (value : Option ℤ) → IfSome value IsSigned → codes "none" ≡ value_text value → None ≡ value
value-none None can same = refl
value-none (Some (pos n)) can same = absurd (not-none n (omega arith) (sym same))
value-none (Some (negsuc n)) can same = cc

-- THE WORDS OF A CALL

-- a text with no blank is one word
words-one : (text : List ℕ) → has_no_blank text ≡ true → words_of text ≡ text ∷ []
words-one [] plain = refl
words-one (b ∷ text) plain =
    let both = and_parts (not (b == 32)) (has_no_blank text) plain in
    rw (not-true (b == 32) both.0, words-one text both.1)

-- and the first word, where a blank stands behind it
words-more : (text rest : List ℕ) → has_no_blank text ≡ true → words_of (text ++ 32 ∷ rest) ≡ text ∷ words_of rest
words-more [] rest plain = refl
words-more (b ∷ text) rest plain =
    let both = and_parts (not (b == 32)) (has_no_blank text) plain in
    rw (not-true (b == 32) both.0, words-more text rest both.1)

words-two : (name word : List ℕ) → has_no_blank name ≡ true → has_no_blank word ≡ true → words_of (name ++ 32 ∷ word) ≡ name ∷ word ∷ []
words-two name word plain other = words-more name word plain ∙ ap (λ rest. name ∷ rest) (words-one word other)

value-plain : PartsHaveNoBlanks → (value : Option ℤ) → IfSome value IsSigned → has_no_blank (value_text value) ≡ true
value-plain parts None can = refl
value-plain parts (Some value) can = parts.integers value can

item-plain : PartsHaveNoBlanks → (item : Option Item) → IfSome item IsItem → has_no_blank (some_item_text item) ≡ true
item-plain parts None can = refl
item-plain parts (Some item) can = parts.items item can

answer-plain : (stored : Bool) → has_no_blank (answer_text stored) ≡ true
answer-plain true = refl
answer-plain false = refl

-- no phase has a blank in its name
phase-words : (which : Phase) → words_of (phase_name which) ≡ phase_name which ∷ []
phase-words which = elim which as (λ which. words_of (phase_name which) ≡ phase_name which ∷ []) [
  | phase.Build ↦ refl
  | phase.Connect ↦ refl
  | phase.EndOfElaboration ↦ refl
  | phase.StartOfSimulation ↦ refl
  | phase.Run ↦ refl
  | phase.Extract ↦ refl
  | phase.Check ↦ refl
  | phase.Report ↦ refl
  | phase.Final ↦ refl
  | phase.PreReset ↦ refl
  | phase.Reset ↦ refl
  | phase.PostReset ↦ refl
  | phase.PreConfigure ↦ refl
  | phase.Configure ↦ refl
  | phase.PostConfigure ↦ refl
  | phase.PreMain ↦ refl
  | phase.Main ↦ refl
  | phase.PostMain ↦ refl
  | phase.PreShutdown ↦ refl
  | phase.Shutdown ↦ refl
  | phase.PostShutdown ↦ refl
]

-- a phase is read from its name
phase-back : (which : Phase) → phase_of (phase_name which) ≡ Ok which
phase-back which = elim which as (λ which. phase_of (phase_name which) ≡ Ok which) [
  | phase.Build ↦ refl
  | phase.Connect ↦ refl
  | phase.EndOfElaboration ↦ refl
  | phase.StartOfSimulation ↦ refl
  | phase.Run ↦ refl
  | phase.Extract ↦ refl
  | phase.Check ↦ refl
  | phase.Report ↦ refl
  | phase.Final ↦ refl
  | phase.PreReset ↦ refl
  | phase.Reset ↦ refl
  | phase.PostReset ↦ refl
  | phase.PreConfigure ↦ refl
  | phase.Configure ↦ refl
  | phase.PostConfigure ↦ refl
  | phase.PreMain ↦ refl
  | phase.Main ↦ refl
  | phase.PostMain ↦ refl
  | phase.PreShutdown ↦ refl
  | phase.Shutdown ↦ refl
  | phase.PostShutdown ↦ refl
]

-- the line of a call, cut at its blanks, is its words
pub calls-have-words : PartsHaveNoBlanks → CallsHaveWords
calls-have-words parts (call.Phase which) can = phase-words which
calls-have-words parts (call.Config field value) can = ap (λ rest. codes "config" ∷ rest) (words-two field (value_text value) (parts.names field can.0) (value-plain parts value can.1))
calls-have-words parts (call.Wake tag) can = ap (λ rest. codes "wake" ∷ rest) (words-one (decimal tag) (parts.numbers tag (omega arith)))
calls-have-words parts (call.Stored port) can = ap (λ rest. codes "stored" ∷ rest) (words-one port (parts.names port can))
calls-have-words parts (call.TryStored port stored) can = ap (λ rest. codes "try_stored" ∷ rest) (words-two port (answer_text stored) (parts.names port can) (answer-plain stored))
calls-have-words parts (call.Taken port item) can = ap (λ rest. codes "taken" ∷ rest) (words-two port (item_text item) (parts.names port can.0) (parts.items item can.1))
calls-have-words parts (call.TryTaken port item) can = ap (λ rest. codes "try_taken" ∷ rest) (words-two port (some_item_text item) (parts.names port can.0) (item-plain parts item can.1))
calls-have-words parts (call.Peeked port item) can = ap (λ rest. codes "peeked" ∷ rest) (words-two port (item_text item) (parts.names port can.0) (parts.items item can.1))
calls-have-words parts (call.Written imp item) can = ap (λ rest. codes "written" ∷ rest) (words-two imp (item_text item) (parts.names imp can.0) (parts.items item can.1))
calls-have-words parts (call.NextItem port item) can = ap (λ rest. codes "next_item" ∷ rest) (words-two port (some_item_text item) (parts.names port can.0) (item-plain parts item can.1))
calls-have-words parts call.PreStart can = refl
calls-have-words parts call.Body can = refl
calls-have-words parts call.PostStart can = refl
calls-have-words parts call.Grant can = refl
calls-have-words parts (call.ItemDone response) can = ap (λ rest. codes "item_done" ∷ rest) (words-one (some_item_text response) (item-plain parts response can))
calls-have-words parts call.Held can = refl
calls-have-words parts (call.Finished name id) can = ap (λ rest. codes "finished" ∷ rest) (words-two name (decimal id) (parts.names name can.0) (parts.numbers id can.1))

-- the words of a call, joined, are its text
pub call-joined : (other : Call) → call_text other ≡ join_with_byte 32 (call_words other)
call-joined (call.Phase which) = refl
call-joined (call.Config field value) = refl
call-joined (call.Wake tag) = refl
call-joined (call.Stored port) = refl
call-joined (call.TryStored port stored) = refl
call-joined (call.Taken port item) = refl
call-joined (call.TryTaken port item) = refl
call-joined (call.Peeked port item) = refl
call-joined (call.Written imp item) = refl
call-joined (call.NextItem port item) = refl
call-joined call.PreStart = refl
call-joined call.Body = refl
call-joined call.PostStart = refl
call-joined call.Grant = refl
call-joined (call.ItemDone response) = refl
call-joined call.Held = refl
call-joined (call.Finished name id) = refl

-- THE EXAMPLE OF A CALL

zero-text : decimal 0 ≡ codes "0"
zero-text = decimal_digit 0 (omega arith)

zeros-text : item_text zeros ≡ codes "[0,0,0,0]"
zeros-text = ap (λ (digit : List ℕ). 91 ∷ digit ++ 44 ∷ digit ++ 44 ∷ digit ++ 44 ∷ digit ++ 93 ∷ []) zero-text

name-a : IsName (codes "a")
unfolding name_fault
name-a = refl

zeros-item : IsItem zeros
zeros-item = (refl, search rules)

can-or : {A : Type 0} (P : A → Type 0) (example part : A) (given : List (List ℕ)) → P example → P part → P (given_or example given part)
can-or P example part [] one other = one
can-or P example part (word ∷ given) one other = other

value-or : (value : Option ℤ) (given : List (List ℕ)) → IfSome value IsSigned → IfSome (given_or None given value) IsSigned
value-or value given can = can-or (λ value. IfSome value IsSigned) None value given tt can

some-or : (item : Option Item) (given : List (List ℕ)) → IfSome item IsItem → IfSome (given_or (Some zeros) given item) IsItem
some-or item given can = can-or (λ item. IfSome item IsItem) (Some zeros) item given zeros-item can

name-or : (name : List ℕ) (given : List (List ℕ)) → IsName name → IsName (given_or (codes "a") given name)
name-or name given can = can-or IsName (codes "a") name given name-a can

-- the example can be, where the call can
pub can-example : (given : List (List ℕ)) (other : Call) → CanBeCall other → CanBeCall (example_by given other)
can-example given (call.Phase which) can = tt
can-example given (call.Config field value) can = (name-or field given can.0, value-or value (drop 1 given) can.1)
can-example given (call.Wake tag) can = can-or (λ tag. tag < 2 ^ 32) 0 tag given (omega arith) can
can-example given (call.Stored port) can = name-or port given can
can-example given (call.TryStored port stored) can = name-or port given can
can-example given (call.Taken port item) can = (name-or port given can.0, can-or IsItem zeros item (drop 1 given) zeros-item can.1)
can-example given (call.TryTaken port item) can = (name-or port given can.0, some-or item (drop 1 given) can.1)
can-example given (call.Peeked port item) can = (name-or port given can.0, can-or IsItem zeros item (drop 1 given) zeros-item can.1)
can-example given (call.Written imp item) can = (name-or imp given can.0, can-or IsItem zeros item (drop 1 given) zeros-item can.1)
can-example given (call.NextItem port item) can = (name-or port given can.0, some-or item (drop 1 given) can.1)
can-example given call.PreStart can = tt
can-example given call.Body can = tt
can-example given call.PostStart can = tt
can-example given call.Grant can = tt
can-example given (call.ItemDone response) can = some-or response given can
can-example given call.Held can = tt
can-example given (call.Finished name id) can = (name-or name given can.0, can-or (λ id. id < 2 ^ 64) 1 id (drop 1 given) (omega arith) can.1)

-- it has the keyword of the call
pub keyword-example : (given : List (List ℕ)) (other : Call) → keyword_of (example_by given other) ≡ keyword_of other
keyword-example given (call.Phase which) = refl
keyword-example given (call.Config field value) = refl
keyword-example given (call.Wake tag) = refl
keyword-example given (call.Stored port) = refl
keyword-example given (call.TryStored port stored) = refl
keyword-example given (call.Taken port item) = refl
keyword-example given (call.TryTaken port item) = refl
keyword-example given (call.Peeked port item) = refl
keyword-example given (call.Written imp item) = refl
keyword-example given (call.NextItem port item) = refl
keyword-example given call.PreStart = refl
keyword-example given call.Body = refl
keyword-example given call.PostStart = refl
keyword-example given call.Grant = refl
keyword-example given (call.ItemDone response) = refl
keyword-example given call.Held = refl
keyword-example given (call.Finished name id) = refl

-- it tells that a sequence has finished, where the call does
pub finished-example : (given : List (List ℕ)) (other : Call) → has_finished other ≡ false → has_finished (example_by given other) ≡ false
finished-example given (call.Finished name id) plain = absurd (true≢false plain)
finished-example given (call.Phase which) plain = refl
finished-example given (call.Config field value) plain = refl
finished-example given (call.Wake tag) plain = refl
finished-example given (call.Stored port) plain = refl
finished-example given (call.TryStored port stored) plain = refl
finished-example given (call.Taken port item) plain = refl
finished-example given (call.TryTaken port item) plain = refl
finished-example given (call.Peeked port item) plain = refl
finished-example given (call.Written imp item) plain = refl
finished-example given (call.NextItem port item) plain = refl
finished-example given call.PreStart plain = refl
finished-example given call.Body plain = refl
finished-example given call.PostStart plain = refl
finished-example given call.Grant plain = refl
finished-example given (call.ItemDone response) plain = refl
finished-example given call.Held plain = refl

-- a call of another keyword tells nothing of a sequence that has finished
pub not-finished : (keyword : List ℕ) (other : Call) → keyword ≢ codes "finished" → keyword ≡ keyword_of other → has_finished other ≡ false
not-finished keyword (call.Finished name id) apart same = absurd (apart same)
not-finished keyword (call.Phase which) apart same = refl
not-finished keyword (call.Config field value) apart same = refl
not-finished keyword (call.Wake tag) apart same = refl
not-finished keyword (call.Stored port) apart same = refl
not-finished keyword (call.TryStored port stored) apart same = refl
not-finished keyword (call.Taken port item) apart same = refl
not-finished keyword (call.TryTaken port item) apart same = refl
not-finished keyword (call.Peeked port item) apart same = refl
not-finished keyword (call.Written imp item) apart same = refl
not-finished keyword (call.NextItem port item) apart same = refl
not-finished keyword call.PreStart apart same = refl
not-finished keyword call.Body apart same = refl
not-finished keyword call.PostStart apart same = refl
not-finished keyword call.Grant apart same = refl
not-finished keyword (call.ItemDone response) apart same = refl
not-finished keyword call.Held apart same = refl

none-or : (given : List (List ℕ)) (item : Option Item) → is_some (given_or (Some zeros) given item) ≡ false → item ≡ None
none-or [] item none = absurd (true≢false none)
none-or (word ∷ given) None none = refl
none-or (word ∷ given) (Some item) none = absurd (true≢false none)

-- where the example has no item, the call has none
pub item-example : (given : List (List ℕ)) (other : Call) → is_some (item_in (example_by given other)) ≡ false → item_in other ≡ None
item-example given (call.Phase which) none = refl
item-example given (call.Config field value) none = refl
item-example given (call.Wake tag) none = refl
item-example given (call.Stored port) none = refl
item-example given (call.TryStored port stored) none = refl
item-example given (call.Taken port item) none = absurd (true≢false none)
item-example given (call.TryTaken port item) none = none-or (drop 1 given) item none
item-example given (call.Peeked port item) none = absurd (true≢false none)
item-example given (call.Written imp item) none = absurd (true≢false none)
item-example given (call.NextItem port item) none = none-or (drop 1 given) item none
item-example given call.PreStart none = refl
item-example given call.Body none = refl
item-example given call.PostStart none = refl
item-example given call.Grant none = refl
item-example given (call.ItemDone response) none = none-or given response none
item-example given call.Held none = refl
item-example given (call.Finished name id) none = refl

-- THE WORDS OF THE EXAMPLE

-- a name and one word more: those that are given, and where these end those of the example
two-words : {A : Type 0} (name : List ℕ) (text : A → List ℕ) (example part : A) (last : List ℕ) (given : List (List ℕ)) (goes_on : Bool) → text example ≡ last
    → Begins given goes_on (name ∷ text part ∷ [])
    → first_or (codes "a") given ∷ first_or last (drop 1 given) ∷ [] ≡ given_or (codes "a") given name ∷ text (given_or example (drop 1 given) part) ∷ []
two-words name text example part last [] goes_on is begins = ap (λ word. codes "a" ∷ word ∷ []) (sym is)
two-words name text example part last (one ∷ []) goes_on is begins = cc (begins.0, is)
two-words name text example part last (one ∷ other ∷ []) goes_on is begins = cc (begins.0, begins.1.0)
two-words name text example part last (one ∷ other ∷ next ∷ given) goes_on is begins = absurd begins.1.1

-- and one word alone
one-word : {A : Type 0} (text : A → List ℕ) (example part : A) (last : List ℕ) (given : List (List ℕ)) (goes_on : Bool) → text example ≡ last
    → Begins given goes_on (text part ∷ [])
    → first_or last given ∷ [] ≡ text (given_or example given part) ∷ []
one-word text example part last [] goes_on is begins = ap (λ word. word ∷ []) (sym is)
one-word text example part last (one ∷ []) goes_on is begins = ap (λ word. word ∷ []) begins.0
one-word text example part last (one ∷ other ∷ given) goes_on is begins = absurd begins.1

-- nothing stands behind the name of a phase
phase-behind : (which : Phase) (given : List (List ℕ)) → words_behind (phase_name which) given ≡ []
phase-behind which given = elim which as (λ which. words_behind (phase_name which) given ≡ []) [
  | phase.Build ↦ refl
  | phase.Connect ↦ refl
  | phase.EndOfElaboration ↦ refl
  | phase.StartOfSimulation ↦ refl
  | phase.Run ↦ refl
  | phase.Extract ↦ refl
  | phase.Check ↦ refl
  | phase.Report ↦ refl
  | phase.Final ↦ refl
  | phase.PreReset ↦ refl
  | phase.Reset ↦ refl
  | phase.PostReset ↦ refl
  | phase.PreConfigure ↦ refl
  | phase.Configure ↦ refl
  | phase.PostConfigure ↦ refl
  | phase.PreMain ↦ refl
  | phase.Main ↦ refl
  | phase.PostMain ↦ refl
  | phase.PreShutdown ↦ refl
  | phase.Shutdown ↦ refl
  | phase.PostShutdown ↦ refl
]

-- what stands behind the keyword is what stands there in the example
words-example : (given : List (List ℕ)) (goes_on : Bool) (other : Call) → has_finished other ≡ false → Begins given goes_on (later_words other)
    → words_behind (keyword_of other) given ≡ later_words (example_by given other)
words-example given goes_on (call.Finished name id) plain begins = absurd (true≢false plain)
words-example given goes_on (call.Phase which) plain begins = phase-behind which given
words-example given goes_on (call.Config field value) plain begins = two-words field value_text None value (codes "none") given goes_on refl begins
words-example given goes_on (call.Wake tag) plain begins = one-word decimal 0 tag (codes "0") given goes_on zero-text begins
words-example given goes_on (call.Stored port) plain begins = one-word (λ name. name) (codes "a") port (codes "a") given goes_on refl begins
words-example given goes_on (call.TryStored port stored) plain begins = two-words port answer_text true stored (codes "yes") given goes_on refl begins
words-example given goes_on (call.Taken port item) plain begins = two-words port item_text zeros item (codes "[0,0,0,0]") given goes_on zeros-text begins
words-example given goes_on (call.TryTaken port item) plain begins = two-words port some_item_text (Some zeros) item (codes "[0,0,0,0]") given goes_on zeros-text begins
words-example given goes_on (call.Peeked port item) plain begins = two-words port item_text zeros item (codes "[0,0,0,0]") given goes_on zeros-text begins
words-example given goes_on (call.Written imp item) plain begins = two-words imp item_text zeros item (codes "[0,0,0,0]") given goes_on zeros-text begins
words-example given goes_on (call.NextItem port item) plain begins = two-words port some_item_text (Some zeros) item (codes "[0,0,0,0]") given goes_on zeros-text begins
words-example given goes_on call.PreStart plain begins = refl
words-example given goes_on call.Body plain begins = refl
words-example given goes_on call.PostStart plain begins = refl
words-example given goes_on call.Grant plain begins = refl
words-example given goes_on (call.ItemDone response) plain begins = one-word some_item_text (Some zeros) response (codes "[0,0,0,0]") given goes_on zeros-text begins
words-example given goes_on call.Held plain begins = refl

-- so its words are the keyword and these
behind-words : (keyword : List ℕ) (given : List (List ℕ)) (goes_on : Bool) (other : Call) → has_finished other ≡ false → keyword ≡ keyword_of other
    → Begins given goes_on (later_words other) → keyword ∷ words_behind keyword given ≡ call_words (example_by given other)
behind-words keyword given goes_on other plain same begins =
    rw (same, words-example given goes_on other plain begins, keyword-example given other) refl

-- the words that are read of a keyword with a name behind it are those of the example
pub named-words : (keyword first second : List ℕ) (given after : List (List ℕ)) (goes_on : Bool) (other : Call) → is_named keyword ≡ true
    → first ≡ first_or (codes "a") given → after ≡ drop 1 given → second ≡ first_or (last_example keyword) after
    → has_finished other ≡ false → keyword ≡ keyword_of other → Begins given goes_on (later_words other) → keyword ∷ first ∷ second ∷ [] ≡ call_words (example_by given other)
named-words keyword first second given after goes_on other named one left two plain same begins =
    let words : words_behind keyword given ≡ first_or (codes "a") given ∷ first_or (last_example keyword) (drop 1 given) ∷ [] = cond-true (is_named keyword) _ _ named in
    let all = behind-words keyword given goes_on other plain same begins in
    cc (words, all, ap (first_or (last_example keyword)) left)

-- and those of a keyword with one word
pub short-words : (keyword first : List ℕ) (given : List (List ℕ)) (goes_on : Bool) (other : Call) → is_named keyword ≡ false → is_short keyword ≡ true
    → first ≡ first_or (last_example keyword) given
    → has_finished other ≡ false → keyword ≡ keyword_of other → Begins given goes_on (later_words other) → keyword ∷ first ∷ [] ≡ call_words (example_by given other)
short-words keyword first given goes_on other unnamed short one plain same begins =
    let words : words_behind keyword given ≡ first_or (last_example keyword) given ∷ [] = cond-false (is_named keyword) _ _ unnamed ∙ cond-true (is_short keyword) _ _ short in
    let all = behind-words keyword given goes_on other plain same begins in
    cc (words, all)

-- the words given begin those of the example too
begins-pair : {A : Type 0} (name : List ℕ) (text : A → List ℕ) (example part : A) (given : List (List ℕ)) (goes_on : Bool) → Begins given goes_on (name ∷ text part ∷ [])
    → Begins given goes_on (given_or (codes "a") given name ∷ text (given_or example (drop 1 given) part) ∷ [])
begins-pair name text example part [] goes_on begins = begins
begins-pair name text example part (one ∷ []) goes_on begins = begins
begins-pair name text example part (one ∷ other ∷ given) goes_on begins = begins

begins-word : {A : Type 0} (text : A → List ℕ) (example part : A) (given : List (List ℕ)) (goes_on : Bool) → Begins given goes_on (text part ∷ [])
    → Begins given goes_on (text (given_or example given part) ∷ [])
begins-word text example part [] goes_on begins = begins
begins-word text example part (one ∷ given) goes_on begins = begins

-- behind the keyword
begins-example : (given : List (List ℕ)) (goes_on : Bool) (other : Call) → Begins given goes_on (later_words other) → Begins given goes_on (later_words (example_by given other))
begins-example given goes_on (call.Phase which) begins = begins
begins-example given goes_on (call.Config field value) begins = begins-pair field value_text None value given goes_on begins
begins-example given goes_on (call.Wake tag) begins = begins-word decimal 0 tag given goes_on begins
begins-example given goes_on (call.Stored port) begins = begins-word (λ name. name) (codes "a") port given goes_on begins
begins-example given goes_on (call.TryStored port stored) begins = begins-pair port answer_text true stored given goes_on begins
begins-example given goes_on (call.Taken port item) begins = begins-pair port item_text zeros item given goes_on begins
begins-example given goes_on (call.TryTaken port item) begins = begins-pair port some_item_text (Some zeros) item given goes_on begins
begins-example given goes_on (call.Peeked port item) begins = begins-pair port item_text zeros item given goes_on begins
begins-example given goes_on (call.Written imp item) begins = begins-pair imp item_text zeros item given goes_on begins
begins-example given goes_on (call.NextItem port item) begins = begins-pair port some_item_text (Some zeros) item given goes_on begins
begins-example given goes_on call.PreStart begins = begins
begins-example given goes_on call.Body begins = begins
begins-example given goes_on call.PostStart begins = begins
begins-example given goes_on call.Grant begins = begins
begins-example given goes_on (call.ItemDone response) begins = begins-word some_item_text (Some zeros) response given goes_on begins
begins-example given goes_on call.Held begins = begins
begins-example given goes_on (call.Finished name id) begins = begins-pair name decimal 1 id given goes_on begins

-- and with the keyword
pub begins-all-example : (given : List (List ℕ)) (goes_on : Bool) (other : Call) → Begins given goes_on (call_words other) → Begins given goes_on (call_words (example_for given other))
begins-all-example [] goes_on other begins = begins
begins-all-example (keyword ∷ given) goes_on other begins = (begins.0 ∙ sym (keyword-example given other), begins-example given goes_on other begins.1)

-- where the example of a key has no item, the call has none
pub item-all-example : (given : List (List ℕ)) (other : Call) → is_some (item_in (example_for given other)) ≡ false → item_in other ≡ None
item-all-example [] other none = absurd (true≢false none)
item-all-example (keyword ∷ given) other none = item-example given other none

-- A SEQUENCE HAS FINISHED

-- the parts of the example of a call that tells so
pub record Finishes (given : List (List ℕ)) (other : Call) : Type 0 where
  pub name : List ℕ
  pub id : ℕ
  pub is : example_by given other ≡ call.Finished name id
  pub named : IsName name
  pub small : id < 2 ^ 64
  pub first : first_or (codes "a") given ≡ name
  pub second : first_or (codes "1") (drop 1 given) ≡ decimal id

one-text : decimal 1 ≡ codes "1"
one-text = decimal_digit 1 (omega arith)

finishes : (name : List ℕ) (id : ℕ) (given : List (List ℕ)) (goes_on : Bool) → CanBeCall (call.Finished name id) → Begins given goes_on (name ∷ decimal id ∷ [])
    → Finishes given (call.Finished name id)
finishes name id given goes_on can begins =
    let both = two-words name decimal 1 id (codes "1") given goes_on one-text begins in
    let same = can-example given (call.Finished name id) can in
    record { name = given_or (codes "a") given name; id = given_or 1 (drop 1 given) id; is = refl; named = same.0; small = same.1; first = cc both; second = cc both }

-- no phase is called so
finished-no-phase : (which : Phase) → codes "finished" ≡ phase_name which → ⊥
finished-no-phase which same = let told = ap phase_of same ∙ phase-back which in absurd cc

pub finished-parts : (given : List (List ℕ)) (goes_on : Bool) (other : Call) → CanBeCall other → codes "finished" ≡ keyword_of other → Begins given goes_on (later_words other)
    → Finishes given other
finished-parts given goes_on (call.Finished name id) can same begins = finishes name id given goes_on can begins
finished-parts given goes_on (call.Phase which) can same begins = absurd (finished-no-phase which same)
finished-parts given goes_on other can same begins = absurd cc

-- WHAT IS READ BY THE KEYWORD, OF THE KEY

-- the call that a key is read as which gives not even a keyword
abbrev open-call : Call
open-call = call.ItemDone (Some zeros)

open-begins : (after : List (List ℕ)) (goes_on still : Bool) → after ≡ [] → still ≡ goes_on → goes_on ≡ true → Begins after still (later_words open-call)
open-begins after goes_on still none same on = rw none (same ∙ on)

-- what is read by the words behind the keyword is read by all words
pub tells-by : (given after : List (List ℕ)) (goes_on still : Bool) (keyword line : List ℕ) (has_item : Bool)
    → keyword ≡ first_or (codes "item_done") given → after ≡ drop 1 given → still ≡ goes_on → TellsBehind keyword after still line has_item
    → (other : Call) → CanBeCall other → Begins given goes_on (call_words other) → Tells line has_item (example_for given other)
tells-by [] after goes_on still keyword line has_item first left same tells other can begins =
    let told : Tells line has_item (example_by after open-call) = tells open-call zeros-item first (open-begins after goes_on still left same begins) in
    subst (λ words. Tells line has_item (example_by words open-call)) left told
tells-by (word ∷ given) after goes_on still keyword line has_item first left same tells other can begins =
    subst (λ words. Tells line has_item (example_by words other)) left (tells other can (first ∙ begins.0) (rw (left, same) begins.1))

-- and where no call begins so behind the keyword, none begins so
pub none-by : (given after : List (List ℕ)) (goes_on still : Bool) (keyword : List ℕ)
    → keyword ≡ first_or (codes "item_done") given → after ≡ drop 1 given → still ≡ goes_on → NoneBehind keyword after still
    → (other : Call) → CanBeCall other → Begins given goes_on (call_words other) → ⊥
none-by [] after goes_on still keyword first left same none other can begins = none open-call zeros-item first (open-begins after goes_on still left same begins)
none-by (word ∷ given) after goes_on still keyword first left same none other can begins = none other can (first ∙ begins.0) (rw (left, same) begins.1)

-- RESULTS

-- a fact of each fault, or of each value, is one of a result
pub err-any : {A : Type 0} (result : Result A LineFault) (P : LineFault → Type 0) → ((fault : LineFault) → P fault) → IfErr result P
err-any (Ok value) P all = tt
err-any (Err fault) P all = all fault

pub ok-map : {A : Type 0} (result : Result A LineFault) (P Q : A → Type 0) → ((value : A) → P value → Q value) → IfOk result P → IfOk result Q
ok-map (Ok value) P Q all one = all value one
ok-map (Err fault) P Q all one = tt

pub err-map : {A : Type 0} (result : Result A LineFault) (P Q : LineFault → Type 0) → ((fault : LineFault) → P fault → Q fault) → IfErr result P → IfErr result Q
err-map (Ok value) P Q all one = tt
err-map (Err fault) P Q all one = all fault one
