-- What the words of a key say of the calls that it is for.
use Rattle.script_answers.proofs.Common.{◌≡◌, inl, inr, Bool, true, false, List, ℕ, sym, ap, ap₂, ◌∙◌, subst, false≢true, Call, LineFault, NoCall, NoAct, Memory, BeginsWith, HasNone, TellsExamples, call_words, example_for, Begins, but_star, ends_in_star, has_whole_words, is_for, CanBeCall, IsNoKey, LacksItem, key_fault, CallsHaveWords, call_text, ◌⊎◌, words_of}
use Rattle.script_answers.proofs.CallReads.{begins-all-example, call-joined, item-all-example}
use Rattle.script_answers.proofs.KeyWords.{begins-for, for-begins}

-- the words of a call that a key is for begin with those of the key
begins-key : (key : List ℕ) (other : Call) → CallsHaveWords → CanBeCall other → has_whole_words key ≡ true → is_for key (call_text other) ≡ true → BeginsWith key other
begins-key key other law can whole for = subst (λ words. Begins (but_star (words_of key)) (ends_in_star (words_of key)) words) (law other can) (begins-for key (call_text other) whole for)

-- where none begins so, the text is no key
no-key : (key : List ℕ) → CallsHaveWords → HasNone key → IsNoKey key
no-key key law none = λ other can for whole. none other can (begins-key key other law can whole for)

-- where there is no example, the fault is out of memory, or the text is no key
pub no-example : (told fault : LineFault) (key : List ℕ) → told ≡ key_fault fault → CallsHaveWords → (fault ≡ Memory) ⊎ HasNone key
    → (told ≡ Memory) ⊎ ((told ≡ NoCall) × IsNoKey key)
no-example told fault key is law (inl memory) = inl (is ∙ ap key_fault memory)
no-example told Memory key is law (inr none) = inl is
no-example told NoCall key is law (inr none) = inr (is, no-key key law none)
no-example told NoAct key is law (inr none) = inr (is, no-key key law none)

-- where the example has no item, no call has one
pub lacks-item : (key line : List ℕ) (has_item : Bool) → CallsHaveWords → has_whole_words key ≡ true → TellsExamples key line has_item → has_item ≡ false → LacksItem key
lacks-item key line has_item law whole tells none = λ other can for.
    item-all-example (but_star (words_of key)) other (sym (tells other can (begins-key key other law can whole for)).1 ∙ none)

-- where a key is not for the example, it is for no call
pub not-for : (key line : List ℕ) (has_item : Bool) → CallsHaveWords → TellsExamples key line has_item → is_for key line ≡ false → IsNoKey key
not-for key line has_item law tells off = λ other can for whole.
    let begins = begins-key key other law can whole for in
    let example = example_for (but_star (words_of key)) other in
    let with-example = begins-all-example (but_star (words_of key)) (ends_in_star (words_of key)) other begins in
    let on : is_for key (call_text example) ≡ true = for-begins key (call_text example) (call_words example) whole (call-joined example) with-example in
    false≢true (sym off ∙ ap (is_for key) (tells other can begins).0 ∙ on)

-- what the code asked of its own copies
pub same-for : (told : Bool) (key text slice line : List ℕ) → told ≡ is_for key slice → key ≡ text → slice ≡ line → told ≡ false → is_for text line ≡ false
same-for told key text slice line is keys lines none = sym (ap₂ is_for keys lines) ∙ sym is ∙ none
