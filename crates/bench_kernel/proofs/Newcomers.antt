-- Who was made, after an entry.
use Rattle.bench_kernel.proofs.Common.{◌≡◌, ◌∙◌, ◌≤◌, ap, ℕ, false, List, [], ◌∷◌, length, arith, Option, Some, None, inl, inr, refl, sym, subst, All-cons, All-contains, All-nil, All-weaker, Contains-push_cases, IsDistinct-cons, IsDistinct-from_apart, same_Some, All, Contains, IsDistinct, keys_of, same_who, NoObject, Made, Refused, Started, components_of, StartRecord, all_begun, starts_of, Who, Sequence, Act, Outcome, Entry, Did, Granted, Heard, ScriptValue, Next, Exactly, Answer, Allows, EachIsNext, made_in, need_in, next_of, IsMachines, number_of, made_who, WasMade, needed_type, types_made, IsMadeNew, LogLaws, MadeAreNew, NobodyIsMadeTwice, OthersMakeNobody, ◌⊎◌}
use Rattle.bench_history.specs.declared.needs.Need as declared
use Rattle.bench_history.specs.Cases.{Need, Grant, Nothing}
use Rattle.bench_kernel.proofs.Custody.{HasCome, WasMade-same, all-numbered, has-come, types-same}
use Rattle.bench_kernel.proofs.Lists.{recursion-from_All}

pub made-are-new : LogLaws → MadeAreNew
made-are-new laws script history entry who each made is = go (next_of script history) refl made is
  where
    go : (comes : Next) → next_of script history ≡ comes → made_in comes ≡ Some entry → made_who history comes ≡ Some who → IsMadeNew script history entry who
    go (Need need made performer act) needs enters is =
        let come : HasCome script history (Did performer made act) need.type_name who = has-come laws script history each need made performer act who needs is in
        let wanted : needed_type script history ≡ need.type_name = rw needs refl in
        subst (λ (e : Entry). IsMadeNew script history e who) (same_Some (Did performer made act) entry enters)
        (record { types = come.types ∙ ap (λ type_name. (who, type_name) ∷ types_made script history) (sym wanted); unasked = come.unasked })
    go (Exactly expected) exact enters is = cc
    go (Answer hearer call origin) exact enters is = cc
    go (Grant sequencer drawn chosen) exact enters is = cc
    go Nothing exact enters is = cc

pub others-make-nobody : LogLaws → OthersMakeNobody
others-make-nobody laws script history entry unneeded allowed = go (next_of script history) refl unneeded allowed
  where
    go : (comes : Next) → next_of script history ≡ comes → need_in comes ≡ None → Allows comes entry → types_made script (entry ∷ history) ≡ types_made script history
    go (Exactly expected) exact unneeded is =
        let machines : IsMachines history expected = laws.silent script history expected exact in
        subst (λ (e : Entry). types_made script (e ∷ history) ≡ types_made script history) (sym is) (types-same script expected history machines.keeps machines.starts_none)
    go (Answer hearer call origin) exact unneeded is = subst (λ (e : Entry). types_made script (e ∷ history) ≡ types_made script history) (sym is.1) refl
    go (Need need made performer act) exact unneeded is = cc
    go (Grant sequencer drawn chosen) exact unneeded is = subst (λ (e : Entry). types_made script (e ∷ history) ≡ types_made script history) (sym is.3) refl
    go Nothing exact unneeded is = absurd is

-- who is named with a type was made, and each once
record AreOnce (script : ScriptValue) (history : List Entry) : Type 0 where
  were : All (WasMade history) (keys_of (types_made script history))
  once : IsDistinct same_who (keys_of (types_made script history))

once-same : (script : ScriptValue) (entry : Entry) (history : List Entry) → components_of (entry ∷ history) ≡ components_of history → starts_of (entry ∷ history) ≡ starts_of history
    → AreOnce script history → AreOnce script (entry ∷ history)
once-same script entry history components begun once =
    let types : types_made script (entry ∷ history) ≡ types_made script history = types-same script entry history components begun in
    record {
      were = subst (λ (all : List (Who × List ℕ)). All (WasMade (entry ∷ history)) (keys_of all)) (sym types)
          (All-weaker (WasMade history) (WasMade (entry ∷ history)) (WasMade-same history (entry ∷ history) components begun) (keys_of (types_made script history)) once.were);
      once = subst (λ (all : List (Who × List ℕ)). IsDistinct same_who (keys_of all)) (sym types) once.once;
    }

once-come : (script : ScriptValue) (entry : Entry) (history : List Entry) (type_name : List ℕ) (who : Who) → HasCome script history entry type_name who → AreOnce script history → AreOnce script (entry ∷ history)
once-come script entry history type_name who come once =
    record {
      were = subst (λ (all : List (Who × List ℕ)). All (WasMade (entry ∷ history)) (keys_of all)) (sym come.types)
          (All-cons (WasMade (entry ∷ history)) who (keys_of (types_made script history)) come.made
          (All-weaker (WasMade history) (WasMade (entry ∷ history)) come.others (keys_of (types_made script history)) once.were));
      once = subst (λ (all : List (Who × List ℕ)). IsDistinct same_who (keys_of all)) (sym come.types)
          (IsDistinct-cons same_who who (keys_of (types_made script history))
          (recursion-from_All (λ other. same_who who other ≡ false) (keys_of (types_made script history)) (All-weaker (WasMade history) (λ other. same_who who other ≡ false) come.apart (keys_of (types_made script history)) once.were))
          once.once);
    }

module _ (laws : LogLaws) (script : ScriptValue) where
  once-later : (entry : Entry) (history : List Entry) → EachIsNext script history → Allows (next_of script history) entry → AreOnce script history → AreOnce script (entry ∷ history)
  once-later entry history each allowed once = go (next_of script history) refl allowed
    where
      by-made : (need : declared.Need) (made : Outcome) (performer : Who) (act : Act) (who : Option Who) → made_who history (Need need made performer act) ≡ who → next_of script history ≡ Need need made performer act
          → AreOnce script (Did performer made act ∷ history)
      by-made need made performer act (Some who) is needs = once-come script (Did performer made act) history need.type_name who (has-come laws script history each need made performer act who needs is) once
      by-made need (Made type_name) performer act None is needs = cc
      by-made need (Started id) performer act None is needs = cc
      by-made need made performer act None is needs = once-same script (Did performer made act) history refl refl once

      go : (comes : Next) → next_of script history ≡ comes → Allows comes entry → AreOnce script (entry ∷ history)
      go (Exactly expected) exact is =
          let machines : IsMachines history expected = laws.silent script history expected exact in
          subst (λ (e : Entry). AreOnce script (e ∷ history)) (sym is) (once-same script expected history machines.keeps machines.starts_none once)
      go (Answer hearer call origin) exact is = subst (λ (e : Entry). AreOnce script (e ∷ history)) (sym is.1) (once-same script (Heard hearer origin call is.0) history refl refl once)
      go (Need need made performer act) needs (inl is) = subst (λ (e : Entry). AreOnce script (e ∷ history)) (sym is) (by-made need made performer act (made_who history (Need need made performer act)) refl needs)
      go (Need need made performer act) needs (inr is) =
          subst (λ (e : Entry). AreOnce script (e ∷ history)) (sym is) (once-same script (Did performer (Refused NoObject) act) history refl refl once)
      go (Grant sequencer drawn chosen) exact is = subst (λ (e : Entry). AreOnce script (e ∷ history)) (sym is.3) (once-same script (Granted sequencer is.0) history refl refl once)
      go Nothing exact is = absurd is

  once-all : (history : List Entry) → EachIsNext script history → AreOnce script history
  once-all [] each = record { were = All-nil (WasMade []); once = IsDistinct-from_apart same_who [] (λ i j d before within. absurd (omega arith)) }
  once-all (entry ∷ history) each = once-later entry history each.1 each.0 (once-all history each.1)

-- each number of a sequence has one sequencer
one-home : (begun : List StartRecord) (id home other : ℕ) → Contains (all_begun begun) (Sequence home id) → Contains (all_begun begun) (Sequence other id) → home ≡ other
one-home [] id home other first second = absurd (omega (arith, first.1))
one-home (start_record ∷ older) id home other first second =
    go (one-home older id home other) (Contains-push_cases (all_begun older) newest (Sequence home id) first) (Contains-push_cases (all_begun older) newest (Sequence other id) second)
  where
    newest : Who
    newest = Sequence start_record.start.home (length (start_record ∷ older))

    higher : {A : Type 0} (at : ℕ) → Contains (all_begun older) (Sequence at id) → length (start_record ∷ older) ≡ id → A
    higher at there is =
        let low : id ≤ length older = All-contains (λ who. number_of who ≤ length older) (all_begun older) (Sequence at id) (all-numbered older) there in
        absurd (omega (arith, low, is))

    go : (Contains (all_begun older) (Sequence home id) → Contains (all_begun older) (Sequence other id) → home ≡ other) → Contains (all_begun older) (Sequence home id) ⊎ (newest ≡ Sequence home id)
        → Contains (all_begun older) (Sequence other id) ⊎ (newest ≡ Sequence other id) → home ≡ other
    go earlier (inl there) (inl here) = earlier there here
    go earlier (inl there) (inr is) = let number : length (start_record ∷ older) ≡ id = cc in higher home there number
    go earlier (inr is) (inl there) = let number : length (start_record ∷ older) ≡ id = cc in higher other there number
    go earlier (inr is) (inr also) = let both : Sequence home id ≡ Sequence other id = sym is ∙ also in cc

once-numbers : (script : ScriptValue) (history : List Entry) → AreOnce script history → (id home other : ℕ) → Contains (keys_of (types_made script history)) (Sequence home id)
    → Contains (keys_of (types_made script history)) (Sequence other id) → home ≡ other
once-numbers script history once id home other first second =
    one-home (starts_of history) id home other (All-contains (WasMade history) (keys_of (types_made script history)) (Sequence home id) once.were first)
    (All-contains (WasMade history) (keys_of (types_made script history)) (Sequence other id) once.were second)

pub nobody-is-made-twice : LogLaws → NobodyIsMadeTwice
nobody-is-made-twice laws script history each =
    let once = once-all laws script history each in
    record { distinct = once.once; numbers = once-numbers script history once }
