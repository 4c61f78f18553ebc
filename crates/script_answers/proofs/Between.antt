-- What stands between the ends of a word.
use Rattle.script_answers.proofs.Common.{◌≡◌, ◌≢◌, ◌∙◌, ℕ, List, [], ◌∷◌, ◌++◌, Bor, sym, Option, Some, MatchOption, MatchResult, Result, ok_or, append_cancel_right, LineFault, NoAct, None}

-- what begins with a byte has what stands behind it
pub front-there : (first : ℕ) (word behind : List ℕ) (found : Option (Bor (List ℕ))) → found ≡ None
    → MatchOption found ((rest : List ℕ) → word ≢ first ∷ rest) (λ inner. word ≡ first ∷ inner.now) → word ≡ first ∷ behind → ⊥
front-there first word behind None none cases is = cases behind is
front-there first word behind (Some inner) none cases is = cc

pub front-is : (first : ℕ) (word behind : List ℕ) (inner : Bor (List ℕ)) (found : Option (Bor (List ℕ))) → found ≡ Some inner
    → MatchOption found ((rest : List ℕ) → word ≢ first ∷ rest) (λ inner. word ≡ first ∷ inner.now) → word ≡ first ∷ behind → inner.now ≡ behind
front-is first word behind inner None some cases is = cc
front-is first word behind inner (Some x) some cases is = cc

-- what ends with a byte has what stands before it
pub back-is : (last : ℕ) (inner text : List ℕ) (found : Option (Bor (List ℕ))) (result : Result (Bor (List ℕ)) LineFault) → result ≡ ok_or found NoAct
    → MatchOption found ((front : List ℕ) → inner ≢ front ++ (last ∷ [])) (λ x. inner ≡ x.now ++ (last ∷ [])) → inner ≡ text ++ last ∷ []
    → MatchResult result (λ x. x.now ≡ text) (λ _. ⊥)
back-is last inner text None result is cases ends = absurd (cases text ends)
back-is last inner text (Some x) result is cases ends = rw is (append_cancel_right x.now text (last ∷ []) (sym cases ∙ ends))
