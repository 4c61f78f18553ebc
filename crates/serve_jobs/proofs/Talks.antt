-- What is said in parts.
use Rattle.std.proofs.Common.{◌≡◌, ℕ, List, [], ◌∷◌, ◌++◌, Result, Ok, Err, OnOk, ap, refl, subst, sym}
use Rattle.serve_dialogue.specs.Spoken.{Said, Spoken, said}

said-append : (front back : List ℕ) → said (front ++ back) ≡ said front ++ said back
said-append [] back = refl
said-append (byte ∷ front) back = ap (λ talk. Said byte ∷ talk) (said-append front back)

module _ {C : Type 0} (spoke : C → C → List Spoken → Type 0) (joined : (first half last : C) (front back : List Spoken) → spoke first half front → spoke half last back → spoke first last (front ++ back)) where
  pub said_more : (first half last : C) (front back : List ℕ) → spoke first half (said front) → spoke half last (said back) → spoke first last (said (front ++ back))
  said_more first half last front back one more = subst (spoke first last) (sym (said-append front back)) (joined first half last (said front) (said back) one more)

  -- the last part may be refused
  pub said_last : {A E : Type 0} (result : Result A E) (first half last : C) (front back : List ℕ) → spoke first half (said front) → OnOk result (spoke half last (said back)) → OnOk result (spoke first last (said (front ++ back)))
  said_last (Ok done) first half last front back one more = said_more first half last front back one more
  said_last (Err error) first half last front back one more = tt
