-- The first line that passes a test, line by line.
use Rattle.std.proofs.Common.{◌≡◌, ◌<◌, ◌+◌, ℕ, suc, Bool, true, false, cond, List, [], ◌∷◌, ◌++◌, length, take, drop, get_or, Some, None, ap, refl, sym, subst, ◌∙◌}
use Rattle.std.proofs.lemmas.List.{take-append-drop, take_more}
use Rattle.std.proofs.Math.Seq.{drop-cons}
use Rattle.std.specs.Prelude.{find}

-- none of the first lines passes, so the search goes on behind them
find-past : (test : List ℕ → Bool) (xs ys : List (List ℕ)) → find test xs ≡ None → find test (xs ++ ys) ≡ find test ys
find-past test [] ys none = refl
find-past test (x ∷ xs) ys none = at (test x) none (find-past test xs ys)
  where
    at : (passes : Bool) → cond passes (Some x) (find test xs) ≡ None → (find test xs ≡ None → find test (xs ++ ys) ≡ find test ys) → cond passes (Some x) (find test (xs ++ ys)) ≡ find test ys
    at true none rest = cc
    at false none rest = rest none

head-is : (test : List ℕ → Bool) (x y : List ℕ) (ys : List (List ℕ)) (passes : Bool) → x ≡ y → test x ≡ passes → find test (y ∷ ys) ≡ cond passes (Some x) (find test ys)
head-is test x y ys passes same is = subst (λ y. find test (y ∷ ys) ≡ cond passes (Some x) (find test ys)) same (ap (λ passes. cond passes (Some x) (find test ys)) is)

-- the line behind them passes
pub find-found : (test : List ℕ → Bool) (xs : List (List ℕ)) (k : ℕ) (x : List ℕ) → k < length xs → x ≡ get_or xs k x → find test (take k xs) ≡ None → test x ≡ true → find test xs ≡ Some x
find-found test xs k x below same none passes =
    ap (find test) (sym (take-append-drop k xs)) ∙ find-past test (take k xs) (drop k xs) none ∙ ap (find test) (drop-cons xs k x below) ∙ head-is test x (get_or xs k x) (drop (suc k) xs) true same passes

-- the line behind them does not pass either
pub find-more : (test : List ℕ → Bool) (xs : List (List ℕ)) (k : ℕ) (x : List ℕ) → k < length xs → x ≡ get_or xs k x → find test (take k xs) ≡ None → test x ≡ false → find test (take (k + 1) xs) ≡ None
find-more test xs k x below same none fails =
    ap (find test) (take_more xs k x below) ∙ find-past test (take k xs) (get_or xs k x ∷ []) none ∙ head-is test x (get_or xs k x) [] false same fails
