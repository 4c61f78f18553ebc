-- What a run of reads has read of what there was.
use Rattle.std.proofs.Common.{◌≡◌, ◌≢◌, ◌⊎◌, ◌∙◌, ◌<◌, ◌≤◌, ◌+◌, ◌++◌, ℕ, List, [], ◌∷◌, Option, Some, None, Result, Ok, Err, IfSome, length, take, inl, inr, sym, ap, arith}
use Rattle.std.proofs.lemmas.List.{take-append-le, take_all, append-nil}
use Rattle.std.specs.Result.{IsErrAnd}
use Rattle.std.specs.Io.KnownBytes.{Consumes, IsAtEnd}
use Rattle.std.proofs.KnownBytes.{Consumes-trans}
use Rattle.script_input.specs.declared.breakages.Breakage.{Breakage}
use Rattle.script_input.specs.declared.breakages.Breakage.TheVariants.{Memory, LogFull, Output, Unread}
use Rattle.script_input.specs.Files.{IsReadFault}

-- what was read is the front of what there was: as much as was wanted, or all
pub read_front : (old new : Option (List ℕ)) (bs : List ℕ) (n : ℕ) → Consumes old new bs → length bs ≤ n → (length bs ≡ n) ⊎ IsAtEnd new
    → IfSome old (λ all. bs ≡ take n all)
read_front None new bs n taken fits why = tt
read_front (Some all) None bs n taken fits why = absurd taken
read_front (Some all) (Some rest) bs n taken fits (inl full) =
    let enough : n ≤ length bs = omega arith in
    sym (ap (take n) taken ∙ (take-append-le n bs rest enough ∙ take_all n bs fits))
read_front (Some all) (Some rest) bs n taken fits (inr end) =
    sym (ap (take n) (taken ∙ (ap (λ r. bs ++ r) end ∙ append-nil bs)) ∙ take_all n bs fits)

-- one more read
pub read_more : (old mid new : Option (List ℕ)) (bs more all : List ℕ) → Consumes old mid bs → Consumes mid new more → all ≡ bs ++ more → Consumes old new all
read_more old mid new bs more all first second is = rw is (Consumes-trans old mid new bs more first second)

some-after : (bs more : List ℕ) → more ≢ [] → bs ++ more ≢ []
some-after [] more some none = some none
some-after (b ∷ bs) more some none =
    let empty : length (b ∷ (bs ++ more)) ≡ 0 = ap length none in
    absurd (omega arith)

-- the fault of a read is one of the reads before it, too
pub fault_after : (old mid new : Option (List ℕ)) (bs : List ℕ) (breakage : Breakage) → Consumes old mid bs → IsReadFault mid new breakage → IsReadFault old new breakage
fault_after old mid new bs Memory first fault = (bs ++ fault.0, some-after bs fault.0 fault.1, Consumes-trans old mid new bs fault.0 first fault.2)
fault_after old mid new bs LogFull first fault = fault
fault_after old mid new bs Output first fault = fault
fault_after old mid new bs Unread first fault = fault

-- each read has given a byte, or one may have failed
pub progress-more : {reads before after : ℕ} {First Then : Type 0} → (reads ≤ before) ⊎ First → (Then → First) → (before < after) ⊎ Then → (reads + 1 ≤ after) ⊎ First
progress-more (inl enough) earlier (inl more) = inl (omega arith)
progress-more (inl enough) earlier (inr fails) = inr (earlier fails)
progress-more (inr failed) earlier more = inr failed

-- the error that a result has is the one that was told
pub err-told : {A : Type 0} (result : Result A Breakage) (why other : Breakage) → IsErrAnd result (λ told. told ≡ why) → result ≡ Err other → why ≡ other
err-told (Ok given) why other told is = absurd told
err-told (Err given) why other told is = let same : given ≡ why = told in cc
