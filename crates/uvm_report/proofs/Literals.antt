-- What passes its test has no fault, nor has what is shown.
use Rattle.uvm_report.proofs.Common.{◌≡◌, ℕ, ◌≤◌, Bool, true, false, not, List, [], ◌∷◌, map, take, None, IsTrue, refl, arith, if◌then◌else◌, list_all, and_parts, nat_tests, length-map, length-take, take_all, BadByte, TooLong, byte_shown, is_text, is_text_byte, lossy, text_fault, length, nat_lt, Some}

pub text_sound : (bytes : List ℕ) → IsTrue (is_text bytes) → text_fault bytes ≡ None
unfolding text_fault
text_sound bytes is =
    let (few, good) = and_parts (not (nat_lt 200 (length bytes))) (list_all is_text_byte bytes) is in
    let short : length bytes ≤ 200 = grind (arith, nat_tests, few) in
    rw good (grind (arith, nat_tests, short))

shown-good : (b : ℕ) → is_text_byte (byte_shown b) ≡ true
shown-good b = elim (is_text_byte b) as (λ good. is_text_byte b ≡ good → is_text_byte (if good then b else 63) ≡ true) [ true ↦ λ is. is | false ↦ λ is. refl ] refl

all-shown : (bytes : List ℕ) → list_all is_text_byte (map byte_shown bytes) ≡ true
all-shown [] = refl
all-shown (b ∷ bytes) = rw (shown-good b, all-shown bytes) refl

short-shown : (bytes : List ℕ) → length (map byte_shown (take 200 bytes)) ≤ 200
short-shown bytes = rw (length-map (take 200 bytes) byte_shown, length-take 200 bytes) (omega arith)

pub lossy_sound : (bytes : List ℕ) → text_fault (lossy bytes) ≡ None
unfolding text_fault
lossy_sound bytes = let short = short-shown bytes in rw (all-shown (take 200 bytes)) (grind (arith, nat_tests, short))

same-shown : (bytes : List ℕ) → list_all is_text_byte bytes ≡ true → map byte_shown bytes ≡ bytes
same-shown [] good = refl
same-shown (b ∷ bytes) good =
    let parts = and_parts (is_text_byte b) (list_all is_text_byte bytes) good in
    rw (parts.0, same-shown bytes parts.1) refl

few-good : (long good : Bool) → (if long then Some TooLong else if not good then Some BadByte else None) ≡ None → (long ≡ false) × (good ≡ true)
few-good true good is = cc
few-good false true is = (refl, refl)
few-good false false is = cc

pub lossy_same : (bytes : List ℕ) → text_fault bytes ≡ None → lossy bytes ≡ bytes
unfolding text_fault
lossy_same bytes none =
    let both = few-good (nat_lt 200 (length bytes)) (list_all is_text_byte bytes) none in
    let few = both.0 in
    let short : length bytes ≤ 200 = grind (arith, nat_tests, few) in
    rw (take_all 200 bytes short) (same-shown bytes both.1)
