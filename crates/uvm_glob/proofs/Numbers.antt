-- Numbers and integers in decimal are printed.
use Rattle.uvm_glob.proofs.Common.{◌≡◌, ℕ, suc, ◌<◌, ◌^◌, true, List, [], ◌∷◌, refl, arith, ℤ, pos, negsuc, is_ascii_digit, decimal, signed_decimal, mag, list_all, all_ascii_digits, and_parts, nat_tests, digits_decimal, numerals_by_value, tells_all_ascii_digits, IsPrinted, NumbersArePrinted, is_printed_byte}

digit-printed : (b : ℕ) → is_ascii_digit b ≡ true → is_printed_byte b ≡ true
digit-printed b good = grind (arith, nat_tests)

digits-printed : (text : List ℕ) → all_ascii_digits text ≡ true → IsPrinted text
digits-printed [] good = refl
digits-printed (b ∷ text) good =
    let both = and_parts (is_ascii_digit b) (all_ascii_digits text) good in
    rw (digit-printed b both.0, digits-printed text both.1)

number-printed : (n : ℕ) → n < 2 ^ 64 → IsPrinted (decimal n)
number-printed n fits = digits-printed (decimal n) (digits_decimal (numerals_by_value (λ ds. all_ascii_digits ds ≡ true) tells_all_ascii_digits) n fits)

integer-printed : (z : ℤ) → mag z < 2 ^ 63 → IsPrinted (signed_decimal z)
integer-printed (pos n) fits = number-printed n (omega arith)
integer-printed (negsuc n) fits = number-printed (suc n) (omega arith)

pub numbers_are_printed : NumbersArePrinted
numbers_are_printed = record { numbers = number-printed; integers = integer-printed }
