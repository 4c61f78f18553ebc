-- What the objects report may stand in a report.
use Rattle.bus_objects.proofs.Common.{FitsSigned, lit≤, w64, ◌≡◌, ℕ, suc, ◌+◌, ◌^◌, ◌<◌, ◌≤◌, ◌%◌, true, false, None, List, [], ◌∷◌, ◌++◌, length, length-append, refl, ◌∙◌, arith, ℤ, pos, negsuc, codes, if◌then◌else◌, mag, decimal, signed_decimal, list_all, nat_tests, decimal_by_steps, length-decimal-le, length_signed_le, list_all-append, is_text_byte, text_fault, Item, Score, address_of, data_of, is_write, operation_text, transfer_text, Words, word_at, mismatch_text, score_text}

-- bytes that may stand in a text, so many of them at most
pub record IsPrinted (bytes : List ℕ) (most : ℕ) : Type 0 where
  pub plain : list_all is_text_byte bytes ≡ true
  pub short : length bytes ≤ most

printed-append : {front back : List ℕ} {m n : ℕ} → IsPrinted front m → IsPrinted back n → IsPrinted (front ++ back) (m + n)
printed-append {front} {back} first second = record {
  plain = list_all-append is_text_byte front back ∙ rw (first.plain, second.plain);
  short = omega (arith, length-append front back, first.short, second.short);
}

digit-plain : (n : ℕ) → n < 10 → is_text_byte (48 + n) ≡ true
digit-plain n below = grind (arith, nat_tests)

decimal-plain : (n : ℕ) → n < 2 ^ 64 → list_all is_text_byte (decimal n) ≡ true
decimal-plain n fits =
    decimal_by_steps
    (λ k ds. list_all is_text_byte ds ≡ true)
    (λ k below. rw (digit-plain k below))
    (λ k ds above plain. let below : k % 10 < 10 = omega arith in list_all-append is_text_byte ds ((48 + k % 10) ∷ []) ∙ rw (plain, digit-plain (k % 10) below))
    n
    fits

printed-decimal : (n : ℕ) → n < 2 ^ 64 → IsPrinted (decimal n) 20
printed-decimal n fits = record { plain = decimal-plain n fits; short = length-decimal-le 20 n (omega arith) (omega arith) fits }

signed-plain : (z : ℤ) → mag z < 2 ^ 63 → list_all is_text_byte (signed_decimal z) ≡ true
signed-plain (pos n) fits = let wide : n < 2 ^ 64 = omega arith in decimal-plain n wide
signed-plain (negsuc n) fits = let wide : suc n < 2 ^ 64 = omega arith in decimal-plain (suc n) wide

printed-signed : (z : ℤ) → mag z < 2 ^ 63 → IsPrinted (signed_decimal z) 20
printed-signed z fits = record { plain = signed-plain z fits; short = length_signed_le 19 z (omega arith) fits }

printed-literal : (bytes : List ℕ) → list_all is_text_byte bytes ≡ true → IsPrinted bytes (length bytes)
printed-literal bytes plain = record { plain = plain; short = omega arith }

pub no-text_fault : {bytes : List ℕ} {most : ℕ} → IsPrinted bytes most → most ≤ 200 → text_fault bytes ≡ None
unfolding text_fault
no-text_fault {bytes} printed few = let short : length bytes ≤ 200 = omega (arith, printed.short) in rw printed.plain (grind (arith, nat_tests, short))

module _ (item : Item) (address : FitsSigned w64 (address_of item)) (datum : FitsSigned w64 (data_of item)) where
  printed-operation : IsPrinted (operation_text item) 5
  printed-operation = elim (is_write item) as (λ b. IsPrinted (if b then codes "write" else codes "read") 5) [
    | true ↦ record { plain = refl; short = lit≤ tt }
    | false ↦ record { plain = refl; short = lit≤ tt }
  ]

  pub transfer_text-fits : text_fault (transfer_text item) ≡ None
  unfolding transfer_text
  transfer_text-fits =
      no-text_fault
      (printed-append
      printed-operation
      (printed-append
      (printed-literal (32 ∷ []) refl)
      (printed-append (printed-signed (address_of item) address.sfits) (printed-append (printed-literal (32 ∷ []) refl) (printed-signed (data_of item) datum.sfits)))))
      (lit≤ tt)

module _ (words : Words) (item : Item) (address : FitsSigned w64 (address_of item)) (datum : FitsSigned w64 (data_of item)) (word : FitsSigned w64 (word_at words (address_of item))) where
  pub mismatch_text-fits : text_fault (mismatch_text words item) ≡ None
  unfolding mismatch_text
  mismatch_text-fits =
      no-text_fault
      (printed-append
      (printed-literal (codes "read ") refl)
      (printed-append
      (printed-signed (address_of item) address.sfits)
      (printed-append
      (printed-literal (codes " gave ") refl)
      (printed-append
      (printed-signed (data_of item) datum.sfits)
      (printed-append (printed-literal (codes " not ") refl) (printed-signed (word_at words (address_of item)) word.sfits))))))
      (lit≤ tt)

pub score_text-fits : (score : Score) → score.seen < 2 ^ 64 → score.bad < 2 ^ 64 → text_fault (score_text score) ≡ None
unfolding score_text
score_text-fits score seen bad =
    no-text_fault
    (printed-append
    (printed-decimal score.seen seen)
    (printed-append (printed-literal (codes " seen ") refl) (printed-append (printed-decimal score.bad bad) (printed-literal (codes " bad") refl))))
    (lit≤ tt)
