-- The random numbers in the lines of a transcript.
use Rattle.std.proofs.Common.{◌≡◌, ◌∙◌, ◌<◌, ◌^◌, ◌/◌, ◌%◌, ◌+◌, ℕ, zero, suc, Bool, true, false, ◌&&◌, List, [], ◌∷◌, ◌++◌, length, Option, Some, None, refl, sym, ap, arith}
use Rattle.std.specs.Prelude.{◌==◌, nat_eq, nat_lt, codes, map, option_map, Result, Ok, Err, unwrap_or, if◌then◌else◌, cond, IfSome}
use Rattle.std.specs.Char.{is_ascii_digit}
use Rattle.std.specs.List.{All, AllByRecursion, cons_option, filter_map, last_or, list_all, onto_first, slice_split}
use Rattle.std.specs.Fmt.{decimal, digits, digits_onto, digit_glyph}
use Rattle.std.specs.Str.Parse.{digits_value}
use Rattle.std.proofs.lemmas.Bool.Decides.{nat_tests}
use Rattle.std.proofs.lemmas.List.Elements.{All-cons, All-from_recursion, All-nil}
use Rattle.std.proofs.lemmas.List.Splits.{slice_split_at, slice_split_none}
use Rattle.std.proofs.lemmas.Str.Parse.{IsDigitsTest, IsNumeralModel, numerals_by_value, parse_digits}
use Rattle.std.proofs.lemmas.Fmt.{decimal_nonempty, digits_decimal, digits_value-decimal}
use Rattle.std.specs.List.{starts_with}
use Rattle.std.specs.Result.{OkIff, result_ok}
use Rattle.std.specs.Str.{IsUtf8}
use Rattle.std.specs.Str.Parse.{ParsesUnsigned}
use Rattle.std.proofs.lemmas.Bool.{and_parts, ltb-true, lt-ltb}
use Rattle.std.proofs.lemmas.Str.{IsUtf8-from_ascii}
use Rattle.std.proofs.lemmas.Fmt.{IsAscii-from_digits}
use Rattle.std.proofs.Common.{Bor, rules}
use Rattle.script_legal.specs.ShownWords.{last_part, number_in, shown_words, word_in}

abbrev blank : ℕ → Bool
blank byte = byte == 32

abbrev IsFull : ℕ → Type 0
IsFull byte = blank byte ≡ false

-- ---- the last part of a line

last-of : {A : Type 0} (first : Option A) (front : List A) (x : A) → last_or first (front ++ x ∷ []) ≡ Some x
last-of first [] x = refl
last-of first (y ∷ front) x = last-of (Some y) front x

-- the parts of a text with a blank, if there is none behind it
parts-behind : (front back : List ℕ) → All IsFull back → (first : List ℕ) × (more : List (List ℕ)) × (slice_split blank (front ++ 32 ∷ back) ≡ first ∷ (more ++ back ∷ []))
parts-behind [] back full = ([], [], ap (λ parts. [] ∷ parts) (slice_split_none blank back full))
parts-behind (byte ∷ front) back full = go (parts-behind front back full) (blank byte)
  where
    go : (first : List ℕ) × (more : List (List ℕ)) × (slice_split blank (front ++ 32 ∷ back) ≡ first ∷ (more ++ back ∷ [])) → (is : Bool)
        → (first : List ℕ) × (more : List (List ℕ)) × (cond is ([] ∷ slice_split blank (front ++ 32 ∷ back)) (onto_first byte (slice_split blank (front ++ 32 ∷ back))) ≡ first ∷ (more ++ back ∷ []))
    go before true = ([], before.0 ∷ before.1, ap (λ parts. [] ∷ parts) before.2)
    go before false = (byte ∷ before.0, before.1, ap (onto_first byte) before.2)

-- it is what stands behind that blank
pub part-behind : (front back : List ℕ) → All IsFull back → last_part (front ++ 32 ∷ back) ≡ back
part-behind front back full =
    let parts = parts-behind front back full in
    ap (λ parts. unwrap_or (last_or None parts) (front ++ 32 ∷ back)) parts.2 ∙ ap (λ last. unwrap_or last (front ++ 32 ∷ back)) (last-of (Some parts.0) parts.1 back)

-- the parts of a text whose end has no blank
abbrev Parts : List ℕ → List (List ℕ) → Type 0
Parts back parts = (before : List (List ℕ)) × (last : List ℕ) × (parts ≡ before ++ (last ++ back) ∷ [])

parts-ended : (front back : List ℕ) → All IsFull back → Parts back (slice_split blank (front ++ back))
parts-ended [] back full = ([], [], slice_split_none blank back full)
parts-ended (byte ∷ front) back full = go (parts-ended front back full) (blank byte)
  where
    onto : (before : List (List ℕ)) (last : List ℕ) → slice_split blank (front ++ back) ≡ before ++ (last ++ back) ∷ [] → Parts back (onto_first byte (slice_split blank (front ++ back)))
    onto [] last is = ([], byte ∷ last, ap (onto_first byte) is)
    onto (part ∷ before) last is = ((byte ∷ part) ∷ before, last, ap (onto_first byte) is)

    go : Parts back (slice_split blank (front ++ back)) → (is : Bool) → Parts back (cond is ([] ∷ slice_split blank (front ++ back)) (onto_first byte (slice_split blank (front ++ back))))
    go parts true = ([] ∷ parts.0, parts.1, ap (λ parts. [] ∷ parts) parts.2)
    go parts false = onto parts.0 parts.1 parts.2

part-ended : (front back : List ℕ) → All IsFull back → (last : List ℕ) × (last_part (front ++ back) ≡ last ++ back)
part-ended front back full =
    let parts = parts-ended front back full in (
      parts.1,
      ap (λ parts. unwrap_or (last_or None parts) (front ++ back)) parts.2 ∙ ap (λ last. unwrap_or last (front ++ back)) (last-of None parts.0 (parts.1 ++ back)),
    )

-- ---- numbers

abbrev AreDigits : List ℕ → Type 0
AreDigits text = list_all is_ascii_digit text ≡ true

digits-test : IsDigitsTest AreDigits
digits-test = search (rules, nat_tests)

pub own : IsNumeralModel AreDigits (digits_value 10)
own = numerals_by_value AreDigits digits-test

pub number-decimal : (word : ℕ) → word < 2 ^ 64 → number_in (decimal word) ≡ Some word
number-decimal word small =
    let few : nat_lt (digits_value 10 (decimal word)) (2 ^ 64) ≡ true = rw (digits_value-decimal own word small) (lt-ltb word (2 ^ 64) small) in
    let some : nat_lt 0 (length (decimal word)) ≡ true = lt-ltb 0 (length (decimal word)) (decimal_nonempty word small) in
    rw (digits_decimal own word small, some, few) (ap Some (digits_value-decimal own word small))

-- the digits of a number have no blank
glyph-full : (d : ℕ) → IsFull (digit_glyph false d)
glyph-full d = elim (nat_lt d 10) as (λ low. ((if low then 48 + d else (if false then 55 + d else 87 + d)) == 32) ≡ false) [ true ↦ grind (arith, nat_tests) | false ↦ grind (arith, nat_tests) ]

onto-full : (count n : ℕ) (acc : List ℕ) → AllByRecursion IsFull acc → AllByRecursion IsFull (digits_onto count 10 false n acc)
onto-full zero n acc full = full
onto-full (suc count) n acc full = go (n / 10 == 0) (onto-full count (n / 10) (digit_glyph false (n % 10) ∷ acc) (glyph-full (n % 10), full))
  where
    go : (last : Bool) → AllByRecursion IsFull (digits_onto count 10 false (n / 10) (digit_glyph false (n % 10) ∷ acc))
        → AllByRecursion IsFull (if last then digit_glyph false (n % 10) ∷ acc else digits_onto count 10 false (n / 10) (digit_glyph false (n % 10) ∷ acc))
    go true more = (glyph-full (n % 10), full)
    go false more = more

decimal-full : (n : ℕ) → AllByRecursion IsFull (decimal n)
unfolding digits
decimal-full n = onto-full 64 n [] tt

and-false : (b : Bool) → (b && false) ≡ false
and-false true = refl
and-false false = refl

-- a text with a number sign is no number
no_digits : (front back : List ℕ) → list_all is_ascii_digit (front ++ 35 ∷ back) ≡ false
no_digits [] back = refl
no_digits (byte ∷ front) back = rw (no_digits front back) (and-false (is_ascii_digit byte))

-- ---- the lines of grants

abbrev granted : List ℕ → List ℕ
granted text = 103 ∷ 114 ∷ 97 ∷ 110 ∷ 116 ∷ 101 ∷ 100 ∷ 32 ∷ text

-- with a random number
pub word-drawn : (front : List ℕ) (word : ℕ) → word < 2 ^ 64 → word_in (granted (front ++ 32 ∷ decimal word)) ≡ Some word
word-drawn front word small =
    ap number_in (part-behind (granted front) (decimal word) (All-from_recursion IsFull (decimal word) (decimal-full word))) ∙ number-decimal word small

-- with none
pub word-undrawn : (front : List ℕ) (id : ℕ) → word_in (granted (front ++ 35 ∷ decimal id)) ≡ None
word-undrawn front id =
    let part = part-ended (granted front) (35 ∷ decimal id) (All-from_recursion IsFull (35 ∷ decimal id) (refl, decimal-full id)) in
    ap number_in part.1 ∙ rw (no_digits part.0 (decimal id)) refl

-- ---- texts

pub shown-line : (text rest : List ℕ) → All (λ byte. (byte == 10) ≡ false) text → shown_words (text ++ 10 ∷ rest) ≡ cons_option (word_in text) (shown_words rest)
shown-line text rest whole = ap (filter_map word_in) (slice_split_at (λ byte. byte == 10) text 10 rest whole refl)

-- each has at most 64 bits
few-small : (n : ℕ) (few : Bool) → (few ≡ true → n < 2 ^ 64) → IfSome (if few then Some n else None) (λ word. word < 2 ^ 64)
few-small n true is = is refl
few-small n false is = tt

number-small : (text : List ℕ) → IfSome (number_in text) (λ word. word < 2 ^ 64)
number-small text = few-small (digits_value 10 text) (list_all is_ascii_digit text && (nat_lt 0 (length text) && nat_lt (digits_value 10 text) (2 ^ 64))) (λ is. ltb-true (digits_value 10 text) (2 ^ 64) (and_parts (nat_lt 0 (length text)) (nat_lt (digits_value 10 text) (2 ^ 64)) (and_parts (list_all is_ascii_digit text) _ is).1).1)

word-small : (line : List ℕ) → IfSome (word_in line) (λ word. word < 2 ^ 64)
word-small line = go (starts_with nat_eq line (codes "granted "))
  where
    go : (grant : Bool) → IfSome (if grant then number_in (last_part line) else None) (λ word. word < 2 ^ 64)
    go true = number-small (last_part line)
    go false = tt

words-small : (lines : List (List ℕ)) → All (λ word. word < 2 ^ 64) (filter_map word_in lines)
words-small [] = All-nil (λ word. word < 2 ^ 64)
words-small (line ∷ lines) = go (word_in line) (word-small line) (words-small lines)
  where
    go : (word : Option ℕ) → IfSome word (λ word. word < 2 ^ 64) → All (λ word. word < 2 ^ 64) (filter_map word_in lines) → All (λ word. word < 2 ^ 64) (cons_option word (filter_map word_in lines))
    go None small rest = rest
    go (Some word) small rest = All-cons (λ word. word < 2 ^ 64) word (filter_map word_in lines) small rest

pub shown-small : (text : List ℕ) → All (λ word. word < 2 ^ 64) (shown_words text)
shown-small text = words-small (slice_split (λ byte. byte == 10) text)

-- ---- what the functions return

last_or-map : {A B : Type 0} (f : A → B) (first : Option A) (xs : List A) → last_or (option_map f first) (map f xs) ≡ option_map f (last_or first xs)
last_or-map f first [] = refl
last_or-map f first (x ∷ xs) = last_or-map f (Some x) xs

unwrapped : {A B : Type 0} (f : A → B) (o : Option A) (d : A) → f (unwrap_or o d) ≡ unwrap_or (option_map f o) (f d)
unwrapped f None d = refl
unwrapped f (Some x) d = refl

-- the last of some parts, behind references
pub last-now : (line : Bor (List ℕ)) (parts : List (Bor (List ℕ))) → map (λ (part : Bor (List ℕ)). part.now) parts ≡ slice_split blank line.now → (unwrap_or (last_or None parts) line).now ≡ last_part line.now
last-now line parts are =
    unwrapped (λ (part : Bor (List ℕ)). part.now) (last_or None parts) line
    ∙ ap (λ last. unwrap_or last line.now) (sym (last_or-map (λ (part : Bor (List ℕ)). part.now) None parts) ∙ ap (last_or None) are)

-- a number that was parsed
pub number-parsed : {E : Type 0} (text : List ℕ) (parsed : Result ℕ E) → ParsesUnsigned 64 10 text parsed → AreDigits text → result_ok parsed ≡ number_in text
number-parsed {E} text parsed parses are = rw are (go parsed (parse_digits own 64 text parsed parses are))
  where
    none : (long few : Bool) → (long ≡ true → 0 < length text) → (few ≡ true → digits_value 10 text < 2 ^ 64) → ¬ ((0 < length text) × (digits_value 10 text < 2 ^ 64)) → None ≡ (if true && (long && few) then Some (digits_value 10 text) else None)
    none true true long few cannot = absurd (cannot (long refl, few refl))
    none true false long few cannot = refl
    none false few long is cannot = refl

    go : (parsed : Result ℕ E) → OkIff parsed ((0 < length text) × (digits_value 10 text < 2 ^ 64)) (digits_value 10 text)
        → result_ok parsed ≡ (if true && (nat_lt 0 (length text) && nat_lt (digits_value 10 text) (2 ^ 64)) then Some (digits_value 10 text) else None)
    go (Ok number) is = rw (lt-ltb 0 (length text) is.0.0, lt-ltb (digits_value 10 text) (2 ^ 64) is.0.1) (ap Some is.1)
    go (Err fault) cannot = none (nat_lt 0 (length text)) (nat_lt (digits_value 10 text) (2 ^ 64)) (ltb-true 0 (length text)) (ltb-true (digits_value 10 text) (2 ^ 64)) cannot

-- a text of digits is valid UTF-8
pub digits-utf8 : (text : List ℕ) → AreDigits text → IsUtf8 text
digits-utf8 text are = IsUtf8-from_ascii text (IsAscii-from_digits text (own.to text are))
