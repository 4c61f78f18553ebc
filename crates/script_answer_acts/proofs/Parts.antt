-- The parts of acts in lines: no blank stands in them, and each comes back from its text.
use Rattle.script_answer_acts.proofs.Common.{◌≡◌, ℕ, suc, pred, ◌<◌, ◌^◌, Bool, true, false, not, ◌==◌, if◌then◌else◌, List, [], ◌∷◌, ◌++◌, length, map, refl, sym, ap, ◌∙◌, arith, append_assoc, codes, ℤ, pos, negsuc, Option, Some, None, IfSome, nat_eq, nat_lt, ◌||◌, pointwise, decimal, signed_decimal, All, list_all, list_any, join_with_byte, all_ascii_digits, is_ascii_digit, digits_value, and_parts, and_from, not-true, not-false, false≢true, decimal_is_IsNumeral, digits_decimal, numerals_by_value, tells_all_ascii_digits, Empty, TooLong, BadByte, TooDeep, fault_if, is_glob_byte, most_name_bytes, most_names, most_text_bytes, first_given, is_name_byte, name_fault, path_text, path_fault, names_of, Item, item_text, some_item_text, priority_text, IsName, IsPath, IsGlob, IsNumber, IsSigned, IsItem}
use Rattle.script_answer_acts.proofs.Splits.{lacks, AllLack, parts_at, parts-join, lacks-append, lacks-join, lacks-of}

-- NUMBERS

abbrev pub number_in : List ℕ → ℕ
number_in text = digits_value 10 text

pub number-back : (n : ℕ) → IsNumber n → number_in (decimal n) ≡ n
number-back n fits = (decimal_is_IsNumeral n fits).1

all-digits : (text : List ℕ) → all_ascii_digits text ≡ true → list_all is_ascii_digit text ≡ true
all-digits [] good = refl
all-digits (b ∷ text) good =
    let both = and_parts (is_ascii_digit b) (all_ascii_digits text) good in
    and_from (is_ascii_digit b) (list_all is_ascii_digit text) both.0 (all-digits text both.1)

-- what is no digit does not stand in a number
pub number-lacks : (c n : ℕ) → is_ascii_digit c ≡ false → IsNumber n → lacks c (decimal n) ≡ true
number-lacks c n other fits = lacks-of is_ascii_digit c other (decimal n) (all-digits (decimal n) (digits_decimal (numerals_by_value (λ ds. all_ascii_digits ds ≡ true) tells_all_ascii_digits) n fits))

-- a number with a sign
abbrev pub signed_in : List ℕ → ℤ
signed_in [] = pos 0
signed_in (b ∷ text) = if b == 45 then negsuc (pred (number_in text)) else pos (number_in (b ∷ text))

-- of digits alone
unsigned : (text : List ℕ) → lacks 45 text ≡ true → signed_in text ≡ pos (number_in text)
unsigned [] plain = refl
unsigned (b ∷ text) plain = rw (not-true (b == 45) (and_parts (not (b == 45)) (lacks 45 text) plain).0)

pub signed-back : (z : ℤ) → IsSigned z → signed_in (signed_decimal z) ≡ z
signed-back (pos n) fits =
    let number : n < 2 ^ 64 = omega arith in
    unsigned (decimal n) (number-lacks 45 n refl number) ∙ ap pos (number-back n number)
signed-back (negsuc n) fits =
    let number : suc n < 2 ^ 64 = omega arith in
    ap (λ k. negsuc (pred k)) (number-back (suc n) number)

pub signed-lacks : (c : ℕ) (z : ℤ) → is_ascii_digit c ≡ false → not (45 == c) ≡ true → IsSigned z → lacks c (signed_decimal z) ≡ true
signed-lacks c (pos n) other sign fits = number-lacks c n other (omega arith)
signed-lacks c (negsuc n) other sign fits =
    and_from (not (45 == c)) (lacks c (decimal (suc n))) sign (number-lacks c (suc n) other (omega arith))

-- NAMES, GLOBS AND PATHS

no_bad : (empty long bad : Bool) → first_given (fault_if empty Empty ∷ fault_if long TooLong ∷ fault_if bad BadByte ∷ []) ≡ None → bad ≡ false
no_bad true long bad none = cc
no_bad false true bad none = cc
no_bad false false true none = cc
no_bad false false false none = refl

pub name-lacks : (c : ℕ) → is_name_byte c ≡ false → (name : List ℕ) → IsName name → lacks c name ≡ true
unfolding name_fault
name-lacks c other name sound = lacks-of is_name_byte c other name (not-false (list_all is_name_byte name) (no_bad (length name == 0) (nat_lt most_name_bytes (length name)) (not (list_all is_name_byte name)) sound))

-- what stands between two brackets
abbrev but_last : List ℕ → List ℕ
but_last [] = []
but_last (b ∷ []) = []
but_last (b ∷ d ∷ text) = b ∷ but_last (d ∷ text)

abbrev pub inner : List ℕ → List ℕ
inner [] = []
inner (b ∷ text) = but_last text

pub inner-back : (a c : ℕ) (text : List ℕ) → inner (a ∷ text ++ c ∷ []) ≡ text
inner-back a c [] = refl
inner-back a c (b ∷ []) = refl
inner-back a c (b ∷ d ∷ text) = ap (λ rest. b ∷ rest) (inner-back a c (d ∷ text))

pub brackets-lack : (text : List ℕ) → lacks 32 text ≡ true → lacks 32 (40 ∷ text ++ 41 ∷ []) ≡ true
brackets-lack text plain = lacks-append 32 text (41 ∷ []) plain refl

pub glob-lacks : (glob : List ℕ) → IsGlob glob → lacks 32 glob ≡ true
glob-lacks glob sound = lacks-of is_glob_byte 32 refl glob sound

-- no name of a path is empty, and none has another byte than names have
no_fault : (empty long bad deep : Bool) → first_given (fault_if empty Empty ∷ fault_if long TooLong ∷ fault_if bad BadByte ∷ fault_if deep TooDeep ∷ []) ≡ None → (empty ≡ false) × (bad ≡ false)
no_fault true long bad deep none = cc
no_fault false true bad deep none = cc
no_fault false false true deep none = cc
no_fault false false false deep none = (refl, refl)

path-parts : (names : List (List ℕ)) → IsPath names → (list_any (λ name. length name == 0) names ≡ false) × (list_all (list_all is_name_byte) names ≡ true)
unfolding path_fault
path-parts names sound =
    let none = no_fault (list_any (λ name. length name == 0) names) (list_any (λ name. nat_lt most_name_bytes (length name)) names || nat_lt most_text_bytes (length (path_text names))) (not (list_all (list_all is_name_byte) names)) (nat_lt most_names (length names)) sound in
    (none.0, not-false (list_all (list_all is_name_byte) names) none.1)

names-lack : (c : ℕ) → is_name_byte c ≡ false → (names : List (List ℕ)) → list_all (list_all is_name_byte) names ≡ true → AllLack c names
names-lack c other [] good = tt
names-lack c other (name ∷ names) good =
    let both = and_parts (list_all is_name_byte name) (list_all (list_all is_name_byte) names) good in
    (lacks-of is_name_byte c other name both.0, names-lack c other names both.1)

pub path-lacks : (names : List (List ℕ)) → IsPath names → lacks 32 (path_text names) ≡ true
path-lacks names sound = lacks-join 32 46 refl names (names-lack 32 refl names (path-parts names sound).1)

pub names-back : (names : List (List ℕ)) → IsPath names → names_of (path_text names) ≡ names
names-back [] sound = refl
names-back ([] ∷ names) sound = absurd (false≢true (sym (path-parts ([] ∷ names) sound).0))
names-back ((b ∷ name) ∷ []) sound = parts-join 46 (b ∷ name) [] (names-lack 46 refl ((b ∷ name) ∷ []) (path-parts ((b ∷ name) ∷ []) sound).1)
names-back ((b ∷ name) ∷ next ∷ names) sound = parts-join 46 (b ∷ name) (next ∷ names) (names-lack 46 refl ((b ∷ name) ∷ next ∷ names) (path-parts ((b ∷ name) ∷ next ∷ names) sound).1)

abbrev pub path_in : List ℕ → List (List ℕ)
path_in text = names_of (inner text)

pub path-back : (names : List (List ℕ)) → IsPath names → path_in (40 ∷ path_text names ++ 41 ∷ []) ≡ names
path-back names sound = ap names_of (inner-back 40 41 (path_text names)) ∙ names-back names sound

-- ITEMS

abbrev pub item_in : List ℕ → Item
item_in text = record { 0 = map signed_in (parts_at 44 (inner text)) }

-- four texts with a comma between each two
joined : (s t u v : List ℕ) → s ++ 44 ∷ t ++ 44 ∷ u ++ 44 ∷ v ≡ join_with_byte 44 (s ∷ t ∷ u ∷ v ∷ [])
joined s t u v = simp append_assoc

four-back : (s t u v : List ℕ) → AllLack 44 (s ∷ t ∷ u ∷ v ∷ []) → parts_at 44 (inner (91 ∷ s ++ 44 ∷ t ++ 44 ∷ u ++ 44 ∷ v ++ 93 ∷ [])) ≡ s ∷ t ∷ u ∷ v ∷ []
four-back s t u v plain =
    ap (parts_at 44) (inner-back 91 93 (s ++ 44 ∷ t ++ 44 ∷ u ++ 44 ∷ v) ∙ joined s t u v)
    ∙ parts-join 44 s (t ∷ u ∷ v ∷ []) plain

four-lack : (s t u v : List ℕ) → AllLack 32 (s ∷ t ∷ u ∷ v ∷ []) → lacks 32 (91 ∷ s ++ 44 ∷ t ++ 44 ∷ u ++ 44 ∷ v ++ 93 ∷ []) ≡ true
four-lack s t u v plain = lacks-append 32 (s ++ 44 ∷ t ++ 44 ∷ u ++ 44 ∷ v) (93 ∷ []) (ap (lacks 32) (joined s t u v) ∙ lacks-join 32 44 refl (s ∷ t ∷ u ∷ v ∷ []) plain) refl

words-back : (words : List ℤ) → length words ≡ 4 → All IsSigned words → map signed_in (parts_at 44 (inner (item_text (record { 0 = words })))) ≡ words
words-back [] four fits = absurd (omega arith)
words-back (a ∷ []) four fits = absurd (omega arith)
words-back (a ∷ b ∷ []) four fits = absurd (omega arith)
words-back (a ∷ b ∷ c ∷ []) four fits = absurd (omega arith)
words-back (a ∷ b ∷ c ∷ d ∷ []) four fits =
    let first : IsSigned a = fits 0 a (omega arith) in
    let second : IsSigned b = fits 1 a (omega arith) in
    let third : IsSigned c = fits 2 a (omega arith) in
    let fourth : IsSigned d = fits 3 a (omega arith) in
    ap (map signed_in) (four-back (signed_decimal a) (signed_decimal b) (signed_decimal c) (signed_decimal d)
    (signed-lacks 44 a refl refl first, (signed-lacks 44 b refl refl second, (signed-lacks 44 c refl refl third, (signed-lacks 44 d refl refl fourth, tt)))))
    ∙ rw (signed-back a first, signed-back b second, signed-back c third, signed-back d fourth)
words-back (a ∷ b ∷ c ∷ d ∷ e ∷ words) four fits = absurd (omega arith)

pub item-back : (item : Item) → IsItem item → item_in (item_text item) ≡ item
item-back item sound = ap {B = Item} (λ words. record { 0 = words }) (words-back item.0 sound.0 sound.1)

words-lack : (words : List ℤ) → length words ≡ 4 → All IsSigned words → lacks 32 (item_text (record { 0 = words })) ≡ true
words-lack [] four fits = absurd (omega arith)
words-lack (a ∷ []) four fits = absurd (omega arith)
words-lack (a ∷ b ∷ []) four fits = absurd (omega arith)
words-lack (a ∷ b ∷ c ∷ []) four fits = absurd (omega arith)
words-lack (a ∷ b ∷ c ∷ d ∷ []) four fits =
    four-lack (signed_decimal a) (signed_decimal b) (signed_decimal c) (signed_decimal d) (
      signed-lacks 32 a refl refl (fits 0 a (omega arith)),
      (
        signed-lacks 32 b refl refl (fits 1 a (omega arith)),
        (
          signed-lacks 32 c refl refl (fits 2 a (omega arith)),
          (signed-lacks 32 d refl refl (fits 3 a (omega arith)), tt),
        ),
      ),
    )
words-lack (a ∷ b ∷ c ∷ d ∷ e ∷ words) four fits = absurd (omega arith)

pub item-lacks : (item : Item) → IsItem item → lacks 32 (item_text item) ≡ true
item-lacks item sound = words-lack item.0 sound.0 sound.1

-- WHAT MAY BE ABSENT

abbrev pub is_word : List ℕ → List ℕ → Bool
is_word text word = pointwise nat_eq text word

abbrev pub given_in : {A : Type 0} → (List ℕ → A) → List ℕ → Option A
given_in of text = if is_word text (codes "none") then None else Some (of text)

pub some-item-back : (response : Option Item) → IfSome response IsItem → given_in item_in (some_item_text response) ≡ response
some-item-back None sound = refl
some-item-back (Some item) sound = ap Some (item-back item sound)

pub some-item-lacks : (response : Option Item) → IfSome response IsItem → lacks 32 (some_item_text response) ≡ true
some-item-lacks None sound = refl
some-item-lacks (Some item) sound = item-lacks item sound

-- no number begins as `none` does
not-none : (text : List ℕ) → lacks 110 text ≡ true → is_word text (codes "none") ≡ false
not-none [] plain = refl
not-none (b ∷ text) plain = rw (not-true (b == 110) (and_parts (not (b == 110)) (lacks 110 text) plain).0)

pub priority-back : (priority : Option ℕ) → IfSome priority IsNumber → given_in number_in (priority_text priority) ≡ priority
priority-back None sound = refl
priority-back (Some n) sound = rw (not-none (decimal n) (number-lacks 110 n refl sound)) (ap Some (number-back n sound))

pub priority-lacks : (priority : Option ℕ) → IfSome priority IsNumber → lacks 32 (priority_text priority) ≡ true
priority-lacks None sound = refl
priority-lacks (Some n) sound = number-lacks 32 n refl sound
