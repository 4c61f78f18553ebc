-- The words of keys, and of the lines that they are for.
use Rattle.script_answers.proofs.Common.{◌≡◌, ℕ, suc, ◌-◌, ◌<◌, inl, inr, Bool, true, false, cond, List, [], ◌∷◌, ◌++◌, length, take, drop, get_or, refl, sym, ap, ◌∙◌, subst, arith, append_assoc, nat_eq, eq-eqb, onto_first, join_with_byte, starts_with, cond-true, false≢true, true≢false, Decides-eqb, join_with_byte-slice_split, length-slice_split, starts_is, bytes_eq-Decides, is_open, fixed, is_for, ends_between_words, has_whole_words, is_star, but_star, ends_in_star, Begins, ◌==◌, ◌⊎◌, codes, bytes_eq, eqb-true, words_of}

-- WORDS OF A LINE

onto-append : (b : ℕ) (words more : List (List ℕ)) → 0 < length words → onto_first b (words ++ more) ≡ onto_first b words ++ more
onto-append b [] more some = absurd (omega arith)
onto-append b (word ∷ words) more some = refl

some-words : (text : List ℕ) → 0 < length (words_of text)
some-words text = omega (arith, length-slice_split (λ b. b == 32) text)

-- a line comes apart at each of its blanks
pub words-append : (front back : List ℕ) → words_of (front ++ 32 ∷ back) ≡ words_of front ++ words_of back
words-append [] back = refl
words-append (b ∷ front) back = at (b == 32) (words-append front back)
  where
    at : (blank : Bool) → words_of (front ++ 32 ∷ back) ≡ words_of front ++ words_of back
        → cond blank ([] ∷ words_of (front ++ 32 ∷ back)) (onto_first b (words_of (front ++ 32 ∷ back))) ≡ cond blank ([] ∷ words_of front) (onto_first b (words_of front)) ++ words_of back
    at true rest = ap (λ words. [] ∷ words) rest
    at false rest = ap (onto_first b) rest ∙ onto-append b (words_of front) (words_of back) (some-words front)

-- words that are joined, and more behind
pub join-append : (words more : List (List ℕ)) → 0 < length words → 0 < length more → join_with_byte 32 (words ++ more) ≡ join_with_byte 32 words ++ 32 ∷ join_with_byte 32 more
join-append [] more some others = absurd (omega arith)
join-append (word ∷ []) [] some others = absurd (omega arith)
join-append (word ∷ []) (next ∷ more) some others = refl
join-append (word ∷ next ∷ words) more some others =
    ap (λ text. word ++ 32 ∷ text) (join-append (next ∷ words) more (omega arith) others) ∙ sym (append_assoc word (32 ∷ join_with_byte 32 (next ∷ words)) (32 ∷ join_with_byte 32 more))

-- THE LAST BYTE

abbrev last_or : ℕ → List ℕ → ℕ
last_or none [] = none
last_or none (b ∷ []) = b
last_or none (b ∷ d ∷ text) = last_or none (d ∷ text)

last-is : (none : ℕ) (text : List ℕ) → get_or text (length text - 1) none ≡ last_or none text
last-is none [] = refl
last-is none (b ∷ []) = refl
last-is none (b ∷ d ∷ text) =
    let place : length (b ∷ d ∷ text) - 1 ≡ suc (length (d ∷ text) - 1) = omega arith in
    ap (λ i. get_or (b ∷ d ∷ text) i none) place ∙ last-is none (d ∷ text)

last-append : (none : ℕ) (front : List ℕ) (b : ℕ) (back : List ℕ) → last_or none (front ++ b ∷ back) ≡ last_or none (b ∷ back)
last-append none [] b back = refl
last-append none (d ∷ []) b back = refl
last-append none (d ∷ e ∷ front) b back = last-append none (e ∷ front) b back

-- a text ends in its last byte
last-cut : (none c : ℕ) (text : List ℕ) → 0 < length text → last_or none text ≡ c → text ≡ take (length text - 1) text ++ c ∷ []
last-cut none c [] some same = absurd (omega arith)
last-cut none c (b ∷ []) some same = rw same refl
last-cut none c (b ∷ d ∷ text) some same =
    let place : length (b ∷ d ∷ text) - 1 ≡ suc (length (d ∷ text) - 1) = omega arith in
    ap (λ rest. b ∷ rest) (last-cut none c (d ∷ text) (omega arith) same) ∙ ap (λ i. take i (b ∷ d ∷ text) ++ c ∷ []) (sym place)

-- where a key is open, a `*` stands at its end
open-cut : (key : List ℕ) → is_open key ≡ true → key ≡ take (length key - 1) key ++ 42 ∷ []
open-cut [] starred = absurd (false≢true starred)
open-cut (b ∷ text) starred = last-cut 0 42 (b ∷ text) (omega arith) (sym (last-is 0 (b ∷ text)) ∙ eqb-true (get_or (b ∷ text) (length (b ∷ text) - 1) 0) 42 starred)

between-cut : (text : List ℕ) → ends_between_words text ≡ true → (text ≡ []) ⊎ (text ≡ take (length text - 1) text ++ 32 ∷ [])
between-cut [] whole = inl refl
between-cut (b ∷ text) whole = inr (last-cut 32 32 (b ∷ text) (omega arith) (sym (last-is 32 (b ∷ text)) ∙ eqb-true (get_or (b ∷ text) (length (b ∷ text) - 1) 32) 32 whole))

-- THE STAR

star-is : (word : List ℕ) → is_star word ≡ true → word ≡ codes "*"
star-is word same = (bytes_eq-Decides word (codes "*")).0 same

but-star-append : (words : List (List ℕ)) → but_star (words ++ codes "*" ∷ []) ≡ words
but-star-append [] = refl
but-star-append (word ∷ []) = refl
but-star-append (word ∷ next ∷ words) = ap (λ rest. word ∷ rest) (but-star-append (next ∷ words))

ends-append : (words : List (List ℕ)) → ends_in_star (words ++ codes "*" ∷ []) ≡ true
ends-append [] = refl
ends-append (word ∷ []) = refl
ends-append (word ∷ next ∷ words) = ends-append (next ∷ words)

-- without a `*` these are all words
but-star-none : (words : List (List ℕ)) → ends_in_star words ≡ false → but_star words ≡ words
but-star-none [] plain = refl
but-star-none (word ∷ []) plain = rw plain refl
but-star-none (word ∷ next ∷ words) plain = ap (λ rest. word ∷ rest) (but-star-none (next ∷ words) plain)

-- where the last word is a `*`, the last byte is
join-star : (words : List (List ℕ)) → ends_in_star words ≡ true → last_or 0 (join_with_byte 32 words) ≡ 42
join-star [] star = absurd (false≢true star)
join-star (word ∷ []) star = ap (last_or 0) (star-is word star)
join-star (word ∷ next ∷ words) star =
    last-append 0 word 32 (join_with_byte 32 (next ∷ words)) ∙ after (join_with_byte 32 (next ∷ words)) (join-star (next ∷ words) star)
  where
    after : (text : List ℕ) → last_or 0 text ≡ 42 → last_or 0 (32 ∷ text) ≡ 42
    after [] none = absurd (omega (arith, none))
    after (b ∷ text) last = last

closed-words : (key : List ℕ) → is_open key ≡ false → ends_in_star (words_of key) ≡ false
closed-words key closed = by (ends_in_star (words_of key)) refl
  where
    by : (star : Bool) → ends_in_star (words_of key) ≡ star → star ≡ false
    by false is = refl
    by true is =
        let last : last_or 0 key ≡ 42 = ap (last_or 0) (sym (join_with_byte-slice_split 32 key)) ∙ join-star (words_of key) is in
        absurd (false≢true (sym closed ∙ eq-eqb (get_or key (length key - 1) 0) 42 (last-is 0 key ∙ last)))

-- WHAT BEGINS WITH THE WORDS GIVEN

begins-append : (words more : List (List ℕ)) → 0 < length more → Begins words true (words ++ more)
begins-append [] [] some = absurd (omega arith)
begins-append [] (word ∷ more) some = refl
begins-append (word ∷ words) more some = (refl, begins-append words more some)

begins-all : (words : List (List ℕ)) → Begins words false words
begins-all [] = refl
begins-all (word ∷ words) = (refl, begins-all words)

all-of : (givens words : List (List ℕ)) → Begins givens false words → givens ≡ words
all-of [] [] begins = refl
all-of [] (word ∷ words) begins = absurd (false≢true begins)
all-of (given ∷ givens) [] begins = absurd begins
all-of (given ∷ givens) (word ∷ words) begins = rw (begins.0, all-of givens words begins.1) refl

more-of : (givens words : List (List ℕ)) → Begins givens true words → (more : List (List ℕ)) × (words ≡ givens ++ more) × (0 < length more)
more-of [] [] begins = absurd (true≢false begins)
more-of [] (word ∷ words) begins = (word ∷ words, refl, omega arith)
more-of (given ∷ givens) [] begins = absurd begins
more-of (given ∷ givens) (word ∷ words) begins =
    let rest = more-of givens words begins.1 in
    (rest.0, rw (sym begins.0) (ap (λ others. given ∷ others) rest.1), rest.2)

-- A KEY AND THE LINES THAT IT IS FOR

abbrev CutAt : List ℕ → List ℕ → Type 0
CutAt key front = key ≡ front ++ 32 ∷ codes "*"

-- a `*`, or a text that ends in a blank and a `*`
abbrev IsCut : List ℕ → Type 0
IsCut key = (key ≡ codes "*") ⊎ ((front : List ℕ) × CutAt key front × (fixed key ≡ front ++ 32 ∷ []))

-- an open key is one
open-key : (key : List ℕ) → is_open key ≡ true → has_whole_words key ≡ true → IsCut key
open-key key starred whole = by (between-cut (take (length key - 1) key) between)
  where
    between : ends_between_words (take (length key - 1) key) ≡ true
    between = rw starred at whole

    by : (take (length key - 1) key ≡ []) ⊎ (take (length key - 1) key ≡ take (length (take (length key - 1) key) - 1) (take (length key - 1) key) ++ 32 ∷ []) → IsCut key
    by (inl none) = inl (open-cut key starred ∙ ap (λ front. front ++ 42 ∷ []) none)
    by (inr some) =
        let front : List ℕ = take (length (take (length key - 1) key) - 1) (take (length key - 1) key) in
        inr (front, open-cut key starred ∙ ap (λ text. text ++ 42 ∷ []) some ∙ append_assoc front (32 ∷ []) (42 ∷ []), rw starred some)

same-begins : (a b : List (List ℕ)) (p q : Bool) (u v : List (List ℕ)) → a ≡ b → p ≡ q → u ≡ v → Begins b q v → Begins a p u
same-begins a b p q u v givens goes_on words begins = rw (givens, goes_on, words) begins

-- where a key has no `*`, its words are those
closed-all : (key : List ℕ) (words : List (List ℕ)) → is_open key ≡ false → Begins (but_star (words_of key)) (ends_in_star (words_of key)) words → words_of key ≡ words
closed-all key words closed begins =
    let plain : ends_in_star (words_of key) ≡ false = closed-words key closed in
    all-of (words_of key) words (same-begins _ _ _ _ words words (sym (but-star-none (words_of key) plain)) (sym plain) refl begins)

cut-words : (key front : List ℕ) → CutAt key front → words_of key ≡ words_of front ++ codes "*" ∷ []
cut-words key front at = ap words_of at ∙ words-append front (codes "*")

cut-givens : (key front : List ℕ) → CutAt key front → but_star (words_of key) ≡ words_of front
cut-givens key front at = ap but_star (cut-words key front at) ∙ but-star-append (words_of front)

cut-ends : (key front : List ℕ) → CutAt key front → ends_in_star (words_of key) ≡ true
cut-ends key front at = ap ends_in_star (cut-words key front at) ∙ ends-append (words_of front)

-- the words of a line that a key is for begin with those of the key
pub begins-for : (key line : List ℕ) → has_whole_words key ≡ true → is_for key line ≡ true → Begins (but_star (words_of key)) (ends_in_star (words_of key)) (words_of line)
begins-for key line whole for = by (is_open key) refl
  where
    cut : is_open key ≡ true → IsCut key → Begins (but_star (words_of key)) (ends_in_star (words_of key)) (words_of line)
    cut starred (inl star) = subst (λ text. Begins (but_star (words_of text)) (ends_in_star (words_of text)) (words_of line)) (sym star) (begins-append [] (words_of line) (some-words line))
    cut starred (inr (front, at, before)) =
        let starts : starts_with nat_eq line (fixed key) ≡ true = sym (cond-true (is_open key) (starts_with nat_eq line (fixed key)) (bytes_eq line key) starred) ∙ for in
        let rest : List ℕ = drop (length (fixed key)) line in
        let line-is : line ≡ front ++ 32 ∷ rest = (starts_is Decides-eqb line (fixed key) _ refl).0 starts ∙ ap (λ text. text ++ rest) before ∙ append_assoc front (32 ∷ []) rest in
        same-begins _ (words_of front) _ true _ (words_of front ++ words_of rest) (cut-givens key front at) (cut-ends key front at) (ap words_of line-is ∙ words-append front rest)
        (begins-append (words_of front) (words_of rest) (some-words rest))

    by : (starred : Bool) → is_open key ≡ starred → Begins (but_star (words_of key)) (ends_in_star (words_of key)) (words_of line)
    by true starred = cut starred (open-key key starred whole)
    by false closed =
        let same : line ≡ key = (bytes_eq-Decides line key).0 (rw closed at for) in
        same-begins _ (words_of key) _ false _ (words_of key) (but-star-none (words_of key) (closed-words key closed)) (closed-words key closed) (ap words_of same) (begins-all (words_of key))

-- and a key is for each line whose words begin so
pub for-begins : (key line : List ℕ) (words : List (List ℕ)) → has_whole_words key ≡ true → line ≡ join_with_byte 32 words
    → Begins (but_star (words_of key)) (ends_in_star (words_of key)) words → is_for key line ≡ true
for-begins key line words whole joined begins = by (is_open key) refl
  where
    cut : is_open key ≡ true → IsCut key → starts_with nat_eq line (fixed key) ≡ true
    cut starred (inl star) = subst (λ text. starts_with nat_eq line (fixed text) ≡ true) (sym star) ((starts_is Decides-eqb line [] _ refl).1 line refl)
    cut starred (inr (front, at, before)) =
        let more = more-of (words_of front) words (same-begins _ _ _ _ words words (sym (cut-givens key front at)) (sym (cut-ends key front at)) refl begins) in
        let line-is : line ≡ fixed key ++ join_with_byte 32 more.0 =
        joined ∙ ap (join_with_byte 32) more.1 ∙ join-append (words_of front) more.0 (some-words front) more.2
        ∙ ap (λ text. text ++ 32 ∷ join_with_byte 32 more.0) (join_with_byte-slice_split 32 front)
        ∙ sym (append_assoc front (32 ∷ []) (join_with_byte 32 more.0)) ∙ ap (λ text. text ++ join_with_byte 32 more.0) (sym before) in
        (starts_is Decides-eqb line (fixed key) _ refl).1 (join_with_byte 32 more.0) line-is

    by : (starred : Bool) → is_open key ≡ starred → is_for key line ≡ true
    by true starred = cond-true (is_open key) (starts_with nat_eq line (fixed key)) (bytes_eq line key) starred ∙ cut starred (open-key key starred whole)
    by false closed =
        let same : line ≡ key = joined ∙ ap (join_with_byte 32) (sym (closed-all key words closed begins)) ∙ join_with_byte-slice_split 32 key in
        rw closed ((bytes_eq-Decides line key).1 same)
