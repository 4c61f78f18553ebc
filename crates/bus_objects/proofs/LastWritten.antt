-- After a write its data is the word at its address, and every other word stays.
use Rattle.bus_objects.proofs.Common.{◌≡◌, Bool, true, false, cond, List, [], ◌∷◌, Option, Some, refl, ap, ◌∙◌, ℤ, pos, ◌&&◌, unwrap_or, int_cmp, is_eq, match_ordering, ordering_reverse, Ordering, Less, Equal, Greater, IsTotalOrder, insert_entry, is_at, lookup, alike_right, int_cmp_total, address_of, data_of, is_write, Words, word_at, LastWrittenIsFound}

module _ {A : Type 0} where
  same-test : (test : Bool) (x y z : A) → cond test x z ≡ cond test x (cond test y z)
  same-test true x y z = refl
  same-test false x y z = refl

  other-test : (test other : Bool) (x y z : A) → (test ≡ true → other ≡ false) → cond test x (cond other y z) ≡ cond other y (cond test x z)
  other-test true other x y z apart = rw (apart refl)
  other-test false other x y z apart = refl

equal-from_test : (answer : Ordering) → is_eq answer ≡ true → answer ≡ Equal
equal-from_test Less e = cc
equal-from_test Equal e = refl
equal-from_test Greater e = cc

module _ {K X : Type 0} (R : K → K → Ordering) (order : IsTotalOrder R) (asked key : K) (value : X) where
  apart : (other : K) → R key other ≡ Greater → is_eq (R asked other) ≡ true → is_eq (R asked key) ≡ false
  apart other greater equal =
      let same : R asked key ≡ R other key = order.congr asked other key (equal-from_test (R asked other) equal) in
      let less : R other key ≡ Less = order.antisymm other key ∙ ap ordering_reverse greater in
      rw (same, less)

  placed : (entry : K × X) (entries : List (K × X)) (answer : Ordering) → R key entry.0 ≡ answer → lookup (is_at (R asked)) (insert_entry R entries key value) ≡ cond (is_eq (R asked key)) (Some value) (lookup (is_at (R asked)) entries) → lookup (is_at (R asked)) (match_ordering answer ((key, value) ∷ entry ∷ entries) ((entry.0, value) ∷ entries) (entry ∷ insert_entry R entries key value)) ≡ cond (is_eq (R asked key)) (Some value) (lookup (is_at (R asked)) (entry ∷ entries))
  placed entry entries Less at rest = refl
  placed entry entries Equal at rest =
      let same : R asked key ≡ R asked entry.0 = alike_right order key entry.0 asked at in
      rw same (same-test (is_eq (R asked entry.0)) (Some value) (Some entry.1) (lookup (is_at (R asked)) entries))
  placed entry entries Greater at rest =
      rw rest (other-test (is_eq (R asked entry.0)) (is_eq (R asked key)) (Some entry.1) (Some value) (lookup (is_at (R asked)) entries) (apart entry.0 at))

  lookup-insert_entry : (entries : List (K × X)) → lookup (is_at (R asked)) (insert_entry R entries key value) ≡ cond (is_eq (R asked key)) (Some value) (lookup (is_at (R asked)) entries)
  lookup-insert_entry [] = refl
  lookup-insert_entry (entry ∷ entries) = placed entry entries (R key entry.0) refl (lookup-insert_entry entries)

found-or : (test : Bool) (word : ℤ) (found : Option ℤ) → unwrap_or (cond test (Some word) found) (pos 0) ≡ cond test word (unwrap_or found (pos 0))
found-or true word found = refl
found-or false word found = refl

after-write : (words : Words) (stored word address : ℤ) → word_at (insert_entry int_cmp words stored word) address ≡ cond (is_eq (int_cmp address stored)) word (word_at words address)
after-write words stored word address =
    rw (lookup-insert_entry int_cmp int_cmp_total address stored word words) (found-or (is_eq (int_cmp address stored)) word (lookup (is_at (int_cmp address)) words))

after-item : (writes : Bool) (words : Words) (stored word address : ℤ) → word_at (cond writes (insert_entry int_cmp words stored word) words) address ≡ cond (writes && is_eq (int_cmp address stored)) word (word_at words address)
after-item true words stored word address = after-write words stored word address
after-item false words stored word address = refl

pub last_written_is_found : LastWrittenIsFound
last_written_is_found words item address = after-item (is_write item) words (address_of item) (data_of item) address
