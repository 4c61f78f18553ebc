-- The names that a text stands for, and the text of names.
use Rattle.uvm_glob.proofs.Common.{◌≡◌, ℕ, ◌+◌, ◌≤◌, Bool, true, false, ◌==◌, nat_lt, List, [], ◌∷◌, ◌++◌, length, Some, None, refl, sym, ap, subst, ◌∙◌, inl, inr, arith, list_any, list_all, false≢true, cases_Bool, or_parts, and_parts, not-false, ltb-false, le-ltb, length-append, append_assoc, list_any-append, list_all-append, join_with_byte-slice_split, length-slice_split, PathFault, Empty, TooLong, BadByte, TooDeep, most_name_bytes, most_names, most_text_bytes, first_given, fault_if, refusal, is_name_byte, name_fault, glob_fault, path_text, path_fault, between_dots, names_of, dotted, size_fault, eqb-true, append-nil}
use Rattle.std.specs.List.{count_by}

-- the text of what stands between the dots of a text is that text
pub path_text-between_dots : (text : List ℕ) → path_text (between_dots text) ≡ text
path_text-between_dots text = join_with_byte-slice_split 46 text

-- the text of the names of a text is that text
pub path_text-names_of : (text : List ℕ) → path_text (names_of text) ≡ text
path_text-names_of [] = refl
path_text-names_of (b ∷ text) = path_text-between_dots (b ∷ text)

-- a byte of a name is no dot
no_dot : (b : ℕ) → is_name_byte b ≡ true → (b == 46) ≡ false
no_dot b good = elim (cases_Bool (b == 46)) [
  | inl dot ↦ absurd (false≢true (subst (λ n. is_name_byte n ≡ true) (eqb-true b 46 dot) good))
  | inr other ↦ other
]

-- a name has no dot in it
between_dots-name : (name : List ℕ) → list_all is_name_byte name ≡ true → between_dots name ≡ name ∷ []
between_dots-name [] good = refl
between_dots-name (b ∷ name) good =
    let (here, more) = and_parts (is_name_byte b) (list_all is_name_byte name) good in
    rw (no_dot b here, between_dots-name name more)

-- a name ends at the first dot
between_dots-name_dot : (name rest : List ℕ) → list_all is_name_byte name ≡ true → between_dots (name ++ 46 ∷ rest) ≡ name ∷ between_dots rest
between_dots-name_dot [] rest good = refl
between_dots-name_dot (b ∷ name) rest good =
    let (here, more) = and_parts (is_name_byte b) (list_all is_name_byte name) good in
    rw (no_dot b here, between_dots-name_dot name rest more)

-- what stands between the dots of the text of some names
pub between_dots-path_text : (name : List ℕ) (names : List (List ℕ)) → list_all (list_all is_name_byte) (name ∷ names) ≡ true → between_dots (path_text (name ∷ names)) ≡ name ∷ names
between_dots-path_text name [] good =
    let (here, more) = and_parts (list_all is_name_byte name) true good in
    between_dots-name name here
between_dots-path_text name (next ∷ names) good =
    let (here, more) = and_parts (list_all is_name_byte name) (list_all (list_all is_name_byte) (next ∷ names)) good in
    between_dots-name_dot name (path_text (next ∷ names)) here ∙ ap (λ rest. name ∷ rest) (between_dots-path_text next names more)

-- what a path without a fault is
pub record IsPath (names : List (List ℕ)) : Type 0 where
  pub no_empty : list_any (λ name. length name == 0) names ≡ false
  pub no_long : list_any (λ name. nat_lt most_name_bytes (length name)) names ≡ false
  pub short : length (path_text names) ≤ most_text_bytes
  pub good : list_all (list_all is_name_byte) names ≡ true
  pub shallow : length names ≤ most_names

-- no fault of a glob, of a name, of a path is there
pub no_glob_fault : (long bad : Bool) → first_given (fault_if long TooLong ∷ fault_if bad BadByte ∷ []) ≡ None → (long ≡ false) × (bad ≡ false)
no_glob_fault true bad h = cc
no_glob_fault false true h = cc
no_glob_fault false false h = (refl, refl)

pub no_name_fault : (empty long bad : Bool) → first_given (fault_if empty Empty ∷ fault_if long TooLong ∷ fault_if bad BadByte ∷ []) ≡ None → (empty ≡ false) × (long ≡ false) × (bad ≡ false)
no_name_fault true long bad h = cc
no_name_fault false long bad h = let rest = no_glob_fault long bad h in (refl, rest.0, rest.1)

no_path_fault : (empty long bad deep : Bool) → first_given (fault_if empty Empty ∷ fault_if long TooLong ∷ fault_if bad BadByte ∷ fault_if deep TooDeep ∷ []) ≡ None → (empty ≡ false) × (long ≡ false) × (bad ≡ false) × (deep ≡ false)
no_path_fault true long bad deep h = cc
no_path_fault false true bad deep h = cc
no_path_fault false false true deep h = cc
no_path_fault false false false true h = cc
no_path_fault false false false false h = (refl, refl, refl, refl)

pub path-no_fault : (names : List (List ℕ)) → path_fault names ≡ None → IsPath names
unfolding path_fault
path-no_fault names h =
    let parts = no_path_fault _ _ _ _ h in
    let longs = or_parts (list_any (λ name. nat_lt most_name_bytes (length name)) names) (nat_lt most_text_bytes (length (path_text names))) parts.1 in
    record {
      no_empty = parts.0;
      no_long = longs.0;
      short = ltb-false most_text_bytes (length (path_text names)) longs.1;
      good = not-false (list_all (list_all is_name_byte) names) parts.2;
      shallow = ltb-false most_names (length names) parts.3;
    }

-- the names of a path's text are the path
pub names_of-path_text : (names : List (List ℕ)) → IsPath names → names_of (path_text names) ≡ names
names_of-path_text [] path = refl
names_of-path_text ([] ∷ names) path = absurd (false≢true (sym path.no_empty))
names_of-path_text ((b ∷ name) ∷ []) path = between_dots-path_text (b ∷ name) [] path.good
names_of-path_text ((b ∷ name) ∷ next ∷ names) path = between_dots-path_text (b ∷ name) (next ∷ names) path.good

-- the text of a path that has a name has a byte
some_text : (names : List (List ℕ)) (name : List ℕ) → IsPath (name ∷ names) → (b : ℕ) × (rest : List ℕ) × (path_text (name ∷ names) ≡ b ∷ rest)
some_text names [] path = absurd (false≢true (sym path.no_empty))
some_text [] (b ∷ name) path = (b, name, refl)
some_text (next ∷ names) (b ∷ name) path = (b, name ++ (46 ∷ path_text (next ∷ names)), refl)

-- the text of names that go on with others
path_text-append : (name : List ℕ) (names : List (List ℕ)) (next : List ℕ) (more : List (List ℕ)) → path_text ((name ∷ names) ++ (next ∷ more)) ≡ path_text (name ∷ names) ++ (46 ∷ path_text (next ∷ more))
path_text-append name [] next more = refl
path_text-append name (second ∷ names) next more =
    ap (λ rest. name ++ (46 ∷ rest)) (path_text-append second names next more)
    ∙ sym (append_assoc name (46 ∷ path_text (second ∷ names)) (46 ∷ path_text (next ∷ more)))

dotted-nil : (front : List ℕ) → dotted front [] ≡ front
dotted-nil [] = refl
dotted-nil (b ∷ front) = refl

dotted-some : (front back : List ℕ) (b : ℕ) (rest : List ℕ) (d : ℕ) (others : List ℕ) → front ≡ b ∷ rest → back ≡ d ∷ others → dotted front back ≡ front ++ (46 ∷ back)
dotted-some front back b rest d others e f = rw (e, f)

-- the text of a path that goes on with another
path_text-dotted : (names more : List (List ℕ)) → IsPath names → IsPath more → path_text (names ++ more) ≡ dotted (path_text names) (path_text more)
path_text-dotted [] more path other = refl
path_text-dotted (name ∷ names) [] path other =
    ap path_text (append-nil (name ∷ names)) ∙ sym (dotted-nil (path_text (name ∷ names)))
path_text-dotted (name ∷ names) (next ∷ more) path other =
    let front = some_text names name path in
    let back = some_text more next other in
    path_text-append name names next more ∙ sym (dotted-some _ _ front.0 front.1 back.0 back.1 front.2 back.2)

-- only their size may be a fault of two paths together
size-alone : (long deep : Bool) → first_given (fault_if long TooLong ∷ None ∷ fault_if deep TooDeep ∷ []) ≡ first_given (fault_if long TooLong ∷ fault_if deep TooDeep ∷ [])
size-alone true deep = refl
size-alone false deep = refl

-- two paths together are a path where their size allows it
fault-append : (names more : List (List ℕ)) → IsPath names → IsPath more → path_fault (names ++ more) ≡ size_fault (length (path_text (names ++ more))) (length names + length more)
unfolding path_fault
fault-append names more path other =
    let no_empty : list_any (λ name. length name == 0) (names ++ more) ≡ false = rw (list_any-append, path.no_empty, other.no_empty) in
    let no_long : list_any (λ name. nat_lt most_name_bytes (length name)) (names ++ more) ≡ false = rw (list_any-append, path.no_long, other.no_long) in
    let good : list_all (list_all is_name_byte) (names ++ more) ≡ true = rw (list_all-append, path.good, other.good) in
    rw (no_empty, no_long, good, length-append) (size-alone _ _)

-- the same for the texts of two paths
pub fault-dotted : (front back : List ℕ) → path_fault (names_of front) ≡ None → path_fault (names_of back) ≡ None → path_fault (names_of front ++ names_of back) ≡ size_fault (length (dotted front back)) (length (names_of front) + length (names_of back))
fault-dotted front back path other =
    let f = path-no_fault _ path in
    let o = path-no_fault _ other in
    fault-append (names_of front) (names_of back) f o
    ∙ ap (λ text. size_fault (length text) (length (names_of front) + length (names_of back)))
    (path_text-dotted (names_of front) (names_of back) f o ∙ rw (path_text-names_of front, path_text-names_of back))

-- the names of the two texts with a dot between them
pub names_of-dotted : (front back : List ℕ) → path_fault (names_of front) ≡ None → path_fault (names_of back) ≡ None → path_fault (names_of front ++ names_of back) ≡ None → names_of (dotted front back) ≡ names_of front ++ names_of back
names_of-dotted front back path other both =
    let f = path-no_fault _ path in
    let o = path-no_fault _ other in
    let text : path_text (names_of front ++ names_of back) ≡ dotted front back =
    path_text-dotted (names_of front) (names_of back) f o ∙ rw (path_text-names_of front, path_text-names_of back) in
    ap names_of (sym text) ∙ names_of-path_text _ (path-no_fault _ both)

-- the text of a path is short, and it has few names
pub text-short : (text : List ℕ) → path_fault (names_of text) ≡ None → length text ≤ most_text_bytes
text-short text path = subst (λ t. length t ≤ most_text_bytes) (path_text-names_of text) (path-no_fault _ path).short

pub names-few : (names : List (List ℕ)) → path_fault names ≡ None → length names ≤ most_names
names-few names path = (path-no_fault names path).shallow

-- a name is a path of one name
pub names_of-name : (name : List ℕ) → name_fault name ≡ None → names_of name ≡ name ∷ []
unfolding name_fault
names_of-name [] good = cc
names_of-name (b ∷ name) good = between_dots-name (b ∷ name) (not-false (list_all is_name_byte (b ∷ name)) (no_name_fault _ _ _ good).2)

pub fault-name : (name : List ℕ) → name_fault name ≡ None → path_fault (name ∷ []) ≡ None
unfolding name_fault path_fault
fault-name name good =
    let parts = no_name_fault _ _ _ good in
    let short : nat_lt most_text_bytes (length name) ≡ false = le-ltb most_text_bytes (length name) (omega (arith, ltb-false most_name_bytes (length name) parts.1)) in
    let fine = not-false (list_all is_name_byte name) parts.2 in
    rw (parts.0, parts.1, short, fine)

-- a text has one part more than it has dots
pub length-between_dots : (text : List ℕ) → length (between_dots text) ≡ count_by (λ b. b == 46) text + 1
length-between_dots text = length-slice_split (λ b. b == 46) text

-- a fault of a text is not that memory ran out: of a path, of a glob, of its size
refusal-of_path : (empty long bad deep : Bool) (fault : PathFault) → Some fault ≡ first_given (fault_if empty Empty ∷ fault_if long TooLong ∷ fault_if bad BadByte ∷ fault_if deep TooDeep ∷ []) → Some fault ≡ refusal fault
refusal-of_path true long bad deep fault e = let known : fault ≡ Empty = cc in rw known
refusal-of_path false true bad deep fault e = let known : fault ≡ TooLong = cc in rw known
refusal-of_path false false true deep fault e = let known : fault ≡ BadByte = cc in rw known
refusal-of_path false false false true fault e = let known : fault ≡ TooDeep = cc in rw known
refusal-of_path false false false false fault e = cc

refusal-of_glob : (long bad : Bool) (fault : PathFault) → Some fault ≡ first_given (fault_if long TooLong ∷ fault_if bad BadByte ∷ []) → Some fault ≡ refusal fault
refusal-of_glob true bad fault e = let known : fault ≡ TooLong = cc in rw known
refusal-of_glob false true fault e = let known : fault ≡ BadByte = cc in rw known
refusal-of_glob false false fault e = cc

refusal-of_size : (long deep : Bool) (fault : PathFault) → Some fault ≡ first_given (fault_if long TooLong ∷ fault_if deep TooDeep ∷ []) → Some fault ≡ refusal fault
refusal-of_size true deep fault e = let known : fault ≡ TooLong = cc in rw known
refusal-of_size false true fault e = let known : fault ≡ TooDeep = cc in rw known
refusal-of_size false false fault e = cc

pub refusal-path : (names : List (List ℕ)) (fault : PathFault) → Some fault ≡ path_fault names → path_fault names ≡ refusal fault
unfolding path_fault
refusal-path names fault e = sym e ∙ refusal-of_path _ _ _ _ fault e

pub refusal-glob : (text : List ℕ) (fault : PathFault) → Some fault ≡ glob_fault text → glob_fault text ≡ refusal fault
unfolding glob_fault
refusal-glob text fault e = sym e ∙ refusal-of_glob _ _ fault e

-- a fault of size of two texts, one after the other, is the first fault of both as a path
pub fault-refused : (front back : List ℕ) (fault : PathFault) → path_fault (names_of front) ≡ None → path_fault (names_of back) ≡ None → Some fault ≡ size_fault (length (dotted front back)) (length (names_of front) + length (names_of back)) → path_fault (names_of front ++ names_of back) ≡ refusal fault
fault-refused front back fault path other e =
    fault-dotted front back path other ∙ sym e
    ∙ refusal-of_size _ _ fault e

-- and where there is none, they are a path
pub fault-none : (front back : List ℕ) → path_fault (names_of front) ≡ None → path_fault (names_of back) ≡ None → None ≡ size_fault (length (dotted front back)) (length (names_of front) + length (names_of back)) → path_fault (names_of front ++ names_of back) ≡ None
fault-none front back path other e = fault-dotted front back path other ∙ sym e

pub ruleset texts = (path_text-between_dots, path_text-names_of, length-between_dots)

-- a text that is not empty stands for the names between its dots
pub length-names_of : (text : List ℕ) → (length text == 0) ≡ false → length (names_of text) ≡ count_by (λ b. b == 46) text + 1
length-names_of [] some = absurd (false≢true (sym some))
length-names_of (b ∷ text) some = length-between_dots (b ∷ text)

pub names_of-parsed : (text : List ℕ) → path_fault (between_dots text) ≡ None → names_of text ≡ between_dots text
unfolding path_fault
names_of-parsed [] path = cc
names_of-parsed (b ∷ text) path = refl
