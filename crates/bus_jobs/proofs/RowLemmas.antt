-- What a walk with no fault holds: each row is an argument's, and has a value that the argument's parser takes.
use Rattle.bus_jobs.proofs.CommandNames.{◌≡◌, ◌==◌, ◌&&◌, ◌∙◌, ◌<◌, ℕ, Bool, cond, true, false, zero, suc, refl, sym, ap, subst, arith, List, [], ◌∷◌, ◌++◌, length, drop, Option, Some, None, is_some, nat_lt, not, find, fold, option_map, option_map_or, encode_utf8, option_and_then, slice_get, bytes_eq, chars, eqb-true, lt-ltb, ne_eqb, bytes_eq-Decides, explicit_source, parser_of_value, action_fault, bundle_fault, bundle_step_fault, flag_word_fault, flags_fault, level_fault, long_fault, option_fault, other_fault, positional_fault, react_fault, settle_fault, short_fault, step_fault, stray_fault, turn_fault, use_fault, values_fault, walk_fault, word_fault, Kinds, or_else, range_kinds, long_of, short_of, Shape, is_given, value_passes, values_pass, Accepts, read_as, Held, Names, Outcome, Row, Rule, Step, Waiting, Walk, action_of, after_flag, after_step, arg_by_id, arg_by_index, arg_by_long, arg_by_short, at_row, attached_value, bundle_met, bundle_step, done, first_of, flag_met, has_row, is_pending, long_met, long_or_other, more_values, most_values, next, nothing_held, option, option_met, option_word, plain_word, positional_held, pushed, reacted, reading_by, row_text, rows_after, settled, settled_rows, short_met, short_or_plain, stronger, subcommand, subcommand_met, subcommand_or_other, takes_several, takes_values, to_positional, trailing, used, used_as, used_by_id, value, waits, walk, walk_from, walked, walked_from, with_default, with_values, without, word_met, default_rows, ArgAction, Set, Append, SetTrue, SetFalse, Count, Reading, AsWritten, ErrorKind, ValueSource, CommandLine, DefaultValue, accepts-Accepts, both, Text, one_of}
use Rattle.clap.specs.declared.error.kind.ErrorKind.TheVariants as kind
use Rattle.bus_jobs.proofs.LevelLemmas.{level_parts, no_first, no_next}

-- ---- arguments

-- an id finds its argument; a use with no value is a fault, or something stands for the value; the defaults pass
pub record IsRegular (c : List Rule) (a : Rule) : Type 0 where
  pub known : arg_by_id c a.id ≡ Some a
  pub filled : (again : Bool) (rows : List Row) → use_fault again a [] rows ≡ [] → 0 < length a.missing
  pub defaults : values_pass a a.defaults ≡ true

abbrev pub AreRegular : List Rule → List Rule → Type 0
AreRegular c [] = Unit {0}
AreRegular c (a ∷ rest) = IsRegular c a × AreRegular c rest

find_regular : (c : List Rule) (p : Rule → Bool) (xs : List Rule) (a : Rule) → AreRegular c xs → find p xs ≡ Some a → IsRegular c a
find_regular c p [] a regular found = cc
find_regular c p (x ∷ xs) a regular found = go (p x) (find_regular c p xs a regular.1) found
  where
    go : (b : Bool) → (find p xs ≡ Some a → IsRegular c a) → cond b (Some x) (find p xs) ≡ Some a → IsRegular c a
    go true later e = let same : x ≡ a = cc in subst (IsRegular c) same regular.0
    go false later e = later e

-- ---- rows

-- the values begin with one that passes the argument's parser, and are read as that parser says
abbrev pub HoldsFor : Rule → Reading → List Text → Type 0
HoldsFor a how [] = ⊥
HoldsFor a how (v ∷ vs) = (how ≡ reading_by a) × (value_passes a v ≡ true)

-- a flag has the value of a use with none where the words gave it, and else its default
abbrev pub Tells : Rule → Option ValueSource → List Text → Type 0
Tells a None values = ⊥
Tells a (Some CommandLine) values = takes_values a ≡ false → slice_get values 0 ≡ slice_get a.missing 0
Tells a (Some DefaultValue) values = takes_values a ≡ false → slice_get values 0 ≡ slice_get a.defaults 0

abbrev pub IsSoundRow : List Rule → Row → Type 0
IsSoundRow c r = (a : Rule) × (arg_by_id c r.id ≡ Some a) × HoldsFor a r.reading r.values × Tells a r.source r.values

-- the same, of a row that the words gave
abbrev IsGivenRow : List Rule → Row → Type 0
IsGivenRow c r = IsSoundRow c r × (r.source ≡ Some CommandLine)

abbrev pub Are : (Row → Type 0) → List Row → Type 0
Are P [] = Unit {0}
Are P (r ∷ rs) = P r × Are P rs

are_append : (P : Row → Type 0) (xs ys : List Row) → Are P xs → Are P ys → Are P (xs ++ ys)
are_append P [] ys a b = b
are_append P (x ∷ xs) ys a b = (a.0, are_append P xs ys a.1 b)

are_at_row : (P : Row → Type 0) (id : Text) (change : Row → List Row) (missing rows : List Row) → ((r : Row) → P r → Are P (change r)) → Are P missing
    → Are P rows → Are P (at_row id change missing rows)
are_at_row P id change missing [] changed other sound = other
are_at_row P id change missing (r ∷ rs) changed other sound = go (bytes_eq r.id id) (are_at_row P id change missing rs changed other sound.1)
  where
    go : (b : Bool) → Are P (at_row id change missing rs) → Are P (cond b (change r ++ rs) (r ∷ at_row id change missing rs))
    go true rest = are_append P (change r) rs (changed r sound.0) sound.1
    go false rest = (sound.0, rest)

are_without : (P : Row → Type 0) (id : Text) (rows : List Row) → Are P rows → Are P (without id rows)
are_without P id rows sound = are_at_row P id (λ _. []) [] rows (λ r s. tt) tt sound

are_sound : (c : List Rule) (rows : List Row) → Are (IsGivenRow c) rows → Are (IsSoundRow c) rows
are_sound c [] given = tt
are_sound c (r ∷ rs) given = (given.0.0, are_sound c rs given.1)

holds_more : (a : Rule) (how : Reading) (values more : List Text) → HoldsFor a how values → HoldsFor a how (values ++ more)
holds_more a how [] more holds = absurd holds
holds_more a how (v ∷ vs) more holds = holds

tells_given : (a : Rule) (how : Reading) (o : Option ValueSource) (values more : List Text) → HoldsFor a how values → o ≡ Some CommandLine → Tells a o values
    → Tells a (Some (stronger o CommandLine)) (values ++ more)
tells_given a how o [] more holds given tells = absurd holds
tells_given a how None (v ∷ vs) more holds given tells = absurd tells
tells_given a how (Some CommandLine) (v ∷ vs) more holds given tells = tells
tells_given a how (Some DefaultValue) (v ∷ vs) more holds given tells = let bad : DefaultValue ≡ CommandLine = cc in cc

tells_default : (a : Rule) (how : Reading) (o : Option ValueSource) (values more : List Text) → HoldsFor a how values → Tells a o values
    → Tells a (Some (stronger o DefaultValue)) (values ++ more)
tells_default a how o [] more holds tells = absurd holds
tells_default a how None (v ∷ vs) more holds tells = absurd tells
tells_default a how (Some CommandLine) (v ∷ vs) more holds tells = tells
tells_default a how (Some DefaultValue) (v ∷ vs) more holds tells = tells

given_source : (o : Option ValueSource) → stronger o CommandLine ≡ CommandLine
given_source None = refl
given_source (Some CommandLine) = refl
given_source (Some DefaultValue) = refl

with_values_given : (c : List Rule) (a : Rule) (v : Text) (vs : List Text) (rows : List Row) → arg_by_id c a.id ≡ Some a → value_passes a v ≡ true
    → (takes_values a ≡ false → Some v ≡ slice_get a.missing 0) → Are (IsGivenRow c) rows → Are (IsGivenRow c) (with_values a.id (reading_by a) CommandLine (v ∷ vs) rows)
with_values_given c a v vs rows known passes tells given =
    are_at_row (IsGivenRow c) a.id (more_values CommandLine (v ∷ vs)) _ rows
    (λ r old.
    let holds = holds_more old.0.0 r.reading r.values (v ∷ vs) old.0.2 in
    let told = tells_given old.0.0 r.reading r.source r.values (v ∷ vs) old.0.2 old.1 old.0.3 in
    (((old.0.0, old.0.1, holds, told), ap Some (given_source r.source)), tt))
    (((a, known, (refl, passes), tells), refl), tt) given

with_values_default : (c : List Rule) (a : Rule) (v : Text) (vs : List Text) (rows : List Row) → arg_by_id c a.id ≡ Some a → value_passes a v ≡ true
    → (takes_values a ≡ false → Some v ≡ slice_get a.defaults 0) → Are (IsSoundRow c) rows → Are (IsSoundRow c) (with_values a.id (reading_by a) DefaultValue (v ∷ vs) rows)
with_values_default c a v vs rows known passes tells sound =
    are_at_row (IsSoundRow c) a.id (more_values DefaultValue (v ∷ vs)) _ rows
    (λ r old.
    let holds = holds_more old.0 r.reading r.values (v ∷ vs) old.2 in
    let told = tells_default old.0 r.reading r.source r.values (v ∷ vs) old.2 old.3 in
    ((old.0, old.1, holds, told), tt))
    ((a, known, (refl, passes), tells), tt) sound

-- the first of values with no fault passes
first_passes : (a : Rule) (v : Text) (vs : List Text) → values_fault a (v ∷ vs) ≡ [] → value_passes a v ≡ true
first_passes a v vs fault = go (value_passes a v) _ (no_first _ _ fault)
  where
    go : (b : Bool) (k : ErrorKind) → cond b [] (k ∷ []) ≡ [] → b ≡ true
    go true k e = refl
    go false k e = cc

used_as_sound : (c : List Rule) (action : ArgAction) (again : Bool) (a : Rule) (v : Text) (vs : List Text) (rows : List Row) → arg_by_id c a.id ≡ Some a
    → (takes_values a ≡ false → Some v ≡ slice_get a.missing 0) → action_fault action again a (v ∷ vs) rows ≡ [] → Are (IsGivenRow c) rows
    → Are (IsGivenRow c) (used_as action a.id (reading_by a) (v ∷ vs) rows)
used_as_sound c Set again a v vs rows known tells fault given =
    with_values_given c a v vs (without a.id rows) known (first_passes a v vs (no_next _ _ fault)) tells (are_without (IsGivenRow c) a.id rows given)
used_as_sound c SetTrue again a v vs rows known tells fault given =
    with_values_given c a v vs (without a.id rows) known (first_passes a v vs (no_next _ _ fault)) tells (are_without (IsGivenRow c) a.id rows given)
used_as_sound c SetFalse again a v vs rows known tells fault given =
    with_values_given c a v vs (without a.id rows) known (first_passes a v vs (no_next _ _ fault)) tells (are_without (IsGivenRow c) a.id rows given)
used_as_sound c Append again a v vs rows known tells fault given = with_values_given c a v vs rows known (first_passes a v vs fault) tells given
used_as_sound c Count again a v vs rows known tells fault given =
    with_values_given c a v vs (without a.id rows) known (first_passes a v vs fault) tells (are_without (IsGivenRow c) a.id rows given)
used_as_sound c _ again a v vs rows known tells fault given = given

used_some : (c : List Rule) (again : Bool) (a : Rule) (values : List Text) (rows : List Row) → 0 < length values → arg_by_id c a.id ≡ Some a
    → (takes_values a ≡ false → slice_get values 0 ≡ slice_get a.missing 0) → action_fault (action_of a) again a values rows ≡ [] → Are (IsGivenRow c) rows
    → Are (IsGivenRow c) (used_as (action_of a) a.id (reading_by a) values rows)
used_some c again a [] rows some known tells fault given = absurd (omega arith)
used_some c again a (v ∷ vs) rows some known tells fault given = used_as_sound c (action_of a) again a v vs rows known tells fault given

-- the tests of a count of values, where none is wanted and there is one
count_tests : {X : Type 0} (x y : X) (none one_count same below above : Bool) → (one_count ≡ true → same ≡ false) → above ≡ true
    → cond none (kind.InvalidValue ∷ []) (cond one_count (cond same [] (kind.WrongNumberOfValues ∷ []))
    (cond below (kind.TooFewValues ∷ []) (cond above (kind.TooManyValues ∷ []) []))) ≡ [] → x ≡ y
count_tests x y true one_count same below above differs more fault = cc
count_tests x y false true true below above differs more fault = let bad : true ≡ false = differs refl in cc
count_tests x y false true false below above differs more fault = cc
count_tests x y false false same true above differs more fault = cc
count_tests x y false false same false true differs more fault = cc
count_tests x y false false same false false differs more fault = cc

not_false : (b : Bool) → not b ≡ false → b ≡ true
not_false true e = refl
not_false false e = cc

-- a flag takes no value
flag_alone : {X : Type 0} (x y : X) (least most n : ℕ) → not (most == 0) ≡ false → range_kinds least most (suc n) ≡ [] → x ≡ y
flag_alone x y least most n flag fault =
    let none : most ≡ 0 = eqb-true most 0 (not_false (most == 0) flag) in
    let differs : (least == most) ≡ true → (least == suc n) ≡ false =
    λ e. let same : least ≡ most = eqb-true least most e in ne_eqb least (suc n) (λ s. omega arith) in
    count_tests x y (nat_lt 0 least && (suc n == 0)) (least == most) (least == suc n) (nat_lt (suc n) least) (nat_lt most (suc n)) differs (lt-ltb most (suc n) (omega arith)) fault

used_sound : (c : List Rule) (again : Bool) (a : Rule) (values : List Text) (rows : List Row) → IsRegular c a → use_fault again a values rows ≡ []
    → Are (IsGivenRow c) rows → Are (IsGivenRow c) (used a values rows)
used_sound c again a [] rows regular fault given =
    used_some c again a a.missing rows (regular.filled again rows fault) regular.known (λ flag. refl) (no_next _ _ fault) given
used_sound c again a (v ∷ vs) rows regular fault given =
    used_some c again a (v ∷ vs) rows (omega arith) regular.known (λ flag. flag_alone _ _ _ (most_values a) (length vs) flag (no_first _ _ fault)) (no_next _ _ fault) given

used_by_id_sound : (c : List Rule) (again : Bool) (o : Option Rule) (values : List Text) (rows : List Row) → ((a : Rule) → o ≡ Some a → IsRegular c a)
    → option_map_or (λ (a : Rule). use_fault again a values rows) o [] ≡ [] → Are (IsGivenRow c) rows → Are (IsGivenRow c) (used_by_id o values rows)
used_by_id_sound c again None values rows regular fault given = given
used_by_id_sound c again (Some a) values rows regular fault given = used_sound c again a values rows (regular a refl) fault given

default_rows_sound : (c : List Rule) (a : Rule) (values : List Text) (rows : List Row) → arg_by_id c a.id ≡ Some a → values_pass a values ≡ true
    → slice_get values 0 ≡ slice_get a.defaults 0 → Are (IsSoundRow c) rows → Are (IsSoundRow c) (default_rows a.id (reading_by a) values rows)
default_rows_sound c a [] rows known passes tells sound = sound
default_rows_sound c a (v ∷ vs) rows known passes tells sound = with_values_default c a v vs rows known (both _ _ passes).0 (λ flag. tells) sound

defaults_sound : (c xs : List Rule) (rows : List Row) → AreRegular c xs → Are (IsSoundRow c) rows → Are (IsSoundRow c) (fold with_default rows xs)
defaults_sound c [] rows regular sound = sound
defaults_sound c (a ∷ rest) rows regular sound = defaults_sound c rest (with_default rows a) regular.1 (go (has_row a.id rows))
  where
    go : (b : Bool) → Are (IsSoundRow c) (cond b rows (default_rows a.id (reading_by a) a.defaults rows))
    go true = sound
    go false = default_rows_sound c a a.defaults rows regular.0.known regular.0.defaults refl sound

-- ---- the rows of a walk

module _ (s : Shape) (regular : AreRegular s.rules s.rules) where
  abbrev c : List Rule
  c = s.rules

  abbrev again : Bool
  again = s.args_override_self

  abbrev IsSound : Held → Type 0
  IsSound h = Are (IsGivenRow s.rules) h.rows

  met_regular : (p : Rule → Bool) (a : Rule) → find p c ≡ Some a → IsRegular s.rules a
  met_regular p a found = find_regular c p c a regular found

  settled_rows_sound : (pending : Option (Text × List Text)) (rows : List Row)
      → option_map_or (λ (p : Text × List Text). option_map_or (λ (a : Rule). use_fault again a p.1 rows) (arg_by_id c p.0) []) pending [] ≡ []
      → Are (IsGivenRow c) rows → Are (IsGivenRow c) (settled_rows c pending rows)
  settled_rows_sound None rows fault sound = sound
  settled_rows_sound (Some p) rows fault sound = used_by_id_sound c again (arg_by_id c p.0) p.1 rows (met_regular _) fault sound

  settled_sound : (h : Held) → settle_fault c again h ≡ [] → IsSound h → IsSound (settled c h)
  settled_sound h fault sound = settled_rows_sound h.pending h.rows fault sound

  reacted_sound : (a : Rule) (values : List Text) (h : Held) → IsRegular c a → react_fault c again a values h ≡ [] → IsSound h → IsSound (reacted c a values h)
  reacted_sound a values h known fault sound =
      used_sound c again a values (settled c h).rows known (no_next (settle_fault c again h) _ fault) (settled_sound h (no_first _ _ fault) sound)

  option_sound : (a : Rule) (v : Option Text) (h : Held) → IsRegular c a → option_fault c again a v h ≡ [] → IsSound h → IsSound (option_met c a v h).0
  option_sound a (Some v) h known fault sound = reacted_sound a (v ∷ []) h known fault sound
  option_sound a None h known fault sound = settled_sound h fault sound

  flag_sound : (a : Rule) (v : Option Text) (h : Held) (k : Kinds) → IsRegular c a → cond (is_some v) k (react_fault c again a [] h) ≡ [] → IsSound h → IsSound (flag_met c a v h).0
  flag_sound a (Some v) h k known fault sound = sound
  flag_sound a None h k known fault sound = reacted_sound a [] h known fault sound

  long_sound : (o : Option Rule) (v : Option Text) (h : Held) → ((a : Rule) → o ≡ Some a → IsRegular c a) → long_fault c again o v h ≡ [] → IsSound h → IsSound (long_met c o v h).0
  long_sound None v h known fault sound = sound
  long_sound (Some a) v h known fault sound = go (takes_values a) fault
    where
      go : (b : Bool) → cond b (option_fault c again a v h) (cond (is_some v) (kind.TooManyValues ∷ []) (react_fault c again a [] h)) ≡ [] → IsSound (cond b (option_met c a v h) (flag_met c a v h)).0
      go true f = option_sound a v h (known a refl) f sound
      go false f = flag_sound a v h _ (known a refl) f sound

  short_sound : (o : Option Rule) (rest : Text) (h : Held) (going : Held → Held × Outcome) (going_fault : Held → Kinds) → ((a : Rule) → o ≡ Some a → IsRegular c a)
      → ((k : Held) → going_fault k ≡ [] → IsSound k → IsSound (going k).0) → short_fault c again o rest h going_fault ≡ [] → IsSound h → IsSound (short_met c o rest h going).0
  short_sound None rest h going going_fault known onward fault sound = sound
  short_sound (Some a) rest h going going_fault known onward fault sound = go (takes_values a) fault
    where
      go : (b : Bool) → cond b (option_fault c again a (attached_value rest) h) (or_else (react_fault c again a [] h) (going_fault (reacted c a [] h))) ≡ []
          → IsSound (cond b (option_met c a (attached_value rest) h) (going (reacted c a [] h))).0
      go true f = option_sound a (attached_value rest) h (known a refl) f sound
      go false f = onward (reacted c a [] h) (no_next (react_fault c again a [] h) _ f) (reacted_sound a [] h (known a refl) (no_first _ _ f) sound)

  bundle_step_sound : (o : Option ℕ) (flags : Text) (skip : ℕ) (so_far : Outcome) (h : Held) (going : Text → ℕ → Outcome → Held → Held × Outcome)
      (going_fault : Text → ℕ → Held → Kinds) → ((f : Text) (n : ℕ) (so : Outcome) (k : Held) → going_fault f n k ≡ [] → IsSound k → IsSound (going f n so k).0)
      → bundle_step_fault c again o flags skip h going_fault ≡ [] → IsSound h → IsSound (bundle_step c o flags skip so_far h going).0
  bundle_step_sound None flags skip so_far h going going_fault onward fault sound = sound
  bundle_step_sound (Some x) flags zero so_far h going going_fault onward fault sound =
      short_sound (arg_by_short c x) (drop (length (encode_utf8 x)) flags) h _ _ (met_regular _) (onward (drop (length (encode_utf8 x)) flags) 0 done) fault sound
  bundle_step_sound (Some x) flags (suc skip) so_far h going going_fault onward fault sound =
      onward (drop (length (encode_utf8 x)) flags) skip so_far h fault sound

  bundle_sound : (k : ℕ) (flags : Text) (skip : ℕ) (so_far : Outcome) (h : Held) → flags_fault c again k flags skip h ≡ [] → IsSound h
      → IsSound (bundle_met c k flags skip so_far h).0
  unfolding bundle_met flags_fault
  bundle_sound zero flags skip so_far h fault sound = sound
  bundle_sound (suc k) flags skip so_far h fault sound =
      bundle_step_sound (slice_get (chars flags) 0) flags skip so_far h (bundle_met c k) (flags_fault c again k) (bundle_sound k) fault sound

  option_word_sound : (a : Option Rule) (id word : Text) (h : Held) → IsSound h → IsSound (option_word a id word h).0
  option_word_sound None id word h sound = sound
  option_word_sound (Some a) id word h sound = sound

  plain_sound : (waiting : Waiting) (word : Text) (h : Held) → IsSound h → IsSound (plain_word c waiting word h).0
  plain_sound (option id) word h sound = option_word_sound (arg_by_id c id) id word h sound
  plain_sound _ word h sound = sound

  after_flag_sound : (waiting : Waiting) (word : Text) (h : Held) (o : Outcome) → IsSound h → IsSound (after_flag c waiting word h o).0
  after_flag_sound waiting word h done sound = sound
  after_flag_sound waiting word h (waits id) sound = sound
  after_flag_sound waiting word h _ sound = plain_sound waiting word h sound

  short_or_plain_sound : (waiting : Waiting) (word : Text) (o : Option Text) (h : Held) → option_map_or (λ (flags : Text). bundle_fault c again flags h) o [] ≡ []
      → IsSound h → IsSound (short_or_plain c waiting word o h).0
  short_or_plain_sound waiting word (Some flags) h fault sound =
      after_flag_sound waiting word _ _ (bundle_sound (length flags) flags h.skip _ (record h { skip = 0 }) fault sound)
  short_or_plain_sound waiting word None h fault sound = plain_sound waiting word h sound

  long_or_other_sound : (waiting : Waiting) (word : Text) (o : Option (Text × Option Text)) (h : Held) → flag_word_fault c again o word h ≡ []
      → IsSound h → IsSound (long_or_other c waiting word o h).0
  long_or_other_sound waiting word (Some p) h fault sound = after_flag_sound waiting word _ _ (long_sound (arg_by_long c p.0) p.1 h (met_regular _) fault sound)
  long_or_other_sound waiting word None h fault sound = short_or_plain_sound waiting word (short_of word) h fault sound

  subcommand_or_other_sound : (o : Option Text) (waiting : Waiting) (position : ℕ) (word : Text) (h : Held) → other_fault s o word h ≡ [] → IsSound h
      → IsSound (subcommand_or_other c o waiting position word h).0
  subcommand_or_other_sound (Some name) waiting position word h fault sound = sound
  subcommand_or_other_sound None waiting position word h fault sound = go (bytes_eq word (45 ∷ 45 ∷ [])) fault
    where
      go : (b : Bool) → cond b [] (flag_word_fault c again (long_of word) word h) ≡ [] → IsSound (cond b (h, trailing position) (long_or_other c waiting word (long_of word) h)).0
      go true f = sound
      go false f = long_or_other_sound waiting word (long_of word) h f sound

  word_sound : (names : Names) (is_trailing : Bool) (waiting : Waiting) (position : ℕ) (word : Text) (h : Held) → word_fault s names is_trailing waiting word h ≡ []
      → IsSound h → IsSound (word_met c names is_trailing waiting position word h).0
  word_sound names true waiting position word h fault sound = sound
  word_sound names false waiting position word h fault sound = subcommand_or_other_sound (subcommand_met names waiting word) waiting position word h fault sound

  positional_sound : (a : Rule) (word : Text) (h : Held) → positional_fault c again a h ≡ [] → IsSound h → IsSound (positional_held c a word h)
  positional_sound a word h fault sound = go (is_pending a h.pending && takes_several a) fault
    where
      go : (b : Bool) → cond b [] (settle_fault c again h) ≡ [] → IsSound (pushed a.id word (cond b h (settled c h)))
      go true f = sound
      go false f = settled_sound h f sound

  to_positional_sound : (a : Option Rule) (word : Text) (w : Walk) (h : Held) → option_map_or (λ (x : Rule). positional_fault c again x h) a (stray_fault s) ≡ []
      → IsSound h → IsSound (to_positional c a word w h).held
  to_positional_sound None word w h fault sound = sound
  to_positional_sound (Some a) word w h fault sound = positional_sound a word h fault sound

  after_step_sound : (word : Text) (w : Walk) (h : Held) (step : Step) → step_fault s w.position h step ≡ [] → IsSound h → IsSound (after_step c word w h step).held
  after_step_sound word w h (next waiting) fault sound = sound
  after_step_sound word w h (trailing position) fault sound = sound
  after_step_sound word w h (subcommand name) fault sound = sound
  after_step_sound word w h value fault sound = to_positional_sound (arg_by_index c w.position) word w h fault sound

  walked_from_sound : (names : Names) (o : Option (Text × List Text)) (w : Walk) (word : Text)
      → cond (is_some o) [] (or_else (word_fault s names w.is_trailing w.waiting word w.held)
      (step_fault s w.position (word_met c names w.is_trailing w.waiting w.position word w.held).0 (word_met c names w.is_trailing w.waiting w.position word w.held).1)) ≡ []
      → IsSound w.held → IsSound (walked_from c names o w word).held
  walked_from_sound names (Some p) w word fault sound = sound
  walked_from_sound names None w word fault sound =
      after_step_sound word w _ _ (no_next (word_fault s names w.is_trailing w.waiting word w.held) _ fault)
      (word_sound names w.is_trailing w.waiting w.position word w.held (no_first _ _ fault) sound)

  walk_sound : (names : Names) (words : List Text) (w : Walk) → walk_fault s names w words ≡ [] → IsSound w.held → IsSound (fold (walked c names) w words).held
  unfolding walked walk_fault
  walk_sound names [] w fault sound = sound
  walk_sound names (word ∷ rest) w fault sound =
      walk_sound names rest (walked c names w word) (no_next (turn_fault s names w word) _ fault) (walked_from_sound names w.stopped w word (no_first _ _ fault) sound)

  -- the rows of a level with no fault
  pub rows_sound : (names : Names) (words : List Text) (has_subcommand : Bool) (below : Kinds) → level_fault s names nothing_held words has_subcommand below ≡ []
      → Are (IsSoundRow s.rules) (rows_after s.rules names words)
  rows_sound names words has_subcommand below fault =
      let parts = level_parts s names nothing_held words has_subcommand below fault in
      let end = (walk c names nothing_held words).held in
      let given = settled_sound end parts.no_settle (walk_sound names words (walk_from nothing_held) parts.no_walk tt) in
      defaults_sound c c (settled c end).rows regular (are_sound c (settled c end).rows given)

-- ---- what is read of sound rows

-- a row that was given has a first value
pub given_value : (c : List Rule) (id : Text) (rows : List Row) → Are (IsSoundRow c) rows → is_given id rows ≡ true → is_some (first_of id rows) ≡ true
given_value c id [] sound given = cc
given_value c id (r ∷ rs) sound given = go (bytes_eq r.id id) (given_value c id rs sound.1) given
  where
    first : (a : Rule) (how : Reading) (values : List Text) → HoldsFor a how values → is_some (slice_get values 0) ≡ true
    first a how [] holds = absurd holds
    first a how (v ∷ vs) holds = refl

    go : (b : Bool) → (is_given id rs ≡ true → is_some (first_of id rs) ≡ true)
        → option_map_or (λ (x : Row). explicit_source x.source) (cond b (Some r) (find (λ (x : Row). bytes_eq x.id id) rs)) false ≡ true
        → is_some (option_and_then (λ (x : Row). slice_get x.values 0) (cond b (Some r) (find (λ (x : Row). bytes_eq x.id id) rs))) ≡ true
    go true rest g = first sound.0.0 r.reading r.values sound.0.2
    go false rest g = rest g

-- what is read for an argument passed its parser; for a flag it tells whether the flag was given
abbrev pub Reads : Rule → Option Text → Bool → Type 0
Reads a None given = given ≡ false
Reads a (Some v) given = Accepts a.ignore_case (parser_of_value a.parser) v × (takes_values a ≡ false → Some v ≡ slice_get (cond given a.missing a.defaults) 0)

row_reads : (a : Rule) (how : Reading) (o : Option ValueSource) (values : List Text) → reading_by a ≡ AsWritten → HoldsFor a how values → Tells a o values
    → Reads a (option_map (read_as how) (slice_get values 0)) (explicit_source o)
row_reads a how o [] plain holds tells = absurd holds
row_reads a how None (v ∷ vs) plain holds tells = absurd tells
row_reads a how (Some CommandLine) (v ∷ vs) plain holds tells =
    let as_written : read_as how v ≡ v = ap (λ (r : Reading). read_as r v) (holds.0 ∙ plain) in
    rw as_written (accepts-Accepts a.ignore_case (parser_of_value a.parser) v holds.1, tells)
row_reads a how (Some DefaultValue) (v ∷ vs) plain holds tells =
    let as_written : read_as how v ≡ v = ap (λ (r : Reading). read_as r v) (holds.0 ∙ plain) in
    rw as_written (accepts-Accepts a.ignore_case (parser_of_value a.parser) v holds.1, tells)

pub rows_read : (c : List Rule) (id : Text) (a : Rule) (rows : List Row) → Are (IsSoundRow c) rows → arg_by_id c id ≡ Some a → reading_by a ≡ AsWritten
    → Reads a (one_of id rows) (is_given id rows)
rows_read c id a [] sound known plain = refl
rows_read c id a (r ∷ rs) sound known plain = go (bytes_eq r.id id) refl (rows_read c id a rs sound.1 known plain)
  where
    go : (b : Bool) → bytes_eq r.id id ≡ b → Reads a (one_of id rs) (is_given id rs)
        → Reads a (option_and_then row_text (cond b (Some r) (find (λ (x : Row). bytes_eq x.id id) rs)))
        (option_map_or (λ (x : Row). explicit_source x.source) (cond b (Some r) (find (λ (x : Row). bytes_eq x.id id) rs)) false)
    go true is rest =
        let same_id : r.id ≡ id = (bytes_eq-Decides r.id id).0 is in
        let both_found : Some sound.0.0 ≡ Some a = sym sound.0.1 ∙ ap (arg_by_id c) same_id ∙ known in
        let same : sound.0.0 ≡ a = cc in
        let row : Reads sound.0.0 (row_text r) (explicit_source r.source) → Reads a (row_text r) (explicit_source r.source) = subst (λ (x : Rule). Reads x (row_text r) (explicit_source r.source)) same in
        row (row_reads sound.0.0 r.reading r.source r.values (ap reading_by same ∙ plain) sound.0.2 sound.0.3)
    go false is rest = rest
