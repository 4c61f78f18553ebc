-- A level of a parse with no fault: its walk stops at a subcommand of its own, and what is required is there.
use Rattle.bus_jobs.proofs.CommandNames.{◌≡◌, ◌⊎◌, ◌&&◌, ℕ, Bool, cond, true, false, not, refl, inl, inr, List, [], ◌∷◌, Option, Some, None, is_some, codes, find, fold, option_map, bytes_eq, Kinds, check_kinds, or_else, long_of, short_of, Shape, Held, Names, Outcome, Rule, Step, Waiting, Walk, after_flag, after_step, answers_to, arg_by_index, done, finished, idle, long_or_other, next, option, plain_word, settled, short_or_plain, subcommand, subcommand_met, subcommand_or_other, to_positional, trailing, value, waits, walk, walk_from, walked, walked_from, word_met, check_fault, defaults_fault, settle_fault, level_fault, other_fault, step_fault, turn_fault, walk_fault, word_fault, OutOfMemory, Text}
use Rattle.clap.specs.declared.error.kind.ErrorKind.TheVariants as kind

-- ---- no fault of the whole is no fault of a part

pub no_first : (a b : Kinds) → or_else a b ≡ [] → a ≡ []
no_first [] b e = refl
no_first (k ∷ ks) b e = cc

pub no_next : (a b : Kinds) → or_else a b ≡ [] → b ≡ []
no_next [] b e = e
no_next (k ∷ ks) b e = cc

-- ---- a walk with no fault stops at a subcommand of the command's own

abbrev pub IsListed : Names → Text → Type 0
IsListed [] name = ⊥
IsListed (s ∷ rest) name = (name ≡ s.0) ⊎ IsListed rest name

-- the name is listed, and calls for no help
abbrev pub IsCommandName : Names → Text → Type 0
IsCommandName names name = IsListed names name × (bytes_eq name (codes "help") ≡ false)

abbrev pub IsOwnStop : Names → Option (Text × List Text) → Type 0
IsOwnStop names None = Unit {0}
IsOwnStop names (Some p) = IsCommandName names p.0

abbrev IsOwnStep : Names → Step → Type 0
IsOwnStep names (subcommand name) = IsCommandName names name
IsOwnStep names _ = Unit {0}

found_listed : (names : Names) (word name : Text) → option_map (λ (s : Text × List Text). s.0) (find (answers_to word) names) ≡ Some name → IsListed names name
found_listed [] word name found = cc
found_listed (s ∷ rest) word name found = go (answers_to word s) (found_listed rest word name) found
  where
    go : (b : Bool) → (option_map (λ (x : Text × List Text). x.0) (find (answers_to word) rest) ≡ Some name → IsListed rest name)
        → option_map (λ (x : Text × List Text). x.0) (cond b (Some s) (find (answers_to word) rest)) ≡ Some name → (name ≡ s.0) ⊎ IsListed rest name
    go true later e = inl (cc)
    go false later e = inr (later e)

met_listed : (names : Names) (waiting : Waiting) (word name : Text) → subcommand_met names waiting word ≡ Some name → IsListed names name
met_listed names idle word name met = found_listed names word name met
met_listed names _ word name met = cc

-- the name of a subcommand that is met with no fault
met_own : (s : Shape) (name word : Text) (h : Held) → s.disable_help_subcommand ≡ false → other_fault s (Some name) word h ≡ [] → bytes_eq name (codes "help") ≡ false
met_own s name word h helps fault = go (bytes_eq name (codes "help")) s.disable_help_subcommand helps fault
  where
    go : (b d : Bool) → d ≡ false → cond (b && not d) (kind.DisplayHelp ∷ kind.InvalidSubcommand ∷ []) [] ≡ [] → b ≡ false
    go false d off e = refl
    go true false off e = cc
    go true true off e = cc

module _ (s : Shape) (names : Names) (helps : s.disable_help_subcommand ≡ false) where
  plain_own : (waiting : Waiting) (word : Text) (h : Held) → IsOwnStep names (plain_word s.rules waiting word h).1
  plain_own (option id) word h = tt
  plain_own _ word h = tt

  after_flag_own : (waiting : Waiting) (word : Text) (h : Held) (o : Outcome) → IsOwnStep names (after_flag s.rules waiting word h o).1
  after_flag_own waiting word h done = tt
  after_flag_own waiting word h (waits id) = tt
  after_flag_own waiting word h _ = plain_own waiting word h

  short_or_plain_own : (waiting : Waiting) (word : Text) (o : Option Text) (h : Held) → IsOwnStep names (short_or_plain s.rules waiting word o h).1
  short_or_plain_own waiting word (Some flags) h = after_flag_own waiting word _ _
  short_or_plain_own waiting word None h = plain_own waiting word h

  long_or_other_own : (waiting : Waiting) (word : Text) (o : Option (Text × Option Text)) (h : Held) → IsOwnStep names (long_or_other s.rules waiting word o h).1
  long_or_other_own waiting word (Some p) h = after_flag_own waiting word _ _
  long_or_other_own waiting word None h = short_or_plain_own waiting word (short_of word) h

  subcommand_or_other_own : (o : Option Text) (waiting : Waiting) (position : ℕ) (word : Text) (h : Held) → ((name : Text) → o ≡ Some name → IsListed names name)
      → other_fault s o word h ≡ [] → IsOwnStep names (subcommand_or_other s.rules o waiting position word h).1
  subcommand_or_other_own (Some name) waiting position word h listed fault = (listed name refl, met_own s name word h helps fault)
  subcommand_or_other_own None waiting position word h listed fault = go (bytes_eq word (45 ∷ 45 ∷ []))
    where
      go : (b : Bool) → IsOwnStep names (cond b (h, trailing position) (long_or_other s.rules waiting word (long_of word) h)).1
      go true = tt
      go false = long_or_other_own waiting word (long_of word) h

  word_own : (is_trailing : Bool) (waiting : Waiting) (position : ℕ) (word : Text) (h : Held) → word_fault s names is_trailing waiting word h ≡ []
      → IsOwnStep names (word_met s.rules names is_trailing waiting position word h).1
  word_own true waiting position word h fault = tt
  word_own false waiting position word h fault =
      subcommand_or_other_own (subcommand_met names waiting word) waiting position word h (met_listed names waiting word) fault

  to_positional_own : (a : Option Rule) (word : Text) (w : Walk) (h : Held) → IsOwnStop names w.stopped → IsOwnStop names (to_positional s.rules a word w h).stopped
  to_positional_own None word w h own = own
  to_positional_own (Some a) word w h own = tt

  after_step_own : (word : Text) (w : Walk) (h : Held) (step : Step) → IsOwnStop names w.stopped → IsOwnStep names step → IsOwnStop names (after_step s.rules word w h step).stopped
  after_step_own word w h (next waiting) own step = own
  after_step_own word w h (trailing position) own step = own
  after_step_own word w h (subcommand name) own step = step
  after_step_own word w h value own step = to_positional_own (arg_by_index s.rules w.position) word w h own

  walked_from_own : (o : Option (Text × List Text)) (w : Walk) (word : Text) → IsOwnStop names o → IsOwnStop names w.stopped
      → cond (is_some o) [] (or_else (word_fault s names w.is_trailing w.waiting word w.held)
      (step_fault s w.position (word_met s.rules names w.is_trailing w.waiting w.position word w.held).0 (word_met s.rules names w.is_trailing w.waiting w.position word w.held).1)) ≡ []
      → IsOwnStop names (walked_from s.rules names o w word).stopped
  walked_from_own (Some p) w word own now fault = own
  walked_from_own None w word own now fault =
      after_step_own word w _ _ now (word_own w.is_trailing w.waiting w.position word w.held (no_first _ _ fault))

  pub walk_own : (words : List Text) (w : Walk) → IsOwnStop names w.stopped → walk_fault s names w words ≡ [] → IsOwnStop names (fold (walked s.rules names) w words).stopped
  unfolding walked walk_fault
  walk_own [] w own fault = own
  walk_own (word ∷ rest) w own fault =
      walk_own rest (walked s.rules names w word) (walked_from_own w.stopped w word own own (no_first _ _ fault)) (no_next (turn_fault s names w word) _ fault)

-- ---- the end of a level

pub checks_none : (a b c : Bool) → check_kinds a b c ≡ [] → (a ≡ false) × (b ≡ false) × (c ≡ false)
checks_none false false false e = (refl, refl, refl)
checks_none true b c e = cc
checks_none false true c e = cc
checks_none false false true e = cc

-- the parts of a level with no fault
pub record LevelParts (s : Shape) (names : Names) (h : Held) (words : List Text) (has_subcommand : Bool) (below : Kinds) : Type 0 where
  pub no_walk : walk_fault s names (walk_from h) words ≡ []
  pub no_below : below ≡ []
  pub no_settle : settle_fault s.rules s.args_override_self (walk s.rules names h words).held ≡ []
  pub no_check : check_fault s (finished s.rules (walk s.rules names h words).held) has_subcommand ≡ []

pub level_parts : (s : Shape) (names : Names) (h : Held) (words : List Text) (has_subcommand : Bool) (below : Kinds)
    → level_fault s names h words has_subcommand below ≡ [] → LevelParts s names h words has_subcommand below
level_parts s names h words has_subcommand below fault =
    let end = (walk s.rules names h words).held in
    let settle = settle_fault s.rules s.args_override_self end in
    let defaults = defaults_fault (settled s.rules end).rows s.rules in
    let check = check_fault s (finished s.rules end) has_subcommand in
    let after_walk = no_next (walk_fault s names (walk_from h) words) _ fault in
    let after_below = no_next below (or_else settle (or_else defaults check)) after_walk in
    let after_settle = no_next settle (or_else defaults check) after_below in
    record {
      no_walk = no_first (walk_fault s names (walk_from h) words) _ fault;
      no_below = no_first below (or_else settle (or_else defaults check)) after_walk;
      no_settle = no_first settle (or_else defaults check) after_below;
      no_check = no_next defaults check after_settle;
    }
