-- Words with no fault name a job.
use Rattle.bus_jobs.proofs.CommandNames.{◌≡◌, ◌⊎◌, ◌&&◌, ◌||◌, ◌∙◌, ℕ, Bool, cond, true, false, not, refl, sym, ap, subst, inl, inr, List, [], Option, Some, None, IfSome, Result, Ok, Err, IfErr, OnErr, OnOk, is_some, codes, arith, unwrap_or, option_map, option_map_or, Accepts, ParsesUnsigned, digits_value, without_leading_plus, Bor, HasMatchesOf, Shape, is_simple, argument_words, built, built_leaf, entered, filled, inherited, names_of, subcommand_of, is_given, Row, first_of, nothing_held, rows_after, stop_after, walk_from, entered_fault, ReadsOne, first_value, subcommand_name_of, Kinds, Found, first_value-rows, Job, Asked, has_bad_name, HasFile, NamesJob, bus_bench_app, debug_app, run_app, seed_parser, seed_rule, trace_rule, IsFaultBy, IsJobFaultOf, JobFault, Help, Version, Refused, BadName, Memory, Error, DisplayHelp, DisplayVersion, OutOfMemory, ArgMatches, out-ArgMatches, is_simple_and_free, kind_of, subcommand_rows_of, App, Text, one_of, rows_of, fault_of}
use Rattle.bus_jobs.proofs.RowLemmas.{AreRegular, Reads, given_value, rows_read, rows_sound}
use Rattle.bus_jobs.proofs.LevelLemmas.{IsCommandName, IsOwnStop, checks_none, level_parts, walk_own}

-- an argument that is required was given
given_of : (g other : Bool) → (not g || other) ≡ false → g ≡ true
given_of true other e = refl
given_of false other e = cc

-- ---- the two subcommands

abbrev app : App
app = built bus_bench_app

abbrev debug_shape : Shape
debug_shape = built_leaf (inherited app.top debug_app.top)

abbrev run_shape : Shape
run_shape = built_leaf (inherited app.top run_app.top)

debug_regular : AreRegular debug_shape.rules debug_shape.rules
debug_regular = (
  record { known = refl; filled = λ again rows fault. cc; defaults = refl },
  (record { known = refl; filled = λ again rows fault. cc; defaults = refl }, (record { known = refl; filled = λ again rows fault. cc; defaults = refl }, tt)),
)

run_regular : AreRegular run_shape.rules run_shape.rules
run_regular = (
  record { known = refl; filled = λ again rows fault. omega arith; defaults = refl },
  (
    record { known = refl; filled = λ again rows fault. cc; defaults = refl },
    (
      record { known = refl; filled = λ again rows fault. cc; defaults = refl },
      (
        record { known = refl; filled = λ again rows fault. cc; defaults = refl },
        (record { known = refl; filled = λ again rows fault. cc; defaults = refl }, (record { known = refl; filled = λ again rows fault. cc; defaults = refl }, tt)),
      ),
    ),
  ),
)

trace_told : (o : Option Text) (given : Bool) → Reads (filled trace_rule) o given → unwrap_or o (codes "false") ≡ cond given (codes "true") (codes "false")
trace_told None true told = cc
trace_told None false told = refl
trace_told (Some v) true told = ap (λ (s : Option Text). unwrap_or s []) (told.1 refl)
trace_told (Some v) false told = ap (λ (s : Option Text). unwrap_or s []) (told.1 refl)

seed_told : (o : Option Text) (given : Bool) → Reads (filled seed_rule) o given → IfSome o (Accepts false seed_parser)
seed_told None given told = tt
seed_told (Some v) given told = told.0

debug_entered : (words : List Text) → entered_fault app (Some (codes "debug", words)) ≡ [] → NamesJob (entered app (Some (codes "debug", words)))
debug_entered words fault =
    let rows = rows_after debug_shape.rules [] words in
    let sound = rows_sound debug_shape debug_regular [] words false [] fault in
    let parts = level_parts debug_shape [] nothing_held words false [] fault in
    let given = given_of (is_given (codes "file") rows) false (checks_none false false (not (is_given (codes "file") rows) || false) parts.no_check).2 in
    (given_value debug_shape.rules (codes "file") rows sound given, inl refl)

run_entered : (words : List Text) → entered_fault app (Some (codes "run", words)) ≡ [] → NamesJob (entered app (Some (codes "run", words)))
run_entered words fault =
    let rows = rows_after run_shape.rules [] words in
    let sound = rows_sound run_shape run_regular [] words false [] fault in
    let parts = level_parts run_shape [] nothing_held words false [] fault in
    let given = given_of (is_given (codes "file") rows) false (checks_none false false (not (is_given (codes "file") rows) || false) parts.no_check).2 in
    let trace = trace_told (one_of (codes "trace") rows) (is_given (codes "trace") rows) (rows_read run_shape.rules (codes "trace") _ rows sound refl refl) in
    let seed = seed_told (one_of (codes "seed") rows) (is_given (codes "seed") rows) (rows_read run_shape.rules (codes "seed") _ rows sound refl refl) in
    (given_value run_shape.rules (codes "file") rows sound given, inr (refl, trace, seed))

own_name : (name : Text) → IsCommandName (names_of app) name → (name ≡ codes "debug") ⊎ (name ≡ codes "run")
own_name name own = elim own.0 [
  | inl e ↦ inl e
  | inr rest ↦ elim rest [
    | inl e ↦ inr e
    | inr last ↦ elim last [
      | inl e ↦ let bad : true ≡ false = rw e at own.1 in cc
      | inr none ↦ absurd none
    ]
  ]
]

entered_job : (stop : Option (Text × List Text)) → IsOwnStop (names_of app) stop → entered_fault app stop ≡ [] → is_some (entered app stop) ≡ true → NamesJob (entered app stop)
entered_job None own fault met = cc
entered_job (Some p) own fault met = elim (own_name p.0 own) [
  | inl e ↦ at (codes "debug") (debug_entered p.1) e
  | inr e ↦ at (codes "run") (run_entered p.1) e
]
  where
    at : (name : Text) → (entered_fault app (Some (name, p.1)) ≡ [] → NamesJob (entered app (Some (name, p.1)))) → p.0 ≡ name → NamesJob (entered app (Some p))
    at name named e = subst (λ (n : Text). entered_fault app (Some (n, p.1)) ≡ [] → NamesJob (entered app (Some (n, p.1)))) (sym e) named fault

-- words with no fault name a job
pub faultless_job : (words : List Text) → fault_of bus_bench_app words ≡ [] → NamesJob (subcommand_of bus_bench_app words)
faultless_job words fault =
    let given = argument_words app words in
    let stop = stop_after app.top.rules (names_of app) given in
    let met = is_some (entered app stop) in
    let parts = level_parts app.top (names_of app) nothing_held given met (entered_fault app stop) fault in
    entered_job stop (walk_own app.top (names_of app) refl given (walk_from nothing_held) tt parts.no_walk) parts.no_below
    (met_of met (checks_none (not met && false) (not met && true) (not (false && met) && false) parts.no_check).1)
  where
    met_of : (b : Bool) → (not b && true) ≡ false → b ≡ true
    met_of true e = refl
    met_of false e = cc

-- ---- what the matches hold

one_subcommand : {B : Type 0} (f : B → Text) (g : B → List Row) (o : Option B) (name : Text) (rows : List Row) → Some name ≡ option_map f o
    → Some rows ≡ option_map (λ (p : Text × List Row). p.1) (option_map {U = Text × List Row} (λ b. (f b, g b)) o) → option_map {U = Text × List Row} (λ b. (f b, g b)) o ≡ Some (name, rows)
one_subcommand f g None name rows named there = cc
one_subcommand f g (Some b) name rows named there =
    let is_name : name ≡ f b = cc in
    let are_rows : rows ≡ g b = cc in
    λ i. Some (sym is_name i, sym are_rows i)

-- the name and the rows of the subcommand that was entered
pub rows_named : (m : ArgMatches) (name : Text) (rows : List Row) → Some name ≡ subcommand_name_of m
    → Some rows ≡ option_map (λ (p : Text × List Row). p.1) (subcommand_rows_of m) → subcommand_rows_of m ≡ Some (name, rows)
rows_named m name rows named there = one_subcommand _ _ (out-ArgMatches m).subcommand name rows named there

-- the first value of an argument, as `get_str` answers it
pub first_read : (f : Found) (id : Text) (o : Option (Bor Text)) → option_map (λ s. s.now) o ≡ first_value f id → first_of id (rows_of f) ≡ option_map (λ s. s.now) o
first_read f id o is = sym (is ∙ first_value-rows f id)

pub file_read : (f : Found) (o : Option (Bor Text)) (file : Bor Text) → option_map (λ s. s.now) o ≡ first_value f (codes "file") → o ≡ Some file
    → first_of (codes "file") (rows_of f) ≡ Some file.now
file_read f o file is some = first_read f (codes "file") o is ∙ ap (option_map (λ (s : Bor Text). s.now)) some

pub no_file : (f : Found) (o : Option (Bor Text)) → option_map (λ s. s.now) o ≡ first_value f (codes "file") → o ≡ None → HasFile (rows_of f) → ⊥
no_file f o is none has =
    let same : first_of (codes "file") (rows_of f) ≡ None = first_read f (codes "file") o is ∙ ap (option_map (λ (s : Bor Text). s.now)) none in
    let bad : false ≡ true = rw same at has in
    cc

-- what `get_flag` answers
pub flag_read : (o : Option Text) (given flag : Bool) → unwrap_or o (codes "false") ≡ cond given (codes "true") (codes "false") → (o ≡ None → flag ≡ false)
    → (o ≡ Some (codes "true") → flag ≡ true) → (o ≡ Some (codes "false") → flag ≡ false) → flag ≡ given
flag_read None false flag told none on off = none refl
flag_read None true flag told none on off = cc
flag_read (Some v) true flag told none on off = on (ap Some told)
flag_read (Some v) false flag told none on off = off (ap Some told)

-- what `get_one` answers of a number of 64 bits, or 1
pub seed_read : {E : Type 0} (gives : Text → Result ℕ E → Type 0) (o : Option Text) (seed : Option ℕ) → ((t : Text) (r : Result ℕ E) → gives t r → ParsesUnsigned 64 10 t r)
    → IfSome o (Accepts false seed_parser) → (o ≡ None → seed ≡ None) → ((t : Text) → o ≡ Some t → ReadsOne gives t seed)
    → unwrap_or seed 1 ≡ option_map_or (λ v. digits_value 10 (without_leading_plus v)) o 1
seed_read gives None seed only passes none reads = ap (λ (s : Option ℕ). unwrap_or s 1) (none refl)
seed_read gives (Some v) (Some n) only passes none reads = (only v (Ok n) (reads v refl)).1
seed_read gives (Some v) None only passes none reads =
    let read = reads v refl in
    absurd (only v (Err read.0) read.1 (passes.0, passes.1))

-- where clap's parse gives matches, the words have no fault
pub no_fault : (a : App) (words : List Text) → a ≡ bus_bench_app → (is_simple_and_free a ≡ true → fault_of a words ≡ []) → fault_of bus_bench_app words ≡ []
no_fault a words is none = subst (λ (x : App). fault_of x words ≡ []) is (none (ap is_simple_and_free is))

-- and they name the subcommand that the words name
pub found_rows : (a : App) (words : List Text) (m : ArgMatches) → a ≡ bus_bench_app → HasMatchesOf a words m → subcommand_rows_of m ≡ subcommand_of bus_bench_app words
found_rows a words m is matches = (matches (ap is_simple is)).1 ∙ ap (λ (x : App). subcommand_of x words) is

-- a bad name is all that is wrong with words that have no fault
pub bad_name_alone : (kinds : Kinds) (named : Option Asked) (r : Result Job JobFault) → kinds ≡ [] → OnErr r ((r ≡ Err BadName) × (has_bad_name named ≡ true)) → IfErr r (IsJobFaultOf kinds)
bad_name_alone kinds named (Ok x) none bad = tt
bad_name_alone kinds named (Err (Help given)) none bad = let other : Err (Help given) ≡ Err BadName = bad.0 in cc
bad_name_alone kinds named (Err (Version given)) none bad = let other : Err (Version given) ≡ Err BadName = bad.0 in cc
bad_name_alone kinds named (Err (Refused given)) none bad = let other : Err (Refused given) ≡ Err BadName = bad.0 in cc
bad_name_alone kinds named (Err BadName) none bad = none
bad_name_alone kinds named (Err Memory) none bad = tt

pub on_ok : {X : Type 0} (r : Result Job JobFault) → X → OnOk r X
on_ok (Ok job) x = x
on_ok (Err fault) x = tt

-- where clap's error is out of memory, so is the fault
pub only_memory : (fault : JobFault) (e : Error) → IsFaultBy e fault → kind_of e ≡ OutOfMemory → fault ≡ Memory
only_memory (Help text) e by memory = let bad : DisplayHelp ≡ OutOfMemory = sym by ∙ memory in cc
only_memory (Version text) e by memory = let bad : DisplayVersion ≡ OutOfMemory = sym by ∙ memory in cc
only_memory (Refused given) e by memory = absurd (by.2 memory)
only_memory BadName e by memory = absurd by
only_memory Memory e by memory = refl
