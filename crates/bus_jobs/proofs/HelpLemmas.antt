-- Words that ask for help or for the version.
use Rattle.bus_jobs.proofs.CommandNames.{◌≡◌, ◌⊎◌, ◌∙◌, ◌++◌, true, refl, ap, subst, sym, inl, inr, List, [], ◌∷◌, Some, append-nil, append_assoc, codes, fold, clap_on_literals, entered_fault, walk_fault, Kinds, or_else, Shape, built, names_of, Names, Rule, Walk, nothing_held, walk_from, walked, HasKind, is_simple_and_free, kind_of, Error, ErrorKind, DisplayHelp, DisplayVersion, OutOfMemory, AsksBy, AsksForHelp, AsksForVersion, bus_bench_app, IsFaultBy, IsHelp, IsVersion, JobFault, Help, Version, Refused, BadName, Memory, App, Text, fault_of}

-- ---- behind a subcommand's name the words are the subcommand's

walk_behind : (c : List Rule) (names : Names) (w : Walk) (name : Text) (before rest : List Text)
    → fold (walked c names) (record w { stopped = Some (name, before) }) rest ≡ record w { stopped = Some (name, before ++ rest) }
unfolding walked
walk_behind c names w name before [] = ap (λ (words : List Text). record w { stopped = Some (name, words) }) (sym (append-nil before))
walk_behind c names w name before (word ∷ rest) =
    walk_behind c names w name (before ++ word ∷ []) rest
    ∙ ap (λ (words : List Text). record w { stopped = Some (name, words) }) (append_assoc before (word ∷ []) rest)

no_fault_behind : (s : Shape) (names : Names) (w : Walk) (name : Text) (before rest : List Text) → walk_fault s names (record w { stopped = Some (name, before) }) rest ≡ []
unfolding walked walk_fault
no_fault_behind s names w name before [] = refl
no_fault_behind s names w name before (word ∷ rest) = no_fault_behind s names w name (before ++ word ∷ []) rest

-- ---- what clap's meaning of the command line gives such words

abbrev app : App
app = built bus_bench_app

or_first : (own below after : Kinds) (kind : ErrorKind) → own ≡ [] → below ≡ kind ∷ [] → or_else own (or_else below after) ≡ kind ∷ []
or_first own below after kind none is = rw (none, is) refl

debug_behind : (program flag : Text) (rest : List Text) (kind : ErrorKind) → entered_fault app (Some (codes "debug", flag ∷ rest)) ≡ kind ∷ []
    → fault_of bus_bench_app (program ∷ codes "debug" ∷ flag ∷ rest) ≡ kind ∷ []
unfolding clap_on_literals
debug_behind program flag rest kind is =
    let start : Walk = walk_from nothing_held in
    let stops = walk_behind app.top.rules (names_of app) start (codes "debug") [] (flag ∷ rest) in
    or_first _ _ _ kind (no_fault_behind app.top (names_of app) start (codes "debug") [] (flag ∷ rest)) (ap (λ (w : Walk). entered_fault app w.stopped) stops ∙ is)

run_behind : (program flag : Text) (rest : List Text) (kind : ErrorKind) → entered_fault app (Some (codes "run", flag ∷ rest)) ≡ kind ∷ []
    → fault_of bus_bench_app (program ∷ codes "run" ∷ flag ∷ rest) ≡ kind ∷ []
unfolding clap_on_literals
run_behind program flag rest kind is =
    let start : Walk = walk_from nothing_held in
    let stops = walk_behind app.top.rules (names_of app) start (codes "run") [] (flag ∷ rest) in
    or_first _ _ _ kind (no_fault_behind app.top (names_of app) start (codes "run") [] (flag ∷ rest)) (ap (λ (w : Walk). entered_fault app w.stopped) stops ∙ is)

-- what a flag asks for, where it is the first word, or the first behind `debug` or `run`
record Asks (flag : Text) (kind : ErrorKind) : Type 0 where
  first : (program : Text) (rest : List Text) → fault_of bus_bench_app (program ∷ flag ∷ rest) ≡ kind ∷ []
  debug : (rest : List Text) → entered_fault app (Some (codes "debug", flag ∷ rest)) ≡ kind ∷ []
  run : (rest : List Text) → entered_fault app (Some (codes "run", flag ∷ rest)) ≡ kind ∷ []

help_asks : Asks (codes "--help") DisplayHelp
unfolding clap_on_literals
help_asks = record { first = λ program rest. refl; debug = λ rest. refl; run = λ rest. refl }

short_help_asks : Asks (codes "-h") DisplayHelp
unfolding clap_on_literals
short_help_asks = record { first = λ program rest. refl; debug = λ rest. refl; run = λ rest. refl }

version_asks : Asks (codes "--version") DisplayVersion
unfolding clap_on_literals
version_asks = record { first = λ program rest. refl; debug = λ rest. refl; run = λ rest. refl }

short_version_asks : Asks (codes "-V") DisplayVersion
unfolding clap_on_literals
short_version_asks = record { first = λ program rest. refl; debug = λ rest. refl; run = λ rest. refl }

asked : (flag : Text) (kind : ErrorKind) (words : List Text) → Asks flag kind → AsksBy flag words → fault_of bus_bench_app words ≡ kind ∷ []
asked flag kind words asks by = elim by.2 [
  | inl is ↦ rw is (asks.first by.0 by.1)
  | inr behind ↦ elim behind [
    | inl is ↦ rw is (debug_behind by.0 flag by.1 kind (asks.debug by.1))
    | inr is ↦ rw is (run_behind by.0 flag by.1 kind (asks.run by.1))
  ]
]

pub asks_help : (words : List Text) → AsksForHelp words → fault_of bus_bench_app words ≡ DisplayHelp ∷ []
asks_help words (inl by) = asked _ _ words help_asks by
asks_help words (inr by) = asked _ _ words short_help_asks by

pub asks_version : (words : List Text) → AsksForVersion words → fault_of bus_bench_app words ≡ DisplayVersion ∷ []
asks_version words (inl by) = asked _ _ words version_asks by
asks_version words (inr by) = asked _ _ words short_version_asks by

-- ---- what the fault is then

-- clap's error has a kind that clap's meaning gives the words
pub has_kind : (a : App) (words : List Text) (e : Error) → a ≡ bus_bench_app → (is_simple_and_free a ≡ true → HasKind (fault_of a words) e) → HasKind (fault_of bus_bench_app words) e
has_kind a words e is has = subst (λ (x : App). HasKind (fault_of x words) e) is (has (ap is_simple_and_free is))

-- an error of one kind has that kind, or memory was refused
one_kind : (kind : ErrorKind) (e : Error) → HasKind (kind ∷ []) e → (kind_of e ≡ kind) ⊎ (kind_of e ≡ OutOfMemory)
one_kind kind e (inl memory) = inr memory
one_kind kind e (inr (inl is)) = inl is
one_kind kind e (inr (inr none)) = absurd none

help_by : (fault : JobFault) (e : Error) → (kind_of e ≡ DisplayHelp) ⊎ (kind_of e ≡ OutOfMemory) → IsFaultBy e fault → IsHelp fault
help_by (Help text) e asks by = tt
help_by (Version text) e (inl help) by = let bad : DisplayHelp ≡ DisplayVersion = sym help ∙ by in cc
help_by (Version text) e (inr memory) by = let bad : OutOfMemory ≡ DisplayVersion = sym memory ∙ by in cc
help_by (Refused given) e (inl help) by = absurd (by.1.0 help)
help_by (Refused given) e (inr memory) by = absurd (by.2 memory)
help_by BadName e asks by = absurd by
help_by Memory e asks by = tt

version_by : (fault : JobFault) (e : Error) → (kind_of e ≡ DisplayVersion) ⊎ (kind_of e ≡ OutOfMemory) → IsFaultBy e fault → IsVersion fault
version_by (Version text) e asks by = tt
version_by (Help text) e (inl version) by = let bad : DisplayVersion ≡ DisplayHelp = sym version ∙ by in cc
version_by (Help text) e (inr memory) by = let bad : OutOfMemory ≡ DisplayHelp = sym memory ∙ by in cc
version_by (Refused given) e (inl version) by = absurd (by.1.1 version)
version_by (Refused given) e (inr memory) by = absurd (by.2 memory)
version_by BadName e asks by = absurd by
version_by Memory e asks by = tt

-- where help is all that clap's meaning gives the words
pub helped : (kinds : Kinds) (fault : JobFault) (e : Error) → kinds ≡ DisplayHelp ∷ [] → HasKind kinds e → IsFaultBy e fault → IsHelp fault
helped kinds fault e is has by = help_by fault e (one_kind DisplayHelp e (rw is at has)) by

-- where the version is
pub versioned : (kinds : Kinds) (fault : JobFault) (e : Error) → kinds ≡ DisplayVersion ∷ [] → HasKind kinds e → IsFaultBy e fault → IsVersion fault
versioned kinds fault e is has by = version_by fault e (one_kind DisplayVersion e (rw is at has)) by

-- words with no fault ask for neither
pub none_asked : {X : Type 0} (kinds : Kinds) (kind : ErrorKind) → kinds ≡ [] → kinds ≡ kind ∷ [] → X
none_asked kinds kind none is = let bad : [] ≡ kind ∷ [] = sym none ∙ is in cc
