-- The script that a TOML document gives, or its first error.
use Rattle.std.specs.Prelude.{◌≤◌, IsTrue, ℕ, ℤ, false, pos, negsuc, ◌==◌, List, [], ◌∷◌, ◌++◌, Option, Some, None, Result, Ok, Err, ok_or, slice_get, codes, nat_lt, not, length, if◌then◌else◌}
use Rattle.std.specs.Str.{is_utf8}
use Rattle.toml.specs.Parse.{parse_document}
use Rattle.toml.specs.Data.{Data, Members}
use Rattle.uvm_factory.specs.declared.types.Kind.{Kind}
use Rattle.uvm_factory.specs.declared.types.Kind.TheVariants.{Component, Sequence}
use Rattle.uvm_factory.specs.Faults.{Types, type_named}
use Rattle.bench_script.specs.declared.heads.Head.{Head}
use Rattle.script_values.specs.declared.faults.ScriptFault.{ScriptFault}
use Rattle.script_values.specs.declared.faults.ScriptFault.TheVariants.{NotText, NotToml, TooLong}
use Rattle.script_values.specs.declared.places.Place.TheVariants as place
use Rattle.script_values.specs.declared.places.RootKey.{RootKey}
use Rattle.script_values.specs.declared.places.RootKey.TheVariants as key
use Rattle.script_values.specs.declared.reasons.FaultyScript.{FaultyScript}
use Rattle.script_values.specs.declared.reasons.Reason.{Reason}
use Rattle.script_values.specs.declared.reasons.Reason.TheVariants.{SequenceTest, UnknownType, Version}
use Rattle.script_values.specs.Places.{at_place, key_text, unplaced}
use Rattle.script_values.specs.Reading.{and_then}
use Rattle.script_values.specs.Values.{integer_in, number_in, name_in, flag_in}
use Rattle.bench_script.specs.Limits.{most_time, most_quit_limit, most_script_bytes}
use Rattle.script_values.specs.Keys.{only_keys, required, optional, some_of}
use Rattle.bench_script.specs.Scripts.{ScriptValue}
use Rattle.script_tables.specs.Tables.{types_in, overrides_in, settings_in, probes_in}
use Rattle.script_tables.specs.declared.drains.Drain.{Drain}
use Rattle.script_tables.specs.Drains.{drains_in}
use Rattle.script_tables.specs.ReportTables.{verbosities_in, actions_in, severities_in}

-- the version if it is 1 or 2, otherwise `Version`
abbrev pub known_version : ℤ → Result ℕ Reason
known_version (pos n) = if n == 1 then Ok 1 else if n == 2 then Ok 2 else Err Version
known_version (negsuc n) = Err Version

-- the version that a value gives; `Version` if the integer is neither 1 nor 2
abbrev pub version_in : Data → Result ℕ Reason
version_in value = and_then (integer_in value) known_version

-- the keys of a script of version 1
abbrev pub first_keys : List (List ℕ)
first_keys = codes "version" ∷ codes "test" ∷ codes "time_limit" ∷ codes "quit_limit" ∷ codes "runtime" ∷ codes "type" ∷ codes "override" ∷ codes "set" ∷ codes "verbosity" ∷ codes "action" ∷ codes "severity" ∷ codes "probe" ∷ []

-- the keys of a script of a version; version 2 has the additional key `drain`
unfoldable pub root_keys : ℕ → List (List ℕ)
root_keys version = first_keys ++ (if version == 2 then codes "drain" ∷ [] else [])

-- the place of the test, if its type is a component type; `UnknownType` if there is no type, `SequenceTest` if it is a sequence type
abbrev pub component_at : ℕ → Option (List ℕ × Kind) → Result (Option ℕ) Reason
component_at place None = Err UnknownType
component_at place (Some (name, Component)) = Ok (Some place)
component_at place (Some (name, Sequence)) = Err SequenceTest

-- the place of the type that the test names, none if there is no test; `UnknownType` if no type has the name, `SequenceTest` if the
-- type is a sequence type
abbrev pub test_among : Types → Option (List ℕ) → Result (Option ℕ) Reason
test_among types None = Ok None
test_among types (Some name) = and_then (ok_or (type_named types name) UnknownType) (λ place. component_at place (slice_get types place))

-- the meaning of the value at a key of the document; `Missing` if the key is absent
abbrev pub value_at : {A : Type 0} → RootKey → (Data → Result A Reason) → Members → Result A FaultyScript
value_at key read root = at_place (place.Key key) (required (key_text key) read root)

-- the meaning of the value at a key of the document, or the given default if the key is absent
abbrev pub value_at_or : {A : Type 0} → RootKey → A → (Data → Result A Reason) → Members → Result A FaultyScript
value_at_or key absent read root = at_place (place.Key key) (optional (key_text key) absent read root)

-- the values that precede the arrays: the version, the name of the test, the two limits, and whether the run-time phases run. The
-- tree can have the keys in `others` in addition to those of a script.
abbrev pub head_in : List (List ℕ) → Members → Result Head FaultyScript
head_in others root =
    and_then (value_at key.Version version_in root) (λ version.
    and_then (at_place place.Document (only_keys (others ++ root_keys version) root)) (λ _.
    and_then (value_at_or key.Test None (some_of name_in) root) (λ test.
    and_then (value_at_or key.TimeLimit most_time (number_in most_time) root) (λ time_limit.
    and_then (value_at_or key.QuitLimit 0 (number_in most_quit_limit) root) (λ quit_limit.
    and_then (value_at_or key.Runtime false flag_in root) (λ runtime.
    Ok (record { version = version; test = test; time_limit = time_limit; quit_limit = quit_limit; runtime = runtime })))))))

-- the drain times, which only a script of version 2 can give
abbrev pub drains_given : ℕ → Members → Result (List Drain) FaultyScript
drains_given version root = if version == 2 then drains_in root else Ok []

-- the script that a tree gives, or the reason and the place of its first error; the tree can have the keys in `others` in addition to those
-- of a script
unfoldable pub placed_beside : List (List ℕ) → Members → Result ScriptValue FaultyScript
placed_beside others root =
    and_then (head_in others root) (λ head.
    and_then (types_in root) (λ types.
    and_then (overrides_in types root) (λ overrides.
    and_then (settings_in root) (λ settings.
    and_then (verbosities_in root) (λ verbosities.
    and_then (actions_in root) (λ actions.
    and_then (severities_in root) (λ severities.
    and_then (probes_in types root) (λ probes.
    and_then (drains_given head.version root) (λ drains.
    and_then (at_place (place.Key key.Test) (test_among types head.test)) (λ test.
    Ok (record {
      version = head.version;
      test = test;
      time_limit = head.time_limit;
      quit_limit = head.quit_limit;
      runtime = head.runtime;
      types = types;
      overrides = overrides;
      settings = settings;
      verbosities = verbosities;
      actions = actions;
      severities = severities;
      probes = probes;
      drains = drains;
    })))))))))))

-- the same, but with the fault of its first error alone
unfoldable pub script_beside : List (List ℕ) → Members → Result ScriptValue ScriptFault
script_beside others root = unplaced (placed_beside others root)

-- the bytes are UTF-8, and are not more than a script can have
abbrev pub IsReadable : List ℕ → Type 0
IsReadable bytes = (length bytes ≤ most_script_bytes) × IsTrue (is_utf8 bytes)

-- the tree of a document that `toml` accepts, or `NotToml` if it rejects the text
abbrev pub tree_in : Option Members → Result Members ScriptFault
tree_in None = Err NotToml
tree_in (Some root) = Ok root

-- the tree that the bytes of a file give, by the grammar of `toml`; `TooLong`, then `NotText`, then `NotToml` if they give none
abbrev pub tree_of_bytes : List ℕ → Result Members ScriptFault
tree_of_bytes bytes =
    if nat_lt most_script_bytes (length bytes) then Err TooLong
    else if not (is_utf8 bytes) then Err NotText
    else tree_in (parse_document bytes)

-- the script that the bytes of a file give, or the first error
abbrev pub script_of_bytes : List ℕ → Result ScriptValue ScriptFault
script_of_bytes bytes = and_then (tree_of_bytes bytes) (script_beside [])
