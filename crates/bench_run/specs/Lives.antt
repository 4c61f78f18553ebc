-- What a log states of the objects of a run, by what the caller of the run gives for the name of a type.
use Rattle.std.specs.Prelude.{◌≡◌, ◌≢◌, ◌⊎◌, ℕ, List, [], ◌∷◌, All, Contains, IfSome, Option, Some, Result, Ok}
use Rattle.std.specs.Fn.{FnReturnsAt, Shared}
use Rattle.std.specs.Map.{keys_of}
use Rattle.std.specs.declared.alloc.AllocError.{AllocError}
use denote.Ref.{Bor}
use Rattle.uvm_acts.specs.declared.acts.Who.{Who}
use Rattle.uvm_object.specs.declared.fatals.Fatal.TheVariants.{NoObject}
use Rattle.uvm_object.specs.declared.entries.Outcome.TheVariants.{Refused}
use Rattle.uvm_object.specs.declared.entries.Entry.{Entry}
use Rattle.uvm_object.specs.declared.entries.Entry.TheVariants.{Did, Heard}
use Rattle.uvm_object.specs.Objects.{Exchange, IsHonest, SameSays, Says, View, life_of}
use Rattle.bench_script.specs.Scripts.{ScriptValue}
use Rattle.bench_history.specs.Cases.{Next, Need}
use Rattle.bench_history.specs.Next.{EachIsNext, next_of}
use Rattle.bench_kernel.specs.Kernels.{KernelValue, types_made}

-- the oldest of some views, newest first
abbrev pub first_of : View → List View → View
first_of view [] = view
first_of view (before ∷ earlier) = first_of before earlier

-- the calls and answers of an object conform to its relation, with views that begin with `first` and end with `last`
pub record IsHonestBetween (says : Says) (first last : View) (life : List Exchange) : Type 0 where
  pub earlier : List View
  pub begins : first_of last earlier ≡ first
  pub honest : IsHonest says (last ∷ earlier) life

-- what a closure may return for the name of a type, unless it fails: an object, or none
abbrev pub MayGive : {F O : Type 0} → Shared F (Bor (List ℕ) × Unit {0}) (Result (Option O) AllocError) → F → List ℕ → Option O → Type 0
MayGive closure make type_name given = FnReturnsAt closure make type_name (Ok given)

-- each performer of an answer in the log had been made before
abbrev pub AreMade : ScriptValue → List Entry → Type 0
AreMade script [] = Unit {0}
AreMade script (Heard performer origin call acts ∷ before) = Contains (keys_of (types_made script before)) performer × AreMade script before
AreMade script (entry ∷ before) = AreMade script before

module _ {O : Type 0} (view : O → View) (name : O → List ℕ) (says : O → Says) (Makes : List ℕ → Option O → Type 0) where
  -- an object that may be given for the name of a type, and is of that type
  pub record IsGiven (type_name : List ℕ) (object : O) : Type 0 where
    pub gives : Makes type_name (Some object)
    pub named : name object ≡ type_name

  -- no object, or one of another type, may be given for the name of a type
  pub record IsUnknown (type_name : List ℕ) : Type 0 where
    pub given : Option O
    pub gives : Makes type_name given
    pub none : IfSome given (λ object. name object ≢ type_name)

  -- a needed object was made, and one of its type may be given; or it was declined, and none or one of another type may be given
  abbrev pub IsFilled : Next → Entry → Type 0
  IsFilled (Need need made performer act) entry =
      ((entry ≡ Did performer made act) × (object : O) × IsGiven need.type_name object) ⊎ ((entry ≡ Did performer (Refused NoObject) act) × IsUnknown need.type_name)
  IsFilled comes entry = Unit {0}

  -- `IsFilled` holds at each entry of a log
  abbrev pub AreFilled : ScriptValue → List Entry → Type 0
  AreFilled script [] = Unit {0}
  AreFilled script (entry ∷ before) = IsFilled (next_of script before) entry × AreFilled script before

  -- the object of a component or sequence may be given for its type. Its calls and answers in the log conform to its relation, from the view
  -- with which it was given
  pub record HasLived (script : ScriptValue) (history : List Entry) (who : Who) : Type 0 where
    pub type_name : List ℕ
    pub made : Contains (types_made script history) (who, type_name)
    pub object : O
    pub given : IsGiven type_name object
    pub last : View
    pub honest : IsHonestBetween (says object) (view object) last (life_of who history)

  -- each needed object was made or declined by what is given (`AreFilled`). Each performer of an answer had been made, and each that was made
  -- conforms to the log (`HasLived`)
  pub record HaveLived (script : ScriptValue) (history : List Entry) : Type 0 where
    pub filled : AreFilled script history
    pub asked : AreMade script history
    pub lived : All (HasLived script history) (keys_of (types_made script history))

  -- an object that is held: its calls and answers in the log lead to the view that it has now
  pub record IsKept (script : ScriptValue) (history : List Entry) (seat : Who × O) : Type 0 where
    pub type_name : List ℕ
    pub made : Contains (types_made script history) (seat.0, type_name)
    pub object : O
    pub given : IsGiven type_name object
    pub same_says : SameSays (says seat.1) (says object)
    pub honest : IsHonestBetween (says object) (view object) (view seat.1) (life_of seat.0 history)

  -- what is true of a kernel whose objects are given so: its log is legal step by step, `HaveLived`, and `IsKept` for each held object
  pub record AreKept (kernel : KernelValue O) : Type 0 where
    pub each : EachIsNext kernel.core.script kernel.core.history
    pub lived : HaveLived kernel.core.script kernel.core.history
    pub kept : All (IsKept kernel.core.script kernel.core.history) kernel.held
