-- What the functions of a kernel change.
use Rattle.std.specs.Prelude.{◌≡◌, ◌≢◌, ◌<◌, ◌≤◌, ◌⊎◌, ℕ, true, false, List, [], ◌∷◌, length, Option, Some, None, Result, Ok, Err}
use Rattle.std.specs.List.Sorted.{IsPermutation}
use Rattle.std.specs.declared.alloc.AllocError.{AllocError}
use Rattle.uvm_object.specs.Objects.{View, Says}
use Rattle.uvm_acts.specs.declared.acts.Who.{Who}
use Rattle.uvm_acts.specs.declared.acts.Call.{Call}
use Rattle.uvm_acts.specs.declared.acts.Act.{Act}
use Rattle.uvm_object.specs.declared.entries.Entry.{Entry}
use Rattle.uvm_object.specs.declared.entries.Entry.TheVariants.{Heard}
use Rattle.uvm_object.specs.declared.entries.Origin.{Origin}
use Rattle.bench_history.specs.Limits.{log_limit}
use Rattle.bench_history.specs.History.{is_over}
use Rattle.bench_history.specs.Laws.{IsSomething}
use Rattle.bench_history.specs.declared.needs.Need as declared
use Rattle.bench_history.specs.Cases.{Answer}
use Rattle.bench_history.specs.Next.{next_of, need_in, IsNext, made_in}
use Rattle.bench_core.specs.Worlds.{made_who}
use Rattle.bench_core.specs.Cores.{Needed, Asked}
use Rattle.bench_core.specs.declared.cores.Health.TheVariants.{Full, Broken}
use Rattle.bench_core.specs.declared.faults.CoreFault.{CoreFault}
use Rattle.bench_core.specs.declared.faults.CoreFault.TheVariants.{Memory, LogFull, Failed, NoTest}
use Rattle.bench_core.specs.Cores.{CoreValue, core_after, failed_from, word_in}
use Rattle.bench_kernel.specs.declared.kernels.Step.{Step}
use Rattle.bench_kernel.specs.declared.kernels.Step.TheVariants.{Need, Moved, Back, Over}
use Rattle.bench_kernel.specs.declared.kernels.Misfit.{Misfit}
use Rattle.bench_kernel.specs.declared.kernels.Misfit.TheVariants as misfit
use Rattle.bench_kernel.specs.Asked.{IsAsked}
use Rattle.bench_kernel.specs.Kernels.{KernelValue, open_need, wanted_in}

-- the core after a call ran out of memory: it still requests the answer if the object gave none, and has failed if the object answered
abbrev pub unanswered_from : Who → Call → Option Origin → Result (List Act) AllocError → CoreValue → CoreValue
unanswered_from performer call origin (Ok acts) core = failed_from Broken core
unanswered_from performer call origin (Err fault) core = record core { standing = Asked performer call origin }

-- the random number that a step consumes: that of the grant that it adds, if one decided it
abbrev pub drawn_in : {O : Type 0} → List Entry → Step O → Option ℕ
drawn_in history Moved = word_in history
drawn_in history step = None

-- the script and the log are unchanged
pub record IsSameLog (old new : CoreValue) : Type 0 where
  pub script : new.script ≡ old.script
  pub history : new.history ≡ old.history

module _ {O : Type 0} (view : O → View) (name : O → List ℕ) (says : O → Says) where
  -- an answer in the log was given by the object of its performer; every other entry leaves all objects unchanged
  abbrev pub WasGiven : Entry → List (Who × O) → List (Who × O) → Type 0
  WasGiven (Heard performer origin call acts) old new = IsAsked view name says performer call (Ok acts) old new
  WasGiven entry old new = new ≡ old

  -- an object is needed next, the log is not full, and the core requests the object
  pub record IsWaiting (old new : KernelValue O) : Type 0 where
    pub room : length old.core.history < log_limit old.core.script
    pub need : declared.Need
    pub next : need_in (next_of old.core.script old.core.history) ≡ Some need
    pub is : new ≡ record old { core = record old.core { standing = Needed need } }

  -- one entry was added, which was next and needed no object
  pub record IsMoved (old new : KernelValue O) : Type 0 where
    pub unneeded : need_in (next_of old.core.script old.core.history) ≡ None
    pub entry : Entry
    pub next : IsNext old.core.script old.core.history entry
    pub given : WasGiven entry old.held new.held
    pub is : new ≡ record old { core = core_after entry old.core; held = new.held }

  -- an allocation failed before an object was called, and the core and the kernel have failed
  pub record IsUnasked (old new : KernelValue O) : Type 0 where
    pub room : length old.core.history < log_limit old.core.script
    pub is : new ≡ record old { core = failed_from Broken old.core; failed = true }

  -- an allocation failed in the object that was called, or after its answer: the log is unchanged, the call has no entry, and the kernel
  -- has failed
  pub record IsUnanswered (old new : KernelValue O) : Type 0 where
    pub room : length old.core.history < log_limit old.core.script
    pub performer : Who
    pub call : Call
    pub origin : Option Origin
    pub next : next_of old.core.script old.core.history ≡ Answer performer call origin
    pub answer : Result (List Act) AllocError
    pub asked : IsAsked view name says performer call answer old.held new.held
    pub same_log : IsSameLog old.core new.core
    pub left : new.core ≡ unanswered_from performer call origin answer old.core
    pub is : new ≡ record { core = new.core; held = new.held; failed = true; unknown = Some performer }

  -- an ended sequence was reported, and its object was removed
  pub record IsBack (who : Who) (object : O) (old new : KernelValue O) : Type 0 where
    pub told : old.core.leaving ≡ who ∷ new.core.leaving
    pub held : IsPermutation ((who, object) ∷ new.held) old.held
    pub is : new ≡ record old { core = record old.core { leaving = new.core.leaving }; held = new.held }

  -- the kernel has not failed, and all ended sequences were reported
  pub record IsReady (kernel : KernelValue O) : Type 0 where
    pub going : kernel.failed ≡ false
    pub told : kernel.core.leaving ≡ []

  -- the kernel is ready, something comes next, and no object is needed
  pub record GoesOn (kernel : KernelValue O) : Type 0 where
    pub ready : IsReady kernel
    pub some : IsSomething (next_of kernel.core.script kernel.core.history)
    pub nothing_needed : open_need kernel ≡ None

  -- the error of a step, and the kernel after it
  abbrev pub IsRefusedStep : CoreFault → KernelValue O → KernelValue O → Type 0
  IsRefusedStep Memory old new = GoesOn old × (IsUnasked old new ⊎ IsUnanswered old new)
  IsRefusedStep LogFull old new = GoesOn old × (log_limit old.core.script ≤ length old.core.history) × (new ≡ record old { core = failed_from Full old.core; failed = true })
  IsRefusedStep Failed old new = (old.failed ≡ true) × (new ≡ old)
  IsRefusedStep NoTest old new = ⊥

  -- the result of a step, and the kernel after it
  abbrev pub IsStep : Result (Step O) CoreFault → KernelValue O → KernelValue O → Type 0
  IsStep (Ok Need) old new = IsReady old × IsWaiting old new
  IsStep (Ok Moved) old new = IsReady old × IsMoved old new
  IsStep (Ok (Back who object)) old new = (old.failed ≡ false) × IsBack who object old new
  IsStep (Ok Over) old new = IsReady old × (is_over old.core.history ≡ true) × (new ≡ old)
  IsStep (Err fault) old new = IsRefusedStep fault old new

  -- the needed object was accepted: it has the needed type, and is held for the new component or sequence
  pub record IsSupplied (object : O) (old new : KernelValue O) : Type 0 where
    pub entry : Entry
    pub next : made_in (next_of old.core.script old.core.history) ≡ Some entry
    pub fits : name object ≡ wanted_in old
    pub who : Who
    pub made : made_who old.core.history (next_of old.core.script old.core.history) ≡ Some who
    pub held : IsPermutation ((who, object) ∷ old.held) new.held
    pub is : new ≡ record old { core = core_after entry old.core; held = new.held }

-- why an object is not accepted: its type is not the needed one; or it is the needed one, and memory ran out
abbrev pub IsMisfit : Misfit → List ℕ → List ℕ → Type 0
IsMisfit misfit.WrongType given wanted = given ≢ wanted
IsMisfit misfit.Memory given wanted = given ≡ wanted
