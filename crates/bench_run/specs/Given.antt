-- A statement about a run with one meaning of the given objects also holds with another meaning that follows from it.
use Rattle.std.proofs.Common.{Bool, ℕ, List, [], ◌∷◌, Option, Some, Result, inl, inr}
use Rattle.std.proofs.lemmas.List.Elements.{All-weaker}
use Rattle.std.specs.Map.{keys_of}
use Rattle.rand_core.specs.Stream.{Stream}
use Rattle.uvm_object.specs.Objects.{Says, View}
use Rattle.uvm_acts.specs.declared.acts.Who.{Who}
use Rattle.uvm_object.specs.declared.entries.Entry.{Entry}
use Rattle.bench_script.specs.Scripts.{ScriptValue}
use Rattle.bench_history.specs.Cases.{Next, Exactly, Answer, Need, Grant, Nothing}
use Rattle.bench_history.specs.Next.{next_of}
use Rattle.bench_kernel.specs.Kernels.{types_made}
use Rattle.bench_run.specs.declared.run_results.RunResult.{RunResult}
use Rattle.bench_run.specs.declared.faults.RunFault.{RunFault}
use Rattle.bench_run.specs.Lives.{AreFilled, HasLived, IsFilled, IsGiven}
use Rattle.bench_run.specs.Running.{IsRun}

module _ {O : Type 0} (view : O → View) (name : O → List ℕ) (says : O → Says) (Makes Others : List ℕ → Option O → Type 0) (means : (type_name : List ℕ) (given : Option O) → Makes type_name given → Others type_name given) where
  given-as : (type_name : List ℕ) (object : O) → IsGiven view name says Makes type_name object → IsGiven view name says Others type_name object
  given-as type_name object given = record { gives = means type_name (Some object) given.gives; named = given.named }

  filled-as : (comes : Next) (entry : Entry) → IsFilled view name says Makes comes entry → IsFilled view name says Others comes entry
  filled-as (Need need made performer act) entry (inl filled) = inl (filled.0, filled.1, given-as need.type_name filled.1 filled.2)
  filled-as (Need need made performer act) entry (inr filled) = inr (filled.0, record { given = filled.1.given; gives = means need.type_name filled.1.given filled.1.gives; none = filled.1.none })
  filled-as (Exactly expected) entry filled = filled
  filled-as (Answer hearer call origin) entry filled = filled
  filled-as (Grant sequencer drawn chosen) entry filled = filled
  filled-as Nothing entry filled = filled

  all-filled-as : (script : ScriptValue) (history : List Entry) → AreFilled view name says Makes script history → AreFilled view name says Others script history
  all-filled-as script [] filled = filled
  all-filled-as script (entry ∷ before) filled = (filled-as (next_of script before) entry filled.0, all-filled-as script before filled.1)

  lived-as : (script : ScriptValue) (history : List Entry) (who : Who) → HasLived view name says Makes script history who → HasLived view name says Others script history who
  lived-as script history who lived =
      record { type_name = lived.type_name; made = lived.made; object = lived.object; given = given-as lived.type_name lived.object lived.given; last = lived.last; honest = lived.honest }

  -- a run with objects that `Makes` allows is a run with objects that `Others` allows
  pub run-as : (words left : Stream) (script : ScriptValue) (trace : Bool) (old new : Option (List ℕ)) (result : Result RunResult RunFault) → IsRun view name says Makes words left script trace old new result → IsRun view name says Others words left script trace old new result
  run-as words left script trace old new result run =
      record {
        history = run.history;
        legal = run.legal;
        leaves = run.leaves;
        words = run.words;
        given = run.given;
        objects = record {
          filled = all-filled-as script run.history run.objects.filled;
          asked = run.objects.asked;
          lived = All-weaker (HasLived view name says Makes script run.history) (HasLived view name says Others script run.history) (lived-as script run.history) (keys_of (types_made script run.history)) run.objects.lived;
        };
      }
