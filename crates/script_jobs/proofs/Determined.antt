-- The runs of a document are determined.
use Rattle.script_jobs.proofs.Common.{◌≡◌, ◌∙◌, ℕ, Bool, List, [], Some, None, Result, Ok, Err, inl, inr, refl, sym, ap, subst, slice_get, if◌then◌else◌, Keeps, Data, Members, get_member, Stream, View, Call, tree_of_bytes, ScriptFault, ScriptValue, RunResult, RunFault, is_clean, AllowsOneAtMost, EndsAreDetermined, ObjectsAreFunctions, breakage_of, Memory, LogFull, Output, Unread, TypeValue, AnswersAreFunctions, TablesTellTypes, AreTypesOf, IsDecided, RunsAreDetermined, name_of, object_named, says_of, view_of, HasBare, HasUnknown, HoldsAnswers, IsBenchRun, IsNoTable, IsScriptRun, IsTreeRun, IsUnread, RanTo, bare_types, lost_test, refusal_by, script_to_run, unknown_types, BenchObject, Scripted, Bus, Script, UnknownTest, NoTable, UnknownType, NoObject, Answers, Verdict, Clean, Faulty, Refused, Broken, Option, codes}
use Rattle.bench_run.specs.declared.faults.RunFault.TheVariants as ran
use Rattle.bench_run.specs.Laws.{IsDecided as has_ended}

-- each object gives one answer
functions : AnswersAreFunctions → ObjectsAreFunctions → (object : BenchObject) (before : View) (call : Call) → AllowsOneAtMost (says_of object before call)
functions answers objects (Scripted scripted) before call acts others after next allowed also =
    let one = answers scripted.rules before call in
    let is = one.2 acts after allowed in
    let are = one.2 others next also in
    (are.0 ∙ sym is.0, are.1 ∙ sym is.1)
functions answers objects (Bus object) before call acts others after next allowed also =
    let one = objects object before call in
    let is = one.2.1 acts after allowed in
    let are = one.2.1 others next also in
    (are.0 ∙ sym is.0, are.1 ∙ sym is.1)

kept : (held : List ℕ) (new : Option (List ℕ)) → Keeps (Some held) new → new ≡ Some held
kept held None keeps = absurd keeps
kept held (Some bytes) keeps = ap Some keeps

-- the answers of a document are those of one list of types
same-types : TablesTellTypes → (said : Option Data) (types others : List TypeValue) → HoldsAnswers said types → HoldsAnswers said others → others ≡ types
same-types tell None types others holds also = also ∙ sym holds
same-types tell (Some answers) types others holds also =
    let same : also.0 ≡ holds.0 = cc in
    tell holds.0 types others holds.2 (subst (λ table. AreTypesOf table others) same also.2)

-- the verdict on a run that is over, or whose log is full
verdict_of : Result RunResult RunFault → Verdict
verdict_of (Ok run_result) = if is_clean run_result then Clean else Faulty
verdict_of (Err fault) = Broken LogFull

-- what became of the tree of a document: it was refused, or its script ran over its answers
data OfTree (root : Members) (test : Option (List ℕ)) (words : Stream) (trace : Bool) (held : List ℕ) (new : Option (List ℕ)) (verdict : Verdict) : Type 0 where
  NoScript : (fault : ScriptFault) → script_to_run root test ≡ Err fault → new ≡ Some held → verdict ≡ Refused (refusal_by fault (lost_test root test)) → OfTree root test words trace held new verdict
  Tableless : (script : ScriptValue) → script_to_run root test ≡ Ok script → IsNoTable (get_member (codes "answers") root) → new ≡ Some held → verdict ≡ Refused NoTable → OfTree root test words trace held new verdict
  Unknown : (script : ScriptValue) → script_to_run root test ≡ Ok script → (name : List ℕ) → HasUnknown (get_member (codes "answers") root) script.types name → new ≡ Some held → verdict ≡ Refused (UnknownType name)
      → OfTree root test words trace held new verdict
  Bare : (script : ScriptValue) → script_to_run root test ≡ Ok script → (name : List ℕ) → HasBare (get_member (codes "answers") root) script.types name → new ≡ Some held → verdict ≡ Refused (NoObject name)
      → OfTree root test words trace held new verdict
  Ran : (result : Result RunResult RunFault) → has_ended result → RanTo root test words trace (Some held) new result → verdict ≡ verdict_of result → OfTree root test words trace held new verdict

-- and of its bytes
data Came (bytes : List ℕ) (test : Option (List ℕ)) (words : Stream) (trace : Bool) (held : List ℕ) (new : Option (List ℕ)) (verdict : Verdict) : Type 0 where
  NoTree : (fault : ScriptFault) → tree_of_bytes bytes ≡ Err fault → new ≡ Some held → verdict ≡ Refused (Script fault) → Came bytes test words trace held new verdict
  OfRoot : (root : Members) → tree_of_bytes bytes ≡ Ok root → OfTree root test words trace held new verdict → Came bytes test words trace held new verdict

full-fault : (fault : RunFault) → Some LogFull ≡ breakage_of fault → fault ≡ ran.LogFull
full-fault ran.Memory is = cc
full-fault ran.LogFull is = refl
full-fault ran.Output is = cc
full-fault ran.NoTest is = cc

broke-came : (root : Members) (test : Option (List ℕ)) (words : Stream) (trace : Bool) (held : List ℕ) (new : Option (List ℕ)) (fault : RunFault)
    → fault ≡ ran.LogFull → RanTo root test words trace (Some held) new (Err fault) → OfTree root test words trace held new (Broken LogFull)
unfolding verdict_of
broke-came root test words trace held new ran.Memory bad run = cc
broke-came root test words trace held new ran.Output bad run = cc
broke-came root test words trace held new ran.NoTest bad run = cc
broke-came root test words trace held new ran.LogFull full run = Ran (Err ran.LogFull) tt run refl

tree-came : (root : Members) (test : Option (List ℕ)) (words : Stream) (trace : Bool) (held : List ℕ) (new : Option (List ℕ)) (verdict : Verdict) → IsTreeRun root test words trace (Some held) new verdict → IsDecided verdict
    → OfTree root test words trace held new verdict
unfolding verdict_of
tree-came root test words trace held new Clean done decided = Ran (Ok done.0) tt done.2 (rw done.1 refl)
tree-came root test words trace held new Faulty done decided = Ran (Ok done.0) tt done.2 (rw done.1 refl)
tree-came root test words trace held new (Refused (Script fault)) done decided = NoScript done.fault done.found (kept held new done.keeps) (ap Refused done.reported)
tree-came root test words trace held new (Refused (UnknownTest name)) done decided = NoScript done.fault done.found (kept held new done.keeps) (ap Refused done.reported)
tree-came root test words trace held new (Refused NoTable) done decided = Tableless done.script done.asked done.fault (kept held new done.keeps) refl
tree-came root test words trace held new (Refused (UnknownType name)) done decided = Unknown done.script done.asked name done.fault (kept held new done.keeps) refl
tree-came root test words trace held new (Refused (NoObject name)) done decided = Bare done.script done.asked name done.fault (kept held new done.keeps) refl
tree-came root test words trace held new (Refused (Answers text)) done decided = absurd decided
tree-came root test words trace held new (Broken LogFull) (inl none) decided = let bad = none.0 in cc
tree-came root test words trace held new (Broken LogFull) (inr done) decided = broke-came root test words trace held new done.0 (full-fault done.0 done.1) done.2
tree-came root test words trace held new (Broken Memory) done decided = absurd decided
tree-came root test words trace held new (Broken Output) done decided = absurd decided
tree-came root test words trace held new (Broken Unread) done decided = absurd decided

unread-came : (bytes : List ℕ) (test : Option (List ℕ)) (words : Stream) (trace : Bool) (held : List ℕ) (new : Option (List ℕ)) (verdict : Verdict) → IsUnread (tree_of_bytes bytes) (Some held) new verdict → IsDecided verdict
    → Came bytes test words trace held new verdict
unread-came bytes test words trace held new verdict (inl refused, keeps) decided = NoTree refused.0 refused.1 (kept held new keeps) refused.2
unread-came bytes test words trace held new verdict (inr broke, keeps) decided = absurd (subst IsDecided broke decided)

came-of : (bytes : List ℕ) (test : Option (List ℕ)) (words : Stream) (trace : Bool) (held : List ℕ) (new : Option (List ℕ)) (verdict : Verdict) → IsBenchRun bytes test words trace (Some held) new verdict → IsDecided verdict
    → Came bytes test words trace held new verdict
came-of bytes test words trace held new verdict (inl done) decided = OfRoot done.0 done.1 (tree-came done.0 test words trace held new verdict done.2 decided)
came-of bytes test words trace held new verdict (inr unread) decided = unread-came bytes test words trace held new verdict unread decided

-- answers that are no table are those of no types
no-types : (said : Option Data) (types : List TypeValue) → IsNoTable said → HoldsAnswers said types → ⊥
no-types None types none holds = none
no-types (Some answers) types none holds = let table = holds.1 in cc

module _ (tell : TablesTellTypes) (one_answer : (object : BenchObject) (before : View) (call : Call) → AllowsOneAtMost (says_of object before call)) (law : EndsAreDetermined view_of name_of says_of) where
  -- the first type that the script does not have is one
  same-unknown : (said : Option Data) (script again : ScriptValue) (name other : List ℕ) → again ≡ script → HasUnknown said script.types name → HasUnknown said again.types other → other ≡ name
  same-unknown said script again name other same is are =
      let types : are.0 ≡ is.0 = same-types tell said is.0 are.0 is.1 are.1 in
      let first : Some other ≡ Some name = sym are.2 ∙ (rw (types, same) refl ∙ is.2) in cc

  no-unknown : (said : Option Data) (script again : ScriptValue) (name : List ℕ) (types : List TypeValue) → again ≡ script → HasUnknown said script.types name → HoldsAnswers said types → unknown_types types again.types ≡ [] → ⊥
  no-unknown said script again name types same is holds known =
      let one : types ≡ is.0 = same-types tell said is.0 types is.1 holds in
      let none : unknown_types is.0 script.types ≡ [] = rw (one, same) at known in
      let first : slice_get (unknown_types is.0 script.types) 0 ≡ Some name = is.2 in
      let nothing : None ≡ Some name = rw none at first in cc

  -- the first type without an object is one
  same-bare : (said : Option Data) (script again : ScriptValue) (name other : List ℕ) → again ≡ script → HasBare said script.types name → HasBare said again.types other → other ≡ name
  same-bare said script again name other same is are =
      let types : are.0 ≡ is.0 = same-types tell said is.0 are.0 is.1 are.1 in
      let first : Some other ≡ Some name = sym are.3 ∙ (rw (types, same) refl ∙ is.3) in cc

  no-bare : (said : Option Data) (script again : ScriptValue) (name : List ℕ) (types : List TypeValue) → again ≡ script → HasBare said script.types name → HoldsAnswers said types → bare_types types again.types ≡ [] → ⊥
  no-bare said script again name types same is holds objects =
      let one : types ≡ is.0 = same-types tell said is.0 types is.1 holds in
      let none : bare_types is.0 script.types ≡ [] = rw (one, same) at objects in
      let first : slice_get (bare_types is.0 script.types) 0 ≡ Some name = is.3 in
      let nothing : None ≡ Some name = rw none at first in cc

  -- two runs of one script over one list of types
  ran-same : (words : Stream) (trace : Bool) (held : List ℕ) (first second : Option (List ℕ)) (one other : Result RunResult RunFault) (script again : ScriptValue) (types others : List TypeValue) → again ≡ script → others ≡ types
      → IsScriptRun types words script trace (Some held) first one → IsScriptRun others words again trace (Some held) second other → has_ended one → has_ended other → (other ≡ one) × (second ≡ first)
  ran-same words trace held first second one other script again types others scripts same run also ended ends =
      let run_too : IsScriptRun types words script trace (Some held) second other =
      subst (λ s. IsScriptRun types words s trace (Some held) second other) scripts (subst (λ t. IsScriptRun t words again trace (Some held) second other) same also) in
      law one_answer (λ name. Some (object_named types name)) words run.0 run_too.0 script trace held first second one other run.1 run_too.1 ended ends

  tree-same : (root : Members) (test : Option (List ℕ)) (words : Stream) (trace : Bool) (held : List ℕ) (first second : Option (List ℕ)) (one other : Verdict) → OfTree root test words trace held first one → OfTree root test words trace held second other
      → (other ≡ one) × (second ≡ first)
  tree-same root test words trace held first second one other (NoScript fault is new_is verdict_is) (NoScript why are new_too is_too) =
      let same : why ≡ fault = cc in (is_too ∙ ap (λ f. Refused (refusal_by f (lost_test root test))) same ∙ sym verdict_is, new_too ∙ sym new_is)
  tree-same root test words trace held first second one other (NoScript fault is new_is verdict_is) (Tableless script are none new_too is_too) = cc
  tree-same root test words trace held first second one other (NoScript fault is new_is verdict_is) (Unknown script are name unknown new_too is_too) = cc
  tree-same root test words trace held first second one other (NoScript fault is new_is verdict_is) (Bare script are name bare new_too is_too) = cc
  tree-same root test words trace held first second one other (NoScript fault is new_is verdict_is) (Ran result ended run is_too) = let asked = run.bench.asked in cc
  tree-same root test words trace held first second one other (Tableless script is none new_is verdict_is) (NoScript why are new_too is_too) = cc
  tree-same root test words trace held first second one other (Tableless script is none new_is verdict_is) (Tableless again are also new_too is_too) = (is_too ∙ sym verdict_is, new_too ∙ sym new_is)
  tree-same root test words trace held first second one other (Tableless script is none new_is verdict_is) (Unknown again are name unknown new_too is_too) = absurd (no-types (get_member (codes "answers") root) unknown.0 none unknown.1)
  tree-same root test words trace held first second one other (Tableless script is none new_is verdict_is) (Bare again are name bare new_too is_too) = absurd (no-types (get_member (codes "answers") root) bare.0 none bare.1)
  tree-same root test words trace held first second one other (Tableless script is none new_is verdict_is) (Ran result ended run is_too) = absurd (no-types (get_member (codes "answers") root) run.types none run.bench.answers)
  tree-same root test words trace held first second one other (Unknown script is name unknown new_is verdict_is) (NoScript why are new_too is_too) = cc
  tree-same root test words trace held first second one other (Unknown script is name unknown new_is verdict_is) (Tableless again are none new_too is_too) = absurd (no-types (get_member (codes "answers") root) unknown.0 none unknown.1)
  tree-same root test words trace held first second one other (Unknown script is name unknown new_is verdict_is) (Unknown again are more unknowns new_too is_too) =
      let same : again ≡ script = cc in
      let named : more ≡ name = same-unknown (get_member (codes "answers") root) script again name more same unknown unknowns in
      (is_too ∙ ap (λ n. Refused (UnknownType n)) named ∙ sym verdict_is, new_too ∙ sym new_is)
  tree-same root test words trace held first second one other (Unknown script is name unknown new_is verdict_is) (Bare again are bared bare new_too is_too) =
      let same : again ≡ script = cc in
      absurd (no-unknown (get_member (codes "answers") root) script again name bare.0 same unknown bare.1 bare.2)
  tree-same root test words trace held first second one other (Unknown script is name unknown new_is verdict_is) (Ran result ended run is_too) =
      let asked = run.bench.asked in
      let same : run.script ≡ script = cc in
      absurd (no-unknown (get_member (codes "answers") root) script run.script name run.types same unknown run.bench.answers run.bench.known)
  tree-same root test words trace held first second one other (Bare script is name bare new_is verdict_is) (NoScript why are new_too is_too) = cc
  tree-same root test words trace held first second one other (Bare script is name bare new_is verdict_is) (Tableless again are none new_too is_too) = absurd (no-types (get_member (codes "answers") root) bare.0 none bare.1)
  tree-same root test words trace held first second one other (Bare script is name bare new_is verdict_is) (Unknown again are unnamed unknown new_too is_too) =
      let same : script ≡ again = cc in
      absurd (no-unknown (get_member (codes "answers") root) again script unnamed bare.0 same unknown bare.1 bare.2)
  tree-same root test words trace held first second one other (Bare script is name bare new_is verdict_is) (Bare again are more bares new_too is_too) =
      let same : again ≡ script = cc in
      let named : more ≡ name = same-bare (get_member (codes "answers") root) script again name more same bare bares in
      (is_too ∙ ap (λ n. Refused (NoObject n)) named ∙ sym verdict_is, new_too ∙ sym new_is)
  tree-same root test words trace held first second one other (Bare script is name bare new_is verdict_is) (Ran result ended run is_too) =
      let asked = run.bench.asked in
      let same : run.script ≡ script = cc in
      absurd (no-bare (get_member (codes "answers") root) script run.script name run.types same bare run.bench.answers run.bench.objects)
  tree-same root test words trace held first second one other (Ran result ended run verdict_is) (NoScript why are new_too is_too) = let asked = run.bench.asked in cc
  tree-same root test words trace held first second one other (Ran result ended run verdict_is) (Tableless again are none new_too is_too) = absurd (no-types (get_member (codes "answers") root) run.types none run.bench.answers)
  tree-same root test words trace held first second one other (Ran result ended run verdict_is) (Unknown again are name unknown new_too is_too) =
      let asked = run.bench.asked in
      let same : run.script ≡ again = cc in
      absurd (no-unknown (get_member (codes "answers") root) again run.script name run.types same unknown run.bench.answers run.bench.known)
  tree-same root test words trace held first second one other (Ran result ended run verdict_is) (Bare again are name bare new_too is_too) =
      let asked = run.bench.asked in
      let same : run.script ≡ again = cc in
      absurd (no-bare (get_member (codes "answers") root) again run.script name run.types same bare run.bench.answers run.bench.objects)
  tree-same root test words trace held first second one other (Ran result ended run verdict_is) (Ran later ends also is_too) =
      let asked = run.bench.asked in
      let asks = also.bench.asked in
      let scripts : also.script ≡ run.script = cc in
      let types : also.types ≡ run.types = same-types tell (get_member (codes "answers") root) run.types also.types run.bench.answers also.bench.answers in
      let same = ran-same words trace held first second result later run.script also.script run.types also.types scripts types run.run also.run ended ends in
      (is_too ∙ ap verdict_of same.0 ∙ sym verdict_is, same.1)

  came-same : (bytes : List ℕ) (test : Option (List ℕ)) (words : Stream) (trace : Bool) (held : List ℕ) (first second : Option (List ℕ)) (one other : Verdict) → Came bytes test words trace held first one → Came bytes test words trace held second other
      → (other ≡ one) × (second ≡ first)
  came-same bytes test words trace held first second one other (NoTree fault is new_is verdict_is) (NoTree why are new_too is_too) =
      let same : why ≡ fault = cc in (is_too ∙ ap (λ f. Refused (Script f)) same ∙ sym verdict_is, new_too ∙ sym new_is)
  came-same bytes test words trace held first second one other (NoTree fault is new_is verdict_is) (OfRoot root are came) = cc
  came-same bytes test words trace held first second one other (OfRoot root is came) (NoTree why are new_too is_too) = cc
  came-same bytes test words trace held first second one other (OfRoot root is came) (OfRoot again are also) =
      let same : again ≡ root = cc in
      tree-same root test words trace held first second one other came (subst (λ r. OfTree r test words trace held second other) same also)

pub runs-are-determined : TablesTellTypes → AnswersAreFunctions → ObjectsAreFunctions → EndsAreDetermined view_of name_of says_of → RunsAreDetermined
runs-are-determined tell answers objects law bytes test words trace held first second one other came also decided decides =
    came-same tell (functions answers objects) law bytes test words trace held first second one other (came-of bytes test words trace held first one came decided) (came-of bytes test words trace held second other also decides)
