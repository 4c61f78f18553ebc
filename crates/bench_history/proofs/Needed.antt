-- Where an object is what comes next.
use Rattle.bench_history.proofs.Common.{◌∙◌, ◌≡◌, ℕ, suc, Bool, true, false, not, List, [], ◌∷◌, Option, Some, None, IsSome, is_none, length, inl, inr, refl, ap, sym, subst, Try, How, first_given, fault_if, TreeFault, NoParent, node_at, add_fault, node_of, Who, Act, Create, EndStep, Ask, Fatal, CreatedAfterBuild, InvalidType, OverrideLoop, NotOpen, NoObject, Outcome, Made, Started, Refused, Entry, Did, ScriptValue, nodes_of, remaining_acts, rest_of, performer_of, Creation, Starting, type_asked, type_made, child_refusal, fatal_of, creation_refusal, starting_refusal, is_open_to, sequences_of, Effect, Needs, ComesTo, unless_refused, needed_object, needed_sequence, creation_now, creation_effect, starting_now, starting_effect, permitted_effect, effect_of, asked_effect, Next, Need, by_effect, next_of, need_in, Allows, IsAct, IsNext, IsMadeBy, IsWanted, NeedsAreWanted, IsNow, NotMade, Node, Start}
use Rattle.bench_history.specs.declared.needs.Need as declared
use Rattle.bench_history.proofs.Performed.{settled-of}
use Rattle.bench_history.proofs.Inversion.{IsPlainEffect, comes, now-at, plain-effect}

-- a name can be free only under a node that is there
some-node : (nodes : List Node) (parent : ℕ) (name : List ℕ) → child_refusal nodes parent name ≡ None → IsSome (node_at nodes parent)
unfolding add_fault
some-node nodes parent name free = from-node (node_at nodes parent) _ free
  where
    from-node : (node : Option Node) (others : List (Option TreeFault)) → fatal_of (first_given (fault_if (is_none node) NoParent ∷ others)) ≡ None → IsSome node
    from-node None others e = cc
    from-node (Some node) others e = refl

-- where the last of four causes is looked for the third is not there
third-not : (first second third fourth : Option Fatal) → first_given (first ∷ second ∷ third ∷ fourth ∷ []) ≡ None → third ≡ None
third-not (Some fatal) second third fourth e = cc
third-not None (Some fatal) third fourth e = cc
third-not None None (Some fatal) fourth e = cc
third-not None None None fourth e = refl

-- and the first is not
first-not : (first : Option Fatal) (others : List (Option Fatal)) → first_given (first ∷ others) ≡ None → first ≡ None
first-not (Some fatal) others e = cc
first-not None others e = refl

not-built : (built : Bool) → fault_if built CreatedAfterBuild ≡ None → built ≡ false
not-built true e = cc
not-built false e = refl

-- what is created is created before the end of build
building-of : (creation : Creation) → creation_refusal creation ≡ None → creation.built ≡ false
unfolding creation_refusal
building-of creation e = not-built creation.built (first-not (fault_if creation.built CreatedAfterBuild) _ e)

-- and has a free name
free-of : (creation : Creation) → creation_refusal creation ≡ None → child_refusal creation.nodes creation.parent creation.name ≡ None
unfolding creation_refusal
free-of creation e = third-not (fault_if creation.built CreatedAfterBuild) (fault_if (is_none (type_asked creation)) InvalidType) _ (fault_if (is_none (type_made creation)) OverrideLoop) e

-- an act that creates the object that is needed
creating-of :
    (script : ScriptValue) (history : List Entry) (asked name : List ℕ) (need : declared.Need) (made : Outcome) → creation_effect (creation_now script history (performer_of history) asked name) ≡ Needs need made
    → IsMadeBy script history need made (Create asked name)
creating-of script history asked name need made e = by (creation_refusal creation) refl e
  where
    creation : Creation
    creation = creation_now script history (performer_of history) asked name

    by : (refusal : Option Fatal) → creation_refusal creation ≡ refusal → unless_refused refusal (Needs (needed_object creation) (Made (needed_object creation).type_name)) ≡ Needs need made → IsMadeBy script history need made (Create asked name)
    by None is e =
        let same : needed_object creation ≡ need = cc in
        let made_is : Made (needed_object creation).type_name ≡ made = cc in
        let free = free-of creation is in
        subst (λ (m : Outcome). IsMadeBy script history need m (Create asked name)) made_is
        (record {
          creates = tt;
          type_is = ap (λ (n : declared.Need). n.type_name) same;
          path_is = ap (λ (n : declared.Need). n.path) (sym same);
          free = free;
          performer = some-node (nodes_of history) (node_of (performer_of history)) name free;
          building = building-of creation is;
        })
    by (Some fatal) is e = cc

-- and one that starts a sequence
starting-of :
    (script : ScriptValue) (history : List Entry) (asked name : List ℕ) (on : List (List ℕ)) (priority : Option ℕ) (need : declared.Need) (made : Outcome)
    → starting_effect (length (sequences_of history)) (starting_now script history (performer_of history) asked name on priority) ≡ Needs need made
    → IsMadeBy script history need made (Start asked name on priority)
starting-of script history asked name on priority need made e = by (starting_refusal starting) refl e
  where
    starting : Starting
    starting = starting_now script history (performer_of history) asked name on priority

    by : (refusal : Option Fatal) → starting_refusal starting ≡ refusal → unless_refused refusal (Needs (needed_sequence starting) (Started (suc (length (sequences_of history))))) ≡ Needs need made
        → IsMadeBy script history need made (Start asked name on priority)
    by None is e =
        let made_is : Started (suc (length (sequences_of history))) ≡ made = cc in
        subst (λ (m : Outcome). IsMadeBy script history need m (Start asked name on priority)) made_is
        (record { asked = asked; name = name; on = on; priority = priority; starts = refl; number = refl; may = is })
    by (Some fatal) is e = cc

-- no object is needed by what comes to something else
abbrev IsAtOnce : Effect → Type 0
IsAtOnce (Needs need made) = ⊥
IsAtOnce effect = Unit {0}

at-once-unless : (refusal : Option Fatal) (effect : Effect) → IsAtOnce effect → IsAtOnce (unless_refused refusal effect)
at-once-unless None effect at_once = at_once
at-once-unless (Some fatal) effect at_once = tt

at-once-asked : (how : How) (waits : Bool) → IsAtOnce (asked_effect how waits)
at-once-asked Try waits = tt
at-once-asked how waits = tt

-- an act is not refused where an object is needed for it
open-of : (refusal : Option Fatal) (effect : Effect) (need : declared.Need) (made : Outcome) → unless_refused refusal effect ≡ Needs need made → effect ≡ Needs need made
open-of None effect need made e = e
open-of (Some fatal) effect need made e = cc

-- so the act makes it
making-of : (script : ScriptValue) (history : List Entry) (act : Act) (need : declared.Need) (made : Outcome) → permitted_effect script history (performer_of history) act ≡ Needs need made → IsMadeBy script history need made act
making-of script history (Create asked name) need made e = creating-of script history asked name need made e
making-of script history (Start asked name on priority) need made e = starting-of script history asked name on priority need made e
making-of script history EndStep need made e = cc
making-of script history (Ask port how) need made e = absurd (subst IsAtOnce e (at-once-unless _ _ (at-once-asked how _)))
making-of script history act need made e = absurd (subst IsAtOnce e (search at-once-unless))

makes-by : (script : ScriptValue) (history : List Entry) (act : Act) (need : declared.Need) (made : Outcome) → effect_of script history (performer_of history) act ≡ Needs need made → IsMadeBy script history need made act
makes-by script history act need made effect = making-of script history act need made (open-of (fault_if (not (is_open_to act (performer_of history))) NotOpen) (permitted_effect script history (performer_of history) act) need made effect)

sequencer_request-by : (script : ScriptValue) (history : List Entry) (act : Act) (need : declared.Need) (made : Outcome) → effect_of script history (performer_of history) act ≡ Needs need made → next_of script history ≡ Need need made (performer_of history) act → IsWanted script history act
sequencer_request-by script history act need made effect next = record {
  need = need;
  made = made;
  next = next;
  settled = settled-of script history (subst IsAct (sym next) tt);
  makes = makes-by script history act need made effect;
}

sequencer_request :
    (script : ScriptValue) (history : List Entry) (next : Next) → next_of script history ≡ next → IsSome (need_in next) → IsNow script history next
    → (act : Act) × (remaining_acts script history ≡ act ∷ rest_of (remaining_acts script history)) × IsWanted script history act
sequencer_request script history (Need need made performer act) is some now =
    (act, now.left, sequencer_request-by script history act need made now.effect (subst (λ (who : Who). next_of script history ≡ Need need made who act) now.performer_is is))
sequencer_request script history next is some now = cc

pub needs_are_wanted : NeedsAreWanted
needs_are_wanted script history need = sequencer_request script history (next_of script history) refl need (now-at script history (next_of script history) refl)

-- the act that needs an object is the performer's next
pub record IsNeeded (script : ScriptValue) (history : List Entry) (need : declared.Need) (made : Outcome) (performer : Who) (act : Act) : Type 0 where
  pub performer_is : performer ≡ performer_of history
  pub left : remaining_acts script history ≡ act ∷ rest_of (remaining_acts script history)
  pub makes : IsMadeBy script history need made act

pub needed : (script : ScriptValue) (history : List Entry) (need : declared.Need) (made : Outcome) (performer : Who) (act : Act) → next_of script history ≡ Need need made performer act → IsNeeded script history need made performer act
needed script history need made performer act is =
    let now = now-at script history (Need need made performer act) is in
    record { performer_is = now.performer_is; left = now.left; makes = makes-by script history act need made now.effect }

-- an act that made something needed it
pub made-in : (script : ScriptValue) (history : List Entry) (performer : Who) (outcome : Outcome) (act : Act) → (NotMade outcome → ⊥) → IsNext script history (Did performer outcome act) → (need : declared.Need) × IsMadeBy script history need outcome act
made-in script history performer outcome act made next = by (effect_of script history (performer_of history) act) refl (comes script history (Did performer outcome act) next).comes
  where
    by : (effect : Effect) → effect_of script history (performer_of history) act ≡ effect → Allows (by_effect (performer_of history) act effect) (Did performer outcome act) → (need : declared.Need) × IsMadeBy script history need outcome act
    by (Needs need other) is (inl e) = let same : other ≡ outcome = cc in (need, subst (λ (m : Outcome). IsMadeBy script history need m act) same (makes-by script history act need other is))
    by (Needs need other) is (inr e) = let same : Refused NoObject ≡ outcome = cc in absurd (made (subst NotMade same tt))
    by (ComesTo other) is e = let same : other ≡ outcome = cc in absurd (made (subst NotMade same (subst IsPlainEffect is (plain-effect script history (performer_of history) act))))

-- and what is no such outcome, and no refusal for want of an object, the act came to at once
pub comes-to :
    (script : ScriptValue) (history : List Entry) (performer : Who) (outcome : Outcome) (act : Act) → (outcome ≡ Refused NoObject → ⊥) → ((need : declared.Need) → IsMadeBy script history need outcome act → ⊥) → IsNext script history (Did performer outcome act)
    → effect_of script history (performer_of history) act ≡ ComesTo outcome
comes-to script history performer outcome act done unmade next = by (effect_of script history (performer_of history) act) refl (comes script history (Did performer outcome act) next).comes
  where
    by : (effect : Effect) → effect_of script history (performer_of history) act ≡ effect → Allows (by_effect (performer_of history) act effect) (Did performer outcome act) → effect_of script history (performer_of history) act ≡ ComesTo outcome
    by (Needs need made) is (inl e) = let same : made ≡ outcome = cc in absurd (unmade need (subst (λ (m : Outcome). IsMadeBy script history need m act) same (makes-by script history act need made is)))
    by (Needs need made) is (inr e) = let same : outcome ≡ Refused NoObject = cc in absurd (done same)
    by (ComesTo other) is e = let same : other ≡ outcome = cc in is ∙ ap ComesTo same
