-- What one more entry adds to a log: nodes, components, and what a component or sequence was asked.
use Rattle.bench_history.proofs.Common.{◌≡◌, ℕ, suc, ◌≤◌, List, [], ◌∷◌, ◌++◌, length, Option, Some, refl, ap, ◌∙◌, sym, subst, arith, option_map_or, append-nil, length-map, Component, child, node_of, exchanged_in, Who, Act, Add, Outcome, Done, Made, Started, Entry, Heard, Did, ScriptValue, Phase, created_name, nodes_of, nodes_after, components_of, components_after, performer_of, act_phase, StartRecord, starts_in, begun_after, starts_of, Next, Exactly, next_of, IsMadeBy, HasMade, MachineEntriesAreSilent, NodesStay, MadeObjectsAreNew, IsNow, NotMade, slice_get, length-append, Node}
use Rattle.bench_history.specs.declared.needs.Need as declared
use Rattle.bench_history.proofs.Inversion.{now-at}
use Rattle.bench_history.proofs.Needed.{needed}

-- no component or sequence answered, and no object was made
abbrev pub IsPlain : Entry → Type 0
IsPlain (Heard performer cause call acts) = ⊥
IsPlain (Did performer outcome act) = NotMade outcome
IsPlain entry = Unit {0}

-- an entry that alone is next is plain
abbrev pub IsPlainNext : Next → Type 0
IsPlainNext (Exactly entry) = IsPlain entry
IsPlainNext next = Unit {0}

plain-now : (script : ScriptValue) (history : List Entry) (next : Next) → IsNow script history next → IsPlainNext next
plain-now script history (Exactly (Heard performer cause call acts)) now = now
plain-now script history (Exactly (Did performer outcome act)) now = now.plain
plain-now script history next now = tt

-- so that what alone is next is plain
pub plain-next : (script : ScriptValue) (history : List Entry) → IsPlainNext (next_of script history)
plain-next script history = plain-now script history (next_of script history) (now-at script history (next_of script history) refl)

-- and an entry that alone is next is
pub exact-plain : (script : ScriptValue) (history : List Entry) (entry : Entry) → next_of script history ≡ Exactly entry → IsPlain entry
exact-plain script history entry e = subst IsPlainNext e (plain-next script history)

-- a plain entry is no exchange of any node
silent : (hearer : Who) (entry : Entry) → IsPlain entry → exchanged_in hearer entry ≡ []
silent hearer (Heard performer cause call acts) plain = absurd plain
silent hearer entry plain = refl

-- an entry that alone is next is not an answer
exact-is-silent : (script : ScriptValue) (history : List Entry) (entry : Entry) (hearer : Who) → next_of script history ≡ Exactly entry → exchanged_in hearer entry ≡ []
exact-is-silent script history entry hearer e = silent hearer entry (exact-plain script history entry e)

-- an outcome that makes no object adds no component, and starts no sequence
keeps-outcome : (node : ℕ) (components : List ℕ) (outcome : Outcome) → NotMade outcome → components_after node components outcome ≡ components
keeps-outcome node components (Made type_name) plain = absurd plain
keeps-outcome node components outcome plain = refl

keeps-begun : (nodes : List Node) (phase : Option Phase) (begun : List StartRecord) (performer : Who) (outcome : Outcome) (act : Act) → NotMade outcome → begun_after nodes phase begun performer outcome act ≡ begun
keeps-begun nodes phase begun performer (Started id) act plain = absurd plain
keeps-begun nodes phase begun performer outcome act plain = refl

-- nor does a plain entry
keeps-components : (history : List Entry) (entry : Entry) → IsPlain entry → components_of (entry ∷ history) ≡ components_of history
keeps-components history (Did performer outcome act) plain = keeps-outcome (length (nodes_of history)) (components_of history) outcome plain
keeps-components history entry plain = refl

pub keeps-sequences : (history : List Entry) (entry : Entry) → IsPlain entry → starts_of (entry ∷ history) ≡ starts_of history
keeps-sequences history (Did performer outcome act) plain = keeps-begun (nodes_of history) (act_phase history) (starts_of history) performer outcome act plain
keeps-sequences history entry plain = refl

-- and makes no component
pub exact-keeps-components : (script : ScriptValue) (history : List Entry) (entry : Entry) → next_of script history ≡ Exactly entry → components_of (entry ∷ history) ≡ components_of history
exact-keeps-components script history entry e = keeps-components history entry (exact-plain script history entry e)

-- so it is the machine's own
pub machine_entries_are_silent : MachineEntriesAreSilent
machine_entries_are_silent script history entry e = record {
  silent = λ node. exact-is-silent script history entry node e;
  keeps = exact-keeps-components script history entry e;
  starts_none = keeps-sequences history entry (exact-plain script history entry e);
}

-- a list that has more than another, at its end
abbrev pub HasMore : {A : Type 0} → List A → List A → Type 0
HasMore {A} before after = (more : List A) × (after ≡ before ++ more)

-- nothing more
no-more : {A : Type 0} (xs : List A) → HasMore xs xs
no-more xs = ([], sym (append-nil xs))

-- one element more
one-more : {A : Type 0} (xs : List A) (x : A) → HasMore xs (xs ++ x ∷ [])
one-more xs x = (x ∷ [], refl)

-- what becomes of an act takes no node away
grow-after : (nodes : List Node) (performer : Who) (outcome : Outcome) (act : Act) → HasMore nodes (nodes_after nodes performer outcome act)
grow-after nodes performer (Made type_name) act = one-more nodes _
grow-after nodes performer Done (Add name what) = one-more nodes _
grow-after nodes performer outcome act = no-more nodes

-- an entry takes no node away
pub nodes_stay : NodesStay
nodes_stay (Did performer outcome act) before = grow-after (nodes_of before) performer outcome act
nodes_stay entry before = no-more (nodes_of before)

-- a list with more at its end is no shorter
longer : {A : Type 0} (xs ys : List A) → HasMore xs ys → length xs ≤ length ys
longer xs ys has = omega (arith, length-append xs has.0, ap length has.1)

-- so that their number does not fall
pub nodes-more : (entry : Entry) (before : List Entry) → length (nodes_of before) ≤ length (nodes_of (entry ∷ before))
nodes-more entry before = longer (nodes_of before) (nodes_of (entry ∷ before)) (nodes_stay entry before)

-- what an act came to takes no component away
outcome-grows : (node : ℕ) (components : List ℕ) (outcome : Outcome) → HasMore components (components_after node components outcome)
outcome-grows node components (Made type_name) = one-more components node
outcome-grows node components outcome = no-more components

-- nor does an entry
pub components-grow : (entry : Entry) (before : List Entry) → (more : List ℕ) × (components_of (entry ∷ before) ≡ components_of before ++ more)
components-grow (Did performer outcome act) before = outcome-grows (length (nodes_of before)) (components_of before) outcome
components-grow entry before = no-more (components_of before)

-- the element behind a list
pub get-behind : (xs : List Node) (x : Node) → slice_get (xs ++ x ∷ []) (length xs) ≡ Some x
get-behind [] x = refl
get-behind (y ∷ ys) x = get-behind ys x

-- there are as many starts as sequences
pub starts-count : (begun : List StartRecord) → length (starts_in begun) ≡ length begun
starts-count begun = length-map begun (λ (start_record : StartRecord). start_record.start)

-- an object is made, or a sequence started
made-by : (script : ScriptValue) (history : List Entry) (need : declared.Need) (made : Outcome) (performer : Who) (act : Act) → performer ≡ performer_of history → IsMadeBy script history need made act → HasMade history need made performer act
made-by script history need (Made type_name) performer act speaks makes =
    let new = child (nodes_of history) (node_of performer) (created_name act) Component in
    record {
      components = refl;
      count = omega (arith, length-append (nodes_of history) (new ∷ []));
      path_is = ap (λ (found : Option Node). option_map_or (λ node. node.path) found []) (get-behind (nodes_of history) new) ∙ rw speaks (sym makes.path_is);
      starts_none = refl;
    }
made-by script history need (Started id) performer act speaks makes =
    let count = starts-count (starts_of history) in
    let number : id ≡ suc (length (starts_of history)) = makes.number ∙ ap suc count in
    record { components = refl; all = rw number refl; number = number }
made-by script history need other performer act speaks makes = absurd makes

pub made_objects_are_new : MadeObjectsAreNew
made_objects_are_new script history need made performer act e =
    let n = needed script history need made performer act e in
    made-by script history need made performer act n.performer_is n.makes
