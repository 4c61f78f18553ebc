-- An entry that is made again.
use Rattle.std.proofs.Common.{◌≡◌, ◌∙◌, ℕ, Bool, List, [], ◌∷◌, Option, Some, None, Ok, IfSome, ap, is_some, refl, subst, sym, unwrap_or}
use Rattle.rand_core.specs.Steps.{stream_of, steps_u64_low}
use Rattle.rand_core.specs.Stream.{Stream, next_u64}
use Rattle.uvm_object.specs.declared.entries.Entry.{Entry}
use Rattle.uvm_object.specs.declared.entries.Entry.TheVariants.{Granted}
use Rattle.uvm_object.specs.declared.entries.Grant.{Grant as Granting}
use Rattle.bench_history.specs.Cases.{Answer, Exactly, Grant, Need, Next, Nothing}
use Rattle.bench_history.specs.Next.{Allows, IsNext, next_of}
use Rattle.bench_core.specs.Cores.{Asked, CoreValue, IsDrawn, IsNextTurn, IsToldTurn, IsTurn, Needed, Nothing as Settled, Standing, word_in}
use Rattle.uvm_acts.specs.declared.acts.Who.{Who}
use Rattle.bench_core.specs.declared.cores.Turn.TheVariants.{Moved}
use Rattle.bench_replay.specs.KnownNumbers.{next_known}

-- two grants are the same if they are for the same random number
same-grant : (chosen : Option ℕ → Option ℕ) (one other : Granting) → other.word ≡ one.word → chosen one.word ≡ Some one.id → chosen other.word ≡ Some other.id → other ≡ one
same-grant chosen one other words first second =
    let ids : other.id ≡ one.id = ap (λ id. unwrap_or id 0) (sym second ∙ ap chosen words ∙ first) in
    ap (λ id. let grant : Granting = record { id = id; word = other.word } in grant) ids ∙ ap (λ word. let grant : Granting = record { id = one.id; word = word } in grant) words

-- the random numbers that come from a list, and then zeros
abbrev stream_from : List ℕ → Stream
stream_from words = stream_of (steps_u64_low next_known) words

-- the random number that the generator gives is the one it began with
first-given : (word drawn : ℕ) (left : List ℕ) → (drawn, stream_from left) ≡ next_u64 (stream_from (word ∷ [])) → drawn ≡ word
unfolding next_u64 stream_of
first-given word drawn left same = ap (λ (pair : ℕ × Stream). pair.0) same

-- the word of a grant that consumed one, if any, is that of the other grant
same-word : (word : ℕ) (drawn : Bool) (left : List ℕ) (one other : Option ℕ) → is_some one ≡ drawn → is_some other ≡ drawn → IfSome one (λ it. word ≡ it)
    → IsDrawn stream_from other (word ∷ []) left → other ≡ one
same-word word drawn left None None first second known is = refl
same-word word drawn left None (Some it) first second known is = cc
same-word word drawn left (Some it) None first second known is = cc
same-word word drawn left (Some it) (Some got) first second known is = ap (λ number. Some number) (first-given word got left is ∙ known)

-- an entry that the kernel makes by itself is made again
moved-as : (next : Next) (entry : Entry) (old new : CoreValue) (word : ℕ) (left : List ℕ) → Allows next entry → IsTurn next Moved old new → IfSome (word_in (entry ∷ [])) (λ it. word ≡ it)
    → IsDrawn stream_from (word_in new.history) (word ∷ []) left → new.history ≡ entry ∷ old.history
moved-as (Exactly expected) entry old new word left allowed turn known drawn = ap (λ (core : CoreValue). core.history) turn.1 ∙ ap (λ it. it ∷ old.history) (sym allowed)
moved-as (Answer hearer call cause) entry old new word left allowed turn known drawn = cc
moved-as (Need need made performer act) entry old new word left allowed turn known drawn = cc
moved-as Nothing entry old new word left allowed turn known drawn = absurd allowed
moved-as (Grant sequencer drawn chosen) entry old new word left (one, needs, picks, same) (moved, made, (other, needed, picked, is), after) known given =
    let history : new.history ≡ Granted sequencer other ∷ old.history = ap (λ (core : CoreValue). core.history) after ∙ ap (λ it. it ∷ old.history) is in
    let words : other.word ≡ one.word = same-word word drawn left one.word other.word needs needed (subst (λ it. IfSome (word_in (it ∷ [])) (λ number. word ≡ number)) same known)
    (subst (λ it. IsDrawn stream_from (word_in it) (word ∷ []) left) history given) in
    history ∙ ap (λ grant. Granted sequencer grant ∷ old.history) (same-grant chosen one other words picks picked) ∙ ap (λ it. it ∷ old.history) (sym same)

-- a turn that made an entry
turn-in : (standing : Standing) (old new : CoreValue) → standing ≡ Settled → IsNextTurn standing (Ok Moved) old new → IsTurn (next_of old.script old.history) Moved old new
turn-in Settled old new settled turn = turn.1
turn-in (Needed need) old new settled turn = cc
turn-in (Asked hearer call origin) old new settled turn = cc

told-turn : (leaving : List Who) (old new : CoreValue) → old.standing ≡ Settled → IsToldTurn leaving (Ok Moved) old new → IsTurn (next_of old.script old.history) Moved old new
told-turn [] old new settled turn = turn-in old.standing old new settled turn
told-turn (who ∷ others) old new settled turn = cc

-- an entry of a core that was made again after some ended sequences were told
pub repeated : (begun old new : CoreValue) (entry : Entry) (word : ℕ) (words left : List ℕ) → begun.standing ≡ Settled → IsNext begun.script begun.history entry → old ≡ record begun { leaving = old.leaving }
    → words ≡ word ∷ [] → IfSome (word_in (entry ∷ [])) (λ it. word ≡ it) → IsToldTurn old.leaving (Ok Moved) old new → IsDrawn stream_from (word_in new.history) words left
    → new.history ≡ entry ∷ begun.history
repeated begun old new entry word words left settled next same begin known told drawn =
    let turn : IsTurn (next_of old.script old.history) Moved old new = told-turn old.leaving old new (ap (λ (core : CoreValue). core.standing) same ∙ settled) told in
    let allowed : IsNext old.script old.history entry = subst (λ (core : CoreValue). IsNext core.script core.history entry) (sym same) next in
    moved-as (next_of old.script old.history) entry old new word left allowed turn known (subst (λ it. IsDrawn stream_from (word_in new.history) it left) begin drawn)
    ∙ ap (λ (core : CoreValue). entry ∷ core.history) same
