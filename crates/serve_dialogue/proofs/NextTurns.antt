-- What a turn of the machine says of what comes next.
use Rattle.serve_dialogue.proofs.Common.{◌≡◌, ◌∙◌, ℕ, Bool, true, false, List, [], ◌∷◌, ◌++◌, Option, Some, Ok, filter, if◌then◌else◌, refl, sym, ap, subst, arith, flat_map, Who, Call, Entry, Origin, ScriptValue, is_over, need_in, next_of, leaving_of, Asked, CoreValue, IsNextTurn, IsToldTurn, IsTurn, Needed, Standing, core_after, count_after, TypeValue, SeatsValue, AreMarkedLines, IsTold, answer_of, asked_in, back_line, backs_of, is_clients, lines_of, new_if, new_in, question_in, says_made, AreSeated, IsByScript, client_next, is_scripted, left_to_client, SeatsFollow, Spoken, answered, said, AsksNext, Grows, Halts, HasEndedRun, ServeError, append-nil, Nothing}
use Rattle.bench_history.specs.declared.needs.Need as declared
use Rattle.bench_history.specs.Cases as next
use Rattle.bench_core.specs.declared.cores.Turn as turn
use Rattle.serve_dialogue.proofs.Marked.{marked-none}

-- no sequence is told by this turn
abbrev pub IsNoLeave : turn.Turn → Type 0
IsNoLeave (turn.TheVariants.Leave who) = ⊥
IsNoLeave result = Unit {0}

-- then all were told, and it is the turn of what comes next
pub all_told : (leaving : List Who) (result : turn.Turn) (old new : CoreValue) → IsNoLeave result → old.standing ≡ Nothing → IsToldTurn leaving (Ok result) old new
    → (leaving ≡ []) × IsTurn (next_of old.script old.history) result old new
all_told [] result old new other nothing told =
    let bare : IsNextTurn Nothing (Ok result) old new = subst (λ standing. IsNextTurn standing (Ok result) old new) nothing told in
    (refl, bare.1)
all_told (first ∷ others) result old new other nothing told =
    let same : result ≡ turn.TheVariants.Leave first = cc in
    absurd (subst IsNoLeave same other)

-- an entry that was made with nothing asked
pub record IsMoved (comes : next.Next) (old new : CoreValue) : Type 0 where
  pub entry : Entry
  pub is : new ≡ core_after entry old
  pub unasked : (history : List Entry) → question_in history comes ≡ []
  pub unanswered : answer_of comes entry ≡ []
  pub no_lines : lines_of comes entry ≡ 0
  pub no_object : (before : List Entry) → new_in entry before comes ≡ []
  pub told : IsTold comes entry
  pub clients : (answers : List TypeValue) (script : ScriptValue) (history : List Entry) → left_to_client (is_scripted answers script history comes) comes ≡ comes
  pub unscripted : (answers : List TypeValue) (script : ScriptValue) (before : List Entry) → IsByScript answers script before comes entry
  pub seats : (history : List Entry) (old new : SeatsValue) → new ≡ old → SeatsFollow history comes old new

nobody : (said : Bool) (one entry : Entry) (before : List Entry) → new_if said entry before (next.Exactly one) ≡ []
nobody true one entry before = refl
nobody false one entry before = refl

nobody-granted : (said : Bool) (entry : Entry) (before : List Entry) (sequencer : ℕ) (drawn : Bool) (chosen : Option ℕ → Option ℕ) → new_if said entry before (next.Grant sequencer drawn chosen) ≡ []
nobody-granted true entry before sequencer drawn chosen = refl
nobody-granted false entry before sequencer drawn chosen = refl

pub moved-turn : (comes : next.Next) (old new : CoreValue) → IsTurn comes turn.TheVariants.Moved old new → IsMoved comes old new
moved-turn (next.Exactly entry) old new told =
    record { entry = entry; is = told.1; unasked = λ history. refl; unanswered = refl; no_lines = refl; no_object = λ before. nobody (says_made entry) entry entry before; told = tt; clients = λ answers script history. refl; unscripted = λ answers script before. tt; seats = λ history old new same. same }
moved-turn (next.Answer hearer call origin) old new told = cc
moved-turn (next.Grant sequencer drawn chosen) old new told =
    record {
      entry = told.1;
      is = told.3;
      unasked = λ history. refl;
      unanswered = refl;
      no_lines = refl;
      no_object = λ before. nobody-granted (says_made told.1) told.1 before sequencer drawn chosen;
      told = tt;
      clients = λ answers script history. refl;
      unscripted = λ answers script before. tt;
      seats = λ history old new same. same;
    }
moved-turn (next.Need need made performer act) old new told = cc
moved-turn next.Nothing old new told = cc

-- an object is needed
pub record IsNeeded (comes : next.Next) (old new : CoreValue) : Type 0 where
  pub need : declared.Need
  pub comes_in : need_in comes ≡ Some need
  pub is : new ≡ record old { standing = Needed need }

pub need-turn : (comes : next.Next) (old new : CoreValue) → IsTurn comes turn.TheVariants.Need old new → IsNeeded comes old new
need-turn (next.Exactly entry) old new told = cc
need-turn (next.Answer hearer call origin) old new told = cc
need-turn (next.Grant sequencer drawn chosen) old new told = cc
need-turn (next.Need need made performer act) old new told = record { need = need; comes_in = refl; is = told.1 }
need-turn next.Nothing old new told = cc

-- a component or a sequence is asked
pub record IsAskedOf (who : Who) (comes : next.Next) (old new : CoreValue) : Type 0 where
  pub call : Call
  pub origin : Option Origin
  pub comes_is : comes ≡ next.Answer who call origin
  pub is : new ≡ record old { standing = Asked who call origin }

pub ask-turn : (who : Who) (comes : next.Next) (old new : CoreValue) → IsTurn comes (turn.TheVariants.Ask who) old new → IsAskedOf who comes old new
ask-turn who (next.Exactly entry) old new told = cc
ask-turn who (next.Answer hearer call origin) old new told =
    let same : who ≡ hearer = cc in
    record { call = call; origin = origin; comes_is = ap (λ w. next.Answer w call origin) (sym same); is = told.1 ∙ ap (λ w. record old { standing = Asked w call origin }) (sym same) }
ask-turn who (next.Grant sequencer drawn chosen) old new told = cc
ask-turn who (next.Need need made performer act) old new told = cc
ask-turn who next.Nothing old new told = cc

-- the notices of those that are still to be told
abbrev pub notices_of : List TypeValue → CoreValue → List Who → List ℕ
notices_of answers core leaving = flat_map (back_line core.history) (filter (is_clients answers core.script core.history) leaving)

-- once all are told, and nothing is asked of the client, their notices are what is asked
all_asked : (answers : List TypeValue) (core : CoreValue) (leaving : List Who) (text : List ℕ) → leaving ≡ [] → text ++ notices_of answers core leaving ≡ backs_of answers core.script core.history
    → question_in core.history (client_next answers core.script core.history) ≡ [] → text ≡ asked_in answers core.script core.history
all_asked answers core leaving text none notices unasked =
    sym (append-nil text) ∙ (ap (λ (all : List Who). text ++ notices_of answers core all) (sym none) ∙ (notices ∙ (sym (append-nil (backs_of answers core.script core.history)) ∙ ap (λ question. backs_of answers core.script core.history ++ question) (sym unasked))))

-- the run is over only if nothing comes
over-turn : (comes : next.Next) (old new : CoreValue) → IsTurn comes turn.TheVariants.Over old new → (comes ≡ next.Nothing) × (new ≡ old)
over-turn (next.Exactly entry) old new told = cc
over-turn (next.Answer hearer call origin) old new told = cc
over-turn (next.Grant sequencer drawn chosen) old new told = cc
over-turn (next.Need need made performer act) old new told = cc
over-turn next.Nothing old new told = (refl, told.1)

-- a turn that tells of a sequence tells of the first of those that are still to be told
never-leaves : (comes : next.Next) (who : Who) (old new : CoreValue) → IsTurn comes (turn.TheVariants.Leave who) old new → ⊥
never-leaves (next.Exactly entry) who old new told = cc
never-leaves (next.Answer hearer call origin) who old new told = cc
never-leaves (next.Grant sequencer drawn chosen) who old new told = cc
never-leaves (next.Need need made performer act) who old new told = cc
never-leaves next.Nothing who old new told = cc

pub record IsTold1 (leaving : List Who) (who : Who) (old new : CoreValue) : Type 0 where
  pub others : List Who
  pub first : leaving ≡ who ∷ others
  pub is : new ≡ record old { leaving = others }

leave-turn : (leaving : List Who) (who : Who) (old new : CoreValue) → old.standing ≡ Nothing → IsToldTurn leaving (Ok (turn.TheVariants.Leave who)) old new → IsTold1 leaving who old new
leave-turn [] who old new nothing told =
    let bare : IsNextTurn Nothing (Ok (turn.TheVariants.Leave who)) old new = subst (λ standing. IsNextTurn standing (Ok (turn.TheVariants.Leave who)) old new) nothing told in
    absurd (never-leaves (next_of old.script old.history) who old new bare.1)
leave-turn (first ∷ others) who old new nothing told =
    let same : first ≡ who = cc in
    record { others = others; first = ap (λ (one : Who). one ∷ others) same; is = told.1 }

-- then the newest entry has ended a sequence, if that is the client's
some-text : (text : List ℕ) (byte : ℕ) (more : List ℕ) → text ++ byte ∷ more ≡ [] → ⊥
some-text [] byte more none = cc
some-text (b ∷ text) byte more none = cc

pub leaver_left : (answers seats_answers : List TypeValue) (core half new : CoreValue) (who : Who) (text : List ℕ) → seats_answers ≡ answers → half ≡ record core { leaving = half.leaving } → core.standing ≡ Nothing
    → IsToldTurn half.leaving (Ok (turn.TheVariants.Leave who)) half new → text ++ notices_of answers core half.leaving ≡ backs_of answers core.script core.history
    → is_clients seats_answers new.script new.history who ≡ true → leaving_of core.history ≡ [] → ⊥
leaver_left answers seats_answers core half new who text same is nothing told notices clients none =
    let one = leave-turn half.leaving who half new (ap (λ (c : CoreValue). c.standing) is ∙ nothing) told in
    let new_is : new ≡ record core { leaving = one.others } = one.is ∙ ap (λ (c : CoreValue). record c { leaving = one.others }) is in
    let mine : is_clients answers core.script core.history who ≡ true =
    subst (λ (a : List TypeValue). is_clients a core.script core.history who ≡ true) same (subst (λ (c : CoreValue). is_clients seats_answers c.script c.history who ≡ true) new_is clients) in
    let first : text ++ notices_of answers core (who ∷ one.others) ≡ backs_of answers core.script core.history = subst (λ (all : List Who). text ++ notices_of answers core all ≡ backs_of answers core.script core.history) one.first notices in
    let ended : backs_of answers core.script core.history ≡ [] = ap (λ (all : List Who). flat_map (back_line core.history) (filter (is_clients answers core.script core.history) all)) none in
    let shown : notices_of answers core (who ∷ one.others) ≡ back_line core.history who ++ notices_of answers core one.others =
    ap (λ b. flat_map (back_line core.history) (if b then who ∷ filter (is_clients answers core.script core.history) one.others else filter (is_clients answers core.script core.history) one.others)) mine in
    some-text text 33 _ (ap (λ t. text ++ t) (sym shown) ∙ (first ∙ ended))

-- so many lines are as many, if there is none more
count-none : (count : ℕ) → count ≡ count_after count 0
count-none count = omega arith

module _ {C : Type 0} (spoke : C → C → List Spoken → Type 0) (ended : C → C → Type 0) (line : C → ℕ) (answers : List TypeValue) where
  -- one more entry, with nothing asked
  pub moved_grows : (core half new : CoreValue) (client between client' : C) (text left : List ℕ) → half ≡ record core { leaving = half.leaving } → text ++ notices_of answers core half.leaving ≡ backs_of answers core.script core.history
      → AreMarkedLines text → between ≡ client → core.standing ≡ Nothing → IsToldTurn half.leaving (Ok turn.TheVariants.Moved) half new → spoke between client' (said text) → line client' ≡ line between → left ≡ []
      → Grows spoke ended line answers core new client client' left
  moved_grows core half new client between client' text left is notices marks same nothing told talk still none =
      let now = all_told half.leaving turn.TheVariants.Moved half new tt (ap (λ (c : CoreValue). c.standing) is ∙ nothing) told in
      let moved : IsMoved (next_of core.script core.history) (record core { leaving = half.leaving }) new =
      moved-turn (next_of core.script core.history) _ new (subst (λ (c : CoreValue). IsTurn (next_of c.script c.history) turn.TheVariants.Moved c new) is now.1) in
      let clients : client_next answers core.script core.history ≡ next_of core.script core.history = moved.clients answers core.script core.history in
      let unasked : question_in core.history (client_next answers core.script core.history) ≡ [] = ap (question_in core.history) clients ∙ moved.unasked core.history in
      let asked : text ≡ asked_in answers core.script core.history = all_asked answers core half.leaving text now.0 notices unasked in
      let talk' : spoke client client' (said (asked_in answers core.script core.history)) = subst (λ t. spoke client client' (said t)) asked (subst (λ c. spoke c client' (said text)) same talk) in
      let unanswered : answer_of (client_next answers core.script core.history) moved.entry ≡ [] = ap (λ (c : next.Next). answer_of c moved.entry) clients ∙ moved.unanswered in
      record {
        entry = moved.entry;
        is = moved.is;
        talk = subst (spoke client client') (sym (append-nil (said (asked_in answers core.script core.history))) ∙ ap (λ answer. said (asked_in answers core.script core.history) ++ answered answer) (sym unanswered)) talk';
        asks = subst AreMarkedLines asked marks;
        left_is = none ∙ sym (ap (new_in moved.entry core.history) clients ∙ moved.no_object core.history);
        notes = subst AreMarkedLines (sym none) marked-none;
        lines = still ∙ (ap line same ∙ (count-none (line client) ∙ ap (count_after (line client)) (sym (ap (λ (c : next.Next). lines_of c moved.entry) clients ∙ moved.no_lines))));
        told = subst (λ (c : next.Next). IsTold c moved.entry) (sym clients) moved.told;
        by_script = moved.unscripted answers core.script core.history;
      }

  -- the run is over
  pub over_ends : (core half new : CoreValue) (client between client' : C) (text : List ℕ) → half ≡ record core { leaving = half.leaving } → text ++ notices_of answers core half.leaving ≡ backs_of answers core.script core.history
      → AreMarkedLines text → between ≡ client → core.standing ≡ Nothing → IsToldTurn half.leaving (Ok turn.TheVariants.Over) half new → is_over new.history ≡ true → spoke between client' (said text)
      → HasEndedRun spoke ended line answers core new client client'
  over_ends core half new client between client' text is notices marks same nothing told over talk =
      let now = all_told half.leaving turn.TheVariants.Over half new tt (ap (λ (c : CoreValue). c.standing) is ∙ nothing) told in
      let ends = over-turn (next_of half.script half.history) half new now.1 in
      let new_is : new ≡ record core { leaving = [] } = ends.1 ∙ (is ∙ ap (λ (all : List Who). record core { leaving = all }) now.0) in
      let comes : next_of core.script core.history ≡ next.Nothing = ap (λ (c : CoreValue). next_of c.script c.history) (sym is) ∙ ends.0 in
      let clients : client_next answers core.script core.history ≡ next.Nothing = ap (λ (c : next.Next). left_to_client (is_scripted answers core.script core.history c) c) comes in
      let asked : text ≡ asked_in answers core.script core.history = all_asked answers core half.leaving text now.0 notices (ap (question_in core.history) clients) in
      record {
        over = ap (λ (c : CoreValue). is_over c.history) (sym new_is) ∙ over;
        is = new_is;
        talk = subst (λ t. spoke client client' (said t)) asked (subst (λ c. spoke c client' (said text)) same talk);
        asks = subst AreMarkedLines asked marks;
      }

  -- one more entry, by what was asked next
  pub asked_grows : (core half between new : CoreValue) (client same_client client' : C) (left : List ℕ) (standing : Standing) → half ≡ record core { leaving = half.leaving } → between ≡ record half { standing = standing }
      → same_client ≡ client → Grows spoke ended line answers between new same_client client' left → Grows spoke ended line answers core new client client' left
  asked_grows core half between new client same_client client' left standing is asked same grown =
      let all : between ≡ record core { standing = standing; leaving = half.leaving } = asked ∙ ap (λ (c : CoreValue). record c { standing = standing }) is in
      let from : Grows spoke ended line answers (record core { standing = standing; leaving = half.leaving }) new client client' left =
      subst (λ (c : CoreValue). Grows spoke ended line answers c new client client' left) all (subst (λ c. Grows spoke ended line answers between new c client' left) same grown) in
      record { entry = from.entry; is = from.is; talk = from.talk; asks = from.asks; left_is = from.left_is; notes = from.notes; lines = from.lines; told = from.told; by_script = from.by_script }

-- an object is needed next
pub needs : (half new : CoreValue) → half.standing ≡ Nothing → IsToldTurn half.leaving (Ok turn.TheVariants.Need) half new → IsNeeded (next_of half.script half.history) half new
needs half new nothing told = need-turn (next_of half.script half.history) half new (all_told half.leaving turn.TheVariants.Need half new tt nothing told).1

-- a component or a sequence is asked next
pub asks : (who : Who) (half new : CoreValue) → half.standing ≡ Nothing → IsToldTurn half.leaving (Ok (turn.TheVariants.Ask who)) half new → IsAskedOf who (next_of half.script half.history) half new
asks who half new nothing told = ask-turn who (next_of half.script half.history) half new (all_told half.leaving (turn.TheVariants.Ask who) half new tt nothing told).1

pub asks_next : (who : Who) (half new : CoreValue) → IsAskedOf who (next_of half.script half.history) half new → AsksNext who new
asks_next who half new asked =
    record {
      call = asked.call;
      origin = asked.origin;
      stands = ap (λ (c : CoreValue). c.standing) asked.is;
      comes = ap (λ (c : CoreValue). next_of c.script c.history) asked.is ∙ asked.comes_is;
    }

-- what was asked next says what becomes of the seats
pub asked_follow : (core half between : CoreValue) (standing : Standing) (old same_old new : SeatsValue) → half ≡ record core { leaving = half.leaving } → between ≡ record half { standing = standing } → same_old ≡ old
    → SeatsFollow between.history (next_of between.script between.history) same_old new → SeatsFollow core.history (next_of core.script core.history) old new
asked_follow core half between standing old same_old new is asked same follow =
    let all : between ≡ record core { standing = standing; leaving = half.leaving } = asked ∙ ap (λ (c : CoreValue). record c { standing = standing }) is in
    subst (λ (c : CoreValue). SeatsFollow c.history (next_of c.script c.history) old new) all (subst (λ (s : SeatsValue). SeatsFollow between.history (next_of between.script between.history) s new) same follow)

-- nothing becomes of them if nothing was asked
pub moved_follow : (core half new : CoreValue) (old seats : SeatsValue) → half ≡ record core { leaving = half.leaving } → core.standing ≡ Nothing → IsToldTurn half.leaving (Ok turn.TheVariants.Moved) half new → seats ≡ old
    → SeatsFollow core.history (next_of core.script core.history) old seats
moved_follow core half new old seats is nothing told same =
    let now = all_told half.leaving turn.TheVariants.Moved half new tt (ap (λ (c : CoreValue). c.standing) is ∙ nothing) told in
    let moved : IsMoved (next_of core.script core.history) (record core { leaving = half.leaving }) new =
    moved-turn (next_of core.script core.history) _ new (subst (λ (c : CoreValue). IsTurn (next_of c.script c.history) turn.TheVariants.Moved c new) is now.1) in
    moved.seats core.history old seats same

-- the seats of what was asked next
pub asked_seated : (core half between : CoreValue) (standing : Standing) (old seats : SeatsValue) → half ≡ record core { leaving = half.leaving } → between ≡ record half { standing = standing } → seats ≡ old → AreSeated core.script core.history old
    → AreSeated between.script between.history seats
asked_seated core half between standing old seats is asked same seated =
    let all : between ≡ record core { standing = standing; leaving = half.leaving } = asked ∙ ap (λ (c : CoreValue). record c { standing = standing }) is in
    subst (λ (c : CoreValue). AreSeated c.script c.history seats) (sym all) (subst (AreSeated core.script core.history) (sym same) seated)

-- what was asked next halts as it does
pub asked_halts : {C : Type 0} (spoke : C → C → List Spoken → Type 0) (ended : C → C → Type 0) (line : C → ℕ) (answers same_answers : List TypeValue) (error : ServeError) (core half between : CoreValue) (standing : Standing) (client same_client client' : C)
    → half ≡ record core { leaving = half.leaving } → between ≡ record half { standing = standing } → same_answers ≡ answers → same_client ≡ client → Halts spoke ended line same_answers error between.script between.history same_client client'
    → Halts spoke ended line answers error core.script core.history client client'
asked_halts spoke ended line answers same_answers error core half between standing client same_client client' is asked same_a same_c halts =
    let all : between ≡ record core { standing = standing; leaving = half.leaving } = asked ∙ ap (λ (c : CoreValue). record c { standing = standing }) is in
    subst (λ (c : CoreValue). Halts spoke ended line answers error c.script c.history client client') all
    (subst (λ (a : List TypeValue). Halts spoke ended line a error between.script between.history client client') same_a (subst (λ c. Halts spoke ended line same_answers error between.script between.history c client') same_c halts))
