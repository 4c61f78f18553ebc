-- The log of a run over objects that are functions of their calls is determined.
use Rattle.bench_run.proofs.Common.{◌≡◌, ◌≢◌, ◌∙◌, ◌<◌, ◌≤◌, ℕ, zero, suc, true, false, List, [], ◌∷◌, ◌++◌, length, get_or, nat_le, Option, Some, None, inl, inr, refl, sym, ap, subst, arith, nat_tests, All-contains, Contains-get_or, IsDistinct-head, IsDistinct-tail, same_Some, ◌==◌, ◌⊎◌, All, Contains, is_some, IsDistinct, cons_option, keys_of, Stream, next_u64, Origin, Who, Call, Act, Made, Started, Entry, Did, Granted, Heard, Exchange, IsHonest, Says, View, exchanged_in, life_of, same_who, ScriptValue, Next, Exactly, Answer, Grant, Nothing, Allows, EachIsNext, next_of, NothingAfterOver, log_limit, types_made, NobodyIsMadeTwice, word_in, HasWordsOf, stream_after, words_drawn, log_words, AreMade, HasLived, HaveLived, IsFilled, IsGiven, IsHonestBetween, IsUnknown, first_of, AllowsOneAtMost, IsSpent, IsRunLog, RunsAreFunctions, Bool, IfSome, Need}
use Rattle.uvm_object.specs.declared.entries.Grant as entries
use Rattle.bench_run.proofs.Lives.{All-from_recursion, contains-key, heard-same, same_who-self}

-- ---- the words of an older part of a log

words-tail : (words : Stream) (drawn : Option ℕ) (older : List ℕ) → cons_option drawn older ≡ words_drawn (length (cons_option drawn older)) words → older ≡ words_drawn (length older) words
words-tail words None older is = is
words-tail words (Some word) older is = cc

words-older : (words : Stream) (entry : Entry) (history : List Entry) → HasWordsOf words (entry ∷ history) → HasWordsOf words history
words-older words entry history is = words-tail words (word_in (entry ∷ history)) (log_words history) is

-- the word of a grant is the next one
word-next : (words : Stream) (word : ℕ) (older : List ℕ) → (word ∷ older) ≡ words_drawn (length (word ∷ older)) words → word ≡ (next_u64 (stream_after (length older) words)).0
word-next words word older is = cc

-- ---- who was made, in an older part

-- an entry makes no component or sequence, or one
made-before : (script : ScriptValue) (entry : Entry) (history : List Entry)
    → (types_made script (entry ∷ history) ≡ types_made script history) ⊎ ((made : Who × List ℕ) × (types_made script (entry ∷ history) ≡ made ∷ types_made script history))
made-before script (Did performer (Made type_name) act) history = inr (_, refl)
made-before script (Did performer (Started id) act) history = inr (_, refl)
made-before script (Did performer outcome act) history = inl refl
made-before script entry history = inl refl

same_who-one : (who other : Who) → who ≡ other → same_who who other ≡ true
same_who-one who other same = subst (λ other. same_who who other ≡ true) same (same_who-self who)

-- who was named before is not the one who was made then
named-before : (made : Who × List ℕ) (types : List (Who × List ℕ)) (who : Who) (type_name : List ℕ) → IsDistinct same_who (keys_of (made ∷ types)) → Contains (keys_of types) who → Contains (made ∷ types) (who, type_name)
    → Contains types (who, type_name)
named-before made types who type_name distinct named there = go there.0 there.1 there.2
  where
    apart : All (λ other. same_who made.0 other ≡ false) (keys_of types)
    apart = All-from_recursion (λ other. same_who made.0 other ≡ false) (keys_of types) (IsDistinct-head same_who made.0 (keys_of types) distinct)

    go : (k : ℕ) → k < length (made ∷ types) → get_or (made ∷ types) k (who, type_name) ≡ (who, type_name) → Contains types (who, type_name)
    go zero within is =
        let same : made.0 ≡ who = ap (λ (m : Who × List ℕ). m.0) is in
        let one = same_who-one made.0 who same in
        let other : same_who made.0 who ≡ false = All-contains (λ other. same_who made.0 other ≡ false) (keys_of types) who apart named in
        absurd (let bad : true ≡ false = sym one ∙ other in cc)
    go (suc k) within is = (k, omega (arith, within), is)

-- one was made of one type
one-type : (types : List (Who × List ℕ)) (who : Who) (type_name other : List ℕ) → IsDistinct same_who (keys_of types) → Contains types (who, type_name) → Contains types (who, other) → other ≡ type_name
one-type [] who type_name other distinct one two = let low = one.1 in absurd (omega (arith, low))
one-type (made ∷ types) who type_name other distinct one two = go (one-type types who type_name other (IsDistinct-tail same_who made.0 (keys_of types) distinct)) one.0 two.0 one.1 two.1 one.2 two.2
  where
    apart : All (λ other. same_who made.0 other ≡ false) (keys_of types)
    apart = All-from_recursion (λ other. same_who made.0 other ≡ false) (keys_of types) (IsDistinct-head same_who made.0 (keys_of types) distinct)

    no-more : (name : List ℕ) → made.0 ≡ who → Contains types (who, name) → ⊥
    no-more name same there =
        let is : same_who made.0 who ≡ true = same_who-one made.0 who same in
        let is_not : same_who made.0 who ≡ false = All-contains (λ other. same_who made.0 other ≡ false) (keys_of types) who apart (contains-key types (who, name) there) in
        let bad : true ≡ false = sym is ∙ is_not in cc

    go : (Contains types (who, type_name) → Contains types (who, other) → other ≡ type_name) → (j k : ℕ) → j < length (made ∷ types) → k < length (made ∷ types)
        → get_or (made ∷ types) j (who, type_name) ≡ (who, type_name) → get_or (made ∷ types) k (who, other) ≡ (who, other) → other ≡ type_name
    go rest zero zero low high is are = sym (ap (λ (m : Who × List ℕ). m.1) are) ∙ ap (λ (m : Who × List ℕ). m.1) is
    go rest zero (suc k) low high is are = absurd (no-more other (ap (λ (m : Who × List ℕ). m.0) is) (k, omega (arith, high), are))
    go rest (suc j) zero low high is are = absurd (no-more type_name (ap (λ (m : Who × List ℕ). m.0) are) (j, omega (arith, low), is))
    go rest (suc j) (suc k) low high is are = rest (j, omega (arith, low), is) (k, omega (arith, high), are)

-- ---- lives

-- an older part of an honest life is honest, from the same view
honest-older : (newer : List Exchange) (says : Says) (first last : View) (life : List Exchange) → IsHonestBetween says first last (newer ++ life) → (before : View) × IsHonestBetween says first before life
honest-older [] says first last life honest = (last, honest)
honest-older (exchange ∷ newer) says first last life honest = go (λ before was. honest-older newer says first before life was) honest.earlier honest.begins honest.honest
  where
    go : ((before : View) → IsHonestBetween says first before (newer ++ life) → (before : View) × IsHonestBetween says first before life)
        → (earlier : List View) → first_of last earlier ≡ first → IsHonest says (last ∷ earlier) ((exchange ∷ newer) ++ life) → (before : View) × IsHonestBetween says first before life
    go rest [] begins honest = absurd honest
    go rest (before ∷ earlier) begins honest = rest before (record { earlier = earlier; begins = begins; honest = honest.1 })

module _ (says : Says) (one : (before : View) (call : Call) → AllowsOneAtMost (says before call)) where
  -- an honest life leads to one view
  same-view : (life : List Exchange) (first u v : View) (us vs : List View) → first_of u us ≡ first → first_of v vs ≡ first → IsHonest says (u ∷ us) life → IsHonest says (v ∷ vs) life → v ≡ u
  same-view [] first u v [] [] begins began honest also = began ∙ sym begins
  same-view [] first u v (x ∷ us) vs begins began honest also = absurd honest
  same-view [] first u v [] (y ∷ vs) begins began honest also = absurd also
  same-view (exchange ∷ life) first u v [] vs begins began honest also = absurd honest
  same-view (exchange ∷ life) first u v (x ∷ us) [] begins began honest also = absurd also
  same-view (exchange ∷ life) first u v (x ∷ us) (y ∷ vs) begins began honest also =
      let before : y ≡ x = same-view life first x y us vs begins began honest.1 also.1 in
      (one x exchange.0 exchange.1 exchange.1 u v honest.0 (subst (λ w. says w exchange.0 exchange.1 v) before also.0)).1

  -- and a call of it to one answer
  same-acts : (call : Call) (acts others : List Act) (life : List Exchange) (first u v : View) → IsHonestBetween says first u ((call, acts) ∷ life) → IsHonestBetween says first v ((call, others) ∷ life) → others ≡ acts
  same-acts call acts others life first u v honest also = go honest.earlier also.earlier honest.begins also.begins honest.honest also.honest
    where
      go : (us vs : List View) → first_of u us ≡ first → first_of v vs ≡ first → IsHonest says (u ∷ us) ((call, acts) ∷ life) → IsHonest says (v ∷ vs) ((call, others) ∷ life) → others ≡ acts
      go [] vs begins began honest also = absurd honest
      go (x ∷ us) [] begins began honest also = absurd also
      go (x ∷ us) (y ∷ vs) begins began honest also =
          let before : y ≡ x = same-view life first x y us vs begins began honest.1 also.1 in
          (one x call acts others u v honest.0 (subst (λ w. says w call others v) before also.0)).0

-- ---- grants

abbrev grant-of : ℕ → Option ℕ → entries.Grant
grant-of id word = record { id = id; word = word }

same-word : (words : Stream) (drawn : Bool) (older : List ℕ) (word other : Option ℕ) → is_some word ≡ drawn → is_some other ≡ drawn
    → cons_option word older ≡ words_drawn (length (cons_option word older)) words → cons_option other older ≡ words_drawn (length (cons_option other older)) words → other ≡ word
same-word words drawn older None None is are from also = refl
same-word words drawn older None (Some y) is are from also = absurd (let bad : true ≡ false = are ∙ sym is in cc)
same-word words drawn older (Some x) None is are from also = absurd (let bad : true ≡ false = is ∙ sym are in cc)
same-word words drawn older (Some x) (Some y) is are from also = ap Some (word-next words y older also ∙ sym (word-next words x older from))

-- ---- logs

asked-older : (script : ScriptValue) (entry : Entry) (history : List Entry) → AreMade script (entry ∷ history) → AreMade script history
asked-older script (Heard performer origin call acts) history made = made.1
asked-older script entry history made = made

module _ {O : Type 0} (view : O → View) (name : O → List ℕ) (says : O → Says) (over : NothingAfterOver) (twice : NobodyIsMadeTwice)
    (one : (object : O) (before : View) (call : Call) → AllowsOneAtMost (says object before call)) (given : List ℕ → Option O) (words : Stream) (script : ScriptValue) where
  abbrev Makes : List ℕ → Option O → Type 0
  Makes type_name object = object ≡ given type_name

  abbrev Lived : List Entry → Who → Type 0
  Lived = HasLived view name says Makes script

  abbrev Log : List Entry → Type 0
  Log = IsRunLog view name says given words script

  -- who has lived had lived before the newest entry
  lived-older : (entry : Entry) (history : List Entry) → EachIsNext script (entry ∷ history) → HaveLived view name says Makes script (entry ∷ history) → (who : Who) → Contains (keys_of (types_made script history)) who → Lived history who
  lived-older entry history each lived who named = go (made-before script entry history)
    where
      from : (was : Lived (entry ∷ history) who) → Contains (types_made script history) (who, was.type_name) → Lived history who
      from was made =
          let before = honest-older (exchanged_in who entry) (says was.object) (view was.object) was.last (life_of who history) was.honest in
          record { type_name = was.type_name; made = made; object = was.object; given = was.given; last = before.0; honest = before.1 }

      go : (types_made script (entry ∷ history) ≡ types_made script history) ⊎ ((made : Who × List ℕ) × (types_made script (entry ∷ history) ≡ made ∷ types_made script history)) → Lived history who
      go (inl same) =
          let was : Lived (entry ∷ history) who = All-contains (Lived (entry ∷ history)) (keys_of (types_made script (entry ∷ history))) who lived.lived (subst (λ all. Contains (keys_of all) who) (sym same) named) in
          from was (subst (λ all. Contains all (who, was.type_name)) same was.made)
      go (inr more) =
          let was : Lived (entry ∷ history) who = All-contains (Lived (entry ∷ history)) (keys_of (types_made script (entry ∷ history))) who lived.lived
          (subst (λ all. Contains (keys_of all) who) (sym more.1) (suc named.0, omega (arith, named.1), named.2)) in
          from was (named-before more.0 (types_made script history) who was.type_name (subst (λ all. IsDistinct same_who (keys_of all)) more.1 (twice script (entry ∷ history) each).distinct) named
          (subst (λ all. Contains all (who, was.type_name)) more.1 was.made))

  -- a log of a run without its newest entry is one
  log-older : (entry : Entry) (history : List Entry) → Log (entry ∷ history) → Log history
  log-older entry history log = record {
    legal = record { each = log.legal.each.1; few = let few : suc (length history) ≤ log_limit script = log.legal.few in omega (arith, few) };
    drawn = words-older words entry history log.drawn;
    objects = record {
      filled = log.objects.filled.1;
      asked = asked-older script entry history log.objects.asked;
      lived = λ k d h. lived-older entry history log.legal.each log.objects (get_or (keys_of (types_made script history)) k d) (Contains-get_or (keys_of (types_made script history)) k d h);
    };
  }

  -- whoever is asked gives one answer
  same-answer : (history : List Entry) (hearer : Who) (call : Call) (origin : Option Origin) (acts others : List Act) → Log (Heard hearer origin call acts ∷ history) → Log (Heard hearer origin call others ∷ history) → others ≡ acts
  same-answer history hearer call origin acts others log other = answers (All-contains (Lived (Heard hearer origin call acts ∷ history)) (keys_of (types_made script history)) hearer log.objects.lived log.objects.asked.0)
      (All-contains (Lived (Heard hearer origin call others ∷ history)) (keys_of (types_made script history)) hearer other.objects.lived other.objects.asked.0)
    where
      answers : Lived (Heard hearer origin call acts ∷ history) hearer → Lived (Heard hearer origin call others ∷ history) hearer → others ≡ acts
      answers lives also =
          let type_is : also.type_name ≡ lives.type_name = one-type (types_made script history) hearer lives.type_name also.type_name (twice script history log.legal.each.1).distinct lives.made also.made in
          let object_is : also.object ≡ lives.object = same_Some also.object lives.object (also.given.gives ∙ ap given type_is ∙ sym lives.given.gives) in
          same-acts (says lives.object) (one lives.object) call acts others (life_of hearer history) (view lives.object) lives.last also.last
          (subst (IsHonestBetween (says lives.object) (view lives.object) lives.last) (heard-same hearer call origin acts history) lives.honest)
          (subst (λ (o : O). IsHonestBetween (says o) (view o) also.last ((call, others) ∷ life_of hearer history)) object_is
          (subst (IsHonestBetween (says also.object) (view also.object) also.last) (heard-same hearer call origin others history) also.honest))

  -- an object is given, or it is not
  clash : (type_name : List ℕ) (object : O) → IsGiven view name says Makes type_name object → IsUnknown view name says Makes type_name → ⊥
  clash type_name object gave unknown =
      let same : unknown.given ≡ Some object = unknown.gives ∙ sym gave.gives in
      (subst (λ (g : Option O). IfSome g (λ object. name object ≢ type_name)) same unknown.none) gave.named

  -- the word and the mode determine a grant
  same-grant : (history : List Entry) (sequencer : ℕ) (drawn : Bool) (chosen : Option ℕ → Option ℕ) (grant other : entries.Grant) → Log (Granted sequencer grant ∷ history) → Log (Granted sequencer other ∷ history)
      → is_some grant.word ≡ drawn → is_some other.word ≡ drawn → chosen grant.word ≡ Some grant.id → chosen other.word ≡ Some other.id → other ≡ grant
  same-grant history sequencer drawn chosen grant other log also is are by by_other =
      let word_is : other.word ≡ grant.word = same-word words drawn (log_words history) grant.word other.word is are log.drawn also.drawn in
      let id_is : other.id ≡ grant.id = same_Some other.id grant.id (sym by_other ∙ ap chosen word_is ∙ by) in
      ap (λ id. grant-of id other.word) id_is ∙ ap (grant-of grant.id) word_is

  -- one entry comes next
  same-entry : (history : List Entry) (entry other : Entry) → Log (entry ∷ history) → Log (other ∷ history) → other ≡ entry
  same-entry history entry other log also = go (next_of script history) log.legal.each.0 also.legal.each.0 log.objects.filled.0 also.objects.filled.0
    where
      go : (comes : Next) → Allows comes entry → Allows comes other → IsFilled view name says Makes comes entry → IsFilled view name says Makes comes other → other ≡ entry
      go (Exactly expected) is are filled fills = are ∙ sym is
      go (Answer hearer call origin) is are filled fills =
          are.1 ∙ ap (Heard hearer origin call) (same-answer history hearer call origin is.0 are.0 (subst (λ (e : Entry). Log (e ∷ history)) is.1 log) (subst (λ (e : Entry). Log (e ∷ history)) are.1 also)) ∙ sym is.1
      go (Need need made performer act) is are (inl filled) (inl fills) = fills.0 ∙ sym filled.0
      go (Need need made performer act) is are (inr filled) (inr fills) = fills.0 ∙ sym filled.0
      go (Need need made performer act) is are (inl filled) (inr fills) = absurd (clash need.type_name filled.1 filled.2 fills.1)
      go (Need need made performer act) is are (inr filled) (inl fills) = absurd (clash need.type_name fills.1 fills.2 filled.1)
      go (Grant sequencer drawn chosen) is are filled fills =
          are.3 ∙ ap (Granted sequencer) (same-grant history sequencer drawn chosen is.0 are.0 (subst (λ (e : Entry). Log (e ∷ history)) is.3 log) (subst (λ (e : Entry). Log (e ∷ history)) are.3 also) is.1 are.1 is.2 are.2) ∙ sym is.3
      go Nothing is are filled fills = absurd is

  -- logs of one length are one
  agree : (first second : List Entry) → Log first → Log second → length first ≡ length second → second ≡ first
  agree [] [] log also same = refl
  agree [] (other ∷ second) log also same = absurd (omega (arith, same))
  agree (entry ∷ first) [] log also same = absurd (omega (arith, same))
  agree (entry ∷ first) (other ∷ second) log also same =
      let older : second ≡ first = agree first second (log-older entry first log) (log-older other second also) (omega (arith, same)) in
      let next : other ≡ entry = same-entry first entry other log (subst (λ history. Log (other ∷ history)) older also) in
      ap (λ e. e ∷ second) next ∙ ap (λ history. entry ∷ history) older

  -- nothing follows one that has ended
  ended-first : (first : List Entry) → Log first → IsSpent script first → (other : Entry) → Log (other ∷ first) → ⊥
  ended-first first log (inl ended) other more = let none = over script first ended in subst (λ comes. Allows comes other) none more.legal.each.0
  ended-first first log (inr full) other more = let few : suc (length first) ≤ log_limit script = more.legal.few in absurd (omega (arith, few, full))

  -- a longer one, or one as long, is the same
  ended-same : (second first : List Entry) → Log first → IsSpent script first → Log second → length first ≤ length second → second ≡ first
  ended-same [] first log ended also short = agree first [] log also (omega (arith, short))
  ended-same (other ∷ second) first log ended also short = go (λ within. ended-same second first log ended (log-older other second also) within) (length first == suc (length second)) refl
    where
      go : (length first ≤ length second → second ≡ first) → (same : Bool) → (length first == suc (length second)) ≡ same → (other ∷ second) ≡ first
      go rest true is = agree first (other ∷ second) log also (grind (arith, nat_tests, is))
      go rest false is =
          let within : length first ≤ length second = grind (arith, nat_tests, is, short) in
          absurd (ended-first first log ended other (subst (λ history. Log (other ∷ history)) (rest within) also))

  both-ended : (first second : List Entry) → Log first → Log second → IsSpent script first → IsSpent script second → second ≡ first
  both-ended first second log also ended ends = go (nat_le (length first) (length second)) refl
    where
      go : (short : Bool) → nat_le (length first) (length second) ≡ short → second ≡ first
      go true is = ended-same second first log ended also (grind (arith, nat_tests, is))
      go false is = sym (ended-same first second also ends log (grind (arith, nat_tests, is)))

pub runs-are-functions : {O : Type 0} (view : O → View) (name : O → List ℕ) (says : O → Says) → NothingAfterOver → NobodyIsMadeTwice → RunsAreFunctions view name says
runs-are-functions view name says over twice one given words script first second log also ended ends = both-ended view name says over twice one given words script first second log also ended ends
