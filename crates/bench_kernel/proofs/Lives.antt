-- How the lives of the objects go on.
use Rattle.bench_kernel.proofs.Common.{◌≡◌, ◌≢◌, ℕ, true, false, List, [], ◌∷◌, get_or, Option, Some, None, Ok, Result, refl, sym, subst, arith, nat_tests, All-cons, All-head, All-tail, All-weaker, All-permutation, IsPermutation-map, IsPermutation-sym, IsDistinct-head, IsDistinct-IsPermutation, none-some, All, IsDistinct, IsPermutation, keys_of, AllocError, Origin, Who, Node, Sequence, Call, Act, Entry, Heard, View, Says, SameSays, Exchange, IsHonest, IsHonestNow, exchanged_in, life_of, same_who, IsAsked, LiveHonestly}
use Rattle.bench_kernel.proofs.Lists.{All-from_recursion, All-unmap}
use Rattle.bench_kernel.proofs.Numbers.{eq-flips, eq-self}

-- one and another are no two the other way round
pub same_who-flips : (who other : Who) → same_who who other ≡ same_who other who
same_who-flips (Node node) (Node other) = grind (arith, nat_tests)
same_who-flips (Sequence home id) (Sequence there other) = rw (eq-flips id other, eq-flips home there) refl
same_who-flips (Node node) (Sequence there other) = refl
same_who-flips (Sequence home id) (Node other) = refl

-- each is one with itself
pub same_who-self : (who : Who) → same_who who who ≡ true
same_who-self (Node node) = grind (arith, nat_tests)
same_who-self (Sequence home id) = rw (eq-self id, eq-self home) refl

-- views that are honest by a relation are so by the same one
IsHonest-same : (says others : Says) (views : List View) (life : List Exchange) → SameSays says others → IsHonest others views life → IsHonest says views life
IsHonest-same says others [] life same honest = honest
IsHonest-same says others (first ∷ []) [] same honest = honest
IsHonest-same says others (first ∷ []) (exchange ∷ life) same honest = honest
IsHonest-same says others (after ∷ before ∷ earlier) [] same honest = honest
IsHonest-same says others (after ∷ before ∷ earlier) (exchange ∷ life) same honest =
    ((same before exchange.0 exchange.1 after).1 honest.0, IsHonest-same says others (before ∷ earlier) life same honest.1)

-- one more exchange
IsHonestNow-more : (says others : Says) (before after : View) (call : Call) (acts : List Act) (life : List Exchange) → SameSays says others
    → others before call acts after → IsHonestNow others before life → IsHonestNow says after ((call, acts) ∷ life)
IsHonestNow-more says others before after call acts life same said honest =
    (before ∷ honest.0, ((same before call acts after).1 said, IsHonest-same says others (before ∷ honest.0) life same honest.1))

-- who was heard has one exchange more, and every other as many as before
heard-same : (performer : Who) (call : Call) (origin : Option Origin) (acts : List Act) (history : List Entry)
    → life_of performer (Heard performer origin call acts ∷ history) ≡ (call, acts) ∷ life_of performer history
heard-same performer call origin acts history = rw (same_who-self performer) refl

heard-other : (performer other : Who) (call : Call) (origin : Option Origin) (acts : List Act) (history : List Entry) → same_who performer other ≡ false
    → life_of other (Heard performer origin call acts ∷ history) ≡ life_of other history
heard-other performer other call origin acts history apart = rw apart refl

module _ {O : Type 0} (view : O → View) (name : O → List ℕ) (says : O → Says) where
  -- an object has lived what the log says, but for one that gave no answer
  abbrev Lives : Option Who → List Entry → Who × O → Type 0
  Lives unknown history seat = unknown ≢ Some seat.0 → IsHonestNow (says seat.1) (view seat.1) (life_of seat.0 history)

  -- who is asked is none of the others
  pub others-differ : (who : Who) (call : Call) (answer : Result (List Act) AllocError) (old new : List (Who × O)) (asked : IsAsked view name says who call answer old new) → IsDistinct same_who (keys_of old)
      → All (λ (seat : Who × O). same_who who seat.0 ≡ false) asked.others
  others-differ who call answer old new asked distinct =
      All-unmap (λ other. same_who who other ≡ false) (λ (seat : Who × O). seat.0) asked.others
      (All-from_recursion (λ other. same_who who other ≡ false) (keys_of asked.others)
      (IsDistinct-head same_who who (keys_of asked.others)
      (IsDistinct-IsPermutation same_who same_who-flips (keys_of old) (who ∷ keys_of asked.others)
      (IsPermutation-map (λ (seat : Who × O). seat.0) old ((who, asked.before) ∷ asked.others) (IsPermutation-sym ((who, asked.before) ∷ asked.others) old asked.was)) distinct)))

  -- an answer in the log is a step of the life of the object that gave it
  pub LiveHonestly-heard : (performer : Who) (call : Call) (origin : Option Origin) (acts : List Act) (old new : List (Who × O)) (history : List Entry)
      → IsAsked view name says performer call (Ok acts) old new → IsDistinct same_who (keys_of old) → LiveHonestly view says old None history
      → LiveHonestly view says new None (Heard performer origin call acts ∷ history)
  LiveHonestly-heard performer call origin acts old new history asked distinct honest =
      let were : All (Lives None history) ((performer, asked.before) ∷ asked.others) = All-permutation (Lives None history) old ((performer, asked.before) ∷ asked.others) (IsPermutation-sym ((performer, asked.before) ∷ asked.others) old asked.was) honest in
      let was = All-head (Lives None history) (performer, asked.before) asked.others were (λ n. none-some performer n) in
      let rest = All-tail (Lives None history) (performer, asked.before) asked.others were in
      let apart = others-differ performer call (Ok acts) old new asked distinct in
      All-permutation (Lives None (Heard performer origin call acts ∷ history)) ((performer, asked.after) ∷ asked.others) new asked.is
      (All-cons (Lives None (Heard performer origin call acts ∷ history)) (performer, asked.after) asked.others
      (λ known.
      subst (λ l. IsHonestNow (says asked.after) (view asked.after) l) (sym (heard-same performer call origin acts history))
      (IsHonestNow-more (says asked.after) (says asked.before) (view asked.before) (view asked.after) call acts (life_of performer history) asked.same_says asked.said was))
      (λ k d h. other (get_or asked.others k d) (apart k d h) (rest k d h)))
    where
      other : (seat : Who × O) → same_who performer seat.0 ≡ false → Lives None history seat → Lives None (Heard performer origin call acts ∷ history) seat
      other seat apart lives known =
          subst (λ l. IsHonestNow (says seat.1) (view seat.1) l) (sym (heard-other performer seat.0 call origin acts history apart)) (lives known)

  -- who gave no answer is left out
  pub LiveHonestly-unanswered : (performer : Who) (call : Call) (answer : Result (List Act) AllocError) (old new : List (Who × O)) (history : List Entry)
      → IsAsked view name says performer call answer old new → LiveHonestly view says old None history → LiveHonestly view says new (Some performer) history
  LiveHonestly-unanswered performer call answer old new history asked honest =
      let were : All (Lives None history) ((performer, asked.before) ∷ asked.others) = All-permutation (Lives None history) old ((performer, asked.before) ∷ asked.others) (IsPermutation-sym ((performer, asked.before) ∷ asked.others) old asked.was) honest in
      All-permutation (Lives (Some performer) history) ((performer, asked.after) ∷ asked.others) new asked.is
      (All-cons (Lives (Some performer) history) (performer, asked.after) asked.others (λ known. absurd (known refl))
      (All-weaker (Lives None history) (Lives (Some performer) history) (λ seat lives known. lives (λ n. none-some seat.0 n)) asked.others (All-tail (Lives None history) (performer, asked.before) asked.others were)))

  -- an entry that is not an answer leaves each life
  pub LiveHonestly-silent : (entry : Entry) (history : List Entry) (held : List (Who × O)) (unknown : Option Who) → ((hearer : Who) → exchanged_in hearer entry ≡ [])
      → LiveHonestly view says held unknown history → LiveHonestly view says held unknown (entry ∷ history)
  LiveHonestly-silent entry history held unknown silent honest =
      All-weaker (Lives unknown history) (Lives unknown (entry ∷ history)) (λ seat lives known. rw (silent seat.0) (lives known)) held honest

  -- one more object, of which nothing was asked
  pub LiveHonestly-more : (held new : List (Who × O)) (history : List Entry) (who : Who) (object : O) (unknown : Option Who) → IsPermutation ((who, object) ∷ held) new → life_of who history ≡ []
      → LiveHonestly view says held unknown history → LiveHonestly view says new unknown history
  LiveHonestly-more held new history who object unknown same unasked honest =
      All-permutation (Lives unknown history) ((who, object) ∷ held) new same
      (All-cons (Lives unknown history) (who, object) held (λ known. subst (λ l. IsHonestNow (says object) (view object) l) (sym unasked) ([], tt)) honest)

  -- one less
  pub LiveHonestly-less : (held new : List (Who × O)) (back : Who × O) (history : List Entry) (unknown : Option Who) → IsPermutation (back ∷ new) held
      → LiveHonestly view says held unknown history → LiveHonestly view says new unknown history
  LiveHonestly-less held new back history unknown same honest =
      All-tail (Lives unknown history) back new (All-permutation (Lives unknown history) held (back ∷ new) (IsPermutation-sym (back ∷ new) held same) honest)
