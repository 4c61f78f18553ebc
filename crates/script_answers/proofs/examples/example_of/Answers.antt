use Rattle.script_answers.proofs.Common.{◌≢◌, ⊎_elim, inl, inr, sym, ap, ◌∙◌, drop, false≢true, bytes_eq-Decides, but_star, ends_in_star, first_or, codes, words_of}
use Rattle.script_answers.proofs.CallReads.{err-map, none-by, ok-map, tells-by}
use Rattle.script_answers.proofs.examples.example_of.Goals as goal

-- what is read by the words behind the keyword is read by all words
pub returns-else-eq-clause-tells : goal.returns-else-eq-clause-tells
returns-else-eq-clause-tells c =
    let givens = but_star (words_of c.args.key.now) in
    let ends = ends_in_star (words_of c.args.key.now) in
    let keyword = c.in_ok-keyword.keyword.now in
    let apart : keyword ≢ codes "finished" = λ same. false≢true (sym c.if-eq.false ∙ c.eq.ensures ∙ (bytes_eq-Decides keyword (codes "finished")).1 same) in
    ok-map c.call_example.result _ _ (λ read tells. tells-by givens _ ends _ keyword _ _
    (c.in_ok-keyword.ensures.word ∙ ap (first_or (codes "item_done")) c.of-words.ensures.left)
    (c.in_ok-keyword.ensures.left ∙ ap (drop 1) c.of-words.ensures.left)
    (c.in_ok-keyword.ensures.goes_on ∙ c.of-words.ensures.goes_on) tells) (c.call_example.ensures.tells apart)

pub returns-else-eq-clause-none : goal.returns-else-eq-clause-none
returns-else-eq-clause-none c =
    let givens = but_star (words_of c.args.key.now) in
    let ends = ends_in_star (words_of c.args.key.now) in
    let keyword = c.in_ok-keyword.keyword.now in
    let apart : keyword ≢ codes "finished" = λ same. false≢true (sym c.if-eq.false ∙ c.eq.ensures ∙ (bytes_eq-Decides keyword (codes "finished")).1 same) in
    err-map c.call_example.result _ _ (λ fault why. ⊎_elim inl (λ none. inr (none-by givens _ ends _ keyword
    (c.in_ok-keyword.ensures.word ∙ ap (first_or (codes "item_done")) c.of-words.ensures.left)
    (c.in_ok-keyword.ensures.left ∙ ap (drop 1) c.of-words.ensures.left)
    (c.in_ok-keyword.ensures.goes_on ∙ c.of-words.ensures.goes_on) none)) why) (c.call_example.ensures.none apart)
