-- Elements of a list, one by one.
use Rattle.world_state.proofs.Common.{◌≡◌, ℕ, ◌+◌, ◌<◌, List, [], ◌∷◌, length, map, take, reverse, get_or, ap, ◌∙◌, take_more, reverse-append, map-append}

-- what one more of them makes stands before what those before it make
pub given-more : {A B : Type 0} (make : A → B) (given : List A) (i : ℕ) (d : A) → i < length given → reverse (map make (take (i + 1) given)) ≡ make (get_or given i d) ∷ reverse (map make (take i given))
given-more make given i d within =
    ap (λ l. reverse (map make l)) (take_more given i d within)
    ∙ ap reverse (map-append make (take i given) (get_or given i d ∷ []))
    ∙ reverse-append (map make (take i given)) (make (get_or given i d) ∷ [])
