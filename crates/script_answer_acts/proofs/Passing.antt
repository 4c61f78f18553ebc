-- An act that passes on an item has a text of its own.
use Rattle.script_answer_acts.proofs.Common.{◌≡◌, ◌∙◌, ℕ, true, refl, ap, sym, List, [], ◌∷◌, ◌++◌, codes, append-nil, append_cancel_left, item_text, Act, Item, ForwardsAreNoActs, ForwardsReadSo, act_line, HasName, forward_act_stem, forwarded, HasPlainId, IsName, IsSound, ForwardAct}
use Rattle.script_answer_acts.specs.declared.forward_acts.ForwardAct.TheVariants as forward_act
use Rattle.script_answer_acts.proofs.Inverse.{act_in, act-back, item-done-in, put-in, send-in, try-put-in, write-in}
use Rattle.script_answer_acts.proofs.Parts.{name-lacks}
use Rattle.script_answer_acts.proofs.Splits.{lacks, parts_at, parts-more, parts-one}
use Rattle.script_answer_acts.proofs.WordsOf.{line-parts}

-- its text with an item
pub forwards_read_so : ForwardsReadSo
forwards_read_so (forward_act.Put port) item = append-nil (codes "put " ++ port ++ 32 ∷ item_text item)
forwards_read_so (forward_act.TryPut port) item = append-nil (codes "try_put " ++ port ++ 32 ∷ item_text item)
forwards_read_so (forward_act.Write port) item = append-nil (codes "write " ++ port ++ 32 ∷ item_text item)
forwards_read_so (forward_act.ItemDone port) item = append-nil (codes "item_done " ++ port ++ 32 ∷ item_text item)
forwards_read_so forward_act.Send item = append-nil (codes "send " ++ item_text item)

-- the words of its text
starred : List ℕ → List ℕ → List (List ℕ)
starred word port = word ∷ port ∷ codes "*" ∷ []

starred-parts : (word port : List ℕ) → lacks 32 word ≡ true → IsName port → parts_at 32 (word ++ 32 ∷ (port ++ codes " *")) ≡ starred word port
unfolding starred
starred-parts word port plain named =
    parts-more 32 word (port ++ codes " *") plain
    ∙ ap (λ words. word ∷ words) (parts-more 32 port (codes "*") (name-lacks 32 refl port named) ∙ ap (λ words. port ∷ words) (parts-one 32 (codes "*") refl))

-- an act with such a text would be one with an item, whose text is none of a `*`
no-star : (front : List ℕ) (item : Item) → front ++ 32 ∷ item_text item ≡ front ++ codes " *" → ⊥
no-star front item same = let back : 32 ∷ item_text item ≡ codes " *" = append_cancel_left front (32 ∷ item_text item) (codes " *") same in cc

-- by the act that stands in its words
apart-from : (passing : ForwardAct) (item : Item) (other : Act) → other ≡ forwarded passing item → act_line other ≡ forward_act_stem passing ++ codes " *" → ⊥
apart-from passing item other is same = no-star (forward_act_stem passing) item (sym (forwards_read_so passing item) ∙ (ap act_line (sym is) ∙ same))

from-words : (other : Act) (text : List ℕ) → IsSound other → HasPlainId other → act_line other ≡ text → other ≡ act_in (parts_at 32 text)
from-words other text sound plain same = sym (act-back other sound plain) ∙ ap act_in (sym (line-parts other sound) ∙ ap (parts_at 32) same)

apart : (passing : ForwardAct) (other : Act) → HasName passing → IsSound other → HasPlainId other → act_line other ≡ forward_act_stem passing ++ codes " *" → ⊥
unfolding starred
apart (forward_act.Put port) other named sound plain same =
    apart-from (forward_act.Put port) _ other (from-words other (codes "put " ++ port ++ codes " *") sound plain same ∙ (ap act_in (starred-parts (codes "put") port refl named) ∙ put-in port (codes "*"))) same
apart (forward_act.TryPut port) other named sound plain same =
    apart-from (forward_act.TryPut port) _ other (from-words other (codes "try_put " ++ port ++ codes " *") sound plain same ∙ (ap act_in (starred-parts (codes "try_put") port refl named) ∙ try-put-in port (codes "*"))) same
apart (forward_act.Write port) other named sound plain same =
    apart-from (forward_act.Write port) _ other (from-words other (codes "write " ++ port ++ codes " *") sound plain same ∙ (ap act_in (starred-parts (codes "write") port refl named) ∙ write-in port (codes "*"))) same
apart (forward_act.ItemDone port) other named sound plain same =
    apart-from (forward_act.ItemDone port) _ other (from-words other (codes "item_done " ++ port ++ codes " *") sound plain same ∙ (ap act_in (starred-parts (codes "item_done") port refl named) ∙ item-done-in port)) same
apart forward_act.Send other named sound plain same =
    apart-from forward_act.Send _ other (from-words other (codes "send *") sound plain same ∙ send-in) same

pub forwards_are_no_acts : ForwardsAreNoActs
forwards_are_no_acts = apart
