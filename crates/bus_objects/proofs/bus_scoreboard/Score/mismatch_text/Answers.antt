-- The bytes are the text of the mismatch, at the words as they are and not cast.
use Rattle.bus_objects.proofs.Common.{◌≡◌, ◌++◌, w64, FitsSigned, to_z, of_z, rules, ◌∙◌, ℤ, codes, signed_decimal, to_z-of_z, Item, address_of, data_of, Words, word_at, mismatch_text}
use Rattle.bus_objects.proofs.Printed.{mismatch_text-fits}
use Rattle.bus_objects.proofs.bus_scoreboard.Score.mismatch_text.Goals as goal

cast : ℤ → ℤ
cast z = to_z w64 (of_z w64 z)

found : (words : Words) (item : Item) (address word : ℤ) → address ≡ address_of item → FitsSigned w64 address → word ≡ word_at words (cast address) → word ≡ word_at words (address_of item)
unfolding cast
found words item address word e fits at = at ∙ rw (to_z-of_z w64 address fits, e)

uncast : (words : Words) (item : Item) (address datum word : ℤ) → address ≡ address_of item → datum ≡ data_of item → word ≡ word_at words (address_of item) → FitsSigned w64 address → FitsSigned w64 datum → FitsSigned w64 word → codes "read " ++ (signed_decimal (cast address) ++ (codes " gave " ++ (signed_decimal (cast datum) ++ (codes " not " ++ signed_decimal (cast word))))) ≡ mismatch_text words item
unfolding mismatch_text cast
uncast words item address datum word e f g fits fits' fits'' = rw (to_z-of_z w64 address fits, to_z-of_z w64 datum fits', to_z-of_z w64 word fits'', g, e, f)

pub returns : goal.returns
unfolding cast
returns c =
    let address : FitsSigned w64 c.address_of-address.result = search rules in
    let datum : FitsSigned w64 c.data_of-datum.result = search rules in
    let word : FitsSigned w64 c.at-word.result = search rules in
    let stored = found c.args.self.now.words c.args.item.now _ _ c.address_of-address.ensures address c.at-word.ensures in
    let text = uncast _ _ _ _ _ c.address_of-address.ensures c.data_of-datum.ensures stored address datum word in
    let is = c.as_str.ensures.value ∙ c.in_ok-text.ensures.ok ∙ text in
    let fits = mismatch_text-fits c.args.self.now.words c.args.item.now (rw c.address_of-address.ensures at address) (rw c.data_of-datum.ensures at datum) (rw stored at word) in
    rw is at (c.lossy.ensures.same (rw is fits))
