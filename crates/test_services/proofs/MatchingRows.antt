-- Which texts globs match, and which match below a path: a glob, a text of a path, and whether it matches the whole of it.
use Rattle.std.proofs.Common.{◌≡◌, ℕ, List, refl}
use Rattle.std.specs.Prelude.{codes, true, false}
use Rattle.uvm_glob.specs.Globs.{matches}
use Rattle.uvm_glob.specs.Paths.{dotted}

empty-glob-matches-the-top : matches (codes "") (codes "") ≡ true
unfolding matches
empty-glob-matches-the-top = refl

empty-glob-matches-no-name : matches (codes "") (codes "a") ≡ false
unfolding matches
empty-glob-matches-no-name = refl

star-matches-the-top : matches (codes "*") (codes "") ≡ true
unfolding matches
star-matches-the-top = refl

star-matches-over-dots : matches (codes "*") (codes "a.b") ≡ true
unfolding matches
star-matches-over-dots = refl

plus-does-not-match-the-top : matches (codes "+") (codes "") ≡ false
unfolding matches
plus-does-not-match-the-top = refl

plus-matches-a-character : matches (codes "+") (codes "a") ≡ true
unfolding matches
plus-matches-a-character = refl

question-mark-stands-for-no-end : matches (codes "a*b?") (codes "ab") ≡ false
unfolding matches
question-mark-stands-for-no-end = refl

star-and-question-mark-match-in-their-places : matches (codes "a*b?") (codes "abbc") ≡ true
unfolding matches
star-and-question-mark-match-in-their-places = refl

brackets-are-not-left-out : matches (codes "x[0]") (codes "x0") ≡ false
unfolding matches
brackets-are-not-left-out = refl

brackets-stand-for-themselves : matches (codes "x[0]") (codes "x[0]") ≡ true
unfolding matches
brackets-stand-for-themselves = refl

plus-takes-more-than-one-character : matches (codes "*a+b*") (codes "xaabz") ≡ true
unfolding matches
plus-takes-more-than-one-character = refl

-- the glob for what lies under a path
abbrev under : List ℕ → List ℕ → List ℕ
under path glob = dotted path glob

star-under-a-path-does-not-match-the-path : matches (under (codes "a") (codes "*")) (codes "a") ≡ false
unfolding matches
star-under-a-path-does-not-match-the-path = refl

star-under-a-path-matches-below-it : matches (under (codes "a") (codes "*")) (codes "a.b") ≡ true
unfolding matches
star-under-a-path-matches-below-it = refl

empty-glob-under-a-path-matches-the-path : matches (under (codes "a") (codes "")) (codes "a") ≡ true
unfolding matches
empty-glob-under-a-path-matches-the-path = refl

star-under-the-top-matches-the-top : matches (under (codes "") (codes "*")) (codes "") ≡ true
unfolding matches
star-under-the-top-matches-the-top = refl

glob-under-the-top-has-no-dot : matches (under (codes "") (codes "b")) (codes "b") ≡ true
unfolding matches
glob-under-the-top-has-no-dot = refl
