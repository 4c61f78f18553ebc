-- How names and paths stand in order, each row both ways round, and how many names paths have and which texts.
use Rattle.std.proofs.Common.{◌≡◌, ℕ, List, refl}
use Rattle.std.specs.Prelude.{codes, length}
use Rattle.std.specs.declared.cmp.Ordering.{Ordering}
use Rattle.std.specs.declared.cmp.Ordering.TheVariants.{Less, Equal, Greater}
use Rattle.std.specs.Ordering.{nat_cmp}
use Rattle.std.specs.Cmp.Lexicographic.{slice_cmp}
use Rattle.uvm_glob.specs.Orders.{PathOrder, down_cmp, up_cmp}
use Rattle.uvm_glob.specs.Paths.{path_text, names_of}

-- how one stands to another, and the other to it
abbrev names : List ℕ → List ℕ → Ordering × Ordering
names name other = (slice_cmp nat_cmp name other, slice_cmp nat_cmp other name)

abbrev paths : PathOrder → List ℕ → List ℕ → Ordering × Ordering
paths cmp path other = (cmp (names_of path) (names_of other), cmp (names_of other) (names_of path))

-- names

name-equals-itself : names (codes "a") (codes "a") ≡ (Equal, Equal)
name-equals-itself = refl

capital-stands-before-a-letter : names (codes "B") (codes "a") ≡ (Less, Greater)
capital-stands-before-a-letter = refl

ten-stands-before-nine : names (codes "a10") (codes "a9") ≡ (Less, Greater)
ten-stands-before-nine = refl

name-stands-after-its-beginning : names (codes "ab") (codes "a") ≡ (Greater, Less)
name-stands-after-its-beginning = refl

-- paths, parents first

top-stands-before-t-in-down : paths down_cmp (codes "") (codes "t") ≡ (Less, Greater)
top-stands-before-t-in-down = refl

t-stands-before-t-a-in-down : paths down_cmp (codes "t") (codes "t.a") ≡ (Less, Greater)
t-stands-before-t-a-in-down = refl

t-a-stands-before-t-a-x-in-down : paths down_cmp (codes "t.a") (codes "t.a.x") ≡ (Less, Greater)
t-a-stands-before-t-a-x-in-down = refl

t-a-x-stands-before-t-b-in-down : paths down_cmp (codes "t.a.x") (codes "t.b") ≡ (Less, Greater)
t-a-x-stands-before-t-b-in-down = refl

top-stands-before-t-b-in-down : paths down_cmp (codes "") (codes "t.b") ≡ (Less, Greater)
top-stands-before-t-b-in-down = refl

t-stands-before-t-b-in-down : paths down_cmp (codes "t") (codes "t.b") ≡ (Less, Greater)
t-stands-before-t-b-in-down = refl

-- The dot is 0x2E, and stands before every byte of a name.

child-stands-before-a-longer-name-in-down : paths down_cmp (codes "a.x") (codes "a!") ≡ (Less, Greater)
child-stands-before-a-longer-name-in-down = refl

child-stands-before-a-name-with-a-dash-in-down : paths down_cmp (codes "a.x") (codes "a-b") ≡ (Less, Greater)
child-stands-before-a-name-with-a-dash-in-down = refl

top-equals-itself-in-down : paths down_cmp (codes "") (codes "") ≡ (Equal, Equal)
top-equals-itself-in-down = refl

t-equals-itself-in-down : paths down_cmp (codes "t") (codes "t") ≡ (Equal, Equal)
t-equals-itself-in-down = refl

t-a-equals-itself-in-down : paths down_cmp (codes "t.a") (codes "t.a") ≡ (Equal, Equal)
t-a-equals-itself-in-down = refl

t-a-x-equals-itself-in-down : paths down_cmp (codes "t.a.x") (codes "t.a.x") ≡ (Equal, Equal)
t-a-x-equals-itself-in-down = refl

a-x-equals-itself-in-down : paths down_cmp (codes "a.x") (codes "a.x") ≡ (Equal, Equal)
a-x-equals-itself-in-down = refl

-- paths, children first

t-a-x-stands-before-t-a-in-up : paths up_cmp (codes "t.a.x") (codes "t.a") ≡ (Less, Greater)
t-a-x-stands-before-t-a-in-up = refl

t-a-stands-before-t-b-in-up : paths up_cmp (codes "t.a") (codes "t.b") ≡ (Less, Greater)
t-a-stands-before-t-b-in-up = refl

t-b-stands-before-t-in-up : paths up_cmp (codes "t.b") (codes "t") ≡ (Less, Greater)
t-b-stands-before-t-in-up = refl

t-stands-before-the-top-in-up : paths up_cmp (codes "t") (codes "") ≡ (Less, Greater)
t-stands-before-the-top-in-up = refl

t-a-x-stands-before-t-in-up : paths up_cmp (codes "t.a.x") (codes "t") ≡ (Less, Greater)
t-a-x-stands-before-t-in-up = refl

t-a-x-stands-before-the-top-in-up : paths up_cmp (codes "t.a.x") (codes "") ≡ (Less, Greater)
t-a-x-stands-before-the-top-in-up = refl

child-stands-before-its-parent-in-up : paths up_cmp (codes "a.x") (codes "a") ≡ (Less, Greater)
child-stands-before-its-parent-in-up = refl

child-stands-before-a-longer-name-in-up : paths up_cmp (codes "a.x") (codes "a!") ≡ (Less, Greater)
child-stands-before-a-longer-name-in-up = refl

name-stands-before-a-longer-name-in-up : paths up_cmp (codes "a") (codes "a!") ≡ (Less, Greater)
name-stands-before-a-longer-name-in-up = refl

top-equals-itself-in-up : paths up_cmp (codes "") (codes "") ≡ (Equal, Equal)
top-equals-itself-in-up = refl

t-equals-itself-in-up : paths up_cmp (codes "t") (codes "t") ≡ (Equal, Equal)
t-equals-itself-in-up = refl

t-a-equals-itself-in-up : paths up_cmp (codes "t.a") (codes "t.a") ≡ (Equal, Equal)
t-a-equals-itself-in-up = refl

t-a-x-equals-itself-in-up : paths up_cmp (codes "t.a.x") (codes "t.a.x") ≡ (Equal, Equal)
t-a-x-equals-itself-in-up = refl

a-x-equals-itself-in-up : paths up_cmp (codes "a.x") (codes "a.x") ≡ (Equal, Equal)
a-x-equals-itself-in-up = refl

-- how many names

top-has-no-name : length (names_of (codes "")) ≡ 0
top-has-no-name = refl

a-has-one-name : length (names_of (codes "a")) ≡ 1
a-has-one-name = refl

brackets-make-no-name : length (names_of (codes "a.b[0].c")) ≡ 3
brackets-make-no-name = refl

-- which texts

top-has-the-empty-text : path_text (names_of (codes "")) ≡ codes ""
top-has-the-empty-text = refl

a-has-its-name-as-its-text : path_text (names_of (codes "a")) ≡ codes "a"
a-has-its-name-as-its-text = refl

names-have-dots-between-them : path_text (names_of (codes "a.b[0].c")) ≡ codes "a.b[0].c"
names-have-dots-between-them = refl
