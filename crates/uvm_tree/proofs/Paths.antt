-- Where lists of names stand that go on from one list.
use Rattle.uvm_tree.proofs.Common.{◌≡◌, ℕ, List, [], ◌∷◌, ◌++◌, refl, ap, sym, inl, inr, ◌⊎◌, nat_list_cmp_total, tied_itself, exact_bytes, Ordering, Less, Equal, Greater, slice_cmp, nat_cmp, ordering_then, down_cmp, up_cmp, order_of, Direction, Down, Up}

abbrev pub Names : Type 0
Names = List (List ℕ)

abbrev pub name_cmp : List ℕ → List ℕ → Ordering
name_cmp = slice_cmp nat_cmp

same_name : (x : List ℕ) → name_cmp x x ≡ Equal
same_name x = tied_itself nat_list_cmp_total x

-- they stand as the names at which they part
down-parted : (p : Names) (a b : List ℕ) (r s : Names) → name_cmp a b ≡ Less → down_cmp (p ++ a ∷ r) (p ++ b ∷ s) ≡ Less
down-parted [] a b r s e = rw e refl
down-parted (x ∷ p) a b r s e = rw (same_name x) (down-parted p a b r s e)

up-parted : (p : Names) (a b : List ℕ) (r s : Names) → name_cmp a b ≡ Less → up_cmp (p ++ a ∷ r) (p ++ b ∷ s) ≡ Less
up-parted [] a b r s e = rw e refl
up-parted (x ∷ p) a b r s e = rw (same_name x) (up-parted p a b r s e)

pub parted : (direction : Direction) (p : Names) (a b : List ℕ) (r s : Names) → name_cmp a b ≡ Less → order_of direction (p ++ a ∷ r) (p ++ b ∷ s) ≡ Less
parted Down p a b r s e = down-parted p a b r s e
parted Up p a b r s e = up-parted p a b r s e

-- in Down a list stands in front of those that go on from it, in Up behind them
pub down-longer : (p : Names) (a : List ℕ) (r : Names) → down_cmp p (p ++ a ∷ r) ≡ Less
down-longer [] a r = refl
down-longer (x ∷ p) a r = rw (same_name x) (down-longer p a r)

pub up-longer : (p : Names) (a : List ℕ) (r : Names) → up_cmp (p ++ a ∷ r) p ≡ Less
up-longer [] a r = refl
up-longer (x ∷ p) a r = rw (same_name x) (up-longer p a r)

-- a list goes on from another
abbrev pub GoesOn : Names → Names → Type 0
GoesOn p n = (rest : Names) × (n ≡ p ++ rest)

-- names that are one leave it to what follows them
then-alike : (x y : List ℕ) (a b : Ordering) (o : Ordering) → name_cmp x y ≡ o → (name_cmp x y ≡ Equal → a ≡ b) → ordering_then (name_cmp x y) a ≡ ordering_then (name_cmp x y) b
then-alike x y a b Less e rest = rw e refl
then-alike x y a b Equal e rest = ap (ordering_then (name_cmp x y)) (rest e)
then-alike x y a b Greater e rest = rw e refl

one-less : (x y : List ℕ) (p n : Names) → (GoesOn (x ∷ p) (y ∷ n) → ⊥) → name_cmp x y ≡ Equal → GoesOn p n → ⊥
one-less x y p n other e on = let same = exact_bytes x y e in other (on.0, λ i. sym same i ∷ on.1 i)

-- what does not go on from a list stands to those that do as to the list itself
down-apart : (p r n : Names) → (GoesOn p n → ⊥) → down_cmp (p ++ r) n ≡ down_cmp p n
down-apart [] r n other = absurd (other (n, refl))
down-apart (x ∷ p) r [] other = refl
down-apart (x ∷ p) r (y ∷ n) other = then-alike x y (down_cmp (p ++ r) n) (down_cmp p n) (name_cmp x y) refl (λ e. down-apart p r n (one-less x y p n other e))

up-apart : (p r n : Names) → (GoesOn p n → ⊥) → up_cmp (p ++ r) n ≡ up_cmp p n
up-apart [] r n other = absurd (other (n, refl))
up-apart (x ∷ p) r [] other = refl
up-apart (x ∷ p) r (y ∷ n) other = then-alike x y (up_cmp (p ++ r) n) (up_cmp p n) (name_cmp x y) refl (λ e. up-apart p r n (one-less x y p n other e))

pub apart : (direction : Direction) (p r n : Names) → (GoesOn p n → ⊥) → order_of direction (p ++ r) n ≡ order_of direction p n
apart Down = down-apart
apart Up = up-apart

-- a list is empty, or has a last name
pub ends : (xs : Names) → (xs ≡ []) ⊎ ((first : Names) × (last : List ℕ) × (xs ≡ first ++ last ∷ []))
ends [] = inl refl
ends (x ∷ xs) =
    elim (ends xs) [
      | inl none ↦ inr ([], x, ap (λ (rest : Names). x ∷ rest) none)
      | inr some ↦ inr (x ∷ some.0, some.1, ap (λ (rest : Names). x ∷ rest) some.2)
    ]
