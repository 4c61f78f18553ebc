-- The numbers of a generator whose numbers are known.
use Rattle.std.proofs.Common.{◌≡◌, ◌∙◌, ◌<◌, ◌^◌, ℕ, zero, suc, List, [], ◌∷◌, ◌++◌, length, reverse, refl, sym, ap, subst, arith, append_assoc}
use mathlib.Core.List.{reverse-cons}
use Rattle.std.proofs.lemmas.List.Elements.{All-head, All-nil, All-tail}
use Rattle.std.specs.List.{All}
use Rattle.rand_core.specs.Stream.{Stream, next_u64}
use Rattle.rand_core.specs.Steps.{stream_of}
use Rattle.bench_replay.specs.KnownNumbers.{known_numbers, next_known}
use Rattle.bench_run.specs.Words.{stream_after, words_drawn}
use Rattle.script_legal.specs.Judgements.{AreWords}

-- one number is taken
one-known : (words : List ℕ) → next_u64 (known_numbers words) ≡ ((next_known words).0, known_numbers (next_known words).1)
unfolding next_u64 stream_of
one-known words = refl

-- some numbers in front, the last one first
pub in-front : (word : ℕ) (older rest : List ℕ) → reverse (word ∷ older) ++ rest ≡ reverse older ++ (word ∷ rest)
in-front word older rest = ap (λ words. words ++ rest) (reverse-cons word older) ∙ append_assoc (reverse older) (word ∷ []) rest

-- they are taken, and what is behind them is left
left-known : (newest rest : List ℕ) → stream_after (length newest) (known_numbers (reverse newest ++ rest)) ≡ known_numbers rest
left-known [] rest = refl
left-known (word ∷ older) rest =
    ap (λ words. (next_u64 (stream_after (length older) (known_numbers words))).1) (in-front word older rest)
    ∙ ap (λ (s : Stream). (next_u64 s).1) (left-known older (word ∷ rest))
    ∙ ap (λ (p : ℕ × Stream). p.1) (one-known (word ∷ rest))

pub drawn-known : (newest rest : List ℕ) → words_drawn (length newest) (known_numbers (reverse newest ++ rest)) ≡ newest
drawn-known [] rest = refl
drawn-known (word ∷ older) rest =
    ap (λ words. words_drawn (suc (length older)) (known_numbers words)) (in-front word older rest)
    ∙ ap (λ drawn. (next_u64 (stream_after (length older) (known_numbers (reverse older ++ (word ∷ rest))))).0 ∷ drawn) (drawn-known older (word ∷ rest))
    ∙ ap (λ (s : Stream). (next_u64 s).0 ∷ older) (left-known older (word ∷ rest))
    ∙ ap (λ (p : ℕ × Stream). p.0 ∷ older) (one-known (word ∷ rest))

-- no number has more than 64 bits, if none of those that are known does
abbrev IsSmall : ℕ → Type 0
IsSmall word = word < 2 ^ 64

next-small : (words : List ℕ) → All IsSmall words → ((next_known words).0 < 2 ^ 64) × All IsSmall (next_known words).1
next-small [] small = (omega arith, All-nil IsSmall)
next-small (word ∷ words) small = (All-head IsSmall word words small, All-tail IsSmall word words small)

left-small : (count : ℕ) (words : List ℕ) → All IsSmall words → (left : List ℕ) × (stream_after count (known_numbers words) ≡ known_numbers left) × All IsSmall left
left-small zero words small = (words, refl, small)
left-small (suc count) words small = go (left-small count words small)
  where
    go : (left : List ℕ) × (stream_after count (known_numbers words) ≡ known_numbers left) × All IsSmall left → (left : List ℕ) × (stream_after (suc count) (known_numbers words) ≡ known_numbers left) × All IsSmall left
    go before = ((next_known before.0).1, ap (λ (s : Stream). (next_u64 s).1) before.1 ∙ ap (λ (p : ℕ × Stream). p.1) (one-known before.0), (next-small before.0 before.2).1)

pub known-small : (words : List ℕ) → All IsSmall words → AreWords (known_numbers words)
known-small words small = λ count.
    let before = left-small count words small in
    let is : (next_u64 (stream_after count (known_numbers words))).0 ≡ (next_known before.0).0 = ap (λ (s : Stream). (next_u64 s).0) before.1 ∙ ap (λ (p : ℕ × Stream). p.0) (one-known before.0) in
    subst IsSmall (sym is) (next-small before.0 before.2).0
