-- What the kernel and a client say to each other, in the order of time.
use Rattle.std.specs.Prelude.{ℕ, List, [], ◌∷◌, map}

-- a byte that the kernel said, or that the client answered
pub data Spoken : Type 0 where
  Said : (byte : ℕ) → Spoken
  Answered : (byte : ℕ) → Spoken

-- a text, as said by the kernel
abbrev pub said : List ℕ → List Spoken
said text = map (λ byte. Said byte) text

-- a text, as answered by the client
abbrev pub answered : List ℕ → List Spoken
answered text = map (λ byte. Answered byte) text

-- all bytes that the kernel said
abbrev pub said_in : List Spoken → List ℕ
said_in [] = []
said_in (Said byte ∷ talk) = byte ∷ said_in talk
said_in (Answered byte ∷ talk) = said_in talk

-- all bytes that the client answered
abbrev pub answered_in : List Spoken → List ℕ
answered_in [] = []
answered_in (Said byte ∷ talk) = answered_in talk
answered_in (Answered byte ∷ talk) = byte ∷ answered_in talk
