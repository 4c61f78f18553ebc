-- The relation of the scoreboard: it keeps the sent bytes, and reports an ERROR for each seen byte that differs or was not sent.
use Rattle.std.specs.Prelude.{◌≡◌, ◌≢◌, ℕ, ◌+◌, pos, List, [], ◌∷◌, ◌++◌, length, Option, Some, None, slice_get, slice_index_or, codes, if◌then◌else◌, bytes_eq, unsigned_abs, ⊤}
use Rattle.uvm_object.specs.Relations.{Build, Check, Error, Item, View, Call, Phase, Written, Imp, Act, Add, reporting}

-- the byte of an item: the absolute value of its first number
abbrev pub byte_of : Item → ℕ
byte_of item = unsigned_abs (slice_index_or item.0 0 (pos 0))

-- the answer is one report, an ERROR of the scoreboard with any text
abbrev pub IsError : List Act → Type 0
IsError acts = (text : List ℕ) × (acts ≡ reporting Error (codes "SB") text 0 ∷ [])

-- the answer to a seen byte, if this byte was expected: no action if it is the expected one, otherwise an ERROR
abbrev pub IsJudged : Option ℕ → ℕ → List Act → Type 0
IsJudged (Some wanted) byte acts = (byte ≡ wanted → acts ≡ []) × (byte ≢ wanted → IsError acts)
IsJudged None byte acts = IsError acts

-- the actions that may answer a call, when `seen` bytes were compared and `sent` lists the bytes that were sent
abbrev pub IsAnswer : ℕ → List ℕ → Call → List Act → Type 0
IsAnswer seen sent (Phase Build) acts = acts ≡ Add (codes "sent") Imp ∷ Add (codes "seen") Imp ∷ []
IsAnswer seen sent (Phase Check) acts = (seen ≡ length sent → acts ≡ []) × (seen ≢ length sent → IsError acts)
IsAnswer seen sent (Written imp item) acts = (imp ≡ codes "sent" → acts ≡ []) × (imp ≢ codes "sent" → IsJudged (slice_get sent seen) (byte_of item) acts)
IsAnswer seen sent call acts = acts ≡ []

-- the view after a byte was seen: the byte is counted only if one was expected
abbrev pub judged : Option ℕ → ℕ → List ℕ → View
judged (Some wanted) seen sent = (seen + 1) ∷ sent
judged None seen sent = seen ∷ sent

-- the view after a call: how many bytes were compared, then the bytes that were sent
abbrev pub view_after : ℕ → List ℕ → Call → View
view_after seen sent (Written imp item) = if bytes_eq imp (codes "sent") then seen ∷ (sent ++ byte_of item ∷ []) else judged (slice_get sent seen) seen sent
view_after seen sent call = seen ∷ sent

-- the relation that the scoreboard declares: `IsAnswer` for its actions and `view_after` for its view; an empty view allows all
abbrev pub ScoreboardSays : View → Call → List Act → View → Type 0
ScoreboardSays (seen ∷ sent) call acts after = IsAnswer seen sent call acts × (after ≡ view_after seen sent call)
ScoreboardSays [] call acts after = ⊤
