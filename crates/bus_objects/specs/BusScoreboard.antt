-- The type `bus_scoreboard`: it stores the data of writes, reports each read that gives other data, and counts items and bad reads.
use Rattle.std.specs.Prelude.{◌≡◌, ℕ, ◌+◌, ◌^◌, min, Bool, not, ◌&&◌, List, [], ◌∷◌, ◌++◌, Option, Some, None, codes, if◌then◌else◌, bytes_eq}
use Rattle.std.specs.Fmt.{decimal, signed_decimal}
use Rattle.std.specs.Ordering.{int_eq}
use Rattle.uvm_phase.specs.declared.phases.Phase.TheVariants as phase
use Rattle.uvm_report.specs.declared.severities.Severity.{Severity}
use Rattle.uvm_report.specs.declared.severities.Severity.TheVariants.{Error, Info}
use Rattle.uvm_tlm.specs.declared.items.Item.{Item}
use Rattle.uvm_object.specs.Objects.{View}
use Rattle.uvm_acts.specs.declared.acts.What.TheVariants.{Imp}
use Rattle.uvm_acts.specs.declared.acts.Call.{Call}
use Rattle.uvm_acts.specs.declared.acts.Call.TheVariants.{Phase, Written}
use Rattle.uvm_acts.specs.declared.acts.Act.{Act}
use Rattle.uvm_acts.specs.declared.acts.Act.TheVariants.{Add, Report}
use Rattle.bus_objects.specs.declared.bus_scoreboard.Score.{Score}
use Rattle.bus_objects.specs.declared.bus_scoreboard.BusScoreboard.{BusScoreboard}
use Rattle.bus_objects.specs.Items.{address_of, data_of, is_write}
use Rattle.bus_objects.specs.Words.{Words, word_at, words_after, words_of, words_view}

-- the score of a new scoreboard: no items, no bad reads and no words
abbrev pub new_score : Score
new_score = record { seen = 0; bad = 0; words = [] }

-- the view of a score: the number of items, the number of bad reads, and the stored words
unfoldable pub score_view : Score → View
score_view score = score.seen ∷ score.bad ∷ words_view score.words

-- the score that is read back from a view
unfoldable pub score_of : View → Score
score_of (seen ∷ bad ∷ words) = record { seen = seen; bad = bad; words = words_of words }
score_of view = new_score

-- the view of a `bus_scoreboard`: the view of its score
abbrev pub bus_scoreboard_view : BusScoreboard → View
bus_scoreboard_view bus_scoreboard = score_view bus_scoreboard.score

-- whether an item is a bad read: its data is not the word that was last written at its address
abbrev pub is_bad : Words → Item → Bool
is_bad words item = not (is_write item) && not (int_eq (data_of item) (word_at words (address_of item)))

-- the text that reports a bad read: its address, the data that it gave, and the word that was written
unfoldable pub mismatch_text : Words → Item → List ℕ
mismatch_text words item =
    let expected = word_at words (address_of item) in
    codes "read " ++ (signed_decimal (address_of item) ++ (codes " gave " ++ (signed_decimal (data_of item) ++ (codes " not " ++ signed_decimal expected))))

-- the text that is reported in the phase `report`: the number of items and the number of bad reads
unfoldable pub score_text : Score → List ℕ
score_text score = decimal score.seen ++ (codes " seen " ++ (decimal score.bad ++ codes " bad"))

-- the action that reports a text with this severity and verbosity
abbrev pub score_act : Severity → List ℕ → ℕ → Act
score_act severity text verbosity = Report (record { severity = severity; id = codes "SB"; text = text; verbosity = verbosity })

-- the answer of a scoreboard to a call: it reports each bad read, and its score in the phase `report`
abbrev pub bus_scoreboard_acts : Score → Call → List Act
bus_scoreboard_acts score (Phase phase.Build) = Add (codes "seen") Imp ∷ []
bus_scoreboard_acts score (Written imp item) = if is_bad score.words item then score_act Error (mismatch_text score.words item) 0 ∷ [] else []
bus_scoreboard_acts score (Phase phase.Report) = score_act Info (score_text score) 200 ∷ []
bus_scoreboard_acts score call = []

-- a count plus one, at most 10^18
abbrev pub one_more : ℕ → ℕ
one_more count = min (count + 1) (10 ^ 18)

-- The score after an item: the item is counted, and also as a bad read if it is one. The data of a write is stored.
abbrev pub score_with : Item → Score → Score
score_with item score = record {
  seen = one_more score.seen;
  bad = if is_bad score.words item then one_more score.bad else score.bad;
  words = words_after item score.words;
}

-- the score after a call: it changes only if an item is written to the scoreboard
abbrev pub score_after : Score → Call → Score
score_after score (Written imp item) = score_with item score
score_after score call = score

-- The relation of a scoreboard. The score in its view determines its answer, and the next view is the score after the call.
abbrev pub BusScoreboardSays : View → Call → List Act → View → Type 0
BusScoreboardSays before call acts after = let score = score_of before in (acts ≡ bus_scoreboard_acts score call) × (after ≡ score_view (score_after score call))

-- the new object of type `bus_scoreboard`, with this type name
abbrev pub new_bus_scoreboard : List ℕ → BusScoreboard
new_bus_scoreboard name = record { type_name = name; score = new_score }

-- a new object if the name is `bus_scoreboard`; `None` otherwise
abbrev pub bus_scoreboard_named : List ℕ → Option BusScoreboard
bus_scoreboard_named name = if bytes_eq name (codes "bus_scoreboard") then Some (new_bus_scoreboard name) else None
