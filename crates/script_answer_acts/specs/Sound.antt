-- What is valid for the names, paths, globs, numbers and items in an action.
use Rattle.std.specs.Prelude.{◌≡◌, ◌<◌, ◌^◌, ℕ, ℤ, true, List, length, None, IfSome, ◌≢◌, codes, Option}
use Rattle.std.specs.Int.Signed.{mag}
use Rattle.std.specs.List.{All, list_all}
use Rattle.uvm_glob.specs.Globs.{is_glob_byte}
use Rattle.uvm_glob.specs.Names.{name_fault}
use Rattle.uvm_glob.specs.Paths.{path_fault}
use Rattle.uvm_report.specs.declared.settings.Which.{Which}
use Rattle.uvm_report.specs.declared.settings.Which.TheVariants as which
use Rattle.uvm_tlm.specs.declared.items.Item.{Item}
use Rattle.uvm_acts.specs.declared.acts.What.{What}
use Rattle.uvm_acts.specs.declared.acts.What.TheVariants as what
use Rattle.uvm_acts.specs.declared.acts.Act.{Act}
use Rattle.uvm_acts.specs.declared.acts.Act.TheVariants as act

-- a text that is a valid name
abbrev pub IsName : List ℕ → Type 0
IsName text = name_fault text ≡ None

-- a list of names that is a valid path
abbrev pub IsPath : List (List ℕ) → Type 0
IsPath names = path_fault names ≡ None

-- a text in which each byte is allowed in a glob
abbrev pub IsGlob : List ℕ → Type 0
IsGlob text = list_all is_glob_byte text ≡ true

-- a number of at most 64 bits
abbrev pub IsNumber : ℕ → Type 0
IsNumber number = number < 2 ^ 64

-- a signed integer of 64 bits
abbrev pub IsSigned : ℤ → Type 0
IsSigned value = mag value < 2 ^ 63

-- an item: four signed integers of 64 bits
abbrev pub IsItem : Item → Type 0
IsItem item = (length item.0 ≡ 4) × All IsSigned item.0

-- what a component adds is valid: the size of a FIFO is a number of at most 64 bits
abbrev pub IsWhat : What → Type 0
IsWhat (what.Fifo size) = IsNumber size
IsWhat other = Unit {0}

-- the reports that a setting is for are valid: an id is a valid name
abbrev pub IsWhich : Which → Type 0
IsWhich (which.Id id) = IsName id
IsWhich (which.Both severity id) = IsName id
IsWhich other = Unit {0}

-- the names, paths, globs, numbers and items in an action are valid
abbrev pub IsSound : Act → Type 0
IsSound (act.Create type_name name) = IsName type_name × IsName name
IsSound (act.Add name what) = IsName name × IsWhat what
IsSound (act.Set glob field value) = IsGlob glob × IsName field × IsSigned value
IsSound (act.Get field) = IsName field
IsSound (act.OverrideType original new replace) = IsName original × IsName new
IsSound (act.OverrideInst original new glob) = IsName original × IsName new × IsGlob glob
IsSound (act.Connect from to) = IsPath from × IsPath to
IsSound (act.Put port item) = IsName port × IsItem item
IsSound (act.TryPut port item) = IsName port × IsItem item
IsSound (act.Take port) = IsName port
IsSound (act.TryTake port) = IsName port
IsSound (act.Peek port) = IsName port
IsSound (act.Write port item) = IsName port × IsItem item
IsSound (act.Ask port how) = IsName port
IsSound (act.ItemDone port response) = IsName port × IfSome response IsItem
IsSound (act.Start type_name name on priority) = IsName type_name × IsName name × IsPath on × IfSome priority IsNumber
IsSound (act.Request priority) = IfSome priority IsNumber
IsSound (act.Send item) = IsItem item
IsSound (act.Report report) = IsName report.id × IsNumber report.verbosity
IsSound (act.Verbosity which level) = IsWhich which × IsNumber level
IsSound (act.Actions which actions) = IsWhich which
IsSound (act.Severity from id to) = IfSome id IsName
IsSound (act.RaiseObjection count) = IsNumber count
IsSound (act.DropObjection count) = IsNumber count
IsSound (act.SetDrain ticks) = IsNumber ticks
IsSound (act.Wait ticks tag) = IsNumber ticks × IsNumber tag
IsSound other = Unit {0}

-- The globs and paths in an action are valid. Other crates see only the text of a glob or path, so this is not known from its type.
abbrev pub HasSoundPlaces : Act → Type 0
HasSoundPlaces (act.Set glob field value) = IsGlob glob
HasSoundPlaces (act.OverrideInst original new glob) = IsGlob glob
HasSoundPlaces (act.Connect from to) = IsPath from × IsPath to
HasSoundPlaces (act.Start type_name name on priority) = IsPath on
HasSoundPlaces other = Unit {0}

-- no id, or an id other than `none`, which is the text for no id
abbrev pub IsPlainId : Option (List ℕ) → Type 0
IsPlainId id = IfSome id (λ text. text ≢ codes "none")

-- If an action changes the severity for an id, the id is not `none`: that line would change the severity for all ids.
abbrev pub HasPlainId : Act → Type 0
HasPlainId (act.Severity from id to) = IsPlainId id
HasPlainId other = Unit {0}
