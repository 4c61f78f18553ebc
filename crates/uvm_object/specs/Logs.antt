-- The value of a log in contracts.
use Rattle.std.specs.Prelude.{ℕ, ◌+◌, List, length, codes}
use Rattle.uvm_object.specs.declared.entries.Entry.{Entry}
use Rattle.uvm_object.specs.declared.logs.LogFault.{LogFault}
use Rattle.uvm_object.specs.declared.logs.LogFault.TheVariants.{Full, Memory}

-- the value of a log: the entries (newest first), the limit of entries, and the number of further entries for which capacity is reserved
pub record LogValue : Type 0 where
  pub entries : List Entry
  pub limit : ℕ
  pub spare : ℕ

-- the number of entries that a log can have before it allocates memory
abbrev pub capacity_of : LogValue → ℕ
capacity_of log = length log.entries + log.spare

-- the text of each error
abbrev pub fault_text : LogFault → List ℕ
fault_text Full = codes "log full"
fault_text Memory = codes "out of memory"
