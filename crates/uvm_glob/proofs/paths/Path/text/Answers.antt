use Rattle.uvm_glob.proofs.Common.{◌∙◌, sym, ap, path_text}
use Rattle.uvm_glob.proofs.PathTexts.{path_text-names_of}
use Rattle.uvm_glob.proofs.Bytes.{path_bytes}
use Rattle.uvm_glob.proofs.paths.Path.text.Goals as goal

-- the text is that of the names that it stands for
pub returns-clause-text : goal.returns-clause-text
returns-clause-text c = c.as_slice.ensures.value ∙ sym (path_text-names_of _) ∙ ap path_text c.self.view_is

pub returns-clause-path : goal.returns-clause-path
returns-clause-path c = rw (← c.self.view_is) c.self.invariant

-- and its bytes are those of names and dots
pub returns-clause-bytes : goal.returns-clause-bytes
returns-clause-bytes c =
    rw c.as_slice.ensures.value (rw path_text-names_of at (path_bytes _ c.self.invariant))
