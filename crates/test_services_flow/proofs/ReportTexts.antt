-- Which texts reports may have, and the words for severities and faults.
use Rattle.std.proofs.Common.{◌≡◌, ◌∷◌, [], Some, None, refl}
use Rattle.std.specs.Prelude.{codes, replicate}
use Rattle.uvm_report.specs.declared.faults.TextFault.TheVariants.{TooLong, BadByte, Memory}
use Rattle.uvm_report.specs.declared.severities.Severity.TheVariants.{Info, Warning, Error, Fatal}
use Rattle.uvm_report.specs.Severities.{severity_name, severity_text}
use Rattle.uvm_report.specs.Texts.{fault_text, text_fault}

an-empty-text : text_fault (codes "") ≡ None
unfolding text_fault
an-empty-text = refl

the-first-and-the-last-character : text_fault (codes " ~") ≡ None
unfolding text_fault
the-first-and-the-last-character = refl

two-hundred-bytes : text_fault (replicate 200 97) ≡ None
unfolding text_fault
two-hundred-bytes = refl

one-byte-too-many : text_fault (replicate 201 97) ≡ Some TooLong
unfolding text_fault
one-byte-too-many = refl

too-long-goes-before-a-bad-byte : text_fault (replicate 201 10) ≡ Some TooLong
unfolding text_fault
too-long-goes-before-a-bad-byte = refl

a-newline-may-not-stand-there : text_fault (codes "one\n") ≡ Some BadByte
unfolding text_fault
a-newline-may-not-stand-there = refl

a-delete-may-not-stand-there : text_fault (127 ∷ []) ≡ Some BadByte
unfolding text_fault
a-delete-may-not-stand-there = refl

the-name-of-info : severity_name Info ≡ codes "INFO"
the-name-of-info = refl

info-as-it-is-printed : severity_text Info ≡ codes "UVM_INFO"
info-as-it-is-printed = refl

the-name-of-warning : severity_name Warning ≡ codes "WARNING"
the-name-of-warning = refl

warning-as-it-is-printed : severity_text Warning ≡ codes "UVM_WARNING"
warning-as-it-is-printed = refl

the-name-of-error : severity_name Error ≡ codes "ERROR"
the-name-of-error = refl

error-as-it-is-printed : severity_text Error ≡ codes "UVM_ERROR"
error-as-it-is-printed = refl

the-name-of-fatal : severity_name Fatal ≡ codes "FATAL"
the-name-of-fatal = refl

fatal-as-it-is-printed : severity_text Fatal ≡ codes "UVM_FATAL"
fatal-as-it-is-printed = refl

told-more-than-200-bytes : fault_text TooLong ≡ codes "more than 200 bytes"
told-more-than-200-bytes = refl

told-a-byte-that-may-not-stand-there : fault_text BadByte ≡ codes "a byte that may not stand there"
told-a-byte-that-may-not-stand-there = refl

told-out-of-memory : fault_text Memory ≡ codes "out of memory"
told-out-of-memory = refl
