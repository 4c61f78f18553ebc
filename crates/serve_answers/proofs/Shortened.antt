-- A line of which one more part is read.
use Rattle.std.proofs.Common.{◌≢◌, ℕ, List, [], Option, Some, None, OnSome, length, sym, subst}
use Rattle.std.proofs.lemmas.List.Elements.{All-append}
use Rattle.std.specs.Io.KnownBytes.{Consumes, IsAtEnd}
use Rattle.serve_answers.specs.Lines.{Grows, HasEnded, HasNoNewline, IsCutAt, IsCutShort, IsLine}
use Rattle.serve_answers.specs.declared.lines.errors.LineError.{LineError}
use Rattle.serve_answers.specs.declared.lines.errors.LineError.TheVariants.{TooLong, Ended, Unreadable, Memory}

-- bytes that are known at the start are known later
pub on_some_before : (old mid : Option (List ℕ)) (bs : List ℕ) (P : Type 0) → Consumes old mid bs → OnSome mid P → OnSome old P
on_some_before None mid bs P gone holds = tt
on_some_before (Some all) None bs P gone holds = absurd gone
on_some_before (Some all) (Some rest) bs P gone holds = holds

-- where reading stops short in a part, it does in the line
cut-before : (error : LineError) (count : ℕ) (old mid new : Option (List ℕ)) (bs : List ℕ) → Consumes old mid bs → IsCutAt error count (HasEnded mid new) → IsCutAt error count (HasEnded old new)
cut-before TooLong count old mid new bs gone cut = cut
cut-before Ended count old mid new bs gone cut = (cut.0, on_some_before old mid bs (IsAtEnd new) gone cut.1)
cut-before Unreadable count old mid new bs gone cut = cut
cut-before Memory count old mid new bs gone cut = cut

-- a line that stops short in its last part
pub cut_short : (error : LineError) (before after : List ℕ) (old mid new : Option (List ℕ))
    → IsLine before → Consumes old mid before → Grows before after mid new [] → IsCutAt error (length after) (HasEnded mid new) → IsCutShort error after (HasEnded old new)
cut_short error before after old mid new line gone more cut =
    let plain : HasNoNewline after = subst HasNoNewline (sym more.is) (All-append (λ byte. byte ≢ 10) before more.more line.1 more.plain) in
    (plain, cut-before error (length after) old mid new before gone cut)
