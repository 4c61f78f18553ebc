-- What becomes of a report, case by case.
use Rattle.uvm_report.proofs.Common.{◌≡◌, ◌≤◌, ◌<◌, Bool, true, false, ◌||◌, nat_tests, arith, Report, Dropped, Silent, Issued, is_empty, Counts, with_report, Ruling, effective_verbosity, fate_of, counts_with}

pub fate-dropped : (report : Report) (ruling : Ruling) (reached : Bool) → ruling.level < effective_verbosity report → fate_of report ruling reached ≡ Dropped
unfolding fate_of
fate-dropped report ruling reached above = grind (arith, nat_tests)

pub counts-dropped : (report : Report) (ruling : Ruling) (counts : Counts) → ruling.level < effective_verbosity report → counts_with report ruling counts ≡ counts
unfolding counts_with
counts-dropped report ruling counts above = grind (arith, nat_tests)

pub fate-silent : (report : Report) (ruling : Ruling) (reached : Bool) → effective_verbosity report ≤ ruling.level → is_empty ruling.actions ≡ true → fate_of report ruling reached ≡ Silent
unfolding fate_of
fate-silent report ruling reached within empty = grind (arith, nat_tests)

pub counts-silent : (report : Report) (ruling : Ruling) (counts : Counts) → is_empty ruling.actions ≡ true → counts_with report ruling counts ≡ counts
unfolding counts_with
counts-silent report ruling counts empty = grind (arith, nat_tests)

pub fate-issued : (report : Report) (ruling : Ruling) (reached : Bool) → effective_verbosity report ≤ ruling.level → is_empty ruling.actions ≡ false → fate_of report ruling reached ≡ Issued ruling.severity ruling.actions.display (ruling.actions.exit || reached)
unfolding fate_of
fate-issued report ruling reached within some = grind (arith, nat_tests)

pub counts-issued : (report : Report) (ruling : Ruling) (counts : Counts) → effective_verbosity report ≤ ruling.level → is_empty ruling.actions ≡ false → counts_with report ruling counts ≡ with_report ruling.severity report.id ruling.actions.count counts
unfolding counts_with
counts-issued report ruling counts within some = grind (arith, nat_tests)

pub ruleset judged = (fate-dropped, counts-dropped, fate-silent, counts-silent, fate-issued, counts-issued)
