-- What becomes of reports after settings and other reports, and what is told of them.
use Rattle.std.proofs.Common.{◌≡◌, ℕ, List, [], ◌∷◌, Some, None, refl}
use Rattle.std.specs.Prelude.{true, false, codes}
use Rattle.std.specs.Fmt.{digits}
use Rattle.uvm_glob.specs.Globs.{matches}
use Rattle.uvm_report.specs.declared.severities.Severity.{Severity}
use Rattle.uvm_report.specs.declared.severities.Severity.TheVariants.{Info, Warning, Error, Fatal}
use Rattle.uvm_report.specs.declared.settings.Which.TheVariants as which
use Rattle.uvm_report.specs.declared.messages.Report.{Report}
use Rattle.uvm_report.specs.declared.messages.Fate.{Fate}
use Rattle.uvm_report.specs.declared.messages.Fate.TheVariants.{Dropped, Silent, Issued}
use Rattle.uvm_report.specs.Commands.{Command, SetVerbosity, SetAction, SetSeverity, SetQuitLimit, Issue, quit_limit, quit_total, report_counts, report_fate}
use Rattle.uvm_report.specs.Counts.{number_of, number_of_id}
use Rattle.uvm_report.specs.Fates.{asks_exit, displayed_as, fate_of, ruling_by}
use Rattle.uvm_report.specs.Lines.{id_line, limit_line, report_line, severity_line, summary_text}
use Rattle.uvm_report.specs.Settings.{choice_among}

-- a report of a severity, an id and a verbosity
abbrev report : Severity → List ℕ → ℕ → Report
report severity id verbosity = record { severity = severity; id = id; text = codes "text"; verbosity = verbosity }

abbrev test : List (List ℕ)
test = codes "uvm_test_top" ∷ []

-- what becomes of a report of the test after some commands, the newest first, and these commands with it
abbrev fate : List Command → Report → Fate
fate commands report = report_fate commands test report

abbrev issued : List Command → Report → List Command
issued commands report = Issue test report ∷ commands

-- the report is displayed, and does not end the run
abbrev displayed : Severity → Fate
displayed severity = Issued severity true false

abbrev e : List ℕ
e = codes "E"

abbrev f : List ℕ
f = codes "F"

-- reports of the severity ERROR are displayed, nothing is done with those of the id E, and those of both are displayed and counted

abbrev by_class : List Command
by_class =
    SetAction (codes "*") (which.Both Error e) (record { display = true; count = true; exit = false })
    ∷ SetAction (codes "*") (which.Id e) (record { display = false; count = false; exit = false })
    ∷ SetAction (codes "*") (which.Severity Error) (record { display = true; count = false; exit = false })
    ∷ []

a-setting-of-a-severity-with-an-id-prevails : fate by_class (report Error e 0) ≡ displayed Error
unfolding report_counts quit_total choice_among matches ruling_by fate_of
a-setting-of-a-severity-with-an-id-prevails = refl

abbrev after_one : List Command
after_one = issued by_class (report Error e 0)

one-was-counted-after-one : (report_counts after_one).quit ≡ 1
unfolding report_counts quit_total choice_among matches ruling_by
one-was-counted-after-one = refl

a-setting-of-an-id-goes-before-the-default : fate after_one (report Warning e 0) ≡ Silent
unfolding report_counts quit_total choice_among matches ruling_by fate_of
a-setting-of-an-id-goes-before-the-default = refl

abbrev after_two : List Command
after_two = issued after_one (report Warning e 0)

one-was-counted-after-two : (report_counts after_two).quit ≡ 1
unfolding report_counts quit_total choice_among matches ruling_by
one-was-counted-after-two = refl

a-setting-of-a-severity-holds-for-other-ids : fate after_two (report Error f 0) ≡ displayed Error
unfolding report_counts quit_total choice_among matches ruling_by fate_of
a-setting-of-a-severity-holds-for-other-ids = refl

abbrev after_three : List Command
after_three = issued after_two (report Error f 0)

one-was-counted-after-three : (report_counts after_three).quit ≡ 1
unfolding report_counts quit_total choice_among matches ruling_by
one-was-counted-after-three = refl

an-info-above-the-level-is-dropped : fate after_three (report Info f 300) ≡ Dropped
unfolding report_counts quit_total choice_among matches ruling_by fate_of
an-info-above-the-level-is-dropped = refl

abbrev after_four : List Command
after_four = issued after_three (report Info f 300)

one-was-counted-after-four : (report_counts after_four).quit ≡ 1
unfolding report_counts quit_total choice_among matches ruling_by
one-was-counted-after-four = refl

an-info-at-the-level-is-displayed : fate after_four (report Info f 200) ≡ displayed Info
unfolding report_counts quit_total choice_among matches ruling_by fate_of
an-info-at-the-level-is-displayed = refl

abbrev after_five : List Command
after_five = issued after_four (report Info f 200)

one-was-counted-after-five : (report_counts after_five).quit ≡ 1
unfolding report_counts quit_total choice_among matches ruling_by
one-was-counted-after-five = refl

two-errors-issued : number_of (report_counts after_five) Error ≡ 2
unfolding report_counts quit_total choice_among matches ruling_by
two-errors-issued = refl

none-warnings-issued : number_of (report_counts after_five) Warning ≡ 0
unfolding report_counts quit_total choice_among matches ruling_by
none-warnings-issued = refl

one-info-issued : number_of (report_counts after_five) Info ≡ 1
unfolding report_counts quit_total choice_among matches ruling_by
one-info-issued = refl

one-of-the-id-e : number_of_id (report_counts after_five) e ≡ 1
unfolding report_counts quit_total choice_among matches ruling_by
one-of-the-id-e = refl

two-of-the-id-f : number_of_id (report_counts after_five) f ≡ 2
unfolding report_counts quit_total choice_among matches ruling_by
two-of-the-id-f = refl

a-severity-is-changed-for-an-id : fate (SetSeverity (codes "*") Error (Some f) Warning ∷ after_five) (report Error f 0) ≡ displayed Warning
unfolding report_counts quit_total choice_among matches ruling_by fate_of
a-severity-is-changed-for-an-id = refl

-- settings go by their class, and of one class the last prevails

abbrev levels : List Command
levels =
    SetVerbosity (codes "uvm_test_top.env") (which.Severity Info) 150
    ∷ SetVerbosity (codes "*") (which.Both Info (codes "X")) 300
    ∷ SetVerbosity (codes "*") which.All 400
    ∷ SetVerbosity (codes "*") (which.Severity Info) 50
    ∷ SetVerbosity (codes "*") (which.Id (codes "X")) 500
    ∷ SetVerbosity (codes "*") (which.Both Info (codes "X")) 100
    ∷ []

abbrev env : List (List ℕ)
env = codes "uvm_test_top" ∷ codes "env" ∷ []

abbrev info_at : List (List ℕ) → List ℕ → ℕ → Fate
info_at path id verbosity = report_fate levels path (report Info id verbosity)

of-a-severity-with-an-id-the-last-level-prevails : info_at (codes "a" ∷ []) (codes "X") 300 ≡ displayed Info
unfolding report_counts quit_total choice_among matches ruling_by fate_of
of-a-severity-with-an-id-the-last-level-prevails = refl

above-the-last-level-of-an-id-is-dropped : info_at (codes "a" ∷ []) (codes "X") 301 ≡ Dropped
unfolding report_counts quit_total choice_among matches ruling_by fate_of
above-the-last-level-of-an-id-is-dropped = refl

a-level-of-a-severity-goes-before-one-of-all : info_at (codes "a" ∷ []) (codes "Y") 50 ≡ displayed Info
unfolding report_counts quit_total choice_among matches ruling_by fate_of
a-level-of-a-severity-goes-before-one-of-all = refl

above-the-level-of-a-severity-is-dropped : info_at (codes "a" ∷ []) (codes "Y") 51 ≡ Dropped
unfolding report_counts quit_total choice_among matches ruling_by fate_of
above-the-level-of-a-severity-is-dropped = refl

the-last-level-of-a-severity-prevails-where-its-scope-matches : info_at env (codes "Y") 150 ≡ displayed Info
unfolding report_counts quit_total choice_among matches ruling_by fate_of
the-last-level-of-a-severity-prevails-where-its-scope-matches = refl

above-the-last-level-of-a-severity-is-dropped : info_at env (codes "Y") 151 ≡ Dropped
unfolding report_counts quit_total choice_among matches ruling_by fate_of
above-the-last-level-of-a-severity-is-dropped = refl

-- a severity is changed once

abbrev changes : List Command
changes = SetSeverity (codes "*") Warning None Info ∷ SetSeverity (codes "*") Error None Warning ∷ SetSeverity (codes "*") Info None Error ∷ []

an-info-keeps-its-verbosity-as-an-error : fate changes (report Info e 300) ≡ Dropped
unfolding report_counts quit_total choice_among matches ruling_by fate_of
an-info-keeps-its-verbosity-as-an-error = refl

an-info-is-an-error-where-it-is-displayed : fate changes (report Info e 200) ≡ displayed Error
unfolding report_counts quit_total choice_among matches ruling_by fate_of
an-info-is-an-error-where-it-is-displayed = refl

an-error-is-a-warning-and-no-info : fate changes (report Error e 300) ≡ displayed Warning
unfolding report_counts quit_total choice_among matches ruling_by fate_of
an-error-is-a-warning-and-no-info = refl

a-warning-has-no-verbosity-as-an-info : fate changes (report Warning e 300) ≡ displayed Info
unfolding report_counts quit_total choice_among matches ruling_by fate_of
a-warning-has-no-verbosity-as-an-info = refl

of-the-changed-reports-the-error-counts : (report_counts (issued (issued (issued (issued changes (report Info e 300)) (report Info e 200)) (report Error e 300)) (report Warning e 300))).quit ≡ 1
unfolding report_counts quit_total choice_among matches ruling_by
of-the-changed-reports-the-error-counts = refl

-- once the quit limit of 2 is reached, each report asks for the end

abbrev limited : List Command
limited = SetQuitLimit 2 ∷ []

an-info-before-the-limit-goes-on : fate limited (report Info e 200) ≡ Issued Info true false
unfolding report_counts quit_total choice_among matches ruling_by fate_of
an-info-before-the-limit-goes-on = refl

abbrev limited_1 : List Command
limited_1 = issued limited (report Info e 200)

the-first-error-goes-on : fate limited_1 (report Error e 0) ≡ Issued Error true false
unfolding report_counts quit_total choice_among matches ruling_by fate_of
the-first-error-goes-on = refl

abbrev limited_2 : List Command
limited_2 = issued limited_1 (report Error e 0)

a-warning-before-the-limit-goes-on : fate limited_2 (report Warning e 0) ≡ Issued Warning true false
unfolding report_counts quit_total choice_among matches ruling_by fate_of
a-warning-before-the-limit-goes-on = refl

abbrev limited_3 : List Command
limited_3 = issued limited_2 (report Warning e 0)

the-second-error-asks-for-the-end : fate limited_3 (report Error e 0) ≡ Issued Error true true
unfolding report_counts quit_total choice_among matches ruling_by fate_of
the-second-error-asks-for-the-end = refl

abbrev limited_4 : List Command
limited_4 = issued limited_3 (report Error e 0)

a-warning-after-the-limit-asks-for-the-end : fate limited_4 (report Warning e 0) ≡ Issued Warning true true
unfolding report_counts quit_total choice_among matches ruling_by fate_of
a-warning-after-the-limit-asks-for-the-end = refl

abbrev limited_5 : List Command
limited_5 = issued limited_4 (report Warning e 0)

an-info-after-the-limit-asks-for-the-end : fate limited_5 (report Info e 200) ≡ Issued Info true true
unfolding report_counts quit_total choice_among matches ruling_by fate_of
an-info-after-the-limit-asks-for-the-end = refl

abbrev limited_6 : List Command
limited_6 = issued limited_5 (report Info e 200)

a-dropped-report-after-the-limit-asks-for-nothing : fate limited_6 (report Info e 201) ≡ Dropped
unfolding report_counts quit_total choice_among matches ruling_by fate_of
a-dropped-report-after-the-limit-asks-for-nothing = refl

-- a fatal report asks for the end, and does not count toward the limit

a-fatal-report-asks-for-the-end : fate [] (report Fatal (codes "FCTTYP") 500) ≡ Issued Fatal true true
unfolding report_counts quit_total choice_among matches ruling_by fate_of
a-fatal-report-asks-for-the-end = refl

a-fatal-report-does-not-count : (report_counts (issued [] (report Fatal (codes "FCTTYP") 500))).quit ≡ 0
unfolding report_counts quit_total choice_among matches ruling_by
a-fatal-report-does-not-count = refl

a-warning-is-displayed-by-default : fate [] (report Warning e 0) ≡ displayed Warning
unfolding report_counts quit_total choice_among matches ruling_by fate_of
a-warning-is-displayed-by-default = refl

-- a fate says what is shown, and whether the run goes on

a-report-without-the-action-display-is-not-shown : displayed_as (Issued Error false true) ≡ None
a-report-without-the-action-display-is-not-shown = refl

a-report-that-is-not-shown-may-ask-for-the-end : asks_exit (Issued Error false true) ≡ true
a-report-that-is-not-shown-may-ask-for-the-end = refl

a-displayed-report-is-shown-by-its-severity : displayed_as (displayed Info) ≡ Some Info
a-displayed-report-is-shown-by-its-severity = refl

a-displayed-report-lets-the-run-go-on : asks_exit (displayed Info) ≡ false
a-displayed-report-lets-the-run-go-on = refl

a-silent-report-is-not-shown : displayed_as Silent ≡ None
a-silent-report-is-not-shown = refl

a-dropped-report-asks-for-nothing : asks_exit Dropped ≡ false
a-dropped-report-asks-for-nothing = refl

-- the lines of reports and summaries

the-line-of-an-error : report_line Error 0 (codes "uvm_test_top") e (codes "one") ≡ codes "UVM_ERROR @ 0: uvm_test_top [E] one\n"
unfolding report_line digits
the-line-of-an-error = refl

the-line-of-a-warning-without-a-text : report_line Warning 30 (codes "uvm_top") (codes "SQRERR") [] ≡ codes "UVM_WARNING @ 30: uvm_top [SQRERR] \n"
unfolding report_line digits
the-line-of-a-warning-without-a-text = refl

abbrev summary : List Command → List ℕ
summary commands = summary_text (quit_limit commands) (report_counts commands)

the-summary-has-the-quit-count-where-there-is-a-limit : summary (issued (issued limited (report Error e 200)) (report Error e 200)) ≡ codes "--- UVM Report Summary ---\nQuit count : 2 of 2\n** Report counts by severity\nUVM_INFO : 0\nUVM_WARNING : 0\nUVM_ERROR : 2\nUVM_FATAL : 0\n** Report counts by id\n[E] 2\n"
unfolding summary_text limit_line severity_line id_line report_counts choice_among matches ruling_by digits
the-summary-has-the-quit-count-where-there-is-a-limit = refl

the-summary-has-ids-as-they-were-first-counted : summary (issued (issued (issued [] (report Info (codes "MON") 200)) (report Info (codes "SB") 200)) (report Info (codes "MON") 200)) ≡ codes "--- UVM Report Summary ---\n** Report counts by severity\nUVM_INFO : 3\nUVM_WARNING : 0\nUVM_ERROR : 0\nUVM_FATAL : 0\n** Report counts by id\n[MON] 2\n[SB] 1\n"
unfolding summary_text limit_line severity_line id_line report_counts choice_among matches ruling_by digits
the-summary-has-ids-as-they-were-first-counted = refl
