-- What one more command comes to.
use Rattle.uvm_report.proofs.Common.{◌≡◌, ℕ, ◌+◌, ◌≤◌, List, [], ◌∷◌, Bool, true, false, suc, map, filter, sum_by, if◌then◌else◌, refl, sym, ap, ◌∙◌, inl, inr, add-one, add-zero, arith, filter_map, cases_Bool, or-true, nat_tests, path_text, Severity, Info, Warning, Error, Fatal, Report, Issued, is_empty, Counts, no_counts, issued_number, with_id, with_report, Agree, Ruling, ruling_by, effective_verbosity, is_issued, counts_with, is_reached, fate_of, Command, is_issue, SetVerbosity, SetAction, SetSeverity, SetQuitLimit, Issue, which_from, level_in, actions_in, severity_in, chosen, given_ruling, quit_total, quit_limit, IssuedReport, issued_reports, severity_count, quit_count, counts_in, report_counts, Representation, ruling_at, severity_after, level_after, actions_after, limit_after, counts_after, ReportsAgree, NewGivesNothing, CommandsAreGiven, FatesAreGiven, CommandsAreCounted, ReachedLimitEndsRuns, length, nat_lt}
use Rattle.uvm_report.proofs.Given.{choice-none, choice-given}
use Rattle.uvm_report.proofs.Counted.{number, all-with_id}
use Rattle.uvm_report.proofs.Ids.{id_counts-cons}

-- one more command in what is chosen
severity-command : (command : Command) (older : List Command) (text : List ℕ) (severity : Severity) (id : List ℕ) → chosen severity_in (command ∷ older) text severity id ≡ severity_after command text severity id (chosen severity_in older text severity id)
severity-command (SetVerbosity scope which level) older text severity id = refl
severity-command (SetAction scope which actions) older text severity id = refl
severity-command (SetSeverity scope from changed to) older text severity id =
    choice-given (record { scope = scope; which = which_from from changed; value = to }) (filter_map severity_in older) text severity id
severity-command (SetQuitLimit limit) older text severity id = refl
severity-command (Issue path report) older text severity id = refl

level-command : (command : Command) (older : List Command) (text : List ℕ) (severity : Severity) (id : List ℕ) → chosen level_in (command ∷ older) text severity id ≡ level_after command text severity id (chosen level_in older text severity id)
level-command (SetVerbosity scope which level) older text severity id =
    choice-given (record { scope = scope; which = which; value = level }) (filter_map level_in older) text severity id
level-command (SetAction scope which actions) older text severity id = refl
level-command (SetSeverity scope from changed to) older text severity id = refl
level-command (SetQuitLimit limit) older text severity id = refl
level-command (Issue path report) older text severity id = refl

actions-command : (command : Command) (older : List Command) (text : List ℕ) (severity : Severity) (id : List ℕ) → chosen actions_in (command ∷ older) text severity id ≡ actions_after command text severity id (chosen actions_in older text severity id)
actions-command (SetVerbosity scope which level) older text severity id = refl
actions-command (SetAction scope which actions) older text severity id =
    choice-given (record { scope = scope; which = which; value = actions }) (filter_map actions_in older) text severity id
actions-command (SetSeverity scope from changed to) older text severity id = refl
actions-command (SetQuitLimit limit) older text severity id = refl
actions-command (Issue path report) older text severity id = refl

limit-command : (command : Command) (older : List Command) → quit_limit (command ∷ older) ≡ limit_after command (quit_limit older)
limit-command (SetVerbosity scope which level) older = refl
limit-command (SetAction scope which actions) older = refl
limit-command (SetSeverity scope from changed to) older = refl
limit-command (SetQuitLimit limit) older = refl
limit-command (Issue path report) older = refl

-- one more report that was issued
quit_count-cons : (severity : Severity) (id : List ℕ) (count : Bool) (older : List IssuedReport) → quit_count (record { severity = severity; id = id; count = count } ∷ older) ≡ quit_count older + (if count then 1 else 0)
quit_count-cons severity id true older = sym (add-one (quit_count older))
quit_count-cons severity id false older = sym (add-zero (quit_count older))

counts_in-cons : (severity : Severity) (id : List ℕ) (count : Bool) (older : List IssuedReport) → counts_in (record { severity = severity; id = id; count = count } ∷ older) ≡ with_report severity id count (counts_in older)
unfolding with_report
counts_in-cons Info id count older = λ i. record {
  info = sym (add-one (severity_count Info older)) i;
  warning = severity_count Warning older;
  error = severity_count Error older;
  fatal = severity_count Fatal older;
  ids = id_counts-cons id (map (λ report. report.id) older) i;
  quit = quit_count-cons Info id count older i;
}
counts_in-cons Warning id count older = λ i. record {
  info = severity_count Info older;
  warning = sym (add-one (severity_count Warning older)) i;
  error = severity_count Error older;
  fatal = severity_count Fatal older;
  ids = id_counts-cons id (map (λ report. report.id) older) i;
  quit = quit_count-cons Warning id count older i;
}
counts_in-cons Error id count older = λ i. record {
  info = severity_count Info older;
  warning = severity_count Warning older;
  error = sym (add-one (severity_count Error older)) i;
  fatal = severity_count Fatal older;
  ids = id_counts-cons id (map (λ report. report.id) older) i;
  quit = quit_count-cons Error id count older i;
}
counts_in-cons Fatal id count older = λ i. record {
  info = severity_count Info older;
  warning = severity_count Warning older;
  error = severity_count Error older;
  fatal = sym (add-one (severity_count Fatal older)) i;
  ids = id_counts-cons id (map (λ report. report.id) older) i;
  quit = quit_count-cons Fatal id count older i;
}

-- a report is counted where it is issued
report_counts-issue : (path : List (List ℕ)) (report : Report) (older : List Command) → report_counts (Issue path report ∷ older) ≡ counts_with report (given_ruling older path report) (report_counts older)
unfolding report_counts counts_with
report_counts-issue path report older = elim (cases_Bool (is_issued report (given_ruling older path report))) [
  | inl issued ↦ rw issued (counts_in-cons (given_ruling older path report).severity report.id (given_ruling older path report).actions.count (issued_reports older))
  | inr not ↦ rw not refl
]

-- what the settings say
ruling-given : (kept : Representation) (commands : List Command) → ReportsAgree kept commands → (path : List (List ℕ)) (report : Report) → ruling_at kept path report ≡ given_ruling commands path report
ruling-given kept commands gives path report =
    λ i. ruling_by (λ severity id. gives.severities path severity id i) (λ severity id. gives.levels path severity id i) (λ severity id. gives.actions path severity id i) report

counts-command : (command : Command) (older : List Command) (kept : Representation) → ReportsAgree kept older → counts_after command kept ≡ report_counts (command ∷ older)
unfolding report_counts
counts-command (SetVerbosity scope which level) older kept gives = gives.counts
counts-command (SetAction scope which actions) older kept gives = gives.counts
counts-command (SetSeverity scope from changed to) older kept gives = gives.counts
counts-command (SetQuitLimit limit) older kept gives = gives.counts
counts-command (Issue path report) older kept gives =
    (λ i. counts_with report (ruling-given kept older gives path report i) (gives.counts i)) ∙ sym (report_counts-issue path report older)

counts-none : report_counts [] ≡ no_counts
unfolding report_counts
counts-none = refl

pub new_gives_nothing : NewGivesNothing
new_gives_nothing kept new = record {
  severities = λ path severity id. new.severities path severity id ∙ sym (choice-none (path_text path) severity id);
  levels = λ path severity id. new.levels path severity id ∙ sym (choice-none (path_text path) severity id);
  actions = λ path severity id. new.actions path severity id ∙ sym (choice-none (path_text path) severity id);
  limit = new.limit;
  counts = new.counts ∙ sym counts-none;
}

pub commands_are_given : CommandsAreGiven
commands_are_given command older old new gives after = record {
  severities = λ path severity id. after.severities path severity id ∙ ap (severity_after command (path_text path) severity id) (gives.severities path severity id) ∙ sym (severity-command command older (path_text path) severity id);
  levels = λ path severity id. after.levels path severity id ∙ ap (level_after command (path_text path) severity id) (gives.levels path severity id) ∙ sym (level-command command older (path_text path) severity id);
  actions = λ path severity id. after.actions path severity id ∙ ap (actions_after command (path_text path) severity id) (gives.actions path severity id) ∙ sym (actions-command command older (path_text path) severity id);
  limit = after.limit ∙ ap (limit_after command) gives.limit ∙ sym (limit-command command older);
  counts = after.counts ∙ counts-command command older old gives;
}

pub fates_are_given : FatesAreGiven
unfolding report_counts quit_total
fates_are_given kept commands gives path report =
    (λ i. fate_of report (ruling-given kept commands gives path report i) (is_reached (gives.limit i) (counts_with report (ruling-given kept commands gives path report i) (gives.counts i)).quit))
    ∙ ap (λ counts. fate_of report (given_ruling commands path report) (is_reached (quit_limit commands) counts.quit)) (sym (report_counts-issue path report commands))

-- one more report is one more of all
issued_number-with_report : (severity : Severity) (id : List ℕ) (count : Bool) (counts : Counts) → issued_number (with_report severity id count counts) ≡ issued_number counts + 1
unfolding with_report
issued_number-with_report Info id count counts = omega arith
issued_number-with_report Warning id count counts = omega arith
issued_number-with_report Error id count counts = omega arith
issued_number-with_report Fatal id count counts = omega arith

with_report-ids : (severity : Severity) (id : List ℕ) (count : Bool) (counts : Counts) → (with_report severity id count counts).ids ≡ with_id id counts.ids
unfolding with_report
with_report-ids severity id count counts = refl

with_report-quit : (severity : Severity) (id : List ℕ) (count : Bool) (counts : Counts) → ((with_report severity id count counts).quit ≤ counts.quit + 1) × (counts.quit ≤ (with_report severity id count counts).quit)
unfolding with_report
with_report-quit severity id true counts = (omega arith, omega arith)
with_report-quit severity id false counts = (omega arith, omega arith)

Agree-with_report : (severity : Severity) (id : List ℕ) (count : Bool) (counts : Counts) → Agree counts → Agree (with_report severity id count counts)
Agree-with_report severity id count counts agree =
    let more = issued_number-with_report severity id count counts in
    let quit = (with_report-quit severity id count counts).0 in
    record {
      ids = ap (sum_by number) (with_report-ids severity id count counts) ∙ all-with_id id counts.ids ∙ ap (λ n. n + 1) agree.ids ∙ sym more;
      quit = omega (arith, more, quit, agree.quit);
    }

-- the counts before and after a report
counted_with : (report : Report) (ruling : Ruling) (counts : Counts) (n : ℕ) → Agree counts → issued_number counts ≤ n
    → Agree (counts_with report ruling counts) × (issued_number (counts_with report ruling counts) ≤ suc n) × (counts.quit ≤ (counts_with report ruling counts).quit)
unfolding counts_with
counted_with report ruling counts n agree few = elim (cases_Bool (is_issued report ruling)) [
  | inl issued ↦
      let more = issued_number-with_report ruling.severity report.id ruling.actions.count counts in
      rw issued (Agree-with_report ruling.severity report.id ruling.actions.count counts agree, omega (arith, more, few), (with_report-quit ruling.severity report.id ruling.actions.count counts).1)
  | inr not ↦ rw not (agree, omega (arith, few), omega arith)
]

counted-issue : (path : List (List ℕ)) (report : Report) (older : List Command) → Agree (report_counts older) → issued_number (report_counts older) ≤ length (filter is_issue older)
    → Agree (report_counts (Issue path report ∷ older)) × (issued_number (report_counts (Issue path report ∷ older)) ≤ suc (length (filter is_issue older)))
counted-issue path report older agree few =
    let after = counted_with report (given_ruling older path report) (report_counts older) (length (filter is_issue older)) agree few in
    rw (report_counts-issue path report older) (after.0, after.1)

counted : (commands : List Command) → Agree (report_counts commands) × (issued_number (report_counts commands) ≤ length (filter is_issue commands))
unfolding report_counts
counted [] = (record { ids = refl; quit = omega arith }, omega arith)
counted (SetVerbosity scope which level ∷ older) = let (agree, few) = counted older in (agree, omega (arith, few))
counted (SetAction scope which actions ∷ older) = let (agree, few) = counted older in (agree, omega (arith, few))
counted (SetSeverity scope from changed to ∷ older) = let (agree, few) = counted older in (agree, omega (arith, few))
counted (SetQuitLimit limit ∷ older) = let (agree, few) = counted older in (agree, omega (arith, few))
counted (Issue path report ∷ older) = let (agree, few) = counted older in counted-issue path report older agree few

pub commands_are_counted : CommandsAreCounted
commands_are_counted commands = record { agree = (counted commands).0; few = (counted commands).1 }

-- a fate that is issued asks for the end of the run where the limit is reached
fate-exit : (report : Report) (ruling : Ruling) (reached : Bool) (severity : Severity) (display exit : Bool) → reached ≡ true → fate_of report ruling reached ≡ Issued severity display exit → exit ≡ true
unfolding fate_of
fate-exit report ruling reached severity display exit at_limit is = elim (cases_Bool (nat_lt ruling.level (effective_verbosity report))) [
  | inl above ↦ let none = rw above at is in cc
  | inr within ↦ elim (cases_Bool (is_empty ruling.actions)) [
    | inl empty ↦ let none = rw (within, empty) at is in cc
    | inr some ↦ let one = rw (within, some, at_limit, or-true) at is in cc
  ]
]

-- one more report leaves the quit count no lower
quit-grows : (commands : List Command) (path : List (List ℕ)) (report : Report) → (report_counts commands).quit ≤ (report_counts (Issue path report ∷ commands)).quit
quit-grows commands path report =
    rw (report_counts-issue path report commands) (counted_with report (given_ruling commands path report) (report_counts commands) (length (filter is_issue commands)) (counted commands).0 (counted commands).1).2

pub reached_limit_ends_runs : ReachedLimitEndsRuns
unfolding report_counts quit_total
reached_limit_ends_runs commands path report severity display exit reached is =
    fate-exit report (given_ruling commands path report) (is_reached (quit_limit commands) (report_counts (Issue path report ∷ commands)).quit) severity display exit (still (quit_limit commands) (report_counts commands).quit (report_counts (Issue path report ∷ commands)).quit (quit-grows commands path report) reached) is
  where
    still : (limit quit later : ℕ) → quit ≤ later → is_reached limit quit ≡ true → is_reached limit later ≡ true
    still limit quit later more before = grind (arith, nat_tests)
