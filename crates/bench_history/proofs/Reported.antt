-- How many reports are issued.
use Rattle.bench_history.proofs.Common.{◌≡◌, ℕ, ◌≤◌, ◌+◌, false, List, [], ◌∷◌, ◌++◌, length, filter, map, reverse, Option, Some, None, refl, ap, ◌∙◌, arith, inl, inr, cons_option, cases_Bool, reverse-append, filter-append, Command, SetQuitLimit, is_issue, CommandsAreCounted, Entry, ScriptValue, nodes_of, verbosity_command, action_command, severity_command, script_commands, command_in, report_commands, ReportsAreFew}

-- what is made of a list by commands that issue no report issues none
none-of : {A : Type 0} (f : A → Command) → ((x : A) → is_issue (f x) ≡ false) → (xs : List A) → filter is_issue (reverse (map f xs)) ≡ []
none-of f silent [] = refl
none-of f silent (x ∷ xs) =
    ap (filter is_issue) (reverse-append (f x ∷ []) (map f xs))
    ∙ filter-append is_issue (reverse (map f xs)) (f x ∷ [])
    ∙ ap (λ l. l ++ filter is_issue (f x ∷ [])) (none-of f silent xs)
    ∙ rw (silent x) refl

none-more : (xs ys : List Command) → filter is_issue xs ≡ [] → filter is_issue ys ≡ [] → filter is_issue (xs ++ ys) ≡ []
none-more xs ys none rest = filter-append is_issue xs ys ∙ rw (none, rest) refl

-- a script issues no report
none-first : (script : ScriptValue) → filter is_issue (script_commands script) ≡ []
none-first script =
    none-more (reverse (map severity_command script.severities)) _ (none-of severity_command (λ given. refl) script.severities) (
    none-more (reverse (map action_command script.actions)) _ (none-of action_command (λ given. refl) script.actions) (
    none-more (reverse (map verbosity_command script.verbosities)) (SetQuitLimit script.quit_limit ∷ []) (none-of verbosity_command (λ given. refl) script.verbosities) refl))

-- an entry asks for one report at most
one-more : (command : Option Command) (older : List Command) (n : ℕ) → length (filter is_issue older) ≤ n → length (filter is_issue (cons_option command older)) ≤ n + 1
one-more None older n few = omega (arith, few)
one-more (Some command) older n few = elim (cases_Bool (is_issue command)) [
  | inl issues ↦ rw issues (omega (arith, few))
  | inr silent ↦ rw silent (omega (arith, few))
]

few-issues : (script : ScriptValue) (history : List Entry) → length (filter is_issue (report_commands script history)) ≤ length history
few-issues script [] = rw (none-first script) (omega arith)
few-issues script (entry ∷ before) =
    let more = one-more (command_in (nodes_of before) entry) (report_commands script before) (length before) (few-issues script before) in
    omega (arith, more)

pub reports_are_few : CommandsAreCounted → ReportsAreFew
reports_are_few counted script history = omega (arith, (counted (report_commands script history)).few, few-issues script history)
