-- The runs that were made so far, and one more.
use Rattle.std.proofs.Common.{◌≡◌, ◌≤◌, ◌+◌, ℕ, Bool, true, false, List, [], ◌∷◌, ◌++◌, Option, Some, ap, arith, append-nil, add-one, refl, sym, subst, ◌∙◌, if◌then◌else◌}
use Rattle.std.proofs.lemmas.List.Elements.{All-nil, All-push, All-weaker}
use Rattle.std.proofs.lemmas.List.Concat.{flat_map-append}
use Rattle.std.proofs.lemmas.List.Sums.{fold-append}
use Rattle.std.specs.Prelude.{All, count_by, map, max}
use Rattle.std.specs.List.{flat_map}
use Rattle.std.proofs.KnownBytes.{Appends-nil, Appends-trans}
use Rattle.std.specs.Io.KnownBytes.{Appends}
use Rattle.script_jobs.specs.Verdicts.{status_of}
use Rattle.script_jobs.specs.Benches.{BenchValue, HasRead}
use Rattle.script_jobs.specs.Laws.{BenchRunsAreRuns}
use Rattle.script_input.specs.Scripts.{words_of_seed}
use Rattle.script_seeds.specs.SeedRuns.{IsRunFor, IsSeedRun, SeedRun, WroteRuns, count_line, greatest_status, is_clean_run, line_of, seeds_from}
use Rattle.script_seeds.specs.Tallies.{IsNext}
use Rattle.script_seeds.specs.declared.runs.Tally.{Tally}

-- the runs for so many seeds, whose lines were written
pub record MadeSome (bench : BenchValue) (first count : ℕ) (old new : Option (List ℕ)) (tally : Tally) : Type 0 where
  pub runs : List SeedRun
  pub seeds : map (λ run. run.seed) runs ≡ seeds_from first count
  pub each : All (IsRunFor bench) runs
  pub wrote : Appends old new (flat_map line_of runs)
  pub clean : tally.clean ≡ count_by is_clean_run runs
  pub few : tally.clean ≤ count
  pub status : tally.status ≡ greatest_status runs

pub made-none : (bench : BenchValue) (first : ℕ) (held : Option (List ℕ)) (tally : Tally) → tally.clean ≡ 0 → tally.status ≡ 0 → MadeSome bench first 0 held held tally
made-none bench first held tally none least = record { runs = []; seeds = refl; each = All-nil (IsRunFor bench); wrote = Appends-nil held; clean = none; few = omega arith; status = least }

map-push : (runs : List SeedRun) (run : SeedRun) → map (λ (it : SeedRun). it.seed) (runs ++ run ∷ []) ≡ map (λ (it : SeedRun). it.seed) runs ++ run.seed ∷ []
map-push [] run = refl
map-push (it ∷ rest) run = ap (λ l. it.seed ∷ l) (map-push rest run)

lines-push : (runs : List SeedRun) (run : SeedRun) → flat_map line_of (runs ++ run ∷ []) ≡ flat_map line_of runs ++ line_of run
lines-push runs run = flat_map-append line_of runs (run ∷ []) ∙ ap (λ l. flat_map line_of runs ++ l) (append-nil (line_of run))

count-push : (runs : List SeedRun) (run : SeedRun) → count_by is_clean_run (runs ++ run ∷ []) ≡ count_by is_clean_run runs + (if is_clean_run run then 1 else 0)
count-push runs run = fold-append (λ count (it : SeedRun). count + (if is_clean_run it then 1 else 0)) 0 runs (run ∷ [])

greatest-push : (runs : List SeedRun) (run : SeedRun) → greatest_status (runs ++ run ∷ []) ≡ max (greatest_status runs) (status_of run.verdict)
greatest-push runs run = fold-append (λ most (it : SeedRun). max most (status_of it.verdict)) 0 runs (run ∷ [])

at-most-one : (b : Bool) → (if b then 1 else 0) ≤ 1
at-most-one true = omega arith
at-most-one false = omega arith

pub made-more : (bench : BenchValue) (first count : ℕ) (old mid new : Option (List ℕ)) (before after : Tally) → MadeSome bench first count old mid before
    → IsNext bench (first + count) before after mid new → MadeSome bench first (count + 1) old new after
made-more bench first count old mid new before after made next =
    let run = next.run in
    let runs = made.runs in
    record {
      runs = runs ++ run ∷ [];
      seeds = map-push runs run ∙ ap (λ l. l ++ run.seed ∷ []) made.seeds ∙ ap (λ seed. seeds_from first count ++ seed ∷ []) next.seed_is ∙ sym (ap (seeds_from first) (add-one count));
      each = All-push (IsRunFor bench) runs run made.each next.made;
      wrote = subst (Appends old new) (sym (lines-push runs run)) (Appends-trans old mid new (flat_map line_of runs) (line_of run) made.wrote next.wrote);
      clean = next.added.clean ∙ ap (λ n. n + (if is_clean_run run then 1 else 0)) made.clean ∙ sym (count-push runs run);
      few = omega (arith, next.added.clean, made.few, at-most-one (is_clean_run run));
      status = next.added.status ∙ ap (λ most. max most (status_of run.verdict)) made.status ∙ sym (greatest-push runs run);
    }

-- the runs for all seeds, and the last line
pub made-all : (bench : BenchValue) (first count : ℕ) (old mid new : Option (List ℕ)) (tally : Tally) → MadeSome bench first count old mid tally → Appends mid new (count_line count tally.clean)
    → WroteRuns (IsRunFor bench) first count old new tally.status
made-all bench first count old mid new tally made last = record {
  runs = made.runs;
  seeds = made.seeds;
  each = made.each;
  wrote = subst (λ clean. Appends old new (flat_map line_of made.runs ++ count_line count clean)) made.clean (Appends-trans old mid new (flat_map line_of made.runs) (count_line count tally.clean) made.wrote last);
  status = made.status;
}

-- runs of a bench that was read are runs of its document
pub runs-of-document : (bytes : List ℕ) (test : Option (List ℕ)) (bench : BenchValue) (first count : ℕ) (old new : Option (List ℕ)) (greatest : ℕ) → BenchRunsAreRuns → HasRead bytes test bench
    → WroteRuns (IsRunFor bench) first count old new greatest → WroteRuns (IsSeedRun bytes test) first count old new greatest
runs-of-document bytes test bench first count old new greatest law has made = record {
  runs = made.runs;
  seeds = made.seeds;
  each = All-weaker (IsRunFor bench) (IsSeedRun bytes test) (λ run is. law bytes test bench (words_of_seed run.seed) false (Some []) (Some run.output) run.verdict has is) made.runs made.each;
  wrote = made.wrote;
  status = made.status;
}
