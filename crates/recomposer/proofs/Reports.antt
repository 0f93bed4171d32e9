-- The report and the reads of a frame depend only on the owed states.
use Rattle.std.proofs.Common.{ℕ, ◌<◌, ◌-◌, ◌^◌, List, [], ◌∷◌, ◌≡◌, map, refl, ap, ◌∙◌, sym, length, Bool, true, not, ◌&&◌, ◌||◌, cond, Option, Some, None, min}
use Rattle.std.specs.List.{filter}
use Rattle.rt_groups.specs.declared.report.Report.{Report}
use Rattle.rt_values.specs.Maps.{Map, differ, contains}
use Rattle.rt_groups.specs.GroupForest.{GroupForest, End, GroupKind, asks, own_part, how_many, how_many_nodes}
use Rattle.rt_groups.specs.Paths.{Path, Found, inside_of, at_path}
use Rattle.rt_groups.specs.Frames.{CallAtPath, nobody, calls, cells, trace, meets, same_call, runs_after, call_runs, other_keys, is_calculated, ran, calculated_cells, reads, report}
use Rattle.lang_ast.specs.declared.program.Program.{Program}
use Rattle.lang_ast.specs.Programs.{program_view}
use Rattle.lang_checks.specs.CheckedProgram.{IsChecked}
use Rattle.composer.specs.OwedObjects.{OwedObjects}
use Rattle.recomposer.specs.Compositions.{Owes}
use Rattle.recomposer.proofs.StateReads.{AreBelow, own_below, path_below, kept_below}

filter_same : {X : Type 0} (f g : X → Bool) (xs : List X) → ((x : X) → f x ≡ g x) → filter f xs ≡ filter g xs
filter_same f g [] h = refl
filter_same f g (x ∷ xs) h =
    ap (λ b. cond b (x ∷ filter f xs) (filter f xs)) (h x) ∙ ap (λ l. cond (g x) (x ∷ l) l) (filter_same f g xs h)

module _ (o p : List ℕ) (old : GroupForest) (same : (c : CallAtPath) → call_runs o old c ≡ call_runs p old c)
    (new : GroupForest) where
  reads_same : reads o old new ≡ reads p old new
  reads_same = ap (map (λ (r : CallAtPath × ℕ). r.1))
      (filter_same (λ (r : CallAtPath × ℕ). call_runs o old r.0) (λ (r : CallAtPath × ℕ). call_runs p old r.0)
      (trace nobody [] [] new) (λ r. same r.0))

  report_same : report o old new ≡ report p old new
  report_same =
      let runs : ran o old new ≡ ran p old new =
      filter_same (call_runs o old) (call_runs p old) (calls [] [] new) same in
      let cells : calculated_cells o old new ≡ calculated_cells p old new =
      filter_same (is_calculated o old) (is_calculated p old) (cells nobody [] [] new)
      (λ c. ap (λ b. b && other_keys (at_path c.path old) c.keys) (same c.caller)) in
      ap (λ l. told (length l) (length (calculated_cells o old new)) (length (reads o old new))) runs
      ∙ ap (λ l. told (length (ran p old new)) (length l) (length (reads o old new))) cells
      ∙ ap (λ l. told (length (ran p old new)) (length (calculated_cells p old new)) (length l)) reads_same
    where
      told : ℕ → ℕ → ℕ → Report
      told a b c = record {
        ran = a;
        calculated = b;
        reads = min c (2 ^ 64 - 1);
        groups = how_many new;
        nodes = how_many_nodes new;
      }

-- No group is at any path if nothing is kept.
nothing_at : (path : Path) → at_path path End ≡ None
nothing_at [] = refl
nothing_at (s ∷ []) = refl
nothing_at (s ∷ (r ∷ path)) = nothing_at (r ∷ path)

all_run : (o : List ℕ) (c : CallAtPath) → call_runs o End c ≡ true
all_run o c = ap (λ f. runs_after o f c.what) (nothing_at c.path)

-- Lists with the same members below `n` are met by the same reads below `n`.
module _ (n : ℕ) (o p : List ℕ) (same : (x : ℕ) → x < n → contains x o ≡ contains x p) where
  meets_same : (xs : List ℕ) → AreBelow n xs → meets xs o ≡ meets xs p
  meets_same [] h = refl
  meets_same (x ∷ xs) h = ap (λ b. b || meets xs o) (same x h.0) ∙ ap (λ b. contains x p || b) (meets_same xs h.1)

  runs_same : (old : Option Found) (what : GroupKind) → AreBelow n (asks (own_part (inside_of old)))
      → runs_after o old what ≡ runs_after p old what
  runs_same None what h = refl
  runs_same (Some old) what h = ap (λ b. not (same_call old.what what) || b) (meets_same (asks (own_part old.inside)) h)

  call_same : (old : GroupForest) → AreBelow n (asks old) → (c : CallAtPath) → call_runs o old c ≡ call_runs p old c
  call_same old h c =
      runs_same (at_path c.path old) c.what (own_below n (inside_of (at_path c.path old)) (path_below n c.path old h))

-- The calls that run are those that run if everything is owed that changed since the last good frame.
pub owed_calls : (p : Program) (seen : Option Map) (old : GroupForest) (m : Map) (owed : OwedObjects)
    → IsChecked (program_view p) → Owes p seen old (Some m) owed → (c : CallAtPath)
    → call_runs owed.objects old c ≡ call_runs (differ seen m) old c
owed_calls p None old m owed checked h c =
    ap (λ t. call_runs owed.objects t c) h.0 ∙ (all_run owed.objects c ∙ sym (all_run (differ None m) c))
    ∙ ap (λ t. call_runs (differ None m) t c) (sym h.0)
owed_calls p (Some seen) old m owed checked h c = call_same (length p.states.items) owed.objects (differ (Some seen) m)
    h.2 old (kept_below p seen old checked h.3.composed) c

pub owed_report : (p : Program) (seen : Option Map) (old : GroupForest) (m : Map) (owed : OwedObjects)
    (new : GroupForest) → IsChecked (program_view p) → Owes p seen old (Some m) owed
    → report owed.objects old new ≡ report (differ seen m) old new
owed_report p seen old m owed new checked h =
    report_same owed.objects (differ seen m) old (owed_calls p seen old m owed checked h) new

pub owed_reads : (p : Program) (seen : Option Map) (old : GroupForest) (m : Map) (owed : OwedObjects)
    (new : GroupForest) → IsChecked (program_view p) → Owes p seen old (Some m) owed
    → reads owed.objects old new ≡ reads (differ seen m) old new
owed_reads p seen old m owed new checked h =
    reads_same owed.objects (differ seen m) old (owed_calls p seen old m owed checked h) new
