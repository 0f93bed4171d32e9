use Rattle.std.proofs.Common.{◌≡◌, ◌≤◌, ◌⊎◌, inl, inr, ◌+◌, ◌∷◌, ℕ, List, map, drop, arith, ap, sym, ◌∙◌}
use Rattle.rt_groups.specs.declared.groups.Group.{Group}
use Rattle.slot_table.specs.KeptRuns.{patched}
use Rattle.slot_table.specs.declared.runs.KeptRun.{KeptRun}
use Rattle.slot_table.proofs.ReadsLeft.{kept_first, new_first, none_left}
use Rattle.slot_table.proofs.shrunk_reads.ShrunkReads.next.Goals as goal

-- The reads of each group.
abbrev reads_of : List Group → List (List ℕ)
reads_of gs = map (λ g. g.reads) gs

-- A run that is not kept next has a gap or no groups.
short : (r : KeptRun) → ((r.gap ≡ 0) × (r.to ≤ r.from)) ⊎ (r.gap ≡ 0 → ⊥) → r.gap ≡ 0 → r.to ≤ r.from
short r either none = elim either [ inl both ↦ both.1 | inr some ↦ absurd (some none) ]

pub returns-then-run : goal.returns-then-run
returns-then-run c =
    let s = c.self.inside in
    let olds : List Group = s.table.now.groups in
    let left : List Group = drop s.at s.fresh.now in
    let run = c.pass_empty_runs.result.0 in
    let runs = c.pass_empty_runs.result.1.now in
    let rest : KeptRun = record { gap = run.gap; from = run.from + 1; to = run.to } in
    sym c.self.view_is
    ∙ ap reads_of (sym (c.pass_empty_runs.ensures.groups olds left)
    ∙ kept_first olds left run runs c.if-run-eq0.true c.if-run.true
    (c.pass_empty_runs.ensures.inside olds c.self.invariant.0).1)
    ∙ ap (λ reads. reads ∷ reads_of (patched olds left (rest ∷ runs))) (sym c.reads-reads.ensures)

pub returns-then-self-len : goal.returns-then-self-len
returns-then-self-len c =
    let s = c.self.inside in
    let olds : List Group = s.table.now.groups in
    let left : List Group = drop s.at s.fresh.now in
    let run = c.pass_empty_runs.result.0 in
    let runs = c.pass_empty_runs.result.1.now in
    let same = c.pass_empty_runs.ensures.gaps in
    let fits = c.self.invariant.1 in
    sym c.self.view_is
    ∙ ap reads_of (sym (c.pass_empty_runs.ensures.groups olds left)
    ∙ none_left olds s.fresh.now s.at run runs (c.if-self-len.true ∙ c.len.ensures) (omega (arith, same, fits))
    (short run c.else-run-eq0.either) c.pass_empty_runs.ensures.last)

pub returns : goal.returns
returns c =
    let s = c.self.inside in
    let olds : List Group = s.table.now.groups in
    let left : List Group = drop s.at s.fresh.now in
    let run = c.pass_empty_runs.result.0 in
    let runs = c.pass_empty_runs.result.1.now in
    let gap : ℕ = c.saturating_sub-self-inside.result in
    let rest : KeptRun = record { gap = gap; from = run.from; to = run.to } in
    let len = c.len.ensures in
    let more = c.if-self-len.false in
    let same = c.pass_empty_runs.ensures.gaps in
    let fits = c.self.invariant.1 in
    sym c.self.view_is
    ∙ ap reads_of (sym (c.pass_empty_runs.ensures.groups olds left)
    ∙ new_first olds s.fresh.now s.at gap run runs (omega (arith, len, more, same, fits))
    c.saturating_sub-self-inside.ensures (short run c.else-run-eq0.either) c.pass_empty_runs.ensures.last)
    ∙ ap (λ reads. reads ∷ reads_of (patched olds (drop (s.at + 1) s.fresh.now) (rest ∷ runs)))
    (sym c.reads-reads-2.ensures)
