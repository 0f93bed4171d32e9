-- What is in hand around a call that runs or around groups that are skipped.
use Rattle.std.proofs.Common.{◌≡◌, ◌∙◌, ◌+◌, ℕ, List, length, Result, Ok, Err, ap, sym, subst, arith}
use Rattle.std.specs.Prelude.{OnOk}
use Rattle.rt_groups.specs.GroupForest.{GroupForest}
use Rattle.rt_groups.specs.Paths.{GroupKey}
use Rattle.composer.specs.declared.progress.Level.{Level}
use Rattle.composer.specs.declared.progress.Progress.{Progress}
use Rattle.composer.specs.declared.pending.Pending.{Pending}
use Rattle.composer.specs.declared.stop.ComposeStop.{ComposeStop}
use Rattle.composer.specs.ComposerState.{ComposerState}
use Rattle.composer.specs.WrittenGroups.{state_of}
use Rattle.composer.specs.Recomposes.{ComposesBeside, FitsIn, StaysIn, StaysInHand}

-- What is in hand stays after two steps.
pub in_hand_on : (a b made : Progress) {U : Type 0} (result : Result U ComposeStop) → StaysInHand a b
    → OnOk result (StaysInHand b made) → OnOk result (StaysInHand a made)
in_hand_on a b made (Ok u) h k = record {
  scope = k.scope ∙ h.scope;
  pending = k.pending ∙ h.pending;
  reads = k.reads ∙ h.reads;
}
in_hand_on a b made (Err x) h k = tt

-- The variables in scope stay.
pub scope_stays : (a b : Progress) {U : Type 0} (result : Result U ComposeStop) → OnOk result (StaysInHand a b)
    → OnOk result (b.scope ≡ a.scope)
scope_stays a b (Ok u) h = h.scope
scope_stays a b (Err x) h = tt

-- The old siblings are those of the same table.
pub stays_in_hand : (level : Level) (a b : Progress) {U : Type 0} (result : Result U ComposeStop)
    → a.pending.table.now.groups ≡ level.last.now.groups → OnOk result (StaysInHand a b)
    → OnOk result (FitsIn level.last.now.groups b.writer) → OnOk result (StaysIn level b)
stays_in_hand level a b (Ok u) e h f = record {
  written = f;
  pending = ap (λ (p : Pending). p.table.now.groups) h.pending ∙ e;
}
stays_in_hand level a b (Err x) e h f = tt

-- The reads of the call around it are still not counted.
pub counted_in_hand : (a b : Progress) {U : Type 0} (result : Result U ComposeStop) (w now x x1 : ℕ)
    → OnOk result (StaysInHand a b) → OnOk result (now + x ≡ w + x1)
    → OnOk result (now + length b.reads + x ≡ w + length a.reads + x1)
counted_in_hand a b (Ok u) w now x x1 h e = let r = ap (λ (l : List ℕ). length l) h.reads in omega (arith, e, r)
counted_in_hand a b (Err y) w now x x1 h e = tt

-- A part that was composed with what is in hand, which stayed.
pub beside_in_hand : (a b : Progress) {owed : List ℕ} {old : GroupForest} {d : ℕ} {seen : List GroupKey}
    {t : GroupForest} {s : ComposerState} {asked : List ℕ} {U : Type 0} (result : Result U ComposeStop)
    → OnOk result (StaysInHand a b)
    → ComposesBeside owed old d seen t s (state_of b.writer asked a.reads) a.pending result
    → ComposesBeside owed old d seen t s (state_of b.writer asked b.reads) b.pending result
beside_in_hand a b {owed} {old} {d} {seen} {t} {s} {asked} (Ok u) h c =
    subst (λ (l : List ℕ). ComposesBeside owed old d seen t s (state_of b.writer asked l) b.pending (Ok u)) (sym h.reads)
    (subst (λ (p : Pending). ComposesBeside owed old d seen t s (state_of b.writer asked a.reads) p (Ok u))
    (sym h.pending) c)
beside_in_hand a b (Err x) h c = record {
  reached = record { all = tt; part = c.reached.part; many = c.reached.many };
  fits = tt;
}
